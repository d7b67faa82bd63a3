-- What is known of the module that a view's bytes spell.
use Rattle.std.proofs.Common.{◌≡◌, ℕ, suc, ◌<◌, ◌≤◌, ◌^◌, List, [], ◌∷◌, length, map, refl, ap, arith}
use Rattle.std.proofs.lemmas.List.{length-append, length-map}
use Rattle.ctw_ops.specs.declared.types.Label.{Label}
use Rattle.ctw_ops.specs.Limits.{most_locals_of_all}
use Rattle.ctw_ops.specs.Tree.{Module, Import, Element, Extern, ImportedFunction, ImportedTable, ImportedMemory, ImportedGlobal, with_function, with_global, imported_functions, imported_globals, function_entries, global_types}
use Rattle.ctw_form.specs.Sections.{Entry, Parts, functions_of}
use Rattle.ctw_form.specs.Spelled.{Spells}
use Rattle.ctw_module.specs.Trees.{Lent, tree, parts, file_of_bytes, or_empty}
use Rattle.ctw_module.specs.declared.«module».Module.TheInside.{Inside}
use Rattle.ctw_module.specs.View.{IsView, lent_by}
use Rattle.ctw_form.proofs.FileForms.{spelled_file}
use Rattle.ctw_form.proofs.Weights.{Every, weight}
use Rattle.ctw_form.proofs.Brought.{HasFewParams, IsCoded, local_count, size_of, heft, file_brings}

-- what the sections of a whole file have brought
pub record Known (bytes : List ℕ) (p : Parts) : Type 0 where
  pub size : size_of p ≤ length bytes
  pub params : Every HasFewParams p.types
  pub coded : Every IsCoded p.entries
  pub locals : weight local_count p.entries ≤ most_locals_of_all
  pub paired : length p.entries ≡ length p.uses

pub file_is : (bytes : List ℕ) (m : Module Label) (s : Spells bytes m) → file_of_bytes bytes ≡ s.file
unfolding file_of_bytes
file_is bytes m s = ap or_empty (spelled_file bytes m s)

pub known : (lent : Lent) (m : Module Label) → Spells lent.bytes m → Known lent.bytes (parts lent)
unfolding parts
known lent m s =
    let b = file_brings lent.bytes s.file s.spelled in
    rw (file_is lent.bytes m s) (record { size = b.size; params = b.params; coded = b.coded; locals = b.locals; paired = omega (arith, b.paired, s.finished) })

-- ---- counts

pub few_functions : (imports : List (Import Label)) → length (imported_functions imports) ≤ length imports
few_functions [] = omega arith
few_functions (i ∷ imports) = one i.kind (few_functions imports)
  where
    one : (kind : Extern Label) → length (imported_functions imports) ≤ length imports → length (with_function kind (imported_functions imports)) ≤ suc (length imports)
    one (ImportedFunction type) h = omega arith
    one (ImportedTable limits) h = omega arith
    one (ImportedMemory type) h = omega arith
    one (ImportedGlobal type) h = omega arith

pub few_globals : (imports : List (Import Label)) → length (imported_globals imports) ≤ length imports
few_globals [] = omega arith
few_globals (i ∷ imports) = one i.kind (few_globals imports)
  where
    one : (kind : Extern Label) → length (imported_globals imports) ≤ length imports → length (with_global kind (imported_globals imports)) ≤ suc (length imports)
    one (ImportedFunction type) h = omega arith
    one (ImportedTable limits) h = omega arith
    one (ImportedMemory type) h = omega arith
    one (ImportedGlobal type) h = omega arith

pub functions_length : (uses : List ℕ) (entries : List Entry) → length entries ≡ length uses → length (functions_of uses entries) ≡ length uses
functions_length [] entries e = refl
functions_length (u ∷ uses) [] e = absurd (omega (arith, e))
functions_length (u ∷ uses) (x ∷ entries) e = ap suc (functions_length uses entries (omega (arith, e)))

pub heft_length : (elements : List (Element Label)) → length elements ≤ weight heft elements
heft_length [] = omega arith
heft_length (e ∷ elements) = omega (arith, heft_length elements)

-- how much is there
pub record Few (lent : Lent) : Type 0 where
  pub types : length (tree lent).types < 2 ^ 32
  pub imports : length (tree lent).imports < 2 ^ 32
  pub functions : length (function_entries (tree lent)) < 2 ^ 32
  pub globals : length (global_types (tree lent)) < 2 ^ 32
  pub exports : length (tree lent).exports < 2 ^ 32
  pub elements : weight heft (tree lent).elements < 2 ^ 32
  pub segments : length (tree lent).segments < 2 ^ 32
  pub customs : length (tree lent).customs < 2 ^ 32

pub few : (lent : Lent) → length lent.bytes < 2 ^ 32 → Spells lent.bytes (tree lent) → Few lent
unfolding tree parts
few lent short s =
    let k = known lent (tree lent) s in
    let p = parts lent in
    let fs = functions_of p.uses p.entries in
    record {
      types = omega (arith, k.size);
      imports = omega (arith, k.size);
      functions = omega (arith, k.size, few_functions p.imports, functions_length p.uses p.entries k.paired, length-map fs (λ f. f.type), length-append (imported_functions p.imports) (map (λ f. f.type) fs));
      globals = omega (arith, k.size, few_globals p.imports, length-append (imported_globals p.imports) (map (λ g. g.type) p.globals), length-map p.globals (λ g. g.type));
      exports = omega (arith, k.size);
      elements = omega (arith, k.size);
      segments = omega (arith, k.size);
      customs = omega (arith, k.size);
    }

pub view_few : (v : Inside) → IsView v (lent_by v) → Few (lent_by v)
view_few v h = few (lent_by v) h.short h.spelled
