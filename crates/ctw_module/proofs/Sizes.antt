-- A view's module has no more functions, globals and opcodes than its file has bytes, and its locals are within the limit.
use Rattle.std.proofs.Common.{◌≤◌, ◌<◌, ℕ, List, [], ◌∷◌, length, map, ap, arith}
use Rattle.std.proofs.lemmas.List.{length-append, length-map}
use Rattle.ctw_ops.specs.declared.types.Label.{Label}
use Rattle.ctw_ops.specs.Code.{Op, opcodes}
use Rattle.ctw_ops.specs.Limits.{most_locals_of_all}
use Rattle.ctw_ops.specs.Tree.{Module, Function, imported_functions, imported_globals, function_entries, global_types}
use Rattle.ctw_flat.specs.Spelled.{IsOp, IsOps}
use Rattle.ctw_flat.proofs.Ops.{op_filled}
use Rattle.ctw_form.specs.Sections.{Entry, functions_of}
use Rattle.ctw_form.specs.Spelled.{Spells}
use Rattle.ctw_form.proofs.Weights.{Every, weight}
use Rattle.ctw_form.proofs.Brought.{IsCoded, code_length, local_count}
use Rattle.ctw_module.specs.Trees.{Lent, tree, parts}
use Rattle.ctw_module.proofs.Known.{known, few_functions, few_globals, functions_length}

-- ---- no more opcodes than bytes

ops_within : (text : List ℕ) (ops : List (Op Label)) → IsOps text ops → length ops ≤ length text
ops_within text [] m = omega arith
ops_within text (op ∷ ops) m =
    let some : 0 < length m.0 = filled m.0 m.2 in
    let r = ops_within m.1 ops m.3 in
    omega (arith, some, r, ap length m.4, length-append m.0 m.1)
  where
    filled : (x : List ℕ) → IsOp x op → 0 < length x
    filled [] h = absurd (op_filled op h)
    filled (t ∷ ts) h = omega arith

-- how many opcodes a function has, its closing end among them, and how many declared locals
abbrev pub opcodes_in : Function Label → ℕ
opcodes_in f = length (opcodes f.body)

abbrev pub locals_in : Function Label → ℕ
locals_in f = length f.locals

opcodes_within : (uses : List ℕ) (entries : List Entry) → Every IsCoded entries → weight opcodes_in (functions_of uses entries) ≤ weight code_length entries
opcodes_within [] entries h = omega arith
opcodes_within (u ∷ uses) [] h = omega arith
opcodes_within (u ∷ uses) (e ∷ entries) h =
    let own : length (opcodes e.body) ≤ length e.code = ops_within e.code (opcodes e.body) h.0.spelled.0 in
    omega (arith, own, opcodes_within uses entries h.1)

locals_within : (uses : List ℕ) (entries : List Entry) → weight locals_in (functions_of uses entries) ≤ weight local_count entries
locals_within [] entries = omega arith
locals_within (u ∷ uses) [] = omega arith
locals_within (u ∷ uses) (e ∷ entries) = omega (arith, locals_within uses entries)

-- ---- of a view

-- how much a module of a file of so many bytes has at most
pub record IsSized (m : Module Label) (n : ℕ) : Type 0 where
  pub functions : length (function_entries m) ≤ n
  pub globals : length (global_types m) ≤ n
  pub opcodes : weight opcodes_in m.functions ≤ n
  pub locals : weight locals_in m.functions ≤ most_locals_of_all

pub sizes : (lent : Lent) → Spells lent.bytes (tree lent) → IsSized (tree lent) (length lent.bytes)
unfolding tree parts
sizes lent s =
    let k = known lent (tree lent) s in
    let p = parts lent in
    let fs = functions_of p.uses p.entries in
    record {
      functions = omega (arith, k.size, few_functions p.imports, functions_length p.uses p.entries k.paired, length-map fs (λ f. f.type), length-append (imported_functions p.imports) (map (λ f. f.type) fs));
      globals = omega (arith, k.size, few_globals p.imports, length-append (imported_globals p.imports) (map (λ g. g.type) p.globals), length-map p.globals (λ g. g.type));
      opcodes = omega (arith, k.size, opcodes_within p.uses p.entries k.coded);
      locals = omega (arith, k.locals, locals_within p.uses p.entries);
    }
