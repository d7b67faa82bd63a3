-- A printed module keeps the limits, and what is read back is the module.
use Rattle.std.proofs.Common.{◌≡◌, ◌<◌, ◌≤◌, ℕ, suc, ◌+◌, Bool, true, false, List, [], ◌∷◌, ◌++◌, Option, Some, None, length, refl, ap, ◌∙◌, arith, length-append}
use Rattle.std.specs.Prelude.{◌&&◌, nat_lt, nat_le, map, flat_map, Ok}
use Rattle.std.specs.List.{All, sum_by}
use Rattle.std.proofs.lemmas.List.Elements.{All-head, All-tail}
use Rattle.std.proofs.lemmas.List.Sums.{sum_by-cons}
use Rattle.std.proofs.lemmas.Bool.{le-ltb, leb-true}
use Rattle.ctw_ops.specs.declared.numeric.Profile.TheVariants.{Divide}
use Rattle.ctw_ops.specs.declared.fault.What.TheVariants.{Nesting}
use Rattle.ctw_ops.specs.declared.types.Label.{Label}
use Rattle.ctw_ops.specs.Types.{ValueType}
use Rattle.ctw_ops.specs.Equal.{same_type}
use Rattle.ctw_ops.specs.Typing.{optional}
use Rattle.ctw_ops.specs.Limits.{most_params, most_locals, most_locals_of_all, most_nesting}
use Rattle.ctw_ops.specs.Once.{imported_tables, imported_memories}
use Rattle.ctw_ops.specs.Code as ops
use Rattle.ctw_ops.specs.Code.{Code, Op, Closes, ByEnd, ByElse, onto, opcodes}
use Rattle.ctw_ops.specs.Segments.{nested}
use Rattle.ctw_ops.specs.Tree as tree
use Rattle.ctw_ops.specs.Tree.{Module, TypeEntry, Extern, Import, Function, under}
use Rattle.ctw_ops.specs.Valid.{IsFormed}
use Rattle.ctw_ops.proofs.Segments.{nested_opcodes}
use Rattle.ctw_text.specs.Names.{WideEntry, WideFunction}
use Rattle.ctw_text.specs.Limits.{over, entry_excess, is_table, is_memory, import_excess, count_if, nesting_excess, runs, locals_excess, function_excess, excess_of, first, narrow_type, body_of, narrow, bounded, limited}
use Rattle.ctw_text.specs.Limited.{height, IsLimitedFunction, IsLimitedEntry, IsLimited}
use Rattle.ctw_text.proofs.GatheredFields.{wide_entry, wide_function}
use Rattle.ctw_text.proofs.NamedBack.{wide}

and_false : (b : Bool) → (b && false) ≡ false
and_false true = refl
and_false false = refl

-- Types

result_within : (r : Option (ValueType Label)) → nat_lt 1 (length (optional r)) ≡ false
result_within None = refl
result_within (Some t) = refl

entry_within : (e : TypeEntry Label) → IsLimitedEntry e → entry_excess (wide_entry e) ≡ []
entry_within e h = rw (le-ltb most_params (length e.type.params) h.1, result_within e.type.result) refl

entries_within : (es : List (TypeEntry Label)) → All IsLimitedEntry es → flat_map entry_excess (map wide_entry es) ≡ []
entries_within [] h i = []
entries_within (e ∷ es) h i = entry_within e (All-head IsLimitedEntry e es h) i ++ entries_within es (All-tail IsLimitedEntry e es h) i

-- Tables and memories

abbrev one_if : Bool → ℕ
one_if true = 1
one_if false = 0

imports_within : (table memory : Bool) (is : List (Import Label)) → one_if table + length (imported_tables is) ≤ 1 → one_if memory + length (imported_memories is) ≤ 1 → import_excess table memory is ≡ []
imports_within table memory [] t u = refl
imports_within table memory (i ∷ is) t u = go i.module_name i.name i.kind table memory t u (λ a b. imports_within a b is)
  where
    go : (from name : List ℕ) (kind : Extern Label) (table memory : Bool) → one_if table + length (imported_tables (record { module_name = from; name = name; kind = kind } ∷ is)) ≤ 1 →
        one_if memory + length (imported_memories (record { module_name = from; name = name; kind = kind } ∷ is)) ≤ 1 →
        ((a b : Bool) → one_if a + length (imported_tables is) ≤ 1 → one_if b + length (imported_memories is) ≤ 1 → import_excess a b is ≡ []) → import_excess table memory (record { module_name = from; name = name; kind = kind } ∷ is) ≡ []
    go from name (tree.ImportedFunction n) table memory t u ih = rw (and_false table, and_false memory) (ih table memory t u)
    go from name (tree.ImportedGlobal g) table memory t u ih = rw (and_false table, and_false memory) (ih table memory t u)
    go from name (tree.ImportedTable l) true memory t u ih = absurd (omega arith)
    go from name (tree.ImportedTable l) false memory t u ih = rw (and_false memory) (ih true memory (omega arith) u)
    go from name (tree.ImportedMemory m) table true t u ih = absurd (omega arith)
    go from name (tree.ImportedMemory m) table false t u ih = rw (and_false table) (ih table true t (omega arith))

tables_counted : (is : List (Import Label)) → count_if is_table is ≡ length (imported_tables is)
tables_counted [] = refl
tables_counted (i ∷ is) = go i.module_name i.name i.kind (tables_counted is)
  where
    go : (from name : List ℕ) (kind : Extern Label) → count_if is_table is ≡ length (imported_tables is) → count_if is_table (record { module_name = from; name = name; kind = kind } ∷ is) ≡ length (imported_tables (record { module_name = from; name = name; kind = kind } ∷ is))
    go from name (tree.ImportedFunction n) ih = ih
    go from name (tree.ImportedTable l) ih = ap suc ih
    go from name (tree.ImportedMemory m) ih = ih
    go from name (tree.ImportedGlobal g) ih = ih

memories_counted : (is : List (Import Label)) → count_if is_memory is ≡ length (imported_memories is)
memories_counted [] = refl
memories_counted (i ∷ is) = go i.module_name i.name i.kind (memories_counted is)
  where
    go : (from name : List ℕ) (kind : Extern Label) → count_if is_memory is ≡ length (imported_memories is) → count_if is_memory (record { module_name = from; name = name; kind = kind } ∷ is) ≡ length (imported_memories (record { module_name = from; name = name; kind = kind } ∷ is))
    go from name (tree.ImportedFunction n) ih = ih
    go from name (tree.ImportedTable l) ih = ih
    go from name (tree.ImportedMemory m) ih = ap suc ih
    go from name (tree.ImportedGlobal g) ih = ih

-- Locals, in runs

total : List ℕ → ℕ
total [] = 0
total (n ∷ ns) = n + total ns

-- a run that begins, or goes on
data Grown (ns : List ℕ) : List ℕ → Type 0 where
  begun : Grown ns (1 ∷ ns)
  longer : {n : ℕ} {ms : List ℕ} → ns ≡ n ∷ ms → Grown ns (suc n ∷ ms)

grown : (t : ValueType Label) (ts : List (ValueType Label)) → Grown (runs ts) (runs (t ∷ ts))
grown t [] = begun
grown t (u ∷ us) = go (same_type t u) refl (runs (u ∷ us)) refl
  where
    go : (b : Bool) → same_type t u ≡ b → (ns : List ℕ) → runs (u ∷ us) ≡ ns → Grown (runs (u ∷ us)) (runs (t ∷ u ∷ us))
    go false e ns q = rw e begun
    go true e [] q = rw (e, q) begun
    go true e (n ∷ ns) q = rw (e, q) (longer refl)

run_total : (ns ms : List ℕ) → Grown ns ms → total ms ≡ suc (total ns)
unfolding total
run_total ns _ begun = omega arith
run_total ns _ (longer {n} {ms} e) = let q : total ns ≡ n + total ms = ap total e in omega arith

runs_total : (ts : List (ValueType Label)) → total (runs ts) ≡ length ts
unfolding total
runs_total [] = refl
runs_total (t ∷ ts) = run_total (runs ts) (runs (t ∷ ts)) (grown t ts) ∙ ap suc (runs_total ts)

locals_within : (mine before : ℕ) (ns : List ℕ) → mine + total ns ≤ most_locals → before + mine + total ns ≤ most_locals_of_all → locals_excess mine before ns ≡ []
unfolding total
locals_within mine before [] a b = refl
locals_within mine before (n ∷ ns) a b =
    rw (le-ltb most_locals (mine + n) (omega arith), le-ltb most_locals_of_all (before + mine + n) (omega arith)) (locals_within (mine + n) before ns (omega arith) (omega arith))

-- Blocks

deep : (depth : ℕ) → depth < most_nesting → over (nat_le most_nesting depth) Nesting most_nesting ≡ []
deep depth h = go (nat_le most_nesting depth) refl
  where
    go : (b : Bool) → nat_le most_nesting depth ≡ b → over b Nesting most_nesting ≡ []
    go true e = absurd (let l : most_nesting ≤ depth = leb-true most_nesting depth e in omega arith)
    go false e = refl

nesting_within : (c : Code Label) (depth : ℕ) (os : List (Op Label)) → depth + height c ≤ most_nesting → nesting_excess depth (onto c os) ≡ nesting_excess depth os
nesting_within ops.Stop depth os h = refl
nesting_within (ops.Then leaf more) depth os h = nesting_within more depth os h
nesting_within (ops.Block t body more) depth os h =
    ap (λ xs. xs ++ nesting_excess (suc depth) (onto body (Closes ByEnd ∷ onto more os))) (deep depth (omega arith)) ∙ nesting_within body (suc depth) (Closes ByEnd ∷ onto more os) (omega arith)
    ∙ nesting_within more depth os (omega arith)
nesting_within (ops.Loop t body more) depth os h =
    ap (λ xs. xs ++ nesting_excess (suc depth) (onto body (Closes ByEnd ∷ onto more os))) (deep depth (omega arith)) ∙ nesting_within body (suc depth) (Closes ByEnd ∷ onto more os) (omega arith)
    ∙ nesting_within more depth os (omega arith)
nesting_within (ops.If t arm more) depth os h =
    ap (λ xs. xs ++ nesting_excess (suc depth) (onto arm (Closes ByEnd ∷ onto more os))) (deep depth (omega arith)) ∙ nesting_within arm (suc depth) (Closes ByEnd ∷ onto more os) (omega arith)
    ∙ nesting_within more depth os (omega arith)
nesting_within (ops.IfElse t arm other more) depth os h =
    ap (λ xs. xs ++ nesting_excess (suc depth) (onto arm (Closes ByElse ∷ onto other (Closes ByEnd ∷ onto more os)))) (deep depth (omega arith))
    ∙ nesting_within arm (suc depth) (Closes ByElse ∷ onto other (Closes ByEnd ∷ onto more os)) (omega arith) ∙ nesting_within other (suc depth) (Closes ByEnd ∷ onto more os) (omega arith)
    ∙ nesting_within more depth os (omega arith)

functions_within : (before : ℕ) (fs : List (Function Label)) → All IsLimitedFunction fs → before + sum_by (λ (f : Function Label). length f.locals) fs ≤ most_locals_of_all → function_excess before (map wide_function fs) ≡ []
functions_within before [] h l = refl
functions_within before (f ∷ fs) h l =
    let one = All-head IsLimitedFunction f fs h in
    let sum = sum_by-cons (λ (f : Function Label). length f.locals) f fs in
    let t = runs_total f.locals in
    let here : locals_excess 0 before (runs f.locals) ≡ [] = locals_within 0 before (runs f.locals) (let a : length f.locals ≤ most_locals = one.locals in omega arith) (omega arith) in
    let blocks : nesting_excess 0 (opcodes f.body) ≡ [] = nesting_within f.body 0 (Closes ByEnd ∷ []) (let n : height f.body ≤ most_nesting = one.nesting in omega arith) in
    λ i. here i ++ blocks i ++ functions_within (before + length f.locals) fs (All-tail IsLimitedFunction f fs h) (omega arith) i

-- The module again

first_optional : {X : Type 0} (o : Option X) → first (optional o) ≡ o
first_optional None = refl
first_optional (Some x) = refl

abbrev narrow_entry : WideEntry → TypeEntry Label
narrow_entry e = record { base = e.base; type = narrow_type e.type }

entries_again : (es : List (TypeEntry Label)) → map narrow_entry (map wide_entry es) ≡ es
entries_again [] i = []
entries_again (e ∷ es) i = record { base = e.base; type = record { trust = e.type.trust; params = e.type.params; result = first_optional e.type.result i } } ∷ entries_again es i

abbrev narrow_function : WideFunction → Function Label
narrow_function f = record { type = f.type; locals = f.locals; body = body_of (nested f.code) }

functions_again : (fs : List (Function Label)) → map narrow_function (map wide_function fs) ≡ fs
functions_again [] i = []
functions_again (f ∷ fs) i = record { type = f.type; locals = f.locals; body = ap body_of (nested_opcodes f.body) i } ∷ functions_again fs i

narrowed : (m : Module Label) → narrow (wide m) ≡ under Divide m
narrowed m i = record {
  ct = m.ct;
  profile = Divide;
  types = entries_again m.types i;
  imports = m.imports;
  functions = functions_again m.functions i;
  table = first_optional m.table i;
  memory = first_optional m.memory i;
  globals = m.globals;
  exports = m.exports;
  start = first_optional m.start i;
  elements = m.elements;
  segments = m.segments;
  customs = m.customs;
}

at_most_one : (n k : ℕ) → n ≡ k → k ≤ 1 → nat_lt 1 n ≡ false
at_most_one n k e h = le-ltb 1 n (omega arith)

module _ (m : Module Label) (f : IsFormed m) (x : IsLimited m) where
  tables : length (imported_tables m.imports) + length (optional m.table) ≤ 1
  tables = let e = length-append (imported_tables m.imports) (optional m.table) in let h : length (imported_tables m.imports ++ optional m.table) ≤ 1 = f.tables in omega arith

  memories : length (imported_memories m.imports) + length (optional m.memory) ≤ 1
  memories = let e = length-append (imported_memories m.imports) (optional m.memory) in let h : length (imported_memories m.imports ++ optional m.memory) ≤ 1 = f.memories in omega arith

  none_over : excess_of (wide m) ≡ []
  none_over =
      let t : nat_lt 1 (count_if is_table m.imports + length (optional m.table)) ≡ false = at_most_one _ _ (ap (λ n. n + length (optional m.table)) (tables_counted m.imports)) tables in
      let u : nat_lt 1 (count_if is_memory m.imports + length (optional m.memory)) ≡ false = at_most_one _ _ (ap (λ n. n + length (optional m.memory)) (memories_counted m.imports)) memories in
      let i : import_excess false false m.imports ≡ [] = imports_within false false m.imports (omega (arith, tables)) (omega (arith, memories)) in
      rw (t, u, i, entries_within m.types x.types) (functions_within 0 m.functions x.functions (let l = x.locals in omega arith))

  pub limited_back : limited (wide m) ≡ Ok (under Divide m)
  limited_back = ap (λ es. bounded es (wide m)) none_over ∙ ap (λ (m : Module Label). Ok m) (narrowed m)
