-- A module without excess is within the limits on types, locals, nesting, tables and memories.
use Rattle.std.proofs.Common.{◌≡◌, ℕ, suc, ◌+◌, ◌≤◌, Bool, true, false, List, [], ◌∷◌, ◌++◌, length, refl, ap, length-append, arith}
use Rattle.std.specs.Prelude.{nat_lt, flat_map, IfSome}
use Rattle.std.specs.List.{All, sum_by}
use Rattle.std.proofs.lemmas.Bool.{ltb-false}
use Rattle.std.proofs.lemmas.List.Elements.{All-nil, All-cons, All-head}
use Rattle.std.proofs.lemmas.List.Sums.{sum_by-cons}
use Rattle.ctw_ops.specs.declared.types.Label.{Label}
use Rattle.ctw_ops.specs.declared.types.Limits.{Limits}
use Rattle.ctw_ops.specs.declared.fault.What.{What}
use Rattle.ctw_ops.specs.declared.fault.What.TheVariants.{Params, Results, Locals, Tables, Memories}
use Rattle.ctw_ops.specs.ValueType.{ValueType}
use Rattle.ctw_ops.specs.Types.{MemoryType}
use Rattle.ctw_ops.specs.Equal.{same_type}
use Rattle.ctw_ops.specs.Limits.{most_params, most_locals, most_locals_of_all}
use Rattle.ctw_ops.specs.Once.{imported_tables, imported_memories}
use Rattle.ctw_ops.specs.Tree.{Import, Extern, ImportedFunction, ImportedTable, ImportedMemory, ImportedGlobal}
use Rattle.ctw_ops.specs.Typing.{optional}
use Rattle.ctw_text.specs.Names.{WideEntry, WideFunction}
use Rattle.ctw_text.specs.Limits.{over, entry_excess, is_table, is_memory, count_if, runs, locals_excess, nesting_excess, function_excess, first}
use Rattle.ctw_parse.proofs.NarrowTexts.{nil_left, nil_right}

-- what isn't over a limit
pub not_over : (limit n : ℕ) (what : What) → over (nat_lt limit n) what limit ≡ [] → n ≤ limit
not_over limit n what e = go (nat_lt limit n) refl e
  where
    go : (b : Bool) → nat_lt limit n ≡ b → over b what limit ≡ [] → n ≤ limit
    go true t e = absurd cc
    go false t e = ltb-false limit n t

-- ---- types

few_params : (e : WideEntry) → entry_excess e ≡ [] → length e.type.params ≤ most_params
few_params e h = not_over most_params (length e.type.params) Params (nil_left (over (nat_lt most_params (length e.type.params)) Params most_params) (over (nat_lt 1 (length e.type.results)) Results 1) h)

pub types_bounded : (es : List WideEntry) → flat_map entry_excess es ≡ [] → All (λ e. length e.type.params ≤ most_params) es
types_bounded [] h = All-nil (λ (e : WideEntry). length e.type.params ≤ most_params)
types_bounded (e ∷ es) h = All-cons (λ (e : WideEntry). length e.type.params ≤ most_params) e es (few_params e (nil_left (entry_excess e) (flat_map entry_excess es) h)) (types_bounded es (nil_right (entry_excess e) (flat_map entry_excess es) h))

-- ---- locals

abbrev sum_of : List ℕ → ℕ
sum_of [] = 0
sum_of (n ∷ ns) = n + sum_of ns

runs_sum : (ts : List (ValueType Label)) → sum_of (runs ts) ≡ length ts
runs_sum [] = refl
runs_sum (t ∷ []) = refl
runs_sum (t ∷ u ∷ us) = go (same_type t u) refl (runs (u ∷ us)) refl (runs_sum (u ∷ us))
  where
    go : (b : Bool) → same_type t u ≡ b → (ns : List ℕ) → runs (u ∷ us) ≡ ns → sum_of ns ≡ length (u ∷ us) → sum_of (runs (t ∷ u ∷ us)) ≡ suc (length (u ∷ us))
    go true e [] r h = absurd (omega (arith, h))
    go true e (n ∷ ns) r h = rw (e, r) (omega (arith, h))
    go false e ns r h = rw (e, r) (omega (arith, h))

-- how many a function has, and all functions up to it
abbrev AreFew : (mine before : ℕ) → Type 0
AreFew mine before = (mine ≤ most_locals) × (before + mine ≤ most_locals_of_all)

locals_few : (mine before : ℕ) (ns : List ℕ) → AreFew mine before → locals_excess mine before ns ≡ [] → AreFew (mine + sum_of ns) before
locals_few mine before [] h e = (omega (arith, h.0), omega (arith, h.1))
locals_few mine before (n ∷ ns) h e =
    let own = over (nat_lt most_locals (mine + n)) Locals most_locals in
    let all = over (nat_lt most_locals_of_all (before + mine + n)) Locals most_locals_of_all in
    let rest = locals_excess (mine + n) before ns in
    let both = nil_left (own ++ all) rest e in
    let few = not_over most_locals (mine + n) Locals (nil_left own all both) in
    let few_all = not_over most_locals_of_all (before + mine + n) Locals (nil_right own all both) in
    let r = locals_few (mine + n) before ns (few, omega (arith, few_all)) (nil_right (own ++ all) rest e) in
    (omega (arith, r.0), omega (arith, r.1))

-- ---- functions

own_few : (before : ℕ) (f : WideFunction) → before ≤ most_locals_of_all → locals_excess 0 before (runs f.locals) ≡ [] → AreFew (length f.locals) before
own_few before f le e =
    let r = locals_few 0 before (runs f.locals) (omega arith, omega (arith, le)) e in
    (omega (arith, r.0, runs_sum f.locals), omega (arith, r.1, runs_sum f.locals))

abbrev HasFewLocals : WideFunction → Type 0
HasFewLocals f = length f.locals ≤ most_locals

abbrev pub count : WideFunction → ℕ
count f = length f.locals

pub functions_bounded : (before : ℕ) (fs : List WideFunction) → before ≤ most_locals_of_all → function_excess before fs ≡ [] → All HasFewLocals fs × (before + sum_by count fs ≤ most_locals_of_all)
functions_bounded before [] le e = (All-nil HasFewLocals, omega (arith, le))
functions_bounded before (f ∷ fs) le e =
    let own = locals_excess 0 before (runs f.locals) in
    let deep = nesting_excess 0 f.code in
    let more = function_excess (before + length f.locals) fs in
    let few = own_few before f le (nil_left own deep (nil_left (own ++ deep) more e)) in
    let r = functions_bounded (before + length f.locals) fs few.1 (nil_right (own ++ deep) more e) in
    (All-cons HasFewLocals f fs few.0 r.0, omega (arith, sum_by-cons count f fs, r.1))

-- ---- tables and memories

tables_counted : (is : List (Import Label)) → length (imported_tables is) ≡ count_if is_table is
tables_counted [] = refl
tables_counted (i ∷ is) = go i.kind (tables_counted is)
  where
    go : (k : Extern Label) → length (imported_tables is) ≡ count_if is_table is → length (imported_tables (record { module_name = i.module_name; name = i.name; kind = k } ∷ is)) ≡ count_if is_table (record { module_name = i.module_name; name = i.name; kind = k } ∷ is)
    go (ImportedFunction type) e = e
    go (ImportedTable limits) e = ap suc e
    go (ImportedMemory type) e = e
    go (ImportedGlobal type) e = e

memories_counted : (is : List (Import Label)) → length (imported_memories is) ≡ count_if is_memory is
memories_counted [] = refl
memories_counted (i ∷ is) = go i.kind (memories_counted is)
  where
    go : (k : Extern Label) → length (imported_memories is) ≡ count_if is_memory is → length (imported_memories (record { module_name = i.module_name; name = i.name; kind = k } ∷ is)) ≡ count_if is_memory (record { module_name = i.module_name; name = i.name; kind = k } ∷ is)
    go (ImportedFunction type) e = e
    go (ImportedTable limits) e = e
    go (ImportedMemory type) e = ap suc e
    go (ImportedGlobal type) e = e

first_few : {A : Type 0} (l : List A) → length (optional (first l)) ≤ length l
first_few [] = omega arith
first_few (a ∷ l) = omega arith

pub one_table : (is : List (Import Label)) (ts : List Limits) → over (nat_lt 1 (count_if is_table is + length ts)) Tables 1 ≡ [] → length (imported_tables is ++ optional (first ts)) ≤ 1
one_table is ts e = omega (arith, not_over 1 (count_if is_table is + length ts) Tables e, length-append (imported_tables is) (optional (first ts)), tables_counted is, first_few ts)

pub one_memory : (is : List (Import Label)) (ts : List (MemoryType Label)) → over (nat_lt 1 (count_if is_memory is + length ts)) Memories 1 ≡ [] → length (imported_memories is ++ optional (first ts)) ≤ 1
one_memory is ts e = omega (arith, not_over 1 (count_if is_memory is + length ts) Memories e, length-append (imported_memories is) (optional (first ts)), memories_counted is, first_few ts)

-- the first of a list
pub first_of_all : {A : Type 0} (P : A → Type 0) (l : List A) → All P l → IfSome (first l) P
first_of_all P [] h = tt
first_of_all P (a ∷ l) h = All-head P a l h
