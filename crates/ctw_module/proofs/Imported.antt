-- How many tables and memories are imported, by whether there is one and whether it is defined.
use Rattle.std.proofs.Common.{◌≡◌, ◌≤◌, ◌<◌, ◌^◌, ℕ, Bool, true, false, ◌&&◌, not, if◌then◌else◌, List, [], ◌∷◌, ◌++◌, length, map, Option, Some, None, is_some, refl, arith}
use Rattle.std.proofs.lemmas.List.{length-append}
use Rattle.ctw_ops.specs.declared.types.Label.{Label}
use Rattle.ctw_ops.specs.declared.types.Limits.{Limits}
use Rattle.ctw_ops.specs.Types.{MemoryType}
use Rattle.ctw_ops.specs.Typing.{optional}
use Rattle.ctw_ops.specs.Tree.{Import, Extern, imported_functions, imported_globals, ImportedFunction, ImportedTable, ImportedMemory, ImportedGlobal, or_table, or_memory, table_among, memory_among}
use Rattle.ctw_ops.specs.Once.{with_table, with_memory, imported_tables, imported_memories}
use Rattle.ctw_form.specs.Spelled.{Spells}
use Rattle.ctw_module.specs.Trees.{Lent, tree}
use Rattle.ctw_module.proofs.Known.{few}

-- how many functions and globals are imported is told by few bits
pub few_imported : (lent : Lent) → length lent.bytes < 2 ^ 32 → Spells lent.bytes (tree lent) → (length (imported_functions (tree lent).imports) < 2 ^ 32) × (length (imported_globals (tree lent).imports) < 2 ^ 32)
few_imported lent short s =
    let m = tree lent in
    let k = few lent short s in
    (omega (arith, k.functions, length-append (imported_functions m.imports) (map (λ f. f.type) m.functions)), omega (arith, k.globals, length-append (imported_globals m.imports) (map (λ g. g.type) m.globals)))

-- one where it is there and not defined, else none
abbrev pub only : Bool → Bool → ℕ
only there defined = if there && not defined then 1 else 0

tables_defined : (imports : List (Import Label)) (limits : Limits) → length (imported_tables imports ++ optional (Some limits)) ≤ 1 → length (imported_tables imports) ≡ 0
tables_defined imports limits one = omega (arith, one, length-append (imported_tables imports) (limits ∷ []))

tables_none : (imports : List (Import Label)) → length (imported_tables imports) ≤ 1 → length (imported_tables imports) ≡ only (is_some (table_among imports None)) false
tables_none [] one = refl
tables_none (i ∷ imports) one = go i.kind (tables_none imports) one
  where
    go : (kind : Extern Label) → (length (imported_tables imports) ≤ 1 → length (imported_tables imports) ≡ only (is_some (table_among imports None)) false)
        → length (with_table kind (imported_tables imports)) ≤ 1 → length (with_table kind (imported_tables imports)) ≡ only (is_some (or_table kind (table_among imports None))) false
    go (ImportedFunction type) others one = others one
    go (ImportedTable limits) others one = omega (arith, one)
    go (ImportedMemory type) others one = others one
    go (ImportedGlobal type) others one = others one

-- with at most one table, that is how many are imported
pub tables_imported : (imports : List (Import Label)) (defined : Option Limits) → length (imported_tables imports ++ optional defined) ≤ 1
    → only (is_some (table_among imports defined)) (is_some defined) ≡ length (imported_tables imports)
tables_imported imports None one = let e = tables_none imports (omega (arith, one, length-append (imported_tables imports) [])) in rw e refl
tables_imported imports (Some limits) one = go (is_some (table_among imports (Some limits)))
  where
    go : (there : Bool) → only there true ≡ length (imported_tables imports)
    go true = omega (arith, tables_defined imports limits one)
    go false = omega (arith, tables_defined imports limits one)

memories_defined : (imports : List (Import Label)) (type : MemoryType Label) → length (imported_memories imports ++ optional (Some type)) ≤ 1 → length (imported_memories imports) ≡ 0
memories_defined imports type one = omega (arith, one, length-append (imported_memories imports) (type ∷ []))

memories_none : (imports : List (Import Label)) → length (imported_memories imports) ≤ 1 → length (imported_memories imports) ≡ only (is_some (memory_among imports None)) false
memories_none [] one = refl
memories_none (i ∷ imports) one = go i.kind (memories_none imports) one
  where
    go : (kind : Extern Label) → (length (imported_memories imports) ≤ 1 → length (imported_memories imports) ≡ only (is_some (memory_among imports None)) false)
        → length (with_memory kind (imported_memories imports)) ≤ 1 → length (with_memory kind (imported_memories imports)) ≡ only (is_some (or_memory kind (memory_among imports None))) false
    go (ImportedFunction type) others one = others one
    go (ImportedTable limits) others one = others one
    go (ImportedMemory type) others one = omega (arith, one)
    go (ImportedGlobal type) others one = others one

-- the same of memories
pub memories_imported : (imports : List (Import Label)) (defined : Option (MemoryType Label)) → length (imported_memories imports ++ optional defined) ≤ 1
    → only (is_some (memory_among imports defined)) (is_some defined) ≡ length (imported_memories imports)
memories_imported imports None one = let e = memories_none imports (omega (arith, one, length-append (imported_memories imports) [])) in rw e refl
memories_imported imports (Some type) one = go (is_some (memory_among imports (Some type)))
  where
    go : (there : Bool) → only there true ≡ length (imported_memories imports)
    go true = omega (arith, memories_defined imports type one)
    go false = omega (arith, memories_defined imports type one)
