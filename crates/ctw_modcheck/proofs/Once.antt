-- Tables and memories: an imported one has its limits in order, and with it none is defined.
use Rattle.std.proofs.Common.{◌≡◌, ◌≤◌, List, [], ◌∷◌, ◌++◌, length, Option, Some, None, All, refl, sym, ap, ◌∙◌, arith}
use Rattle.std.proofs.lemmas.List.{length-append}
use Rattle.ctw_ops.specs.declared.types.Label.{Label}
use Rattle.ctw_ops.specs.declared.fault.Space.TheVariants as space
use Rattle.ctw_ops.specs.Tree.{Module, Extern, ImportedFunction, ImportedTable, ImportedMemory, ImportedGlobal, Import, or_memory, or_table, memory_among, table_among}
use Rattle.ctw_ops.specs.Typing.{optional}
use Rattle.ctw_ops.specs.Valid.{IsImported}
use Rattle.ctw_ops.specs.Once.{with_table, with_memory, imported_tables, imported_memories}
use Rattle.ctw_form.specs.Spelled.{Spells}
use Rattle.ctw_module.specs.Trees.{Lent, tree}
use Rattle.ctw_form.proofs.OneOfEach.{at_most_one}
use Rattle.ctw_modcheck.specs.Faults.{first_in, of_some, import_fault, table_fault, memory_fault}
use Rattle.ctw_modcheck.proofs.Nones.{all_first, all_rest}
use Rattle.ctw_modcheck.proofs.Validity.{imports_none, table_none, memory_none}

none_defined : {A : Type 0} (o : Option A) → length (optional o) ≤ 0 → o ≡ None
none_defined None le = refl
none_defined (Some a) le = absurd (omega (arith, le))

tables_apart : (m : Module Label) (l : List (Import Label)) → length (imported_tables l ++ optional m.table) ≤ 1 → All (λ i. IsImported m i.kind) l
    → of_some (table_fault space.Tables) (table_among l m.table) ≡ of_some (table_fault space.Tables) m.table
tables_apart m [] few ok = refl
tables_apart m (i ∷ l) few ok = go i.kind few (all_first (λ (x : Import Label). IsImported m x.kind) i l ok) (tables_apart m l)
  where
    go : (e : Extern Label) → length (with_table e (imported_tables l) ++ optional m.table) ≤ 1 → IsImported m e
        → (length (imported_tables l ++ optional m.table) ≤ 1 → All (λ x. IsImported m x.kind) l → of_some (table_fault space.Tables) (table_among l m.table) ≡ of_some (table_fault space.Tables) m.table)
        → of_some (table_fault space.Tables) (or_table e (table_among l m.table)) ≡ of_some (table_fault space.Tables) m.table
    go (ImportedFunction type) f k again = again f (all_rest (λ (x : Import Label). IsImported m x.kind) i l ok)
    go (ImportedTable limits) f k again =
        let none = none_defined m.table (omega (arith, f, length-append (imported_tables l) (optional m.table))) in
        (table_none space.Tables limits).1 k ∙ sym (ap (of_some (table_fault space.Tables)) none)
    go (ImportedMemory type) f k again = again f (all_rest (λ (x : Import Label). IsImported m x.kind) i l ok)
    go (ImportedGlobal type) f k again = again f (all_rest (λ (x : Import Label). IsImported m x.kind) i l ok)

memories_apart : (m : Module Label) (l : List (Import Label)) → length (imported_memories l ++ optional m.memory) ≤ 1 → All (λ i. IsImported m i.kind) l
    → of_some (memory_fault space.Memories) (memory_among l m.memory) ≡ of_some (memory_fault space.Memories) m.memory
memories_apart m [] few ok = refl
memories_apart m (i ∷ l) few ok = go i.kind few (all_first (λ (x : Import Label). IsImported m x.kind) i l ok) (memories_apart m l)
  where
    go : (e : Extern Label) → length (with_memory e (imported_memories l) ++ optional m.memory) ≤ 1 → IsImported m e
        → (length (imported_memories l ++ optional m.memory) ≤ 1 → All (λ x. IsImported m x.kind) l → of_some (memory_fault space.Memories) (memory_among l m.memory) ≡ of_some (memory_fault space.Memories) m.memory)
        → of_some (memory_fault space.Memories) (or_memory e (memory_among l m.memory)) ≡ of_some (memory_fault space.Memories) m.memory
    go (ImportedFunction type) f k again = again f (all_rest (λ (x : Import Label). IsImported m x.kind) i l ok)
    go (ImportedTable limits) f k again = again f (all_rest (λ (x : Import Label). IsImported m x.kind) i l ok)
    go (ImportedMemory type) f k again =
        let none = none_defined m.memory (omega (arith, f, length-append (imported_memories l) (optional m.memory))) in
        (memory_none space.Memories type).1 k ∙ sym (ap (of_some (memory_fault space.Memories)) none)
    go (ImportedGlobal type) f k again = again f (all_rest (λ (x : Import Label). IsImported m x.kind) i l ok)

-- of the table that there is, imported or not, the fault is the defined one's
pub table_apart : (lent : Lent) → Spells lent.bytes (tree lent) → first_in (import_fault (tree lent)) 0 (tree lent).imports ≡ None
    → of_some (table_fault space.Tables) (table_among (tree lent).imports (tree lent).table) ≡ of_some (table_fault space.Tables) (tree lent).table
table_apart lent s e = tables_apart (tree lent) (tree lent).imports (at_most_one lent.bytes (tree lent) s).0 ((imports_none (tree lent)).0 e)

pub memory_apart : (lent : Lent) → Spells lent.bytes (tree lent) → first_in (import_fault (tree lent)) 0 (tree lent).imports ≡ None
    → of_some (memory_fault space.Memories) (memory_among (tree lent).imports (tree lent).memory) ≡ of_some (memory_fault space.Memories) (tree lent).memory
memory_apart lent s e = memories_apart (tree lent) (tree lent).imports (at_most_one lent.bytes (tree lent) s).1 ((imports_none (tree lent)).0 e)
