-- Imports that keep the limits are spelled one after another, where at most one table and one memory is among them.
use Rattle.std.proofs.Common.{◌≡◌, ℕ, suc, ◌+◌, ◌≤◌, Bool, true, false, List, [], ◌∷◌, length, refl, sym, append-nil, arith}
use Rattle.std.specs.List.{All}
use Rattle.std.proofs.lemmas.List.Elements.{All-head, All-tail}
use Rattle.ctw_ops.specs.declared.types.Label.{Label}
use Rattle.ctw_ops.specs.declared.types.Limits.{Limits}
use Rattle.ctw_ops.specs.Types.{MemoryType}
use Rattle.ctw_ops.specs.Once.{with_table, with_memory, imported_tables, imported_memories}
use Rattle.ctw_ops.specs.Plain.{IsPlainExtern}
use Rattle.ctw_ops.specs.Tree.{Extern, ImportedFunction, ImportedTable, ImportedMemory, ImportedGlobal, Import}
use Rattle.ctw_leb.specs.Grammar.{TimesFrom}
use Rattle.ctw_leb.specs.Spelling.{u32_text}
use Rattle.ctw_form.specs.declared.table.Held.{Held}
use Rattle.ctw_form.specs.Sections.{none_held, held_with, held_after, held_by}
use Rattle.ctw_form.specs.Spelled.{IsImport, IsImports, room}
use Rattle.ctw_write.specs.Canon.{all_texts, vector_text, import_text}
use Rattle.ctw_write.specs.KeepsLimits.{Is32, IsShort, IsLimitedImport}
use Rattle.ctw_write.proofs.FormedNumbers.{number_spelled}
use Rattle.ctw_write.proofs.FormedItems.{IsFirst, import_spelled}

-- where there is room for one more, there was none yet
room_left : (b : Bool) (n : ℕ) → suc n ≤ room b → (b ≡ false) × (n ≤ 0)
room_left true n le = absurd (omega arith)
room_left false n le = (refl, omega arith)

-- there is room for these tables and memories, and more of each
pub record Room (held : Held) (n k : ℕ) : Type 0 where
  pub tables : n ≤ room held.table
  pub memories : k ≤ room held.memory

room_behind : (held : Held) (kind : Extern Label) (ts : List Limits) (ms : List (MemoryType Label)) (n k : ℕ) → Room held (length (with_table kind ts) + n) (length (with_memory kind ms) + k)
    → IsFirst held kind × Room (held_with kind held) (length ts + n) (length ms + k)
room_behind held (ImportedFunction type) ts ms n k r = (tt, r)
room_behind held (ImportedTable limits) ts ms n k r =
    let left = room_left held.table (length ts + n) (omega (arith, r.tables)) in
    (left.0, record { tables = left.1; memories = r.memories })
room_behind held (ImportedMemory type) ts ms n k r =
    let left = room_left held.memory (length ms + k) (omega (arith, r.memories)) in
    (left.0, record { tables = r.tables; memories = left.1 })
room_behind held (ImportedGlobal type) ts ms n k r = (tt, r)

-- so much is left behind imports
pub room_after : (held : Held) (imports : List (Import Label)) (n k : ℕ) → Room held (length (imported_tables imports) + n) (length (imported_memories imports) + k) → Room (held_by held imports) n k
room_after held [] n k r = record { tables = omega (arith, r.tables); memories = omega (arith, r.memories) }
room_after held (i ∷ imports) n k r =
    room_after (held_after held i) imports n k (room_behind held i.kind (imported_tables imports) (imported_memories imports) n k r).1

times_imports : (ct : Bool) (held : Held) (imports : List (Import Label)) (n k : ℕ) → Room held (length (imported_tables imports) + n) (length (imported_memories imports) + k) → All IsLimitedImport imports
    → (ct ≡ false → All (λ i. IsPlainExtern i.kind) imports) → All (λ i. IsShort (import_text i)) imports → TimesFrom (IsImport ct) held_after (length imports) held (all_texts import_text imports) imports
times_imports ct held [] n k r h plain short = (refl, refl)
times_imports ct held (i ∷ imports) n k r h plain short =
    let behind = room_behind held i.kind (imported_tables imports) (imported_memories imports) n k r in
    let first = import_spelled ct held i behind.0 (All-head IsLimitedImport i imports h) (λ e. All-head (λ j. IsPlainExtern j.kind) i imports (plain e)) (All-head (λ j. IsShort (import_text j)) i imports short) in
    let others = times_imports ct (held_after held i) imports n k behind.1 (All-tail IsLimitedImport i imports h) (λ e. All-tail (λ j. IsPlainExtern j.kind) i imports (plain e)) (All-tail (λ j. IsShort (import_text j)) i imports short) in
    let texts = all_texts import_text imports in
    (i, import_text i, texts, first, (imports, texts, [], others, (refl, refl), sym (append-nil texts)), refl)

pub imports_spelled : (ct : Bool) (imports : List (Import Label)) (n k : ℕ) → Room none_held (length (imported_tables imports) + n) (length (imported_memories imports) + k) → All IsLimitedImport imports
    → (ct ≡ false → All (λ i. IsPlainExtern i.kind) imports) → All (λ i. IsShort (import_text i)) imports → Is32 (length imports) → IsImports ct (vector_text import_text imports) imports
imports_spelled ct imports n k r h plain short lt =
    (length imports, u32_text (length imports), all_texts import_text imports, number_spelled (length imports) lt, times_imports ct none_held imports n k r h plain short, refl)
