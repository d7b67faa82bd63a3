-- What is held for a store, and what contracts see of it.
use Rattle.std.specs.Prelude.{◌≡◌, ◌≤◌, ◌<◌, ◌+◌, ℕ, List, map, Bool, nat_le, ◌&&◌, length, All, Result, Ok, Err}
use Rattle.ctw_ops.specs.Limits.{most_memory_pages, most_set_pages}
use Rattle.ctw_semantics.specs.Values.{value}
use Rattle.ctw_semantics.specs.Stores.{Memory, Global, Table, Storage, all_pages, bytes_of_number, written_at}
use Rattle.ctw_store.specs.declared.fault.StoreFault.{StoreFault}
use Rattle.ctw_store.specs.declared.fault.StoreFault.TheVariants as Faults
use Rattle.ctw_store.specs.declared.store.Paged.{Paged}
use Rattle.ctw_store.specs.declared.store.Cell.{Cell}
use Rattle.ctw_store.specs.declared.store.Entries.{Entries}
use Rattle.ctw_store.specs.Pages.{IsPage, all_bytes, made_in}

-- a store, and which pages of each of its memories are made
pub record Held : Type 0 where
  pub storage : Storage
  pub made : List (List Bool)

abbrev pub memory_of : Paged → Memory
memory_of m = record { type = m.kind; bytes = all_bytes m.pages.items }

abbrev pub global_of : Cell → Global
global_of c = record { mutable = c.kind.mutable; value = value c.kind.value c.value }

abbrev pub table_of : Entries → Table
table_of t = record { limits = t.limits; entries = t.entries.items }

abbrev pub made_of : Paged → List Bool
made_of m = made_in m.pages.items

abbrev pub storage_of : List Paged → List Cell → List Entries → Storage
storage_of memories globals tables =
    record { memories = map memory_of memories; globals = map global_of globals; tables = map table_of tables }

abbrev pub held_of : List Paged → List Cell → List Entries → Held
held_of memories globals tables = record { storage = storage_of memories globals tables; made = map made_of memories }

-- whole pages, no more than a memory may have
pub record IsWhole (m : Paged) : Type 0 where
  pub pages : All IsPage m.pages.items
  pub short : length m.pages.items ≤ most_memory_pages

-- whole memories with so many pages together, no more than a store may have
pub record AreHeld (memories : List Paged) (total : ℕ) : Type 0 where
  pub whole : All IsWhole memories
  pub counted : total ≡ all_pages (map memory_of memories)
  pub within : total ≤ most_set_pages

-- what storing leaves of the bytes of one memory
abbrev pub Writes : List ℕ → ℕ → ℕ → ℕ → Result (Unit {0}) StoreFault → List ℕ → Type 0
Writes old at count n (Ok done) new = (at + count ≤ length old) × (new ≡ written_at at (bytes_of_number count n) old)
Writes old at count n (Err Faults.OutOfBounds) new = (length old < at + count) × (new ≡ old)
Writes old at count n (Err Faults.NoMemory) new = (at + count ≤ length old) × (new ≡ old)

-- whether a memory of so many pages may have so many more
abbrev pub has_room : ℕ → ℕ → ℕ → ℕ → Bool
has_room length most total count =
    nat_le (length + count) most && (nat_le (length + count) most_memory_pages && nat_le (total + count) most_set_pages)
