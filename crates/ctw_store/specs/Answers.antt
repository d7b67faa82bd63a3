-- What the calls of a store answer, and what they leave.
use Rattle.std.specs.Prelude.{◌≡◌, ◌≤◌, ◌<◌, ◌+◌, ℕ, true, false, List, [], ◌∷◌, ◌++◌, Option, Some, None, length, take, drop, Result, Ok, Err, ◌⊎◌}
use Rattle.std.specs.declared.alloc.AllocError.{AllocError}
use Rattle.ctw_ops.specs.declared.types.Label.{Label}
use Rattle.ctw_ops.specs.Types.{VariableType}
use Rattle.ctw_semantics.specs.Values.{value}
use Rattle.ctw_semantics.specs.Stores.{Memory, Global, Table, Storage, number_of_bytes, bytes_of_number, written_at, with_bytes, pages, may_grow, grown}
use Rattle.ctw_store.specs.declared.fault.OutOfBounds.{OutOfBounds}
use Rattle.ctw_store.specs.declared.fault.StoreFault.{StoreFault}
use Rattle.ctw_store.specs.declared.fault.StoreFault.TheVariants as Faults

-- how many bytes are loaded and stored at once
abbrev pub IsAccess : ℕ → Type 0
IsAccess n = (n ≡ 1) ⊎ ((n ≡ 2) ⊎ ((n ≡ 4) ⊎ (n ≡ 8)))

-- loading so many bytes from a place on
abbrev pub Reads : List ℕ → ℕ → ℕ → Result ℕ OutOfBounds → Type 0
Reads bytes at count (Ok n) = (at + count ≤ length bytes) × (n ≡ number_of_bytes (take count (drop at bytes)))
Reads bytes at count (Err fault) = length bytes < at + count

abbrev pub Loads : Memory → ℕ → ℕ → Result ℕ OutOfBounds → Type 0
Loads m at count r = Reads m.bytes at count r

-- storing so many bytes of a number from a place on, into a memory of a store
abbrev pub Stores : Storage → ℕ → Memory → ℕ → ℕ → ℕ → Result (Unit {0}) StoreFault → Storage → Type 0
Stores old i m at count n (Ok done) new =
    (at + count ≤ length m.bytes) × (new ≡ with_bytes old i m (written_at at (bytes_of_number count n) m.bytes))
Stores old i m at count n (Err Faults.OutOfBounds) new = (length m.bytes < at + count) × (new ≡ old)
Stores old i m at count n (Err Faults.NoMemory) new = (at + count ≤ length m.bytes) × (new ≡ old)

-- growing a memory of a store by so many pages
abbrev pub Grows : Storage → ℕ → Memory → ℕ → Result (Option ℕ) AllocError → Storage → Type 0
Grows old i m count (Ok (Some n)) new =
    (may_grow old m count ≡ true) × (n ≡ pages m) × (new ≡ with_bytes old i m (grown m count))
Grows old i m count (Ok None) new = (may_grow old m count ≡ false) × (new ≡ old)
Grows old i m count (Err error) new = (may_grow old m count ≡ true) × (new ≡ old)

-- a global of a type with its number
abbrev pub new_global : VariableType Label → ℕ → Global
new_global t n = record { mutable = t.mutable; value = value t.value n }

-- a store with one memory, global or table more
abbrev pub with_new_memory : Storage → Memory → Storage
with_new_memory s m = record s { memories = s.memories ++ m ∷ [] }

abbrev pub with_new_global : Storage → Global → Storage
with_new_global s g = record s { globals = s.globals ++ g ∷ [] }

abbrev pub with_new_table : Storage → Table → Storage
with_new_table s t = record s { tables = s.tables ++ t ∷ [] }
