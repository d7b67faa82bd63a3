-- How many memories there are after a call, for callers that go on with the store.
use Rattle.std.proofs.Common.{◌≡◌, ℕ, ◌*◌, ◌<◌, length, Result, Ok, Err, Option, Some, None, slice_get, ap, ◌∙◌, arith}
use Rattle.std.specs.declared.alloc.AllocError.{AllocError}
use Rattle.std.proofs.lemmas.List.{length-set, length-replicate}
use Rattle.ctw_ops.specs.declared.types.Label.{Label}
use Rattle.ctw_ops.specs.Types.{MemoryType}
use Rattle.ctw_semantics.specs.Stores.{Memory, Storage, fresh_memory, written_at, bytes_of_number, pages, grown}
use Rattle.ctw_ops.proofs.Lists.{in_range}
use Rattle.ctw_store.specs.declared.fault.StoreFault.{StoreFault}
use Rattle.ctw_store.specs.declared.fault.StoreFault.TheVariants as Faults
use Rattle.ctw_store.specs.Answers.{Stores, Grows}

stored_count : (s new : Storage) (i : ℕ) (m : Memory) (at count n : ℕ) (r : Result (Unit {0}) StoreFault) → Stores s i m at count n r new → length new.memories ≡ length s.memories
stored_count s new i m at count n (Ok done) w =
    ap (λ (s : Storage). length s.memories) w.1 ∙ length-set s.memories i (record m { bytes = written_at at (bytes_of_number count n) m.bytes })
stored_count s new i m at count n (Err Faults.OutOfBounds) w = ap (λ (s : Storage). length s.memories) w.1
stored_count s new i m at count n (Err Faults.NoMemory) w = ap (λ (s : Storage). length s.memories) w.1

pub stores_count : (s new : Storage) (i at count n : ℕ) (r : Result (Unit {0}) StoreFault) → i < length s.memories
    → ((m : Memory) → slice_get s.memories i ≡ Some m → Stores s i m at count n r new) → length new.memories ≡ length s.memories
stores_count s new i at count n r l f = let x = in_range s.memories i l in stored_count s new i x.0 at count n r (f x.0 x.1)

grown_count : (s new : Storage) (i : ℕ) (m : Memory) (count : ℕ) (r : Result (Option ℕ) AllocError) → Grows s i m count r new → length new.memories ≡ length s.memories
grown_count s new i m count (Ok (Some n)) w = ap (λ (s : Storage). length s.memories) w.2 ∙ length-set s.memories i (record m { bytes = grown m count })
grown_count s new i m count (Ok None) w = ap (λ (s : Storage). length s.memories) w.1
grown_count s new i m count (Err e) w = ap (λ (s : Storage). length s.memories) w.1

pub grows_count : (s new : Storage) (i count : ℕ) (r : Result (Option ℕ) AllocError) → i < length s.memories
    → ((m : Memory) → slice_get s.memories i ≡ Some m → Grows s i m count r new) → length new.memories ≡ length s.memories
grows_count s new i count r l f = let x = in_range s.memories i l in grown_count s new i x.0 count r (f x.0 x.1)

pub fresh_pages : (t : MemoryType Label) → pages (fresh_memory t) ≡ t.limits.min
fresh_pages t = let e = length-replicate {A = ℕ} (65536 * t.limits.min) 0 in omega arith
