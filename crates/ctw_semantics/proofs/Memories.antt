-- Lengths of what is written into memories.
use Rattle.std.proofs.Common.{◌≡◌, ℕ, zero, suc, ◌+◌, ◌-◌, ◌/◌, List, length, refl, ap, min, length-append, length-drop, length-take}
use Rattle.ctw_semantics.specs.Stores.{bytes_of_number, written_at}

pub length-bytes_of_number : (count n : ℕ) → length (bytes_of_number count n) ≡ count
length-bytes_of_number zero n = refl
length-bytes_of_number (suc count) n = ap suc (length-bytes_of_number count (n / 256))

pub length-written_at : {A : Type 0} (at : ℕ) (new bytes : List A) → length (written_at at new bytes) ≡ min at (length bytes) + (length new + (length bytes - (at + length new)))
unfolding written_at
length-written_at at new bytes = simp (length-append, length-take, length-drop)
