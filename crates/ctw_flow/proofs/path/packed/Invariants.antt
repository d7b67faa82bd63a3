-- The marks so far are the bits of the words and of the one that is made.
use Rattle.std.proofs.Common.{◌≡◌, ◌<◌, ◌/◌, ◌%◌, ◌^◌, ℕ, ◌++◌, ◌∷◌, [], length, get_or, false}
use Rattle.ctw_flow.specs.Bits.{is_set}
use Rattle.ctw_flow.proofs.path.packed.Given as goal

abbrev pub invariant-marks : goal.invariant-marks
invariant-marks l = record {
  full : length l.words.items ≡ l.i / 64;
  low : l.word < 2 ^ (l.i % 64);
  same : (k : ℕ) → k < l.i → is_set (l.words.items ++ l.word ∷ []) k ≡ get_or l.marks k false;
}
