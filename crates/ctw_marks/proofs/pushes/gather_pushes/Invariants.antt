use Rattle.std.specs.Prelude.{◌≡◌, ◌||◌, ◌+◌, ℕ, drop, length}
use Rattle.ctw_labels.specs.Points.{is_released}
use Rattle.ctw_marks.specs.Pushed.{pushes_in, AreStarts}
use Rattle.ctw_marks.proofs.pushes.gather_pushes.Given as goal

-- the pushes of the bodies so far are added
abbrev pub invariant-bodies : goal.invariant-bodies
invariant-bodies l = record {
  rising : AreStarts (drop l.i l.starts) (length l.words);
  added : (f k : ℕ) → (pushes_in (l.imported + l.i) (drop l.i l.starts) l.words f k || is_released l.pushes f k) ≡ pushes_in l.imported l.starts l.words f k;
}
