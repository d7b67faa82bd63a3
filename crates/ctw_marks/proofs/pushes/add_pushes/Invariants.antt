use Rattle.std.specs.Prelude.{◌≡◌, ◌==◌, ◌&&◌, ◌||◌, ℕ, drop}
use Rattle.ctw_labels.specs.Points.{is_released}
use Rattle.ctw_marks.specs.Pushed.{pushes_among}
use Rattle.ctw_marks.proofs.pushes.add_pushes.Given as goal

-- the pushes of the words so far are added
abbrev pub invariant-words : goal.invariant-words
invariant-words l = (g k : ℕ) → ((l.f == g && pushes_among k (drop l.word-index l.words)) || is_released l.pushes g k)
    ≡ ((l.f == g && pushes_among k l.words) || is_released l.initial.pushes g k)
