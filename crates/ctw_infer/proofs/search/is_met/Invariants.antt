use Rattle.std.specs.Prelude.{◌≡◌, ◌<◌, ℕ, true, Some, slice_get, slice_index}
use Rattle.ctw_infer.proofs.search.is_met.Given as goal

-- no goal so far is reached
abbrev pub invariant-goals : goal.invariant-goals
invariant-goals l = (k : ℕ) → k < l.goal-index → slice_get l.reached (slice_index l.goals k) ≡ Some true → ⊥
