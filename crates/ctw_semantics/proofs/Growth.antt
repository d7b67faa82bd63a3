-- A growth that is refused changes operands and code alone.
use Rattle.std.proofs.Common.{◌≡◌, ℕ, ◌+◌, ◌≤◌, false, List, [], ◌∷◌, length, Some, slice_get, refl, sym, ap, ◌∙◌, subst, cond, le-leb}
use Rattle.ctw_ops.specs.declared.types.Label.{Label}
use Rattle.ctw_ops.specs.Code.{MemoryGrow, Code, Then}
use Rattle.ctw_script.specs.declared.event.Event.TheVariants as Events
use Rattle.ctw_script.specs.declared.trap.TrapCode.TheVariants.{Exhausted}
use Rattle.ctw_semantics.specs.Values.{Value, value, i32}
use Rattle.ctw_semantics.specs.Stores.{Memory, Storage, may_grow, with_bytes, pages, grown}
use Rattle.ctw_semantics.specs.Instances.{FunctionInstance, Functions}
use Rattle.ctw_ops.specs.Limits.{most_weight}
use Rattle.ctw_semantics.specs.Activations.{Open, Activation, labels_weight, weight}
use Rattle.ctw_semantics.specs.Answers.{Goes, Trapped, noting, given}
use Rattle.ctw_semantics.specs.Machine.{Here, innermost, put, next, limited, red}

labels_weight_of : (h : Here) (c d : Code Label) (v w : Value) (below : List Value) (outer : List Open) → labels_weight (innermost h c (v ∷ below) ∷ outer) ≡ labels_weight (innermost h d (w ∷ below) ∷ outer)
labels_weight_of h c d v w below [] = refl
labels_weight_of h c d v w below (o ∷ os) = refl

module _ (fns : Functions) (s : Storage) (h : Here) (rest : Code Label) (fn : FunctionInstance) (i : ℕ) (m : Memory) (count : ℕ) (below : List Value)
    (found : slice_get fns h.func ≡ Some fn) (has : fn.part.memory ≡ Some i) (at : slice_get s.memories i ≡ Some m) where
  pub refused_growth : may_grow s m count ≡ false → weight (put h (Then MemoryGrow rest) (value i32 count ∷ below)) ≤ most_weight
      → red fns s (put h (Then MemoryGrow rest) (value i32 count ∷ below)) ≡ noting (Events.Grow count) (Goes s (put h rest (value i32 4294967295 ∷ below)))
  refused_growth refused light =
      let after : Activation = put h rest (value i32 4294967295 ∷ below) in
      let w : weight after ≡ weight (put h (Then MemoryGrow rest) (value i32 count ∷ below)) = ap (λ n. 1 + length h.locals + n + weight h.callers) (labels_weight_of h rest (Then MemoryGrow rest) (value i32 4294967295) (value i32 count) below h.outer) in
      ap (λ o. given o (λ fn. limited (next fns fn s h (Then MemoryGrow rest) (value i32 count ∷ below)))) found
      ∙ ap (λ o. limited (given o (λ i. given (slice_get s.memories i) (λ m. noting (Events.Grow count) (cond (may_grow s m count) (Goes (with_bytes s i m (grown m count)) (put h rest (value i32 (pages m) ∷ below))) (Goes s after)))))) has
      ∙ ap (λ o. limited (given o (λ m. noting (Events.Grow count) (cond (may_grow s m count) (Goes (with_bytes s i m (grown m count)) (put h rest (value i32 (pages m) ∷ below))) (Goes s after))))) at
      ∙ ap (λ b. limited (noting (Events.Grow count) (cond b (Goes (with_bytes s i m (grown m count)) (put h rest (value i32 (pages m) ∷ below))) (Goes s after)))) refused
      ∙ ap (λ b. noting (Events.Grow count) (cond b (Goes s after) (Trapped Exhausted))) (le-leb (weight after) most_weight (subst (λ n. n ≤ most_weight) (sym w) light))
