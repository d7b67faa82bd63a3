-- The law of tags holds.
use Rattle.std.proofs.Common.{◌≡◌, Bool, true, false, List, [], ◌∷◌, map, Option, Some, None, refl, ◌∙◌, ap}
use Rattle.std.specs.Prelude.{slice_get, option_map}
use Rattle.std.proofs.lemmas.Option.{slice_get-map}
use Rattle.std.proofs.lemmas.List.{length-map}
use Rattle.ctw_ops.specs.Types.{ValueType}
use Rattle.ctw_stack.specs.declared.slot.Slot.{Slot}
use Rattle.ctw_stack.specs.Operands.{Operands, Popped, pop, pop_from}
use Rattle.ctw_stack.specs.Opens.{Open, taken_from, after_push, after_pop, after_kill, label_from, label_of, innermost_of, after_leave, count_of_innermost}
use Rattle.ctw_ops.specs.TagMaps.{type_to}
use Rattle.ctw_stack.specs.Tags.{slot_to, operands_to, popped_to, open_to, opens_to, taken_to, TagLaw}

module _ {S T : Type 0} (f : S → T) where
  pub pop_tags : (o : Operands S) → pop (operands_to f o) ≡ option_map (popped_to f) (pop o)
  pop_tags o = from o.dead o.slots
    where
      from : (dead : Bool) (xs : List (Slot S)) → pop_from dead (map (slot_to f) xs) ≡ option_map (popped_to f) (pop_from dead xs)
      from false [] = refl
      from true [] = refl
      from dead (x ∷ xs) = refl

  push_law : (x : Slot S) (bs : List (Open S)) → after_push (slot_to f x) (opens_to f bs) ≡ opens_to f (after_push x bs)
  push_law x [] = refl
  push_law x (b ∷ bs) = refl

  pop_law : (bs : List (Open S)) → after_pop (opens_to f bs) ≡ option_map (taken_to f) (after_pop bs)
  pop_law [] = refl
  pop_law (b ∷ bs) = ap (taken_from (open_to f b) (opens_to f bs)) (pop_tags b.operands) ∙ under (pop b.operands)
    where
      under : (r : Option (Popped S)) → taken_from (open_to f b) (opens_to f bs) (option_map (popped_to f) r) ≡ option_map (taken_to f) (taken_from b bs r)
      under None = refl
      under (Some p) = refl

  kill_law : (bs : List (Open S)) → after_kill (opens_to f bs) ≡ opens_to f (after_kill bs)
  kill_law [] = refl
  kill_law (b ∷ bs) = refl

  pub label_tags : (loops : Bool) (yields : Option (ValueType S)) → label_from loops (option_map (type_to f) yields) ≡ option_map (type_to f) (label_from loops yields)
  label_tags true yields = refl
  label_tags false yields = refl

  labels_law : (bs : List (Open S)) → map label_of (opens_to f bs) ≡ map (option_map (type_to f)) (map label_of bs)
  labels_law [] = refl
  labels_law (b ∷ bs) = λ i. label_tags b.loops b.yields i ∷ labels_law bs i

  innermost_law : (bs : List (Open S)) → innermost_of (opens_to f bs) ≡ option_map (λ block. (block.0, option_map (type_to f) block.1)) (innermost_of bs)
  innermost_law [] = refl
  innermost_law (b ∷ bs) = refl

  leave_law : (bs : List (Open S)) → after_leave (opens_to f bs) ≡ opens_to f (after_leave bs)
  leave_law [] = refl
  leave_law (b ∷ bs) = refl

  count_law : (bs : List (Open S)) → count_of_innermost (opens_to f bs) ≡ count_of_innermost bs
  count_law [] = refl
  count_law (b ∷ bs) = ap Some (length-map b.operands.slots (slot_to f))

  pub tag_law : TagLaw f
  tag_law = record {
    push = push_law;
    pop = pop_law;
    enter = λ loops yields bs. refl;
    kill = kill_law;
    target = λ depth bs. ap (λ z. slice_get z depth) (labels_law bs) ∙ slice_get-map (option_map (type_to f)) (map label_of bs) depth;
    innermost = innermost_law;
    leave = leave_law;
    count = count_law;
  }
