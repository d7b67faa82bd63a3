-- What is done to the stack is what the pass does to its levels.
use Rattle.std.proofs.Common.{◌≡◌, ◌<◌, ℕ, Bool, true, false, not, List, [], ◌∷◌, length, map, drop, Option, Some, None, Result, Ok, Err, refl, sym, ◌∙◌, ap, arith}
use Rattle.std.specs.Prelude.{◌||◌, is_none}
use Rattle.ctw_ops.specs.declared.types.Label.{Label}
use Rattle.ctw_ops.specs.declared.types.Label.TheVariants.{Public}
use Rattle.ctw_ops.specs.declared.types.Width.TheVariants.{W32}
use Rattle.ctw_ops.specs.declared.fault.SecretRule.TheVariants.{Condition}
use Rattle.ctw_ops.specs.Types.{ValueType, value_type}
use Rattle.ctw_ops.specs.Code.{Leaf, OfIf, ByEnd, ByElse, Op, Plain, Opens, Closes}
use Rattle.ctw_ops.specs.Typing.{Context}
use Rattle.ctw_ops.specs.Segments.{and_then}
use Rattle.ctw_stack.specs.declared.slot.Slot.{Slot}
use Rattle.ctw_stack.specs.Operands.{Operands}
use Rattle.ctw_stack.specs.Opens.{Open, opened, with_operands, label_of}
use Rattle.ctw_stack.specs.Steps.{when, expect, expects, step}
use Rattle.ctw_stack.specs.Pass.{Level, level, within, given, ends_with, flat}
use Rattle.ctw_valid.specs.declared.fault.BodyFault.{BodyFault}
use Rattle.ctw_valid.specs.declared.fault.BodyFault.TheVariants.{WrongType}
use Rattle.ctw_valid.specs.declared.around.Around.{Around}
use Rattle.ctw_valid.specs.Faults.{same_label, guards, guarded_secret, by_type, kind_of, slots_of}
use Rattle.ctw_valid.specs.OnStack.{on_innermost, own_slots, Follows}
use Rattle.ctw_valid.specs.Blocks.{given_to, ended, parted}
use Rattle.ctw_valid.specs.Rows.{OnLeaf}
use Rattle.ctw_valid.specs.Scope.{scope, scope_of_body}
use Rattle.ctw_valid.specs.Tables.{labels_in}
use Rattle.ctw_valid.specs.Levels.{levels_of, opener, PassesLeaf}
use Rattle.ctw_valid.proofs.LeafLaws.{follows_as}

-- an answer, seen in another way
follows_map : {A B D : Type 0} (r : Result A BodyFault) (x : Option B) (f : B → D) (new : B) (why : BodyFault) → Follows r x new why → Follows r (and_then x (λ y. Some (f y))) (f new) why
follows_map (Ok a) x f new why h = ap (λ o. and_then o (λ y. Some (f y))) h
follows_map (Err e) x f new why h = λ n. let k = h n in (ap (λ o. and_then o (λ y. Some (f y))) k.0, k.1)

given_levels : (t : Option (ValueType Label)) (arms : List Bool) (blocks : List (Open Label)) → given t (levels_of arms blocks) ≡ levels_of arms (given_to t blocks)
given_levels t [] blocks = refl
given_levels t (arm ∷ arms) [] = refl
given_levels t (arm ∷ arms) (b ∷ blocks) = refl

tested : {A B D : Type 0} (c : Bool) (e : Option A) (x : B) (y : D) (f : B → D) → f x ≡ y → when c (and_then e (λ o. Some y)) ≡ and_then (when c (and_then e (λ o. Some x))) (λ z. Some (f z))
tested false e x y f p = refl
tested true None x y f p = refl
tested true (Some o) x y f p = ap Some (sym p)

end_levels : (C : Context Label) (arm : Bool) (arms : List Bool) (blocks : List (Open Label)) → flat same_label C (Closes ByEnd) (levels_of (arm ∷ arms) blocks) ≡ and_then (ended arm blocks) (λ z. Some (levels_of arms z))
end_levels C arm arms [] = refl
end_levels C arm arms (b ∷ outer) =
    tested (not arm || is_none b.yields) (ends_with same_label b.yields b.operands) (given_to b.yields outer) (given b.yields (levels_of arms outer)) (levels_of arms) (sym (given_levels b.yields arms outer))

part_levels : (C : Context Label) (arm : Bool) (arms : List Bool) (blocks : List (Open Label)) → flat same_label C (Closes ByElse) (levels_of (arm ∷ arms) blocks) ≡ and_then (parted arm blocks) (λ z. Some (levels_of (false ∷ arms) z))
part_levels C arm arms [] = refl
part_levels C arm arms (b ∷ outer) =
    tested arm (ends_with same_label b.yields b.operands) (opened b.loops b.yields ∷ outer) (record { arm = false; block = opened b.loops b.yields } ∷ levels_of arms outer) (levels_of (false ∷ arms)) refl

-- the labels and the slots are those of the stack
levels_labels : (arms : List Bool) (blocks : List (Open Label)) → length arms ≡ length blocks → map (λ (v : Level Label). label_of v.block) (levels_of arms blocks) ≡ labels_in blocks
levels_labels [] [] e = refl
levels_labels [] (b ∷ blocks) e = absurd (omega (arith, e))
levels_labels (arm ∷ arms) [] e = absurd (omega (arith, e))
levels_labels (arm ∷ arms) (b ∷ blocks) e = ap (λ l. label_of b ∷ l) (levels_labels arms blocks (omega (arith, e)))

levels_slots : (arms : List Bool) (blocks : List (Open Label)) → length arms ≡ length blocks → slots_of (levels_of arms blocks) ≡ own_slots blocks
levels_slots [] [] e = refl
levels_slots [] (b ∷ blocks) e = absurd (omega (arith, e))
levels_slots (arm ∷ arms) [] e = absurd (omega (arith, e))
levels_slots (arm ∷ arms) (b ∷ blocks) e = refl

inside_is : (a : Around) (arms : List Bool) (blocks : List (Open Label)) → length arms ≡ length blocks → within (scope_of_body a) (levels_of arms blocks) ≡ scope a (labels_in blocks)
inside_is a arms blocks e = ap (scope a) (levels_labels arms blocks e)

leaf_levels : (a : Around) (leaf : Leaf Label) (arms : List Bool) (blocks : List (Open Label)) → length arms ≡ length blocks
    → flat same_label (scope_of_body a) (Plain leaf) (levels_of arms blocks) ≡ and_then (on_innermost (step same_label (scope a (labels_in blocks)) leaf) blocks) (λ z. Some (levels_of arms z))
leaf_levels a leaf [] [] e = refl
leaf_levels a leaf [] (b ∷ blocks) e = absurd (omega (arith, e))
leaf_levels a leaf (arm ∷ arms) [] e = absurd (omega (arith, e))
leaf_levels a leaf (arm ∷ arms) (b ∷ outer) e =
    ap (λ (D : Context Label). and_then (step same_label D leaf b.operands) (λ o. Some (record { arm = arm; block = with_operands b o } ∷ levels_of arms outer))) (inside_is a (arm ∷ arms) (b ∷ outer) e)
    ∙ regroup (step same_label (scope a (labels_in (b ∷ outer))) leaf b.operands)
  where
    regroup : (r : Option (Operands Label)) → and_then r (λ o. Some (record { arm = arm; block = with_operands b o } ∷ levels_of arms outer)) ≡ and_then (and_then r (λ o. Some (with_operands b o ∷ outer))) (λ z. Some (levels_of (arm ∷ arms) z))
    regroup None = refl
    regroup (Some o) = refl

-- ---- what the calls promise

pub passes_leaf : (a : Around) (op : Op Label) (at : ℕ) (r : Result (Unit {0}) BodyFault) (arms : List Bool) (old new : List (Open Label)) → length arms ≡ length old
    → OnLeaf (scope a (labels_in old)) op at r old new → PassesLeaf (scope_of_body a) op at r (levels_of arms old) (levels_of arms new)
passes_leaf a (Plain leaf) at r arms old new e h =
    let f = follows_map r (on_innermost (step same_label (scope a (labels_in old)) leaf) old) (levels_of arms) new _ h in
    let k : kind_of (within (scope_of_body a) (levels_of arms old)) (Plain leaf) at (slots_of (levels_of arms old)) ≡ kind_of (scope a (labels_in old)) (Plain leaf) at (own_slots old) =
    ap (λ D. kind_of D (Plain leaf) at (slots_of (levels_of arms old))) (inside_is a arms old e) ∙ ap (kind_of (scope a (labels_in old)) (Plain leaf) at) (levels_slots arms old e) in
    follows_as r _ (and_then (on_innermost (step same_label (scope a (labels_in old)) leaf) old) (λ z. Some (levels_of arms z))) (levels_of arms new) _ (kind_of (scope a (labels_in old)) (Plain leaf) at (own_slots old)) (leaf_levels a leaf arms old e) k f
passes_leaf a (Opens shape t) at r arms old new e h = tt
passes_leaf a (Closes closer) at r arms old new e h = tt

-- ---- where the innermost block's arm was looked up

pub end_refused : (C : Context Label) (arms : List Bool) (arm : Bool) (old : List (Open Label)) → length arms ≡ length old → ((a : Bool) (outer : List Bool) → arms ≡ a ∷ outer → arm ≡ a)
    → ended arm old ≡ None → flat same_label C (Closes ByEnd) (levels_of arms old) ≡ None
end_refused C [] arm old e h n = refl
end_refused C (a ∷ arms) arm old e h n =
    end_levels C a arms old ∙ ap (λ b. and_then (ended b old) (λ z. Some (levels_of arms z))) (sym (h a arms refl)) ∙ ap (λ r. and_then r (λ z. Some (levels_of arms z))) n

pub end_passed : (C : Context Label) (arms : List Bool) (arm : Bool) (old new : List (Open Label)) → length arms ≡ length old → ((a : Bool) (outer : List Bool) → arms ≡ a ∷ outer → arm ≡ a)
    → ended arm old ≡ Some new → flat same_label C (Closes ByEnd) (levels_of arms old) ≡ Some (levels_of (drop 1 arms) new)
end_passed C [] arm [] new e h s = absurd cc
end_passed C [] arm (b ∷ old) new e h s = absurd (omega (arith, e))
end_passed C (a ∷ arms) arm old new e h s =
    end_levels C a arms old ∙ ap (λ b. and_then (ended b old) (λ z. Some (levels_of arms z))) (sym (h a arms refl)) ∙ ap (λ r. and_then r (λ z. Some (levels_of arms z))) s

pub part_refused : (C : Context Label) (arms : List Bool) (arm : Bool) (old : List (Open Label)) → length arms ≡ length old → ((a : Bool) (outer : List Bool) → arms ≡ a ∷ outer → arm ≡ a)
    → parted arm old ≡ None → flat same_label C (Closes ByElse) (levels_of arms old) ≡ None
part_refused C [] arm old e h n = refl
part_refused C (a ∷ arms) arm old e h n =
    part_levels C a arms old ∙ ap (λ b. and_then (parted b old) (λ z. Some (levels_of (false ∷ arms) z))) (sym (h a arms refl)) ∙ ap (λ r. and_then r (λ z. Some (levels_of (false ∷ arms) z))) n

-- ---- an `if`

if_levels : (a : Around) (t : Option (ValueType Label)) (arms : List Bool) (old : List (Open Label)) → length arms ≡ length old
    → flat same_label (scope_of_body a) (Opens OfIf t) (levels_of arms old) ≡ and_then (on_innermost (expects same_label (value_type W32 Public ∷ [])) old) (λ z. Some (level true false t ∷ levels_of arms z))
if_levels a t [] [] e = refl
if_levels a t [] (b ∷ old) e = absurd (omega (arith, e))
if_levels a t (arm ∷ arms) [] e = absurd (omega (arith, e))
if_levels a t (arm ∷ arms) (b ∷ outer) e = regroup (expect same_label (value_type W32 Public) b.operands)
  where
    regroup : (r : Option (Operands Label)) → and_then r (λ o. Some (level true false t ∷ record { arm = arm; block = with_operands b o } ∷ levels_of arms outer))
        ≡ and_then (and_then r (λ o. Some (with_operands b o ∷ outer))) (λ z. Some (level true false t ∷ levels_of (arm ∷ arms) z))
    regroup None = refl
    regroup (Some o) = refl

pub if_refused : (a : Around) (t : Option (ValueType Label)) (arms : List Bool) (old : List (Open Label)) → length arms ≡ length old → on_innermost (expects same_label (value_type W32 Public ∷ [])) old ≡ None
    → flat same_label (scope_of_body a) (Opens OfIf t) (levels_of arms old) ≡ None
if_refused a t arms old e n = if_levels a t arms old e ∙ ap (λ r. and_then r (λ z. Some (level true false t ∷ levels_of arms z))) n

pub if_passed : (a : Around) (t : Option (ValueType Label)) (arms : List Bool) (old new : List (Open Label)) → length arms ≡ length old → on_innermost (expects same_label (value_type W32 Public ∷ [])) old ≡ Some new
    → flat same_label (scope_of_body a) (Opens OfIf t) (levels_of arms old) ≡ Some (level true false t ∷ levels_of arms new)
if_passed a t arms old new e s = if_levels a t arms old e ∙ ap (λ r. and_then r (λ z. Some (level true false t ∷ levels_of arms z))) s

pub if_kind : (a : Around) (t : Option (ValueType Label)) (at : ℕ) (arms : List Bool) (old : List (Open Label)) → length arms ≡ length old
    → by_type at (guarded_secret (own_slots old) (guards Condition 0)) ≡ kind_of (within (scope_of_body a) (levels_of arms old)) (Opens OfIf t) at (slots_of (levels_of arms old))
if_kind a t at arms old e = ap (λ s. by_type at (guarded_secret s (guards Condition 0))) (sym (levels_slots arms old e))

-- ---- a `block` or a `loop`

pub opens_nowhere : (C : Context Label) (loops : Bool) (t : Option (ValueType Label)) (arms : List Bool) (blocks : List (Open Label)) → length blocks ≡ 0 → flat same_label C (Opens (opener loops) t) (levels_of arms blocks) ≡ None
opens_nowhere C loops t [] blocks e = refl
opens_nowhere C loops t (arm ∷ arms) [] e = refl
opens_nowhere C loops t (arm ∷ arms) (b ∷ blocks) e = absurd (omega (arith, e))

pub opens_inside : (C : Context Label) (loops : Bool) (t : Option (ValueType Label)) (arms : List Bool) (blocks : List (Open Label)) → length arms ≡ length blocks → 0 < length blocks
    → flat same_label C (Opens (opener loops) t) (levels_of arms blocks) ≡ Some (level false loops t ∷ levels_of arms blocks)
opens_inside C loops t [] blocks e s = absurd (omega (arith, e, s))
opens_inside C loops t (arm ∷ arms) [] e s = absurd (omega (arith, s))
opens_inside C false t (arm ∷ arms) (b ∷ blocks) e s = refl
opens_inside C true t (arm ∷ arms) (b ∷ blocks) e s = refl

pub opens_kind : (C : Context Label) (loops : Bool) (t : Option (ValueType Label)) (at : ℕ) (slots : List (Slot Label)) → WrongType at ≡ kind_of C (Opens (opener loops) t) at slots
opens_kind C false t at slots = refl
opens_kind C true t at slots = refl
