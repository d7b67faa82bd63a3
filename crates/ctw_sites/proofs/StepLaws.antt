-- What an opcode leaves of the open blocks.
use Rattle.std.proofs.Common.{◌≡◌, ◌≤◌, ◌<◌, ◌^◌, ℕ, ◌+◌, Bool, true, false, List, [], ◌∷◌, length, Option, Some, None, refl, ap, subst, arith}
use Rattle.std.specs.Prelude.{IsSome, unwrap_or}
use Rattle.ctw_ops.specs.Types.{ValueType}
use Rattle.ctw_ops.specs.Code.{Leaf, Select, OfBlock, OfLoop, OfIf, ByEnd, ByElse, Op, Plain, Opens, Closes}
use Rattle.ctw_ops.specs.Typing.{Context, optional, i32}
use Rattle.ctw_stack.specs.declared.slot.Slot.{Slot}
use Rattle.ctw_stack.specs.Operands.{Operands, fresh}
use Rattle.ctw_stack.specs.Opens.{Open, opened, with_operands, slot_count}
use Rattle.ctw_stack.specs.Steps.{expect, pushes}
use Rattle.ctw_stack.proofs.Counts.{slot_count-cons}
use Rattle.ctw_labels.specs.declared.tag.Tag.{Tag}
use Rattle.ctw_labels.specs.Sited.{yes, Lift, relabel, lifted}
use Rattle.ctw_labels.specs.Numbering.{BodyPlace, result_from, block_sites}
use Rattle.ctw_labels.specs.FlatSites.{among, result_lift, handed, GoesBy, opens_behind, op_sites}
use Rattle.ctw_labels.specs.Collected.{IsSmallResult}
use Rattle.ctw_sites.specs.Controls.{AreSmall}
use Rattle.ctw_sites.specs.Rows.{rest_of, rests, Row, row, is_select}
use Rattle.ctw_sites.specs.Leaves.{IsRowOf, own_of, selected}
use Rattle.ctw_sites.specs.Stacks.{on_innermost}
use Rattle.ctw_sites.proofs.RowLaws.{expect_rest}
use Rattle.ctw_sites.proofs.StackLaws.{done_short, take_short}
use Rattle.ctw_sites.proofs.PassLaws.{row_behind, chosen_law}

-- where a condition is taken, the rest is left
expected : (o : Operands Tag) (t : ValueType Tag) (x : Option (Operands Tag)) → expect yes t o ≡ x → IsSome x → rest_of o ≡ unwrap_or x fresh
expected o t None q e = cc
expected o t (Some m) q e = expect_rest t o m q

pub if_rest : (o : Operands Tag) (t : ValueType Tag) → IsSome (expect yes t o) → rest_of o ≡ unwrap_or (expect yes t o) fresh
if_rest o t e = expected o t (expect yes t o) refl e

-- ---- how many slots there are

row_self : {A : Type 0} (P : BodyPlace A) (C : Context Tag) (n : ℕ) (i : Leaf A) → is_select i ≡ false → IsRowOf P C n (Plain i) (row P C n i)
row_self P C n (Select l) q = cc
row_self P C n i q = refl

relabel_length : (l : Lift Tag) (xs : List (Slot Tag)) → length (relabel l xs) ≡ length xs
relabel_length l [] = refl
relabel_length l (x ∷ xs) = refl

lifted_length : (l : Option (Lift Tag)) (o : Operands Tag) → length (lifted l o).slots ≡ length o.slots
lifted_length None o = refl
lifted_length (Some l) o = relabel_length l o.slots

pushed_length : (t : Option (ValueType Tag)) (o : Operands Tag) → length (pushes (optional t) o).slots ≤ length o.slots + 1
pushed_length None o = omega arith
pushed_length (Some t) o = omega arith

handed_short : (v : Open Tag) (outer : List (Open Tag)) → slot_count (handed v outer) ≤ slot_count (v ∷ outer) + 1
handed_short v [] = omega arith
handed_short v (w ∷ outer) =
    let o : Operands Tag = lifted (result_lift v.yields) (pushes (optional v.yields) w.operands) in
    let a = lifted_length (result_lift v.yields) (pushes (optional v.yields) w.operands) in
    let b = pushed_length v.yields w.operands in
    omega (arith, a, b, slot_count-cons (with_operands w o) outer, slot_count-cons w outer, slot_count-cons v (w ∷ outer))

selected_short : (n : ℕ) (v : Open Tag) (outer : List (Open Tag)) → slot_count (on_innermost (selected n) (v ∷ outer)) ≤ slot_count (v ∷ outer) + 1
selected_short n v outer =
    let t = take_short 3 (v ∷ outer) in
    omega (arith, t, slot_count-cons (with_operands v (rests 3 v.operands)) outer, slot_count-cons (with_operands v (selected n v.operands)) outer)

module _ {A : Type 0} (P : BodyPlace A) (C : Context Tag) (n at : ℕ) where
  leaf_short : (i : Leaf A) (v : Open Tag) (outer : List (Open Tag)) (c : Bool) → is_select i ≡ c → GoesBy P C n (Plain i) (v ∷ outer) → slot_count (opens_behind P C n at (Plain i) (v ∷ outer)) ≤ slot_count (v ∷ outer) + 1
  leaf_short i v outer true q g = subst (λ z. slot_count z ≤ slot_count (v ∷ outer) + 1) (chosen_law P C n at (Plain i) (v ∷ outer) tt g q).0 (selected_short n v outer)
  leaf_short i v outer false q g =
      let r : Row = row P (among C (v ∷ outer)) n i in
      subst (λ z. slot_count z ≤ slot_count (v ∷ outer) + 1) (row_behind P C n at (Plain i) (v ∷ outer) r tt g q (row_self P (among C (v ∷ outer)) n i q)) (done_short (n + length (own_of P at (Plain i))) r (v ∷ outer))

  pub behind_short : (op : Op A) (b : List (Open Tag)) → GoesBy P C n op b → slot_count (opens_behind P C n at op b) ≤ slot_count b + 1
  behind_short op [] g = absurd g
  behind_short (Plain i) (v ∷ outer) g = leaf_short i v outer (is_select i) refl g
  behind_short (Opens OfBlock t) (v ∷ outer) g = omega (arith, slot_count-cons (opened false (result_from n t)) (v ∷ outer))
  behind_short (Opens OfLoop t) (v ∷ outer) g = omega (arith, slot_count-cons (opened true (result_from n t)) (v ∷ outer))
  behind_short (Opens OfIf t) (v ∷ outer) g =
      let m : Operands Tag = unwrap_or (expect yes (i32 C) v.operands) fresh in
      let e = ap (λ z. slot_count (with_operands v z ∷ outer)) (if_rest v.operands (i32 C) g) in
      let s = take_short 1 (v ∷ outer) in
      omega (arith, e, s, slot_count-cons (opened false (result_from n t)) (with_operands v m ∷ outer))
  behind_short (Closes ByElse) (v ∷ outer) g = omega (arith, slot_count-cons (opened v.loops v.yields) outer, slot_count-cons v outer)
  behind_short (Closes ByEnd) (v ∷ outer) g = handed_short v outer

  -- ---- small results

  opened_small : (t : Option (ValueType A)) → n + length (block_sites P.func at n t) < 2 ^ 32 → IsSmallResult (result_from n t)
  opened_small None h = tt
  opened_small (Some t) h = omega arith

  handed_small : (v : Open Tag) (outer : List (Open Tag)) → AreSmall outer → AreSmall (handed v outer)
  handed_small v [] h = tt
  handed_small v (w ∷ outer) h = h

  pub behind_small : (op : Op A) (b : List (Open Tag)) → AreSmall b → n + length (op_sites P C n at op b) < 2 ^ 32 → AreSmall (opens_behind P C n at op b)
  behind_small op [] h r = tt
  behind_small (Plain i) (v ∷ outer) h r = h
  behind_small (Opens OfBlock t) (v ∷ outer) h r = (opened_small t r, h)
  behind_small (Opens OfLoop t) (v ∷ outer) h r = (opened_small t r, h)
  behind_small (Opens OfIf t) (v ∷ outer) h r = (opened_small t r, h)
  behind_small (Closes ByElse) (v ∷ outer) h r = h
  behind_small (Closes ByEnd) (v ∷ outer) h r = handed_small v outer h.1
