-- What an instruction without instructions inside does to the open blocks, and its sites.
use Rattle.std.proofs.Common.{◌≡◌, ◌≤◌, ℕ, ◌+◌, Bool, true, false, List, [], ◌∷◌, ◌++◌, length, Option, Some, None, refl, sym, ◌∙◌, ap, arith, length-append}
use Rattle.std.specs.Prelude.{IsSome, option_and_then, option_map, unwrap_or, ◌&&◌}
use Rattle.ctw_ops.specs.declared.types.Width.{Width}
use Rattle.ctw_ops.specs.declared.types.Width.TheVariants.{W32}
use Rattle.ctw_ops.specs.Types.{value_type}
use Rattle.ctw_ops.specs.Code.{Leaf, Select, Op, Plain, Opens, Closes}
use Rattle.ctw_ops.specs.Typing.{Context}
use Rattle.ctw_ops.specs.Equal.{same_width}
use Rattle.ctw_ops.specs.Segments.{and_then}
use Rattle.ctw_stack.specs.declared.slot.Slot.{Slot}
use Rattle.ctw_stack.specs.declared.slot.Slot.TheVariants.{Known, Wide}
use Rattle.ctw_stack.specs.Operands.{Operands, Popped, pop, push}
use Rattle.ctw_stack.specs.Opens.{Open, with_operands}
use Rattle.ctw_stack.specs.Steps.{when, width_of, merged, expect, may_have, joined, chosen}
use Rattle.ctw_labels.specs.declared.tag.Tag.{Tag}
use Rattle.ctw_labels.specs.declared.tag.Tag.TheVariants.{At}
use Rattle.ctw_labels.specs.declared.name.SiteName.{SiteName}
use Rattle.ctw_labels.specs.declared.name.SiteName.TheVariants.{Push}
use Rattle.ctw_labels.specs.Sited.{yes}
use Rattle.ctw_labels.specs.Numbering.{BodyPlace, own_sites, push_if, lift_of, after_lift, stepped, leaf_lift}
use Rattle.ctw_labels.specs.FlatSites.{among, GoesBy, opens_behind, op_sites}
use Rattle.ctw_sites.specs.Rows.{rest_of, rests, Row, row, is_select, done, push_by}
use Rattle.ctw_sites.specs.Leaves.{IsRowOf, IsLeaf, is_select_op, own_count, own_of, top_width, either, chosen_width, chosen_slot, chosen_push, selected}
use Rattle.ctw_sites.specs.Stacks.{on_innermost, of_innermost}
use Rattle.ctw_sites.proofs.LeafLaws.{own_length}
use Rattle.ctw_sites.proofs.RowLaws.{row_right, expect_rest}

-- ---- `select`

rest_is : (o : Operands Tag) (p : Popped Tag) → pop o ≡ Some p → rest_of o ≡ p.rest
rest_is o p e = ap (λ (x : Option (Popped Tag)). unwrap_or (option_map (λ p. p.rest) x) o) e

width_here : (o : Operands Tag) (p : Popped Tag) → pop o ≡ Some p → top_width o ≡ width_of p.slot
width_here o p e = ap (λ (x : Option (Popped Tag)). option_and_then (λ p. width_of p.slot) x) e

-- the slot that is left, under the tag of the `select`
abbrev merged_slot : Tag → Option Width → Option Width → Slot Tag
merged_slot l None None = Wide l
merged_slot l (Some w) b = Known w l
merged_slot l None (Some v) = Known v l

same_slot : (l : Tag) (w v : Width) (c : Bool) (r : Operands Tag) → IsSome (and_then (when c (Some (Known w l))) (λ s. Some (push s r))) → and_then (when c (Some (Known w l))) (λ s. Some (push s r)) ≡ Some (push (Known w l) r)
same_slot l w v true r e = refl
same_slot l w v false r e = cc

merged_is : (l : Tag) (c : Bool) (a b : Option Width) (r : Operands Tag) → IsSome (and_then (when c (merged l a b)) (λ s. Some (push s r))) → and_then (when c (merged l a b)) (λ s. Some (push s r)) ≡ Some (push (merged_slot l a b) r)
merged_is l false a b r e = cc
merged_is l true None None r e = refl
merged_is l true (Some w) None r e = refl
merged_is l true None (Some v) r e = refl
merged_is l true (Some w) (Some v) r e = same_slot l w v (same_width w v) r e

second_is : (l : Tag) (p : Popped Tag) (y : Option (Popped Tag)) → pop p.rest ≡ y → IsSome (and_then y (λ q. and_then (joined yes l p.slot q.slot) (λ s. Some (push s q.rest))))
    → and_then y (λ q. and_then (joined yes l p.slot q.slot) (λ s. Some (push s q.rest))) ≡ Some (push (merged_slot l (width_of p.slot) (top_width p.rest)) (rest_of p.rest))
second_is l p None q e = cc
second_is l p (Some k) q e =
    merged_is l (may_have yes l p.slot && may_have yes l k.slot) (width_of p.slot) (width_of k.slot) k.rest e
    ∙ (λ i. Some (push (merged_slot l (width_of p.slot) (sym (width_here p.rest k q) i)) (sym (rest_is p.rest k q) i)))

first_is : (l : Tag) (o : Operands Tag) (x : Option (Popped Tag)) → pop o ≡ x → IsSome (and_then x (λ p. and_then (pop p.rest) (λ q. and_then (joined yes l p.slot q.slot) (λ s. Some (push s q.rest)))))
    → and_then x (λ p. and_then (pop p.rest) (λ q. and_then (joined yes l p.slot q.slot) (λ s. Some (push s q.rest)))) ≡ Some (push (merged_slot l (top_width o) (top_width (rest_of o))) (rest_of (rest_of o)))
first_is l o None q e = cc
first_is l o (Some p) q e =
    second_is l p (pop p.rest) refl e
    ∙ (λ i. Some (push (merged_slot l (sym (width_here o p q) i) (top_width (sym (rest_is o p q) i))) (rest_of (sym (rest_is o p q) i))))

chosen_is : (l : Tag) (o : Operands Tag) → IsSome (chosen yes l o) → chosen yes l o ≡ Some (push (merged_slot l (top_width o) (top_width (rest_of o))) (rest_of (rest_of o)))
chosen_is l o e = first_is l o (pop o) refl e

select_is : (l : Tag) (o : Operands Tag) (x : Option (Operands Tag)) → ((m : Operands Tag) → x ≡ Some m → rest_of o ≡ m) → IsSome (and_then x (chosen yes l))
    → and_then x (chosen yes l) ≡ Some (push (merged_slot l (top_width (rest_of o)) (top_width (rest_of (rest_of o)))) (rests 3 o))
select_is l o None h e = cc
select_is l o (Some m) h e = chosen_is l m e ∙ (λ i. Some (push (merged_slot l (top_width (sym (h m refl) i)) (top_width (rest_of (sym (h m refl) i)))) (rest_of (rest_of (sym (h m refl) i)))))

lifted_choice : (free : Bool) (n : ℕ) (a b : Option Width) (r : Operands Tag) → after_lift (lift_of true free (n + 1) (Some (push (merged_slot (At n) a b) r))) (Some (push (merged_slot (At n) a b) r)) ≡ push (chosen_slot n (either a b)) r
lifted_choice free n None None r = refl
lifted_choice free n (Some w) b r = refl
lifted_choice free n None (Some v) r = refl

pushed_choice : (free : Bool) (n : ℕ) (name : SiteName) (a b : Option Width) (r : Operands Tag) → push_if name (lift_of true free (n + 1) (Some (push (merged_slot (At n) a b) r))) ≡ chosen_push n name (either a b)
pushed_choice free n name None None r = refl
pushed_choice free n name (Some w) b r = refl
pushed_choice free n name None (Some v) r = refl

module _ {A : Type 0} (P : BodyPlace A) (C : Context Tag) (n at : ℕ) where
  select_stepped : (l : A) (o : Operands Tag) → IsSome (stepped P C n (Select l) o) → stepped P C n (Select l) o ≡ Some (push (merged_slot (At n) (top_width (rest_of o)) (top_width (rest_of (rest_of o)))) (rests 3 o))
  select_stepped l o e = select_is (At n) o (expect yes (value_type W32 (At n)) o) (λ m q. expect_rest (value_type W32 (At n)) o m q) e

  pub select_behind : (l : A) (o : Operands Tag) → IsSome (stepped P C n (Select l) o) → after_lift (leaf_lift P C n at (Select l) o) (stepped P C n (Select l) o) ≡ selected n o
  select_behind l o e =
      ap (λ s. after_lift (lift_of true (P.free at) (n + 1) s) s) (select_stepped l o e)
      ∙ lifted_choice (P.free at) n (top_width (rest_of o)) (top_width (rest_of (rest_of o))) (rests 3 o)

  pub select_sites : (l : A) (o : Operands Tag) → IsSome (stepped P C n (Select l) o) → push_if (Push P.func at) (leaf_lift P C n at (Select l) o) ≡ chosen_push n (Push P.func at) (chosen_width o)
  select_sites l o e =
      ap (λ s. push_if (Push P.func at) (lift_of true (P.free at) (n + 1) s)) (select_stepped l o e)
      ∙ pushed_choice (P.free at) n (Push P.func at) (top_width (rest_of o)) (top_width (rest_of (rest_of o))) (rests 3 o)

-- ---- all others

is_row : {A : Type 0} (P : BodyPlace A) (C : Context Tag) (n : ℕ) (i : Leaf A) (r : Row) → is_select i ≡ false → IsRowOf P C n (Plain i) r → r ≡ row P C n i
is_row P C n (Select l) r q h = cc
is_row P C n i r q h = h

module _ {A : Type 0} (P : BodyPlace A) (C : Context Tag) (n at : ℕ) where
  -- what is done to the open blocks by a row
  pub row_behind : (op : Op A) (b : List (Open Tag)) (r : Row) → IsLeaf op → GoesBy P C n op b → is_select_op op ≡ false → IsRowOf P (among C b) n op r → on_innermost (done (n + length (own_of P at op)) r) b ≡ opens_behind P C n at op b
  row_behind (Opens shape t) b r l g q h = absurd l
  row_behind (Closes closer) b r l g q h = absurd l
  row_behind (Plain i) [] r l g q h = absurd g
  row_behind (Plain i) (v ∷ outer) r l g q h =
      ap (λ z. with_operands v (done (n + length (own_sites P at i)) z v.operands) ∷ outer) (is_row P (among C (v ∷ outer)) n i r q h)
      ∙ ap (λ z. with_operands v z ∷ outer) (sym (row_right P (among C (v ∷ outer)) n at v.operands i g q).0)

  pub row_sites : (op : Op A) (b : List (Open Tag)) (r : Row) → IsLeaf op → GoesBy P C n op b → is_select_op op ≡ false → IsRowOf P (among C b) n op r → own_of P at op ++ push_by (Push P.func at) r ≡ op_sites P C n at op b
  row_sites (Opens shape t) b r l g q h = absurd l
  row_sites (Closes closer) b r l g q h = absurd l
  row_sites (Plain i) [] r l g q h = absurd g
  row_sites (Plain i) (v ∷ outer) r l g q h =
      ap (λ z. own_sites P at i ++ push_by (Push P.func at) z) (is_row P (among C (v ∷ outer)) n i r q h)
      ∙ ap (λ z. own_sites P at i ++ z) (sym (row_right P (among C (v ∷ outer)) n at v.operands i g q).1)

  abbrev IsChosen : Op A → List (Open Tag) → Type 0
  IsChosen op b = (on_innermost (selected n) b ≡ opens_behind P C n at op b) × (own_of P at op ++ chosen_push n (Push P.func at) (of_innermost chosen_width b) ≡ op_sites P C n at op b)

  leaf_chosen : (i : Leaf A) (v : Open Tag) (outer : List (Open Tag)) → is_select i ≡ true → IsSome (stepped P (among C (v ∷ outer)) n i v.operands) → IsChosen (Plain i) (v ∷ outer)
  leaf_chosen (Select l) v outer q g = (
    ap (λ z. with_operands v z ∷ outer) (sym (select_behind P (among C (v ∷ outer)) n at l v.operands g)),
    ap (λ z. own_sites P at (Select l) ++ z) (sym (select_sites P (among C (v ∷ outer)) n at l v.operands g)),
  )
  leaf_chosen _ v outer q g = cc

  pub chosen_law : (op : Op A) (b : List (Open Tag)) → IsLeaf op → GoesBy P C n op b → is_select_op op ≡ true → IsChosen op b
  chosen_law (Opens shape t) b l g q = absurd l
  chosen_law (Closes closer) b l g q = absurd l
  chosen_law (Plain i) [] l g q = absurd g
  chosen_law (Plain i) (v ∷ outer) l g q = leaf_chosen i v outer q g

  pub own_within : (op : Op A) (b : List (Open Tag)) → IsLeaf op → GoesBy P C n op b → own_count P op ≤ length (op_sites P C n at op b)
  own_within (Opens shape t) b l g = absurd l
  own_within (Closes closer) b l g = absurd l
  own_within (Plain i) [] l g = absurd g
  own_within (Plain i) (v ∷ outer) l g =
      let a = length-append (own_sites P at i) (push_if (Push P.func at) (leaf_lift P (among C (v ∷ outer)) n at i v.operands)) in
      let o = own_length P at (Plain i) in
      omega (arith, a, o)

leaf_own : {A : Type 0} (P : BodyPlace A) (at : ℕ) (i : Leaf A) → is_select i ≡ true → length (own_sites P at i) ≡ 1
leaf_own P at (Select l) q = refl
leaf_own P at _ q = cc

pub chosen_own : {A : Type 0} (P : BodyPlace A) (at : ℕ) (op : Op A) → is_select_op op ≡ true → length (own_of P at op) ≡ 1
chosen_own P at (Plain i) q = leaf_own P at i q
chosen_own P at (Opens shape t) q = cc
chosen_own P at (Closes closer) q = cc
