-- Where the values go that opcodes without instructions inside push.
use Rattle.std.proofs.Common.{◌≡◌, ℕ, ◌+◌, Bool, true, false, List, [], ◌∷◌, ◌++◌, length, Option, Some, None, if◌then◌else◌, refl, sym, ◌∙◌, ap, arith, length-append}
use Rattle.std.specs.Prelude.{IsSome, option_map}
use Rattle.ctw_ops.specs.declared.types.Trust.{Trust}
use Rattle.ctw_ops.specs.declared.types.Width.{Width}
use Rattle.ctw_ops.specs.Types.{ValueType, value_type}
use Rattle.ctw_ops.specs.Code.{Leaf, CallIndirect, Select, Op, Plain, Opens, Closes}
use Rattle.ctw_ops.specs.Typing.{Context, optional}
use Rattle.ctw_stack.specs.declared.slot.Slot.{Slot}
use Rattle.ctw_stack.specs.declared.slot.Slot.TheVariants.{Known, Wide, Unknown}
use Rattle.ctw_stack.specs.Operands.{Operands, push}
use Rattle.ctw_stack.specs.Opens.{Open}
use Rattle.ctw_stack.specs.Steps.{pushes}
use Rattle.ctw_labels.specs.declared.tag.Tag.{Tag}
use Rattle.ctw_labels.specs.declared.tag.Tag.TheVariants.{At, Fixed}
use Rattle.ctw_labels.specs.declared.name.SiteName.{SiteName}
use Rattle.ctw_labels.specs.declared.name.SiteName.TheVariants.{Push}
use Rattle.ctw_labels.specs.Names.{Site, push_site, site_number}
use Rattle.ctw_labels.specs.Sited.{Lift}
use Rattle.ctw_labels.specs.Numbering.{BodyPlace, own_sites, has_push, push_if, lift_of, after_lift, stepped, leaf_lift}
use Rattle.ctw_labels.specs.FlatSites.{among, GoesBy, opens_behind, op_sites}
use Rattle.ctw_sites.specs.Rows.{Row, row, is_select, push_of, push_by, done}
use Rattle.ctw_sites.specs.Leaves.{IsRowOf, IsLeaf, is_select_op, own_of, chosen_width, chosen_slot, chosen_push}
use Rattle.ctw_sites.specs.Stacks.{on_innermost, of_innermost}
use Rattle.ctw_sites.proofs.RowLaws.{row_right}
use Rattle.ctw_sites.proofs.PassLaws.{select_behind, select_sites, row_behind, chosen_own}
use Rattle.ctw_place.specs.Walks.{lift_to, lift_by, chosen_lift, next_site, op_lift}

same_number : (a b : Tag) → site_number a ≡ site_number b → a ≡ b
same_number (At n) (At k) e = let q : n ≡ k = cc in ap At q
same_number (At n) Fixed e = cc
same_number Fixed (At k) e = cc
same_number Fixed Fixed e = refl

-- ---- by a row

module _ (free : Bool) (p : ℕ) (name : SiteName) where
  none_by : (c : Bool) (g : Option (ValueType Tag)) → [] ≡ (if c then push_of name g else []) → None ≡ (if c then option_map (lift_to p free) g else None)
  none_by true None e = refl
  none_by true (Some t) e = cc
  none_by false g e = refl

  some_by : (w : Width) (a : Tag) (c : Bool) (g : Option (ValueType Tag)) (o : Operands Tag) (xs : List (Slot Tag)) → push_site name (site_number a) ∷ [] ≡ (if c then push_of name g else [])
      → Known w (At p) ∷ xs ≡ (pushes (optional (if c then option_map (λ t. value_type t.width (At p)) g else g)) o).slots → Some (lift_to p free (value_type w a)) ≡ (if c then option_map (lift_to p free) g else None)
  some_by w a true None o xs e k = absurd cc
  some_by w a true (Some t) o xs e k =
      let s : push_site name (site_number a) ≡ push_site name (site_number t.tag) = cc in
      let b : a ≡ t.tag = same_number a t.tag (ap (λ z. z.yields) s) in
      let u : w ≡ t.width = cc in
      λ i. Some (lift_to p free (value_type (u i) (b i)))
  some_by w a false g o xs e k = absurd cc

  by_slots : (d : Bool) (xs : List (Slot Tag)) (o : Operands Tag) (r : Row) → after_lift (lift_of true free p (Some (record { dead = d; slots = xs }))) (Some (record { dead = d; slots = xs })) ≡ done p r o
      → push_if name (lift_of true free p (Some (record { dead = d; slots = xs }))) ≡ push_by name r → lift_of true free p (Some (record { dead = d; slots = xs })) ≡ lift_by p free r
  by_slots d [] o r e k = none_by r.lifts r.gives k
  by_slots d (Known w a ∷ xs) o r e k = some_by w a r.lifts r.gives _ xs k (ap (λ z. z.slots) e)
  by_slots d (Wide a ∷ xs) o r e k = none_by r.lifts r.gives k
  by_slots d (Unknown ∷ xs) o r e k = none_by r.lifts r.gives k

  lift_from : (b : Bool) (s : Option (Operands Tag)) (o : Operands Tag) (r : Row) → IsSome s → after_lift (lift_of b free p s) s ≡ done p r o → push_if name (lift_of b free p s) ≡ push_by name r → lift_of b free p s ≡ lift_by p free r
  lift_from b None o r i e k = cc
  lift_from false (Some m) o r i e k = none_by r.lifts r.gives k
  lift_from true (Some m) o r i e k = by_slots m.dead m.slots o r e k

is_row : {A : Type 0} (P : BodyPlace A) (C : Context Tag) (n : ℕ) (i : Leaf A) (r : Row) → is_select i ≡ false → IsRowOf P C n (Plain i) r → r ≡ row P C n i
is_row P C n (Select l) r q h = cc
is_row P C n i r q h = h

pub row_lift : {A : Type 0} (P : BodyPlace A) (C : Context Tag) (n at : ℕ) (op : Op A) (b : List (Open Tag)) (r : Row) → IsLeaf op → GoesBy P C n op b → is_select_op op ≡ false → IsRowOf P (among C b) n op r
    → lift_by (n + length (own_of P at op)) (P.free at) r ≡ op_lift P C n at op b
row_lift P C n at (Opens shape t) b r l g q h = absurd l
row_lift P C n at (Closes closer) b r l g q h = absurd l
row_lift P C n at (Plain i) [] r l g q h = absurd g
row_lift P C n at (Plain i) (v ∷ outer) r l g q h =
    let D : Context Tag = among C (v ∷ outer) in
    let k = row_right P D n at v.operands i g q in
    ap (lift_by (n + length (own_sites P at i)) (P.free at)) (is_row P D n i r q h)
    ∙ sym (lift_from (P.free at) (n + length (own_sites P at i)) (Push P.func at) (has_push P D i) (stepped P D n i v.operands) v.operands (row P D n i) g k.0 k.1)

-- ---- `select`

module _ (free : Bool) (n : ℕ) (name : SiteName) where
  no_choice : (w : Option Width) → [] ≡ chosen_push n name w → None ≡ chosen_lift n free w
  no_choice None e = refl
  no_choice (Some w) e = cc

  a_choice : (v : Width) (a : Tag) (w : Option Width) (o : Operands Tag) (xs : List (Slot Tag)) → push_site name (site_number a) ∷ [] ≡ chosen_push n name w → Known v (At (n + 1)) ∷ xs ≡ (push (chosen_slot n w) o).slots
      → Some (lift_to (n + 1) free (value_type v a)) ≡ chosen_lift n free w
  a_choice v a None o xs e k = absurd cc
  a_choice v a (Some w) o xs e k =
      let s : push_site name (site_number a) ≡ push_site name (Some n) = cc in
      let b : a ≡ At n = same_number a (At n) (ap (λ z. z.yields) s) in
      let u : v ≡ w = cc in
      λ i. Some (lift_to (n + 1) free (value_type (u i) (b i)))

  chosen_slots : (d : Bool) (xs : List (Slot Tag)) (w : Option Width) (o : Operands Tag) → after_lift (lift_of true free (n + 1) (Some (record { dead = d; slots = xs }))) (Some (record { dead = d; slots = xs })) ≡ push (chosen_slot n w) o
      → push_if name (lift_of true free (n + 1) (Some (record { dead = d; slots = xs }))) ≡ chosen_push n name w → lift_of true free (n + 1) (Some (record { dead = d; slots = xs })) ≡ chosen_lift n free w
  chosen_slots d [] w o e k = no_choice w k
  chosen_slots d (Known v a ∷ xs) w o e k = a_choice v a w o xs k (ap (λ z. z.slots) e)
  chosen_slots d (Wide a ∷ xs) w o e k = no_choice w k
  chosen_slots d (Unknown ∷ xs) w o e k = no_choice w k

  chosen_from : (s : Option (Operands Tag)) (w : Option Width) (o : Operands Tag) → IsSome s → after_lift (lift_of true free (n + 1) s) s ≡ push (chosen_slot n w) o → push_if name (lift_of true free (n + 1) s) ≡ chosen_push n name w → lift_of true free (n + 1) s ≡ chosen_lift n free w
  chosen_from None w o i e k = cc
  chosen_from (Some m) w o i e k = chosen_slots m.dead m.slots w o e k

leaf_chosen : {A : Type 0} (P : BodyPlace A) (C : Context Tag) (n at : ℕ) (i : Leaf A) (v : Open Tag) (outer : List (Open Tag)) → is_select i ≡ true → IsSome (stepped P (among C (v ∷ outer)) n i v.operands)
    → chosen_lift n (P.free at) (chosen_width v.operands) ≡ leaf_lift P (among C (v ∷ outer)) n at i v.operands
leaf_chosen P C n at (Select l) v outer q g =
    let D : Context Tag = among C (v ∷ outer) in
    sym (chosen_from (P.free at) n (Push P.func at) (stepped P D n (Select l) v.operands) (chosen_width v.operands) _ g (select_behind P D n at l v.operands g) (select_sites P D n at l v.operands g))
leaf_chosen P C n at _ v outer q g = cc

pub select_lift : {A : Type 0} (P : BodyPlace A) (C : Context Tag) (n at : ℕ) (op : Op A) (b : List (Open Tag)) → IsLeaf op → GoesBy P C n op b → is_select_op op ≡ true
    → chosen_lift n (P.free at) (of_innermost chosen_width b) ≡ op_lift P C n at op b
select_lift P C n at (Opens shape t) b l g q = absurd l
select_lift P C n at (Closes closer) b l g q = absurd l
select_lift P C n at (Plain i) [] l g q = absurd g
select_lift P C n at (Plain i) (v ∷ outer) l g q = leaf_chosen P C n at i v outer q g

-- ---- how many sites there are

next_length : (name : SiteName) (xs : List Site) (n : ℕ) (l : Option (Lift Tag)) → n + length (xs ++ push_if name l) ≡ next_site (n + length xs) l
next_length name xs n None = let h = length-append xs [] in omega (arith, h)
next_length name xs n (Some l) = let h = length-append xs (push_site name (site_number l.source) ∷ []) in omega (arith, h)

pub leaf_next : {A : Type 0} (P : BodyPlace A) (C : Context Tag) (n at : ℕ) (op : Op A) (b : List (Open Tag)) → IsLeaf op → GoesBy P C n op b → n + length (op_sites P C n at op b) ≡ next_site (n + length (own_of P at op)) (op_lift P C n at op b)
leaf_next P C n at (Opens shape t) b l g = absurd l
leaf_next P C n at (Closes closer) b l g = absurd l
leaf_next P C n at (Plain i) [] l g = absurd g
leaf_next P C n at (Plain i) (v ∷ outer) l g = next_length (Push P.func at) (own_sites P at i) n (leaf_lift P (among C (v ∷ outer)) n at i v.operands)

-- behind a `select`
pub select_next : {A : Type 0} (P : BodyPlace A) (C : Context Tag) (n at : ℕ) (op : Op A) (b : List (Open Tag)) (f : Bool) → IsLeaf op → GoesBy P C n op b → is_select_op op ≡ true → f ≡ P.free at
    → next_site (n + 1) (chosen_lift n f (of_innermost chosen_width b)) ≡ n + length (op_sites P C n at op b)
select_next P C n at op b f l g q e =
    ap (λ z. next_site (n + 1) (chosen_lift n z (of_innermost chosen_width b))) e
    ∙ ap (next_site (n + 1)) (select_lift P C n at op b l g q)
    ∙ ap (λ z. next_site (n + z) (op_lift P C n at op b)) (sym (chosen_own P at op q))
    ∙ sym (leaf_next P C n at op b l g)

pub select_at : {A : Type 0} (P : BodyPlace A) (C : Context Tag) (n at : ℕ) (op : Op A) (b : List (Open Tag)) (f : Bool) → IsLeaf op → GoesBy P C n op b → is_select_op op ≡ true → f ≡ P.free at
    → chosen_lift n f (of_innermost chosen_width b) ≡ op_lift P C n at op b
select_at P C n at op b f l g q e = ap (λ z. chosen_lift n z (of_innermost chosen_width b)) e ∙ select_lift P C n at op b l g q

-- behind all others, whose own sites end at `s`
module _ {A : Type 0} (P : BodyPlace A) (C : Context Tag) (n at : ℕ) (op : Op A) (b : List (Open Tag)) (r : Row) (l : IsLeaf op) (g : GoesBy P C n op b) (q : is_select_op op ≡ false) (h : IsRowOf P (among C b) n op r) (s : ℕ) (e : s ≡ n + length (own_of P at op)) where
  pub others_lift : (f : Bool) → f ≡ P.free at → lift_by s f r ≡ op_lift P C n at op b
  others_lift f k = (λ i. lift_by (e i) (k i) r) ∙ row_lift P C n at op b r l g q h

  pub others_next : next_site s (op_lift P C n at op b) ≡ n + length (op_sites P C n at op b)
  others_next = ap (λ z. next_site z (op_lift P C n at op b)) e ∙ sym (leaf_next P C n at op b l g)

  pub others_behind : on_innermost (done s r) b ≡ opens_behind P C n at op b
  others_behind = ap (λ z. on_innermost (done z r) b) e ∙ row_behind P C n at op b r l g q h

-- ---- rows under points

module _ {A : Type 0} (P : BodyPlace A) (C : Context Tag) (free : ℕ → Bool) (t : Trust) (n : ℕ) where
  row_under : (i : Leaf A) → row P C n i ≡ row (record P { free = free }) (record C { trust = t }) n i
  row_under (CallIndirect y) = refl
  row_under i = refl

  leaf_row_under : (i : Leaf A) (r : Row) → IsRowOf P C n (Plain i) r → IsRowOf (record P { free = free }) (record C { trust = t }) n (Plain i) r
  leaf_row_under (Select l) r h = tt
  leaf_row_under i r h = h ∙ row_under i

  pub is_row_under : (op : Op A) (r : Row) → IsRowOf P C n op r → IsRowOf (record P { free = free }) (record C { trust = t }) n op r
  is_row_under (Plain i) r h = leaf_row_under i r h
  is_row_under (Opens shape u) r h = h
  is_row_under (Closes closer) r h = h
