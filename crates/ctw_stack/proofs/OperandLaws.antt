-- The operations on one block's operands are exact.
use Rattle.std.proofs.Common.{◌≡◌, Bool, true, false, List, [], ◌∷◌, Option, Some, None, refl, sym, ◌∙◌, ap, subst}
use Rattle.std.specs.Prelude.{◌↔◌, ◌&&◌}
use Rattle.ctw_ops.specs.declared.types.Width.{Width}
use Rattle.ctw_ops.specs.declared.types.Width.TheVariants.{W32, W64}
use Rattle.ctw_ops.specs.Types.{ValueType, value_type}
use Rattle.ctw_ops.specs.Typing.{upon, Moves, Leaves}
use Rattle.ctw_ops.specs.Segments.{and_then}
use Rattle.ctw_stack.specs.declared.slot.Slot.{Slot}
use Rattle.ctw_stack.specs.declared.slot.Slot.TheVariants.{Known, Wide, Unknown}
use Rattle.ctw_stack.specs.Operands.{Operands, Popped, Fits, Holds, Denotes, killed, pop, pop_from, push}
use Rattle.ctw_ops.specs.Equal.{same_width}
use Rattle.ctw_stack.specs.Steps.{IsExactTest, push_type, pushes, dropped, width_of, merged, when, fits, expect, expects, may_have, joined, chosen, moved, left_by}
use Rattle.ctw_stack.proofs.Exact.{Types, Rel, Image, Exact, exact_iff, exact_after, exact_and_then, Seq}

pub same_width_iff : (v w : Width) → (same_width v w ≡ true) ↔ (v ≡ w)
same_width_iff W32 W32 = ((λ e. refl), (λ e. refl))
same_width_iff W64 W64 = ((λ e. refl), (λ e. refl))
same_width_iff W32 W64 = ((λ e. cc), (λ e. cc))
same_width_iff W64 W32 = ((λ e. cc), (λ e. cc))

pub and_iff : (x y : Bool) (P Q : Type 0) → ((x ≡ true) ↔ P) → ((y ≡ true) ↔ Q) → ((x && y) ≡ true) ↔ (P × Q)
and_iff true y P Q p q = ((λ e. (p.0 refl, q.0 e)), (λ i. q.1 i.1))
and_iff false y P Q p q = ((λ e. absurd (no e)), (λ i. p.1 i.0))
  where
    no : false ≡ true → ⊥
    no e = cc

pub true_iff : {P : Type 0} → P → (true ≡ true) ↔ P
true_iff p = ((λ e. p), (λ q. refl))

pub false_true : {P : Type 0} → false ≡ true → P
false_true e = cc

module _ {S : Type 0} (same : S → S → Bool) (eq : IsExactTest same) where
  pub fits_iff : (x : Slot S) (t : ValueType S) → (fits same x t ≡ true) ↔ Fits x t
  fits_iff (Known w a) t = and_iff (same_width w t.width) (same a t.tag) _ _ (same_width_iff w t.width) (eq a t.tag)
  fits_iff (Wide a) t = eq a t.tag
  fits_iff Unknown t = true_iff tt

  head_same : {A : Type 0} {x y : A} {xs ys : List A} → x ∷ xs ≡ y ∷ ys → x ≡ y
  head_same e = cc

  tail_same : {A : Type 0} {x y : A} {xs ys : List A} → x ∷ xs ≡ y ∷ ys → xs ≡ ys
  tail_same e = cc

  no_cons : {A : Type 0} {x : A} {xs : List A} → [] ≡ x ∷ xs → ⊥
  no_cons e = cc

  ty_same : (t u : ValueType S) → t.width ≡ u.width → t.tag ≡ u.tag → t ≡ u
  ty_same t u p q = λ i. record { width = p i; tag = q i }

  pub exact_push : (t : ValueType S) (s : Operands S) → Exact s (Some (push_type t s)) (λ a b. b ≡ t ∷ a)
  exact_push t s [] = ((λ d. absurd d), (λ i. no_cons i.2))
  exact_push t s (u ∷ us) = ((λ d. (us, d.1, ap (λ z. z ∷ us) (sym (ty_same t u d.0.0 d.0.1)))), (λ i. back i.0 i.1 i.2))
    where
      back : (a : Types S) → Denotes s a → u ∷ us ≡ t ∷ a → Denotes (push_type t s) (u ∷ us)
      back a d e = let h = head_same e in ((ap (λ z. z.width) (sym h), ap (λ z. z.tag) (sym h)), subst (λ z. Denotes s z) (sym (tail_same e)) d)

  pub exact_pushes : (ts : List (ValueType S)) (s : Operands S) → Exact s (Some (pushes ts s)) (λ a b. b ≡ upon ts a)
  exact_pushes [] s = λ b. ((λ d. (b, d, refl)), (λ i. subst (λ z. Denotes s z) (sym i.2) i.1))
  exact_pushes (t ∷ ts) s =
      exact_iff s (Some (pushes ts (push_type t s))) (Seq (λ a b. b ≡ t ∷ a) (λ a b. b ≡ upon ts a)) (λ a b. b ≡ upon ts (t ∷ a))
      (λ a b. ((λ i. i.2 ∙ ap (upon ts) i.1), (λ e. (t ∷ a, refl, e))))
      (exact_after s (push_type t s) (Some (pushes ts (push_type t s))) (λ a b. b ≡ t ∷ a) (λ a b. b ≡ upon ts a) (exact_push t s) (exact_pushes ts (push_type t s)))

  -- takes one value_type of a type off
  abbrev pub Takes : ValueType S → Rel S
  Takes t a b = a ≡ t ∷ b

  exact_expect_from : (t : ValueType S) (dead : Bool) (xs : List (Slot S)) → Exact (record { dead = dead; slots = xs }) (expect same t (record { dead = dead; slots = xs })) (Takes t)
  exact_expect_from t false [] = λ a b d e. no_cons (sym d ∙ e)
  exact_expect_from t true [] = λ b. ((λ d. (t ∷ b, tt, refl)), (λ i. tt))
  exact_expect_from t dead (x ∷ xs) = by_test (fits same x t) (fits_iff x t)
    where
      by_test : (test : Bool) → (test ≡ true) ↔ Fits x t → Exact (record { dead = dead; slots = x ∷ xs }) (when test (Some (record { dead = dead; slots = xs }))) (Takes t)
      by_test false f = λ a b d e. let h : Fits x t × Holds dead xs b = subst (λ z. Holds dead (x ∷ xs) z) e d in false_true (f.1 h.0)
      by_test true f = λ b. ((λ d. (t ∷ b, (f.0 refl, d), refl)), (λ i. let h : Fits x t × Holds dead xs b = subst (λ z. Holds dead (x ∷ xs) z) i.2 i.1 in h.1))

  pub exact_expect : (t : ValueType S) (s : Operands S) → Exact s (expect same t s) (Takes t)
  exact_expect t s = exact_expect_from t s.dead s.slots

  pub exact_expects : (ts : List (ValueType S)) (s : Operands S) → Exact s (expects same ts s) (λ a b. a ≡ upon ts b)
  exact_expects [] s = λ b. ((λ d. (b, d, refl)), (λ i. subst (λ z. Denotes s z) i.2 i.1))
  exact_expects (t ∷ ts) s =
      exact_iff s (expects same (t ∷ ts) s) (Seq (λ a b. a ≡ upon ts b) (Takes t)) (λ a b. a ≡ upon ts (t ∷ b))
      (λ a b. ((λ i. i.1 ∙ ap (upon ts) i.2), (λ e. (t ∷ b, e, refl))))
      (exact_and_then s (expects same ts s) (expect same t) (λ a b. a ≡ upon ts b) (Takes t) (exact_expects ts s) (exact_expect t))

  pub exact_moved : (takes gives : List (ValueType S)) (s : Operands S) → Exact s (moved same takes gives s) (Moves takes gives)
  exact_moved takes gives s =
      exact_iff s (moved same takes gives s) (Seq (λ a b. a ≡ upon takes b) (λ a b. b ≡ upon gives a)) (Moves takes gives)
      (λ a b. ((λ i. i), (λ i. i)))
      (exact_and_then s (expects same takes s) (λ m. Some (pushes gives m)) (λ a b. a ≡ upon takes b) (λ a b. b ≡ upon gives a) (exact_expects takes s) (exact_pushes gives))

  -- what a slot says of a tag, and of a width
  abbrev TagOk : Slot S → S → Type 0
  TagOk (Known w a) b = a ≡ b
  TagOk (Wide a) b = a ≡ b
  TagOk Unknown b = Unit {0}

  abbrev WidthOk : Option Width → Width → Type 0
  WidthOk None w = Unit {0}
  WidthOk (Some v) w = v ≡ w

  fits_parts : (x : Slot S) (t : ValueType S) → Fits x t ↔ (WidthOk (width_of x) t.width × TagOk x t.tag)
  fits_parts (Known w a) t = ((λ f. f), (λ f. f))
  fits_parts (Wide a) t = ((λ f. (tt, f)), (λ f. f.1))
  fits_parts Unknown t = ((λ f. (tt, tt)), (λ f. tt))

  may_have_iff : (l : S) (x : Slot S) → (may_have same l x ≡ true) ↔ TagOk x l
  may_have_iff l (Known w a) = eq a l
  may_have_iff l (Wide a) = eq a l
  may_have_iff l Unknown = true_iff tt

  -- a slot that is just where both of two are with the tag
  abbrev IsMerged : S → Option Width → Option Width → Option (Slot S) → Type 0
  IsMerged l p q None = (t : ValueType S) → t.tag ≡ l → WidthOk p t.width → WidthOk q t.width → ⊥
  IsMerged l p q (Some z) = (t : ValueType S) → Fits z t ↔ ((t.tag ≡ l) × WidthOk p t.width × WidthOk q t.width)

  merged_law : (l : S) (p q : Option Width) → IsMerged l p q (merged l p q)
  merged_law l None None = λ t. ((λ f. (sym f, tt, tt)), (λ i. sym i.0))
  merged_law l (Some w) None = λ t. ((λ f. (sym f.1, f.0, tt)), (λ i. (i.1, sym i.0)))
  merged_law l None (Some v) = λ t. ((λ f. (sym f.1, tt, f.0)), (λ i. (i.2, sym i.0)))
  merged_law l (Some w) (Some v) = by_test (same_width w v) (same_width_iff w v)
    where
      by_test : (test : Bool) → (test ≡ true) ↔ (w ≡ v) → IsMerged l (Some w) (Some v) (when test (Some (Known w l)))
      by_test false f = λ t e p q. false_true (f.1 (p ∙ sym q))
      by_test true f = λ t. ((λ h. (sym h.1, h.0, sym (f.0 refl) ∙ h.0)), (λ i. (i.1, sym i.0)))

  abbrev IsJoined : S → Slot S → Slot S → Option (Slot S) → Type 0
  IsJoined l x y None = (t : ValueType S) → t.tag ≡ l → Fits x t → Fits y t → ⊥
  IsJoined l x y (Some z) = (t : ValueType S) → Fits z t ↔ ((t.tag ≡ l) × Fits x t × Fits y t)

  joined_law : (l : S) (x y : Slot S) → IsJoined l x y (joined same l x y)
  joined_law l x y = by_test (may_have same l x && may_have same l y) (and_iff _ _ _ _ (may_have_iff l x) (may_have_iff l y))
    where
      tags : (t : ValueType S) → t.tag ≡ l → Fits x t → Fits y t → TagOk x l × TagOk y l
      tags t e f g = (subst (TagOk x) e ((fits_parts x t).0 f).1, subst (TagOk y) e ((fits_parts y t).0 g).1)

      by_merge : TagOk x l × TagOk y l → (r : Option (Slot S)) → IsMerged l (width_of x) (width_of y) r → IsJoined l x y r
      by_merge k None m = λ t e f g. m t e ((fits_parts x t).0 f).0 ((fits_parts y t).0 g).0
      by_merge k (Some z) m = λ t. (
        (λ f. let i = (m t).0 f in (i.0, (fits_parts x t).1 (i.1, subst (TagOk x) (sym i.0) k.0), (fits_parts y t).1 (i.2, subst (TagOk y) (sym i.0) k.1))),
        (λ i. (m t).1 (i.0, ((fits_parts x t).0 i.1).0, ((fits_parts y t).0 i.2).0)),
      )

      by_test : (test : Bool) → (test ≡ true) ↔ (TagOk x l × TagOk y l) → IsJoined l x y (when test (merged l (width_of x) (width_of y)))
      by_test false f = λ t e p q. false_true (f.1 (tags t e p q))
      by_test true f = by_merge (f.0 refl) (merged l (width_of x) (width_of y)) (merged_law l (width_of x) (width_of y))

  -- what a pop says of the stacks that aren't empty
  abbrev pub IsPopped : Operands S → Option (Popped S) → Type 0
  IsPopped s None = (t : ValueType S) (b : Types S) → Denotes s (t ∷ b) → ⊥
  IsPopped s (Some p) = (t : ValueType S) (b : Types S) → Denotes s (t ∷ b) ↔ (Fits p.slot t × Denotes p.rest b)

  popped_from : (dead : Bool) (xs : List (Slot S)) → IsPopped (record { dead = dead; slots = xs }) (pop_from dead xs)
  popped_from false [] = λ t b d. no_cons (sym d)
  popped_from true [] = λ t b. ((λ d. (tt, tt)), (λ i. tt))
  popped_from dead (x ∷ xs) = λ t b. ((λ d. d), (λ i. i))

  pub popped_law : (s : Operands S) → IsPopped s (pop s)
  popped_law s = popped_from s.dead s.slots

  -- two values of one width and the tag, for one of these
  abbrev pub Chooses : S → Rel S
  Chooses l a b = (w : Width) × (kept : List (ValueType S)) × (a ≡ value_type w l ∷ value_type w l ∷ kept) × (b ≡ value_type w l ∷ kept)

  module _ (l : S) (s : Operands S) where
    with_slot : (p q : Popped S) → IsPopped s (Some p) → IsPopped p.rest (Some q) → (r : Option (Slot S)) → IsJoined l p.slot q.slot r → Exact s (and_then r (λ x. Some (push x q.rest))) (Chooses l)
    with_slot p q h k None j = λ a b d i.
        let v = value_type i.0 l in
        let x = (h v (v ∷ i.1)).0 (subst (Denotes s) i.2 d) in
        let y = (k v i.1).0 x.1 in
        j v refl x.0 y.0
    with_slot p q h k (Some z) j = at
      where
        at : (b : Types S) → Denotes (push z q.rest) b ↔ Image s (Chooses l) b
        at [] = ((λ d. absurd d), (λ i. no_cons i.2.3))
        at (u ∷ us) = (
          (λ d.
              let f = (j u).0 d.0 in
              let e : u ≡ value_type u.width l = ty_same u (value_type u.width l) refl f.0 in
              (u ∷ u ∷ us, (h u (u ∷ us)).1 (f.1, (k u us).1 (f.2, d.1)), (u.width, us, ap (λ v. v ∷ v ∷ us) e, ap (λ v. v ∷ us) e))),
          (λ i.
              let v = value_type i.2.0 l in
              let x = (h v (v ∷ i.2.1)).0 (subst (Denotes s) i.2.2 i.1) in
              let y = (k v i.2.1).0 x.1 in
              let back : Denotes (push z q.rest) (v ∷ i.2.1) = ((j v).1 (refl, x.0, y.0), y.1) in
              subst (Denotes (push z q.rest)) (sym i.2.3) back),
        )

    second : (p : Popped S) → IsPopped s (Some p) → (r : Option (Popped S)) → IsPopped p.rest r → Exact s (and_then r (λ q. and_then (joined same l p.slot q.slot) (λ x. Some (push x q.rest)))) (Chooses l)
    second p h None k = λ a b d i.
        let v = value_type i.0 l in
        k v i.1 ((h v (v ∷ i.1)).0 (subst (Denotes s) i.2 d)).1
    second p h (Some q) k = with_slot p q h k (joined same l p.slot q.slot) (joined_law l p.slot q.slot)

    first : (r : Option (Popped S)) → IsPopped s r → Exact s (and_then r (λ p. and_then (pop p.rest) (λ q. and_then (joined same l p.slot q.slot) (λ x. Some (push x q.rest))))) (Chooses l)
    first None h = λ a b d i. let v = value_type i.0 l in h v (v ∷ i.1) (subst (Denotes s) i.2 d)
    first (Some p) h = second p h (pop p.rest) (popped_law p.rest)

    pub exact_chosen : Exact s (chosen same l s) (Chooses l)
    exact_chosen = first (pop s) (popped_law s)

  module _ (some : S) where
    pub inhabits : (x : Slot S) → (t : ValueType S) × Fits x t
    inhabits (Known w a) = (record { width = w; tag = a }, (refl, refl))
    inhabits (Wide a) = (record { width = W32; tag = a }, refl)
    inhabits Unknown = (record { width = W32; tag = some }, tt)

    pub inhabited : (dead : Bool) (xs : List (Slot S)) → (a : Types S) × Holds dead xs a
    inhabited false [] = ([], refl)
    inhabited true [] = ([], tt)
    inhabited dead (x ∷ xs) = let h = inhabits x in let r = inhabited dead xs in (h.0 ∷ r.0, (h.1, r.1))

    pub exact_dead : (s : Operands S) → Exact s (Some killed) (λ a b. Unit {0})
    exact_dead s = λ b. ((λ d. let h = inhabited s.dead s.slots in (h.0, h.1, tt)), (λ i. tt))

    pub exact_left : (takes : List (ValueType S)) (s : Operands S) → Exact s (left_by same takes s) (Leaves takes)
    exact_left takes s =
        exact_iff s (left_by same takes s) (Seq (λ a b. a ≡ upon takes b) (λ a b. Unit {0})) (Leaves takes)
        (λ a b. ((λ i. (i.0, i.1)), (λ i. (i.0, i.1, tt))))
        (exact_and_then s (expects same takes s) (λ m. Some killed) (λ a b. a ≡ upon takes b) (λ a b. Unit {0}) (exact_expects takes s) exact_dead)

    exact_dropped_from : (dead : Bool) (xs : List (Slot S)) → Exact (record { dead = dead; slots = xs }) (dropped (record { dead = dead; slots = xs })) (λ a b. (t : ValueType S) × Takes t a b)
    exact_dropped_from false [] = λ a b d e. no_cons (sym d ∙ e.1)
    exact_dropped_from true [] = λ b. ((λ d. (record { width = W32; tag = some } ∷ b, tt, (record { width = W32; tag = some }, refl))), (λ i. tt))
    exact_dropped_from dead (x ∷ xs) = λ b. (
      (λ d. let h = inhabits x in (h.0 ∷ b, (h.1, d), (h.0, refl))),
      (λ i. let h : Fits x i.2.0 × Holds dead xs b = subst (λ z. Holds dead (x ∷ xs) z) i.2.1 i.1 in h.1),
    )

    pub exact_dropped : (s : Operands S) → Exact s (dropped s) (λ a b. (t : ValueType S) × Takes t a b)
    exact_dropped s = exact_dropped_from s.dead s.slots
