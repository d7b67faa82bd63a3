-- Table users: each is alike the first that erases alike just where each is alike each other one.
use Rattle.std.proofs.Common.{◌≡◌, ℕ, Bool, true, false, List, [], ◌∷◌, Option, Some, None, refl, sym, ◌∙◌, ap, subst, ◌⊎◌, inl, inr}
use Rattle.std.specs.Prelude.{◌&&◌, map, option_map, if◌then◌else◌}
use Rattle.std.specs.List.{AllByRecursion}
use Rattle.ctw_ops.specs.declared.types.Width.{Width}
use Rattle.ctw_ops.specs.declared.types.Width.TheVariants.{W32, W64}
use Rattle.ctw_ops.specs.declared.types.Label.{Label}
use Rattle.ctw_ops.specs.Equal.{same_label, same_width}
use Rattle.ctw_ops.specs.Types.{ValueType, FunctionType}
use Rattle.ctw_ops.specs.Typing.{optional}
use Rattle.ctw_stack.specs.Tags.{type_to}
use Rattle.ctw_ops.specs.TagMaps.{function_type_to}
use Rattle.ctw_labels.specs.Links.{Fact, after}
use Rattle.ctw_labels.specs.ModuleLinks.{same_widths, erase_alike, first_alike, tag_facts, type_facts, user_facts}
use Rattle.ctw_labels.proofs.FactLaws.{all_hold, hold_append}
use Rattle.ctw_labels.proofs.PlaceLaws.{same_label_iff}
use Rattle.ctw_labels.proofs.ObeyLaws.{and_parts, and_both}

pub width_same : (v w : Width) → same_width v w ≡ true → v ≡ w
width_same W32 W32 e = refl
width_same W64 W64 e = refl
width_same W32 W64 e = cc
width_same W64 W32 e = cc

pub width_refl : (v : Width) → same_width v v ≡ true
width_refl W32 = refl
width_refl W64 = refl

widths_refl : {S : Type 0} (ts : List (ValueType S)) → same_widths ts ts ≡ true
widths_refl [] = refl
widths_refl (t ∷ ts) = and_both (same_width t.width t.width) (same_widths ts ts) (width_refl t.width) (widths_refl ts)

pub alike_refl : {S : Type 0} (g : FunctionType S) → erase_alike g g ≡ true
alike_refl g = and_both (same_widths g.params g.params) _ (widths_refl g.params) (widths_refl (optional g.result))

widths_sym : {S T : Type 0} (ts : List (ValueType S)) (us : List (ValueType T)) → same_widths ts us ≡ true → same_widths us ts ≡ true
widths_sym [] [] e = refl
widths_sym [] (u ∷ us) e = cc
widths_sym (t ∷ ts) [] e = cc
widths_sym (t ∷ ts) (u ∷ us) e =
    let p = and_parts (same_width t.width u.width) (same_widths ts us) e in
    and_both (same_width u.width t.width) (same_widths us ts) (ap (λ z. same_width z t.width) (sym (width_same t.width u.width p.0)) ∙ width_refl t.width) (widths_sym ts us p.1)

-- widths alone are looked at
widths_moved : {S : Type 0} (xs ts us : List (ValueType S)) → same_widths ts us ≡ true → same_widths xs ts ≡ same_widths xs us
widths_moved [] [] [] e = refl
widths_moved [] [] (u ∷ us) e = cc
widths_moved [] (t ∷ ts) [] e = cc
widths_moved [] (t ∷ ts) (u ∷ us) e = refl
widths_moved (x ∷ xs) [] [] e = refl
widths_moved (x ∷ xs) [] (u ∷ us) e = cc
widths_moved (x ∷ xs) (t ∷ ts) [] e = cc
widths_moved (x ∷ xs) (t ∷ ts) (u ∷ us) e =
    let p = and_parts (same_width t.width u.width) (same_widths ts us) e in
    λ i. same_width x.width (width_same t.width u.width p.0 i) && widths_moved xs ts us p.1 i

pub alike_sym : {S T : Type 0} (g : FunctionType S) (h : FunctionType T) → erase_alike g h ≡ true → erase_alike h g ≡ true
alike_sym g h e =
    let p = and_parts (same_widths g.params h.params) (same_widths (optional g.result) (optional h.result)) e in
    and_both (same_widths h.params g.params) _ (widths_sym g.params h.params p.0) (widths_sym (optional g.result) (optional h.result) p.1)

alike_moved : {S : Type 0} (x g h : FunctionType S) → erase_alike g h ≡ true → erase_alike x g ≡ erase_alike x h
alike_moved x g h e =
    let p = and_parts (same_widths g.params h.params) (same_widths (optional g.result) (optional h.result)) e in
    λ i. widths_moved x.params g.params h.params p.0 i && widths_moved (optional x.result) (optional g.result) (optional h.result) p.1 i

module _ {S : Type 0} (L : S → Label) where
  abbrev pub tags : S → S → Bool
  tags a b = same_label (L a) (L b)

  type_by : (t u : ValueType S) → same_width t.width u.width ≡ true → tags t.tag u.tag ≡ true → type_to L t ≡ type_to L u
  type_by t u w e = λ i. record { width = width_same t.width u.width w i; tag = (same_label_iff (L t.tag) (L u.tag)).0 e i }

  types_by : (r : ℕ) (ts us : List (ValueType S)) → same_widths ts us ≡ true → all_hold tags (tag_facts r ts us) ≡ true → map (type_to L) ts ≡ map (type_to L) us
  types_by r [] [] w e = refl
  types_by r [] (u ∷ us) w e = cc
  types_by r (t ∷ ts) [] w e = cc
  types_by r (t ∷ ts) (u ∷ us) w e =
      let p = and_parts (same_width t.width u.width) (same_widths ts us) w in
      let q = and_parts (tags t.tag u.tag) (all_hold tags (tag_facts r ts us)) e in
      λ i. type_by t u p.0 q.0 i ∷ types_by r ts us p.1 q.1 i

  types_to : (r : ℕ) (ts us : List (ValueType S)) → map (type_to L) ts ≡ map (type_to L) us → all_hold tags (tag_facts r ts us) ≡ true
  types_to r [] [] e = refl
  types_to r [] (u ∷ us) e = refl
  types_to r (t ∷ ts) [] e = refl
  types_to r (t ∷ ts) (u ∷ us) e =
      let h : type_to L t ≡ type_to L u = cc in
      let k : map (type_to L) ts ≡ map (type_to L) us = cc in
      and_both (tags t.tag u.tag) (all_hold tags (tag_facts r ts us)) ((same_label_iff (L t.tag) (L u.tag)).1 (ap (λ z. z.tag) h)) (types_to r ts us k)

  result_by : (r : ℕ) (x y : Option (ValueType S)) → same_widths (optional x) (optional y) ≡ true → all_hold tags (tag_facts r (optional x) (optional y)) ≡ true → option_map (type_to L) x ≡ option_map (type_to L) y
  result_by r None None w e = refl
  result_by r None (Some u) w e = cc
  result_by r (Some t) None w e = cc
  result_by r (Some t) (Some u) w e = ap Some (type_by t u (and_parts (same_width t.width u.width) true w).0 (and_parts (tags t.tag u.tag) true e).0)

  result_to : (r : ℕ) (x y : Option (ValueType S)) → option_map (type_to L) x ≡ option_map (type_to L) y → all_hold tags (tag_facts r (optional x) (optional y)) ≡ true
  result_to r None None e = refl
  result_to r None (Some u) e = refl
  result_to r (Some t) None e = refl
  result_to r (Some t) (Some u) e =
      let h : type_to L t ≡ type_to L u = cc in
      and_both (tags t.tag u.tag) true ((same_label_iff (L t.tag) (L u.tag)).1 (ap (λ z. z.tag) h)) refl

  -- types of one trust that erase alike are equal under the labels just where their facts hold
  pub function_type_by : (r : ℕ) (g h : FunctionType S) → g.trust ≡ h.trust → erase_alike g h ≡ true → all_hold tags (type_facts r g h) ≡ true → function_type_to L g ≡ function_type_to L h
  function_type_by r g h t w e =
      let q = and_parts (same_widths g.params h.params) (same_widths (optional g.result) (optional h.result)) w in
      let a = and_parts (all_hold tags (tag_facts r g.params h.params)) (all_hold tags (tag_facts r (optional g.result) (optional h.result))) (sym (hold_append tags (tag_facts r g.params h.params) (tag_facts r (optional g.result) (optional h.result))) ∙ e) in
      λ i. record { trust = t i; params = types_by r g.params h.params q.0 a.0 i; result = result_by r g.result h.result q.1 a.1 i }

  pub function_type_facts : (r : ℕ) (g h : FunctionType S) → function_type_to L g ≡ function_type_to L h → all_hold tags (type_facts r g h) ≡ true
  function_type_facts r g h e = hold_append tags (tag_facts r g.params h.params) (tag_facts r (optional g.result) (optional h.result)) ∙
      and_both (all_hold tags (tag_facts r g.params h.params)) (all_hold tags (tag_facts r (optional g.result) (optional h.result))) (types_to r g.params h.params (ap (λ z. z.params) e)) (result_to r g.result h.result (ap (λ z. z.result) e))

first_moved : {S : Type 0} (g h : FunctionType S) (all : List (FunctionType S)) → erase_alike g h ≡ true → first_alike g all ≡ first_alike h all
first_moved g h [] e = refl
first_moved g h (x ∷ xs) e = λ i. if alike_moved x g h e i then Some x else first_moved g h xs e i

abbrev pub In : {X : Type 0} → X → List X → Type 0
In x [] = ⊥
In x (y ∷ ys) = (x ≡ y) ⊎ In x ys

pub all_in : {X : Type 0} (P : X → Type 0) (xs : List X) → ((x : X) → In x xs → P x) → AllByRecursion P xs
all_in P [] h = tt
all_in P (x ∷ xs) h = (h x (inl refl), all_in P xs (λ y i. h y (inr i)))

pub in_all : {X : Type 0} (P : X → Type 0) (xs : List X) → AllByRecursion P xs → (x : X) → In x xs → P x
in_all P [] h x i = absurd i
in_all P (y ∷ ys) h x (inl e) = subst P (sym e) h.0
in_all P (y ∷ ys) h x (inr i) = in_all P ys h.1 x i

-- the first one that erases alike is one of the list, and erases alike
first_in : {S : Type 0} (g x : FunctionType S) (all : List (FunctionType S)) → first_alike g all ≡ Some x → In x all × (erase_alike x g ≡ true)
first_in g x [] e = cc
first_in g x (h ∷ hs) e = by_test (erase_alike h g) refl e (first_in g x hs)
  where
    by_test : (b : Bool) → erase_alike h g ≡ b → (if b then Some h else first_alike g hs) ≡ Some x → (first_alike g hs ≡ Some x → In x hs × (erase_alike x g ≡ true)) → In x (h ∷ hs) × (erase_alike x g ≡ true)
    by_test true w e r = let k : h ≡ x = cc in (inl (sym k), ap (λ z. erase_alike z g) (sym k) ∙ w)
    by_test false w e r = (inr (r e).0, (r e).1)

first_found : {S : Type 0} (g : FunctionType S) (all : List (FunctionType S)) → In g all → (x : FunctionType S) × (first_alike g all ≡ Some x)
first_found g [] i = absurd i
first_found g (h ∷ hs) (inl e) = (h, ap (λ z. if z then Some h else first_alike g hs) (ap (erase_alike h) e ∙ alike_refl h))
first_found g (h ∷ hs) (inr i) = by_test (erase_alike h g) (first_found g hs i)
  where
    by_test : (b : Bool) → (x : FunctionType _) × (first_alike g hs ≡ Some x) → (x : FunctionType _) × ((if b then Some h else first_alike g hs) ≡ Some x)
    by_test true r = (h, refl)
    by_test false r = r

module _ {S : Type 0} (L : S → Label) where
  abbrev pub Alike : List (FunctionType S) → Type 0
  Alike us = AllByRecursion (λ g. AllByRecursion (λ h. erase_alike g h ≡ true → function_type_to L g ≡ function_type_to L h) us) us

  one_to : (all : List (FunctionType S)) (g : FunctionType S) → ((h : FunctionType S) → In h all → erase_alike g h ≡ true → function_type_to L g ≡ function_type_to L h) → all_hold (tags L) (after (first_alike g all) (type_facts 11 g)) ≡ true
  one_to all g f = by_first (first_alike g all) refl
    where
      by_first : (r : Option (FunctionType S)) → first_alike g all ≡ r → all_hold (tags L) (after r (type_facts 11 g)) ≡ true
      by_first None e = refl
      by_first (Some x) e = let k = first_in g x all e in function_type_facts L 11 g x (f x k.0 (alike_sym x g k.1))

  users_to_from : (all gs : List (FunctionType S)) → ((g : FunctionType S) → In g gs → (h : FunctionType S) → In h all → erase_alike g h ≡ true → function_type_to L g ≡ function_type_to L h) → all_hold (tags L) (user_facts all gs) ≡ true
  users_to_from all [] f = refl
  users_to_from all (g ∷ gs) f =
      let q : List (Fact S) = after (first_alike g all) (type_facts 11 g) in
      hold_append (tags L) q (user_facts all gs) ∙ and_both (all_hold (tags L) q) (all_hold (tags L) (user_facts all gs)) (one_to all g (f g (inl refl))) (users_to_from all gs (λ k i. f k (inr i)))

  -- users that are alike obey the table's rule
  pub users_hold : (us : List (FunctionType S)) → Alike us → all_hold (tags L) (user_facts us us) ≡ true
  users_hold us a = users_to_from us us (λ g i h j. in_all (λ h. erase_alike g h ≡ true → function_type_to L g ≡ function_type_to L h) us (in_all (λ g. AllByRecursion (λ h. erase_alike g h ≡ true → function_type_to L g ≡ function_type_to L h) us) us a g i) h j)

  hold_at : (all gs : List (FunctionType S)) → all_hold (tags L) (user_facts all gs) ≡ true → (g : FunctionType S) → In g gs → all_hold (tags L) (after (first_alike g all) (type_facts 11 g)) ≡ true
  hold_at all [] e g i = absurd i
  hold_at all (h ∷ hs) e g (inl q) =
      let k : List (Fact S) = after (first_alike h all) (type_facts 11 h) in
      ap (λ z. all_hold (tags L) (after (first_alike z all) (type_facts 11 z))) q ∙ (and_parts (all_hold (tags L) k) (all_hold (tags L) (user_facts all hs)) (sym (hold_append (tags L) k (user_facts all hs)) ∙ e)).0
  hold_at all (h ∷ hs) e g (inr i) =
      let k : List (Fact S) = after (first_alike h all) (type_facts 11 h) in
      hold_at all hs (and_parts (all_hold (tags L) k) (all_hold (tags L) (user_facts all hs)) (sym (hold_append (tags L) k (user_facts all hs)) ∙ e)).1 g i

  to_first : (us : List (FunctionType S)) → ((g h : FunctionType S) → In g us → In h us → g.trust ≡ h.trust) → (g x : FunctionType S) → In g us → first_alike g us ≡ Some x → all_hold (tags L) (after (first_alike g us) (type_facts 11 g)) ≡ true → function_type_to L g ≡ function_type_to L x
  to_first us t g x i e h = let k = first_in g x us e in function_type_by L 11 g x (t g x i k.0) (alike_sym x g k.1) (ap (λ z. all_hold (tags L) (after z (type_facts 11 g))) (sym e) ∙ h)

  -- users of one trust that obey the table's rule are alike
  pub users_alike : (us : List (FunctionType S)) → ((g h : FunctionType S) → In g us → In h us → g.trust ≡ h.trust) → all_hold (tags L) (user_facts us us) ≡ true → Alike us
  users_alike us t e = all_in _ us (λ g i. all_in _ us (λ h j w.
      let f = first_found g us i in
      let m : first_alike h us ≡ Some f.0 = sym (first_moved g h us w) ∙ f.1 in
      to_first us t g f.0 i f.1 (hold_at us us e g i) ∙ sym (to_first us t h f.0 j m (hold_at us us e h j))))
