-- Marks by the numbers of their sites.
use Rattle.std.proofs.Common.{◌≡◌, ℕ, zero, suc, ◌<◌, List, [], ◌∷◌, ◌++◌, ◌⊎◌, inl, inr, length, Option, Some, None, option_map, filter_map, slice_get, cond, nat_lt, Bool, true, false, refl, sym, ◌∙◌, ap, subst, arith}
use Rattle.std.specs.Prelude.{Contains}
use Rattle.std.specs.List.{cons_option, position_or_len}
use Rattle.std.proofs.lemmas.Bool.{ltb-true}
use Rattle.ctw_lex.proofs.Facts.{some_same, none_some}
use Rattle.ctw_labels.specs.Order.{order}
use Rattle.std.proofs.lemmas.List.Elements.{Contains-append_left, Contains-append_right, Contains-append_cases, Contains-push, Contains-push_cases}
use Rattle.ctw_ops.specs.declared.types.Label.{Label}
use Rattle.ctw_labels.specs.declared.name.SiteName.{SiteName}
use Rattle.ctw_labels.specs.Names.{Site}
use Rattle.ctw_labels.specs.Fits.{Mark}
use Rattle.ctw_least.specs.Marked.{is_equal, site_named, mark_on, marks_on}

in_front : {A : Type 0} (x : A) (xs : List A) → Contains (x ∷ xs) x
in_front x xs = Contains-append_left (x ∷ []) xs x (Contains-push [] x)

behind : {A : Type 0} (o : Option A) (xs : List A) (x : A) → Contains xs x → Contains (cons_option o xs) x
behind None xs x h = h
behind (Some y) xs x h = Contains-append_right (y ∷ []) xs x h

front_or : {A : Type 0} (o : Option A) (xs : List A) (x : A) → Contains (cons_option o xs) x → (o ≡ Some x) ⊎ Contains xs x
front_or None xs x h = inr h
front_or {A} (Some y) xs x h = go (Contains-append_cases (y ∷ []) xs x h)
  where
    one : Contains [] x ⊎ (y ≡ x) → y ≡ x
    one (inl e) = absurd (omega (arith, e.1))
    one (inr e) = e

    go : Contains (y ∷ []) x ⊎ Contains xs x → (Some y ≡ Some x) ⊎ Contains xs x
    go (inl e) = inl (ap (λ z. Some z) (one (Contains-push_cases [] y x e)))
    go (inr e) = inr e

module _ (sites : List Site) where
  pub marks_at : (labels : List (SiteName × Label)) (i : ℕ) (k : SiteName × Label) (n : ℕ) → slice_get labels i ≡ Some k → site_named sites k.0 ≡ Some n → Contains (marks_on sites labels) (record { site = n; label = k.1 })
  marks_at [] i k n e s = absurd (none e)
    where
      none : slice_get {X = SiteName × Label} [] i ≡ Some k → ⊥
      none e = cc
  marks_at (x ∷ labels) zero k n e s =
      let q : x ≡ k = cc in
      let w : mark_on sites x ≡ Some (record { site = n; label = k.1 }) = ap (mark_on sites) q ∙ ap (option_map (λ z. record { site = z; label = k.1 })) s in
      subst (λ o. Contains (cons_option o (marks_on sites labels)) (record { site = n; label = k.1 })) (sym w) (in_front (record { site = n; label = k.1 }) (marks_on sites labels))
  marks_at (x ∷ labels) (suc i) k n e s = behind (mark_on sites x) (marks_on sites labels) (record { site = n; label = k.1 }) (marks_at labels i k n e s)

  pub record At (labels : List (SiteName × Label)) (k : Mark) : Type 0 where
    pub i : ℕ
    pub mark : SiteName × Label
    pub there : slice_get labels i ≡ Some mark
    pub below : i < length labels
    pub label : mark.1 ≡ k.label
    pub site : site_named sites mark.0 ≡ Some k.site

  one_mark : (x : SiteName × Label) (k : Mark) (o : Option ℕ) → site_named sites x.0 ≡ o → option_map (λ n. record { site = n; label = x.1 }) o ≡ Some k → (x.1 ≡ k.label) × (site_named sites x.0 ≡ Some k.site)
  one_mark x k None e h = absurd (none h)
    where
      none : None ≡ Some k → ⊥
      none q = cc
  one_mark x k (Some n) e h =
      let q : record { site = n; label = x.1 } ≡ k = cc in
      (ap (λ (z : Mark). z.label) q, e ∙ ap (λ (z : Mark). Some z.site) q)

  pub marks_from : (labels : List (SiteName × Label)) (k : Mark) → Contains (marks_on sites labels) k → At labels k
  marks_from [] k h = absurd (omega (arith, h.1))
  marks_from (x ∷ labels) k h = go (λ c. marks_from labels k c) (front_or (mark_on sites x) (marks_on sites labels) k h)
    where
      go : (Contains (marks_on sites labels) k → At labels k) → (mark_on sites x ≡ Some k) ⊎ Contains (marks_on sites labels) k → At (x ∷ labels) k
      go more (inl e) = let o = one_mark x k (site_named sites x.0) refl e in record { i = 0; mark = x; there = refl; below = omega arith; label = o.0; site = o.1 }
      go more (inr c) = let r = more c in record { i = suc r.i; mark = r.mark; there = r.there; below = omega (arith, r.below); label = r.label; site = r.site }

-- a marked site is one of the sites
pub named_below : (sites : List Site) (name : SiteName) (n : ℕ) → site_named sites name ≡ Some n → n < length sites
unfolding site_named
named_below sites name n e = go (nat_lt first (length sites)) refl e
  where
    first : ℕ
    first = position_or_len (λ s. is_equal (order s.name name)) sites

    go : (b : Bool) → nat_lt first (length sites) ≡ b → cond b (Some first) None ≡ Some n → n < length sites
    go true t q = subst (λ z. z < length sites) (some_same q) (ltb-true first (length sites) t)
    go false t q = absurd (none_some q)

pub marked_below : (sites : List Site) (labels : List (SiteName × Label)) (l : Label) (n : ℕ) → Contains (marks_on sites labels) (record { site = n; label = l }) → n < length sites
marked_below sites labels l n c = let r = marks_from sites labels (record { site = n; label = l }) c in named_below sites r.mark.0 n r.site
