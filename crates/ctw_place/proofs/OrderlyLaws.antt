-- A labelling is orderly where it is so at each site.
use Rattle.std.proofs.Common.{◌≡◌, ℕ, zero, suc, ◌+◌, Bool, true, false, List, [], ◌∷◌, Option, Some, None, slice_get, if◌then◌else◌, refl, sym, ◌∙◌, ap, subst, arith}
use Rattle.std.specs.Prelude.{◌↔◌, ◌||◌, option_map}
use Rattle.std.specs.List.{AllByRecursion}
use Rattle.ctw_ops.specs.declared.types.Label.{Label}
use Rattle.ctw_ops.specs.declared.types.Label.TheVariants.{Public, Secret}
use Rattle.ctw_labels.specs.declared.name.SiteName.{SiteName}
use Rattle.ctw_labels.specs.declared.name.SiteName.TheVariants.{Param, Result, GlobalOf, Memory, Local, Block, Op, Push, IParam, IResult}
use Rattle.ctw_labels.specs.Names.{Site}
use Rattle.ctw_labels.specs.Links.{Link}
use Rattle.ctw_labels.specs.ModuleLinks.{yield_link, yield_links}
use Rattle.ctw_labels.specs.Order.{name_at}
use Rattle.ctw_labels.specs.Points.{Points, is_released}
use Rattle.ctw_labels.proofs.NumberLaws.{all_append_to, all_append_from}
use Rattle.ctw_sites.specs.Unpacked.{yields_at}
use Rattle.ctw_place.specs.Orderly.{may_go, push_place, AllowsSite}

module _ (l : ℕ → Label) (p : Points) where
  abbrev Follows : Link → Type 0
  Follows k = l k.from ≡ Secret → l k.to ≡ Secret

  abbrev Allows : ℕ → SiteName → Option ℕ → Type 0
  Allows n name yields = AllByRecursion Follows (yield_link p n name yields)

  no_yield : (n : ℕ) (name : SiteName) → Allows n name None
  no_yield n (Param f i) = tt
  no_yield n (Result f) = tt
  no_yield n (GlobalOf g) = tt
  no_yield n Memory = tt
  no_yield n (Local f i) = tt
  no_yield n (Block f at) = tt
  no_yield n (Op f at) = tt
  no_yield n (Push f at) = tt
  no_yield n (IParam f at i) = tt
  no_yield n (IResult f at) = tt

  no_push : (n : ℕ) (name : SiteName) (y : Option ℕ) → push_place name ≡ None → Allows n name y
  no_push n (Param f i) y e = tt
  no_push n (Result f) y e = tt
  no_push n (GlobalOf g) y e = tt
  no_push n Memory y e = tt
  no_push n (Local f i) y e = tt
  no_push n (Block f at) y e = tt
  no_push n (Op f at) y e = tt
  no_push n (Push f at) y e = absurd cc
  no_push n (IParam f at i) y e = tt
  no_push n (IResult f at) y e = tt

  label_goes : (a b : Label) → (may_go a b ≡ true) ↔ (a ≡ Secret → b ≡ Secret)
  label_goes Public b = ((λ e q. absurd cc), (λ h. refl))
  label_goes Secret Public = ((λ e. absurd cc), (λ h. let q : Public ≡ Secret = h refl in absurd cc))
  label_goes Secret Secret = ((λ e q. refl), (λ h. refl))

  pushed : (n y : ℕ) (c : Bool) → ((c || may_go (l y) (l n)) ≡ true) ↔ AllByRecursion Follows (if c then [] else record { from = y; to = n; rule = 1 } ∷ [])
  pushed n y true = ((λ e. tt), (λ h. refl))
  pushed n y false = ((λ e. ((label_goes (l y) (l n)).0 e, tt)), (λ h. (label_goes (l y) (l n)).1 h.0))

  a_push : (n : ℕ) (name : SiteName) (y f at : ℕ) → push_place name ≡ Some (f, at) → ((is_released p f at || may_go (l y) (l n)) ≡ true) ↔ Allows n name (Some y)
  a_push n (Push g k) y f at e =
      let q : ◌≡◌ {A = ℕ × ℕ} (g, k) (f, at) = cc in
      subst (λ z. ((is_released p z.0 z.1 || may_go (l y) (l n)) ≡ true) ↔ Allows n (Push g k) (Some y)) q (pushed n y (is_released p g k))
  a_push n (Param f i) y g at e = absurd cc
  a_push n (Result f) y g at e = absurd cc
  a_push n (GlobalOf k) y g at e = absurd cc
  a_push n Memory y g at e = absurd cc
  a_push n (Local f i) y g at e = absurd cc
  a_push n (Block f k) y g at e = absurd cc
  a_push n (Op f k) y g at e = absurd cc
  a_push n (IParam f k i) y g at e = absurd cc
  a_push n (IResult f k) y g at e = absurd cc

  module _ (sites : List Site) (n : ℕ) (x : Site) (e : slice_get sites n ≡ Some x) where
    yields_are : (y : Option ℕ) → yields_at sites n ≡ Some y → x.yields ≡ y
    yields_are y q = let r : Some x.yields ≡ Some y = sym (ap (option_map (λ s. s.yields)) e) ∙ q in cc

    name_is : (name : SiteName) → name_at sites n ≡ Some name → x.name ≡ name
    name_is name q = let r : Some x.name ≡ Some name = sym (ap (option_map (λ s. s.name)) e) ∙ q in cc

    pub allowed_silent : yields_at sites n ≡ Some None → AllowsSite l p n x
    allowed_silent q = subst (λ z. Allows n x.name z) (sym (yields_are None q)) (no_yield n x.name)

    pub allowed_other : (name : SiteName) → name_at sites n ≡ Some name → push_place name ≡ None → AllowsSite l p n x
    allowed_other name q r = subst (λ z. Allows n z x.yields) (sym (name_is name q)) (no_push n name x.yields r)

    pub allowed_push : (name : SiteName) (y f at : ℕ) → name_at sites n ≡ Some name → yields_at sites n ≡ Some (Some y) → push_place name ≡ Some (f, at) → ((is_released p f at || may_go (l y) (l n)) ≡ true) ↔ AllowsSite l p n x
    allowed_push name y f at q r t = subst (λ z. ((is_released p f at || may_go (l y) (l n)) ≡ true) ↔ Allows n z x.yields) (sym (name_is name q)) (subst (λ z. ((is_released p f at || may_go (l y) (l n)) ≡ true) ↔ Allows n name z) (sym (yields_are (Some y) r)) (a_push n name y f at t))

  -- all sites
  pub runs_from : (n : ℕ) (xs : List Site) → ((k : ℕ) (x : Site) → slice_get xs k ≡ Some x → AllowsSite l p (n + k) x) → AllByRecursion Follows (yield_links p n xs)
  runs_from n [] h = tt
  runs_from n (x ∷ xs) h =
      let z : n + 0 ≡ n = omega arith in
      all_append_to Follows (yield_link p n x.name x.yields) (yield_links p (n + 1) xs) (subst (λ k. AllowsSite l p k x) z (h 0 x refl))
      (runs_from (n + 1) xs (λ k y e. let w : n + suc k ≡ n + 1 + k = omega arith in subst (λ j. AllowsSite l p j y) w (h (suc k) y e)))

  pub runs_at : (n : ℕ) (xs : List Site) → AllByRecursion Follows (yield_links p n xs) → (k : ℕ) (x : Site) → slice_get xs k ≡ Some x → AllowsSite l p (n + k) x
  runs_at n [] h k x e = absurd cc
  runs_at n (y ∷ xs) h zero x e =
      let q : y ≡ x = cc in
      let z : n ≡ n + 0 = omega arith in
      subst (λ k. AllowsSite l p k x) z (subst (λ w. AllowsSite l p n w) q (all_append_from Follows (yield_link p n y.name y.yields) (yield_links p (n + 1) xs) h).0)
  runs_at n (y ∷ xs) h (suc k) x e =
      let z : n + 1 + k ≡ n + suc k = omega arith in
      subst (λ j. AllowsSite l p j x) z (runs_at (n + 1) xs (all_append_from Follows (yield_link p n y.name y.yields) (yield_links p (n + 1) xs) h).1 k x e)
