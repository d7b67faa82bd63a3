-- The links of sites and facts, one after another.
use Rattle.std.proofs.Common.{◌≡◌, ◌≤◌, ◌<◌, ℕ, zero, suc, ◌+◌, List, [], ◌∷◌, ◌++◌, length, drop, Option, Some, None, if◌then◌else◌, Bool, true, false, refl, sym, ◌∙◌, ap, subst, arith, append_assoc}
use Rattle.std.specs.Prelude.{slice_get, option_map}
use Rattle.std.proofs.lemmas.Option.{same_Some}
use Rattle.std.specs.List.{AllByRecursion}
use Rattle.std.proofs.lemmas.List.{append-nil, map-append, drop_all}
use Rattle.ctw_labels.specs.declared.tag.Tag.{Tag}
use Rattle.ctw_labels.specs.declared.name.SiteName.{SiteName}
use Rattle.ctw_labels.specs.declared.name.SiteName.TheVariants.{Param, Result, GlobalOf, Memory as MemoryOf, Local, Block as BlockOf, Op as OpOf, Push as PushOf, IParam, IResult}
use Rattle.ctw_labels.specs.Names.{Site}
use Rattle.ctw_labels.specs.Points.{Points, is_released, has_release}
use Rattle.ctw_labels.specs.Links.{Fact, Must, fact_links, fact_musts, links_of, musts_of}
use Rattle.ctw_labels.specs.ModuleLinks.{yield_link, yield_links}
use Rattle.ctw_links.specs.Collected.{triple, triples, push_of, yield_by, with_must, with_musts, FactIn}
use Rattle.ctw_links.proofs.Lists.{drop_found}

pub site_at : {X : Type 0} (xs : List X) (i : ℕ) → i < length xs → (x : X) × (slice_get xs i ≡ Some x)
site_at [] i lt = absurd (omega (arith, lt))
site_at (x ∷ xs) zero lt = (x, refl)
site_at (x ∷ xs) (suc i) lt = site_at xs i (omega (arith, lt))

pub yields_on : (p : Points) (ss : List Site) (n : ℕ) (s : Site) (links links' all : List (ℕ × ℕ × ℕ)) → slice_get ss n ≡ Some s → links' ≡ links ++ triples (yield_link p n s.name s.yields) → links ++ triples (yield_links p n (drop n ss)) ≡ all
    → links' ++ triples (yield_links p (n + 1) (drop (n + 1) ss)) ≡ all
yields_on p ss n s links links' all e f h =
    let L = yield_link p n s.name s.yields in
    let R = yield_links p (n + 1) (drop (n + 1) ss) in
    ap (λ z. z ++ triples R) f ∙ append_assoc links (triples L) (triples R)
    ∙ ap (λ z. links ++ z) (sym (map-append triple L R) ∙ ap (λ z. triples (yield_links p n z)) (sym (drop_found ss n s e))) ∙ h

pub yields_done : (p : Points) (ss : List Site) (n : ℕ) (links all : List (ℕ × ℕ × ℕ)) → length ss ≤ n → links ++ triples (yield_links p n (drop n ss)) ≡ all → links ≡ all
yields_done p ss n links all le h = sym (append-nil links) ∙ ap (λ z. links ++ triples (yield_links p n z)) (sym (drop_all n ss le)) ∙ h

pub facts_on : (qs : List (Fact Tag)) (i : ℕ) (q : Fact Tag) (links links' all : List (ℕ × ℕ × ℕ)) → slice_get qs i ≡ Some q → links' ≡ links ++ triples (fact_links q.rule q.left q.right) → links ++ triples (links_of (drop i qs)) ≡ all
    → links' ++ triples (links_of (drop (i + 1) qs)) ≡ all
facts_on qs i q links links' all e f h =
    let L = fact_links q.rule q.left q.right in
    let R = links_of (drop (i + 1) qs) in
    ap (λ z. z ++ triples R) f ∙ append_assoc links (triples L) (triples R)
    ∙ ap (λ z. links ++ z) (sym (map-append triple L R) ∙ ap (λ z. triples (links_of z)) (sym (drop_found qs i q e))) ∙ h

pub facts_done : (qs : List (Fact Tag)) (i : ℕ) (links all : List (ℕ × ℕ × ℕ)) → length qs ≤ i → links ++ triples (links_of (drop i qs)) ≡ all → links ≡ all
facts_done qs i links all le h = sym (append-nil links) ∙ ap (λ z. links ++ triples (links_of z)) (sym (drop_all i qs le)) ∙ h

-- ---- bytes of public sites

with_both : (musts : List ℕ) (xs ys : List Must) → with_musts musts (xs ++ ys) ≡ with_musts (with_musts musts xs) ys
with_both musts [] ys = refl
with_both musts (x ∷ xs) ys = with_both (with_must musts x) xs ys

pub musts_on : (qs : List (Fact Tag)) (i : ℕ) (q : Fact Tag) (musts musts' all : List ℕ) → slice_get qs i ≡ Some q → musts' ≡ with_musts musts (fact_musts q.rule q.left q.right) → with_musts musts (musts_of (drop i qs)) ≡ all
    → with_musts musts' (musts_of (drop (i + 1) qs)) ≡ all
musts_on qs i q musts musts' all e f h =
    ap (λ z. with_musts z (musts_of (drop (i + 1) qs))) f
    ∙ sym (with_both musts (fact_musts q.rule q.left q.right) (musts_of (drop (i + 1) qs)))
    ∙ ap (λ z. with_musts musts (musts_of z)) (sym (drop_found qs i q e)) ∙ h

pub musts_done : (qs : List (Fact Tag)) (i : ℕ) (musts all : List ℕ) → length qs ≤ i → with_musts musts (musts_of (drop i qs)) ≡ all → musts ≡ all
musts_done qs i musts all le h = ap (λ z. with_musts musts (musts_of z)) (sym (drop_all i qs le)) ∙ h

pub fact_at : (N : ℕ) (qs : List (Fact Tag)) (i : ℕ) (q : Fact Tag) → AllByRecursion (FactIn N) qs → slice_get qs i ≡ Some q → FactIn N q
fact_at N [] i q h e = absurd (none_here e)
  where
    none_here : slice_get {X = Fact Tag} [] i ≡ Some q → ⊥
    none_here e = cc
fact_at N (x ∷ qs) zero q h e = let k : x ≡ q = cc in subst (FactIn N) k h.0
fact_at N (x ∷ qs) (suc i) q h e = fact_at N qs i q h.1 e

-- ---- one yield

yield_is : (p : Points) (n : ℕ) (name : SiteName) (y : Option ℕ) → yield_link p n name y ≡ yield_by p n (push_of name) y
yield_is p n (PushOf f at) None = refl
yield_is p n (PushOf f at) (Some y) = refl
yield_is p n (Param f i) y = refl
yield_is p n (Result f) y = refl
yield_is p n (GlobalOf g) y = refl
yield_is p n MemoryOf y = refl
yield_is p n (Local f i) y = refl
yield_is p n (BlockOf f at) y = refl
yield_is p n (OpOf f at) y = refl
yield_is p n (IParam f at i) y = refl
yield_is p n (IResult f at) y = refl

no_from : (p : Points) (n : ℕ) (x : Option (ℕ × ℕ)) → yield_by p n x None ≡ []
no_from p n None = refl
no_from p n (Some x) = refl

pub read_yields : (ss : List Site) (n : ℕ) (s : Site) (y : Option ℕ) → slice_get ss n ≡ Some s → option_map (λ s. s.yields) (slice_get ss n) ≡ Some y → s.yields ≡ y
read_yields ss n s y e f = same_Some s.yields y (sym (ap (option_map (λ (s : Site). s.yields)) e) ∙ f)

pub read_name : (ss : List Site) (n : ℕ) (s : Site) (a : SiteName) → slice_get ss n ≡ Some s → option_map (λ s. s.name) (slice_get ss n) ≡ Some a → s.name ≡ a
read_name ss n s a e f = same_Some s.name a (sym (ap (option_map (λ (s : Site). s.name)) e) ∙ f)

module _ (p : Points) (ss : List Site) (n : ℕ) (s : Site) (links : List (ℕ × ℕ × ℕ)) (e : slice_get ss n ≡ Some s) where
  pub by_reading : (x : Option (ℕ × ℕ)) (y : Option ℕ) → push_of s.name ≡ x → s.yields ≡ y → yield_link p n s.name s.yields ≡ yield_by p n x y
  by_reading x y f g = yield_is p n s.name s.yields ∙ (λ i. yield_by p n (f i) (g i))

  pub nothing_yielded : option_map (λ s. s.yields) (slice_get ss n) ≡ Some None → links ≡ links ++ triples (yield_link p n s.name s.yields)
  nothing_yielded f =
      sym (append-nil links) ∙ ap (λ z. links ++ triples z) (sym (by_reading (push_of s.name) None refl (read_yields ss n s None e f) ∙ no_from p n (push_of s.name)))

  pub no_push : (a : SiteName) → option_map (λ s. s.name) (slice_get ss n) ≡ Some a → push_of a ≡ None → links ≡ links ++ triples (yield_link p n s.name s.yields)
  no_push a f g =
      sym (append-nil links) ∙ ap (λ z. links ++ triples z) (sym (by_reading None s.yields (ap push_of (read_name ss n s a e f) ∙ g) refl))

  module _ (a : SiteName) (fun at from : ℕ) (f : option_map (λ s. s.name) (slice_get ss n) ≡ Some a) (g : push_of a ≡ Some (fun, at)) (h : option_map (λ s. s.yields) (slice_get ss n) ≡ Some (Some from)) where
    read : yield_link p n s.name s.yields ≡ (if is_released p fun at then [] else record { from = from; to = n; rule = 1 } ∷ [])
    read = by_reading (Some (fun, at)) (Some from) (ap push_of (read_name ss n s a e f) ∙ g) (read_yields ss n s (Some from) e h)

    pub released : is_released p fun at ≡ true → links ≡ links ++ triples (yield_link p n s.name s.yields)
    released k = sym (append-nil links) ∙ ap (λ z. links ++ triples z) (sym (read ∙ ap (λ (c : Bool). if c then [] else record { from = from; to = n; rule = 1 } ∷ []) k))

    pub linked : (links' : List (ℕ × ℕ × ℕ)) → is_released p fun at ≡ false → links' ≡ links ++ (from, n, 1) ∷ [] → links' ≡ links ++ triples (yield_link p n s.name s.yields)
    linked links' k l = l ∙ ap (λ z. links ++ triples z) (sym (read ∙ ap (λ (c : Bool). if c then [] else record { from = from; to = n; rule = 1 } ∷ []) k))

  -- nothing is released
  module _ (fun at from : ℕ) (f : option_map (λ s. s.name) (slice_get ss n) ≡ Some (PushOf fun at)) (h : option_map (λ s. s.yields) (slice_get ss n) ≡ Some (Some from)) (none : p.releases ≡ []) where
    pub unreleased : (links' : List (ℕ × ℕ × ℕ)) → links' ≡ links ++ (from, n, 1) ∷ [] → links' ≡ links ++ triples (yield_link p n s.name s.yields)
    unreleased links' l = linked (PushOf fun at) fun at from f refl h links' (ap (has_release fun at) none) l
