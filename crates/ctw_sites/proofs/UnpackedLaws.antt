-- What is read back of sites' words is those sites, where each word has room for its site.
use Rattle.std.proofs.Common.{◌≡◌, ◌≤◌, ◌<◌, ◌^◌, ℕ, zero, suc, ◌+◌, Bool, true, false, cond, List, [], ◌∷◌, ◌++◌, length, map, get_or, Option, Some, None, refl, sym, ◌∙◌, ap, subst, arith, ◌⊎◌, inl, inr}
use Rattle.std.specs.Prelude.{count_by, nat_le, option_map, slice_get, IfSome}
use Rattle.std.specs.List.{AllByRecursion}
use Rattle.std.specs.List.Sorted.{IsNonDecreasing, IsPartitionPoint}
use Rattle.std.proofs.lemmas.Bool.{le-leb, lt-leb, cases_eq, ne_eqb}
use Rattle.std.proofs.lemmas.List.Sums.{sum_by-cons}
use Rattle.ctw_labels.specs.declared.name.SiteName.{SiteName}
use Rattle.ctw_labels.specs.declared.name.SiteName.TheVariants.{Param, Result, GlobalOf, Memory as MemoryOf, Local, Block as BlockOf, Op as OpOf, Push as PushOf, IParam, IResult}
use Rattle.ctw_labels.specs.Names.{Site, site, push_site}
use Rattle.ctw_labels.specs.Numbering.{sites_for}
use Rattle.ctw_labels.specs.Order.{name_at}
use Rattle.ctw_sites.specs.Packed.{packed, packed_word}
use Rattle.ctw_sites.specs.Unpacked.{Firsts, upto, func_at, body_at, name_by, before, yield_by, kind_of, at_of, index_of, site_at, unpacked, yields_at}
use Rattle.ctw_sites.proofs.YieldLaws.{YieldFits, InCode, IsInCode}

-- ---- places

-- where things of these sizes begin, one behind the other
abbrev pub places : ℕ → List ℕ → List ℕ
places n [] = []
places n (c ∷ cs) = n ∷ places (n + c) cs

upto_cons : (i n : ℕ) (hs : List ℕ) → upto i (n ∷ hs) ≡ cond (nat_le n i) 1 0 + upto i hs
upto_cons i n hs = sum_by-cons (λ h. cond (nat_le h i) 1 0) n hs

pub upto_more : (i n : ℕ) (hs : List ℕ) → n ≤ i → upto i (n ∷ hs) ≡ 1 + upto i hs
upto_more i n hs le = upto_cons i n hs ∙ ap (λ b. cond b 1 0 + upto i hs) (le-leb n i le)

upto_less : (i n : ℕ) (hs : List ℕ) → i < n → upto i (n ∷ hs) ≡ upto i hs
upto_less i n hs lt = let e : 0 + upto i hs ≡ upto i hs = omega arith in upto_cons i n hs ∙ ap (λ b. cond b 1 0 + upto i hs) (lt-leb n i lt) ∙ e

pub upto_none : (i n : ℕ) (cs : List ℕ) → i < n → upto i (places n cs) ≡ 0
upto_none i n [] lt = refl
upto_none i n (c ∷ cs) lt = upto_less i n (places (n + c) cs) lt ∙ upto_none i (n + c) cs (omega (arith, lt))

places_from : (n : ℕ) (cs : List ℕ) (j d : ℕ) → j < length (places n cs) → n ≤ get_or (places n cs) j d
places_from n [] j d lt = absurd (omega (arith, lt))
places_from n (c ∷ cs) zero d lt = omega arith
places_from n (c ∷ cs) (suc j) d lt = let h = places_from (n + c) cs j d (omega (arith, lt)) in omega (arith, h)

pub places_rise : (n : ℕ) (cs : List ℕ) → IsNonDecreasing (places n cs)
places_rise n [] i j d le lt = absurd (omega (arith, lt))
places_rise n (c ∷ cs) zero zero d le lt = omega arith
places_rise n (c ∷ cs) zero (suc j) d le lt = let h = places_from (n + c) cs j d (omega (arith, lt)) in omega (arith, h)
places_rise n (c ∷ cs) (suc i) zero d le lt = absurd (omega (arith, le))
places_rise n (c ∷ cs) (suc i) (suc j) d le lt = places_rise (n + c) cs i j d (omega (arith, le)) (omega (arith, lt))

-- ---- one word

kind_back : (kind at index : ℕ) → kind < 2 ^ 4 → kind_of (packed_word kind at index) ≡ kind
kind_back kind at index lt = omega (arith, lt)

at_back : (kind at index : ℕ) → kind < 2 ^ 4 → at < 2 ^ 21 → at_of (packed_word kind at index) ≡ at
at_back kind at index lt la = omega (arith, lt, la)

index_back : (kind at index : ℕ) → kind < 2 ^ 4 → at < 2 ^ 21 → index < 2 ^ 25 → index_of (packed_word kind at index) ≡ index
index_back kind at index lt la li = omega (arith, lt, la, li)

abbrev pub IsBack : Firsts → ℕ → Site → Type 0
IsBack t place s = site_at t place (packed s.name s.yields) ≡ s

word_back : (t : Firsts) (place kind at index : ℕ) → kind < 2 ^ 4 → at < 2 ^ 21 → index < 2 ^ 25
    → site_at t place (packed_word kind at index) ≡ record { name = name_by kind (func_at t place) (body_at t place) at index; yields = yield_by kind index }
word_back t place kind at index lt la li =
    let k = kind_back kind at index lt in
    let a = at_back kind at index lt la in
    let i = index_back kind at index lt la li in
    λ j. record { name = name_by (k j) (func_at t place) (body_at t place) (a j) (i j); yields = yield_by (k j) (i j) }

module _ (t : Firsts) (place : ℕ) where
  pub param_back : (f i : ℕ) → func_at t place ≡ f → i < 2 ^ 25 → IsBack t place (site (Param f i))
  param_back f i e lt = word_back t place 0 0 i (omega arith) (omega arith) lt ∙ ap (λ z. site (Param z i)) e

  pub result_back : (f : ℕ) → func_at t place ≡ f → IsBack t place (site (Result f))
  result_back f e = word_back t place 1 0 0 (omega arith) (omega arith) (omega arith) ∙ ap (λ z. site (Result z)) e

  pub global_back : (g : ℕ) → g < 2 ^ 21 → IsBack t place (site (GlobalOf g))
  global_back g lt = word_back t place 2 g 0 (omega arith) lt (omega arith)

  pub memory_back : IsBack t place (site MemoryOf)
  memory_back = word_back t place 3 0 0 (omega arith) (omega arith) (omega arith)

  pub local_back : (f i : ℕ) → body_at t place ≡ f → i < 2 ^ 25 → IsBack t place (site (Local f i))
  local_back f i e lt = word_back t place 4 0 i (omega arith) (omega arith) lt ∙ ap (λ z. site (Local z i)) e

  push_back : (f at : ℕ) (y : Option ℕ) → body_at t place ≡ f → at < 2 ^ 21 → YieldFits y → IsBack t place (push_site (PushOf f at) y)
  push_back f at None e la h = word_back t place 7 at 0 (omega arith) la (omega arith) ∙ ap (λ z. push_site (PushOf z at) None) e
  push_back f at (Some y) e la h =
      let k : y + 1 ≡ suc y = omega arith in
      word_back t place 7 at (y + 1) (omega arith) la h ∙ (λ j. push_site (PushOf (e j) at) (yield_by 7 (k j)))

  -- a site inside the code of the function whose place it is
  pub code_back : (f : ℕ) (name : SiteName) (y : Option ℕ) → body_at t place ≡ f → InCode f name y → IsBack t place (push_site name y)
  code_back f (BlockOf g a) y e h = word_back t place 5 a 0 (omega arith) h.1 (omega arith) ∙ (λ j. push_site (BlockOf ((e ∙ sym h.0) j) a) (sym h.2 j))
  code_back f (OpOf g a) y e h = word_back t place 6 a 0 (omega arith) h.1 (omega arith) ∙ (λ j. push_site (OpOf ((e ∙ sym h.0) j) a) (sym h.2 j))
  code_back f (PushOf g a) y e h = push_back g a y (e ∙ sym h.0) h.1 h.2
  code_back f (IParam g a i) y e h = word_back t place 8 a i (omega arith) h.1 h.2 ∙ (λ j. push_site (IParam ((e ∙ sym h.0) j) a i) (sym h.3 j))
  code_back f (IResult g a) y e h = word_back t place 9 a 0 (omega arith) h.1 (omega arith) ∙ (λ j. push_site (IResult ((e ∙ sym h.0) j) a) (sym h.2 j))
  code_back f _ y e h = absurd h

-- ---- one behind the other

-- sites from a place on
abbrev pub AllBack : Firsts → ℕ → List Site → Type 0
AllBack t n [] = Unit {0}
AllBack t n (s ∷ sites) = IsBack t n s × AllBack t (n + 1) sites

pub back_append : (t : Firsts) (n : ℕ) (xs ys : List Site) → AllBack t n xs → AllBack t (n + length xs) ys → AllBack t n (xs ++ ys)
back_append t n [] ys p q = let e : n + 0 ≡ n = omega arith in subst (λ z. AllBack t z ys) e q
back_append t n (x ∷ xs) ys p q = let e : n + suc (length xs) ≡ n + 1 + length xs = omega arith in (p.0, back_append t (n + 1) xs ys p.1 (subst (λ z. AllBack t z ys) e q))

-- the sites for the items of a list
pub named_back : {A : Type 0} (t : Firsts) (name : ℕ → SiteName) (lo hi top : ℕ) → ((place i : ℕ) → lo ≤ place → place < hi → i < top → IsBack t place (site (name i)))
    → (n i : ℕ) (xs : List A) → lo ≤ n → n + length xs ≤ hi → i + length xs ≤ top → AllBack t n (sites_for name i xs)
named_back t name lo hi top h n i [] le lt li = tt
named_back t name lo hi top h n i (x ∷ xs) le lt li = (h n i le (omega (arith, lt)) (omega (arith, li)), named_back t name lo hi top h (n + 1) (i + 1) xs (omega (arith, le)) (omega (arith, lt)) (omega (arith, li)))

-- the sites inside a function's code
pub in_code_back : (t : Firsts) (f lo hi : ℕ) → ((place : ℕ) → lo ≤ place → place < hi → body_at t place ≡ f) → (n : ℕ) (xs : List Site) → lo ≤ n → n + length xs ≤ hi → AllByRecursion (IsInCode f) xs → AllBack t n xs
in_code_back t f lo hi h n [] le lt p = tt
in_code_back t f lo hi h n (x ∷ xs) le lt p = (code_back t n f x.name x.yields (h n le (omega (arith, lt))) p.0, in_code_back t f lo hi h (n + 1) xs (omega (arith, le)) (omega (arith, lt)) p.1)

pub unpacked_back : (t : Firsts) (n : ℕ) (sites : List Site) → AllBack t n sites → unpacked t n (map (λ s. packed s.name s.yields) sites) ≡ sites
unpacked_back t n [] h = refl
unpacked_back t n (s ∷ sites) h = λ j. h.0 j ∷ unpacked_back t (n + 1) sites h.1 j

-- ---- by number

pub unpacked_length : (t : Firsts) (n : ℕ) (words : List ℕ) → length (unpacked t n words) ≡ length words
unpacked_length t n [] = refl
unpacked_length t n (w ∷ words) = ap suc (unpacked_length t (n + 1) words)

pub unpacked_at : (t : Firsts) (n : ℕ) (words : List ℕ) (k : ℕ) → slice_get (unpacked t n words) k ≡ option_map (site_at t (n + k)) (slice_get words k)
unpacked_at t n [] k = refl
unpacked_at t n (w ∷ words) zero = let e : n ≡ n + 0 = omega arith in ap (λ z. Some (site_at t z w)) e
unpacked_at t n (w ∷ words) (suc k) = let e : n + 1 + k ≡ n + suc k = omega arith in unpacked_at t (n + 1) words k ∙ ap (λ z. option_map (site_at t z) (slice_get words k)) e

-- the word of a number says the site's name and what it yields
pub name_there : (t : Firsts) (words : List ℕ) (k w : ℕ) → slice_get words k ≡ Some w → name_at (unpacked t 0 words) k ≡ Some (site_at t k w).name
name_there t words k w e =
    let z : 0 + k ≡ k = omega arith in
    ap (option_map (λ (s : Site). s.name)) (unpacked_at t 0 words k) ∙ (λ j. option_map (λ (s : Site). s.name) (option_map (site_at t (z j)) (e j)))

pub yields_there : (t : Firsts) (words : List ℕ) (k w : ℕ) → slice_get words k ≡ Some w → yields_at (unpacked t 0 words) k ≡ Some (site_at t k w).yields
yields_there t words k w e =
    let z : 0 + k ≡ k = omega arith in
    ap (option_map (λ (s : Site). s.yields)) (unpacked_at t 0 words k) ∙ (λ j. option_map (λ (s : Site). s.yields) (option_map (site_at t (z j)) (e j)))

-- a site that yields is a push
pub yields_push : (t : Firsts) (words : List ℕ) (k w : ℕ) (y : Option ℕ) → slice_get words k ≡ Some w → y ≡ yield_by (kind_of w) (index_of w) → IfSome y (λ _. (f : ℕ) × (at : ℕ) × (name_at (unpacked t 0 words) k ≡ Some (PushOf f at)))
yields_push t words k w None e h = tt
yields_push t words k w (Some y) e h = go (cases_eq (kind_of w) 7)
  where
    go : (kind_of w ≡ 7) ⊎ (kind_of w ≡ 7 → ⊥) → (f : ℕ) × (at : ℕ) × (name_at (unpacked t 0 words) k ≡ Some (PushOf f at))
    go (inl q) = (body_at t k, at_of w, name_there t words k w e ∙ ap (λ n. Some (name_by n (func_at t k) (body_at t k) (at_of w) (index_of w))) q)
    go (inr q) =
        let n : yield_by (kind_of w) (index_of w) ≡ None = ap (λ b. cond b (before (index_of w)) None) (ne_eqb (kind_of w) 7 q) in
        let m : Some y ≡ None = h ∙ n in
        cc

-- ---- a place among those that don't fall

pub counted : (p : ℕ → Bool) (xs : List ℕ) (i : ℕ) → i ≤ length xs → IsPartitionPoint (λ x. p x ≡ true) (λ x. p x ≡ false) xs i → count_by p xs ≡ i
counted p [] zero le h = refl
counted p [] (suc i) le h = absurd (omega (arith, le))
counted p (x ∷ xs) zero le h =
    let here : p x ≡ false = h.1 0 x (omega arith) (omega arith) in
    let rest = counted p xs zero (omega arith) ((λ k d a b. absurd (omega (arith, b))), (λ k d a b. h.1 (suc k) d (omega arith) (omega (arith, b)))) in
    let one : ◌≡◌ {A = ℕ} (cond (p x) 1 0) 0 = ap (λ b. cond b 1 0) here in
    omega (arith, sum_by-cons (λ y. cond (p y) 1 0) x xs, one, rest)
counted p (x ∷ xs) (suc i) le h =
    let here : p x ≡ true = h.0 0 x (omega arith) (omega arith) in
    let rest = counted p xs i (omega (arith, le)) ((λ k d a b. h.0 (suc k) d (omega arith) (omega (arith, b))), (λ k d a b. h.1 (suc k) d (omega (arith, a)) (omega (arith, b)))) in
    let one : ◌≡◌ {A = ℕ} (cond (p x) 1 0) 1 = ap (λ b. cond b 1 0) here in
    omega (arith, sum_by-cons (λ y. cond (p y) 1 0) x xs, one, rest)
