-- Sites that are added one after another.
use Rattle.std.proofs.Common.{◌≡◌, ℕ, zero, suc, ◌+◌, ◌-◌, List, [], ◌∷◌, ◌++◌, length, map, take, refl, sym, ◌∙◌, ap, arith, append_assoc, length-append}
use Rattle.std.proofs.lemmas.List.{map-append, append-nil}
use Rattle.ctw_labels.specs.declared.name.SiteName.{SiteName}
use Rattle.ctw_labels.specs.Names.{Site, site}
use Rattle.ctw_labels.specs.Numbering.{sites_for}
use Rattle.ctw_sites.specs.Leaves.{named_from}
use Rattle.ctw_sites.specs.Packed.{packed, words_of, Kept, after}

take_none : (n : ℕ) → take {A = Site} n [] ≡ []
take_none zero = refl
take_none (suc n) = refl

take_both : (n : ℕ) (xs ys : List Site) → take n (xs ++ ys) ≡ take n xs ++ take (n - length xs) ys
take_both n [] ys = let e : n ≡ n - 0 = omega arith in ap (λ k. take k ys) e ∙ ap (λ z. z ++ take (n - 0) ys) (sym (take_none n))
take_both zero (x ∷ xs) ys = let e : 0 ≡ 0 - suc (length xs) = omega arith in ap (λ k. take k ys) e
take_both (suc n) (x ∷ xs) ys = let e : n - length xs ≡ suc n - suc (length xs) = omega arith in ap (λ z. x ∷ z) (take_both n xs ys ∙ ap (λ k. take n xs ++ take k ys) e)

pub words_both : (most c : ℕ) (xs ys : List Site) → words_of most c (xs ++ ys) ≡ words_of most c xs ++ words_of most (c + length xs) ys
words_both most c xs ys =
    let e : most - c - length xs ≡ most - (c + length xs) = omega arith in
    ap (map (λ s. packed s.name s.yields)) (take_both (most - c) xs ys ∙ ap (λ k. take (most - c) xs ++ take k ys) e)
    ∙ map-append (λ (s : Site). packed s.name s.yields) (take (most - c) xs) (take (most - (c + length xs)) ys)

pub after_both : (k : Kept) (xs ys : List Site) → after (after k xs) ys ≡ after k (xs ++ ys)
after_both k xs ys =
    let w : (k.words ++ words_of k.most k.count xs) ++ words_of k.most (k.count + length xs) ys ≡ k.words ++ words_of k.most k.count (xs ++ ys) = append_assoc k.words (words_of k.most k.count xs) (words_of k.most (k.count + length xs) ys) ∙ ap (λ z. k.words ++ z) (sym (words_both k.most k.count xs ys)) in
    let c : k.count + length xs + length ys ≡ k.count + length (xs ++ ys) = let l = length-append xs ys in omega arith in
    λ i. record { words = w i; count = c i; most = k.most }

pub after_none : (k : Kept) → after k [] ≡ k
after_none k =
    let w : k.words ++ words_of k.most k.count [] ≡ k.words = ap (λ z. k.words ++ map (λ s. packed s.name s.yields) z) (take_none (k.most - k.count)) ∙ append-nil k.words in
    let c : k.count + 0 ≡ k.count = omega arith in
    λ i. record { words = w i; count = c i; most = k.most }

-- one more site of a list of them
more_named : (name : ℕ → SiteName) (i k : ℕ) → named_from name k (suc i) ≡ named_from name k i ++ site (name (k + i)) ∷ []
more_named name zero k = let e : k ≡ k + 0 = omega arith in ap (λ z. site (name z) ∷ []) e
more_named name (suc i) k = let e : k + 1 + i ≡ k + suc i = omega arith in ap (λ z. site (name k) ∷ z) (more_named name i (k + 1) ∙ ap (λ z. named_from name (k + 1) i ++ site (name z) ∷ []) e)

pub one_named : (name : ℕ → SiteName) (i : ℕ) → named_from name 0 (i + 1) ≡ named_from name 0 i ++ site (name i) ∷ []
one_named name i =
    let e : i + 1 ≡ suc i = omega arith in
    let f : 0 + i ≡ i = omega arith in
    ap (named_from name 0) e ∙ more_named name i 0 ∙ ap (λ z. named_from name 0 i ++ site (name z) ∷ []) f

pub named_length : (name : ℕ → SiteName) (i k : ℕ) → length (named_from name i k) ≡ k
named_length name i zero = refl
named_length name i (suc k) = ap suc (named_length name (i + 1) k)

-- sites for the items of a list are as many
pub sites_named : {A : Type 0} (name : ℕ → SiteName) (i : ℕ) (xs : List A) → sites_for name i xs ≡ named_from name i (length xs)
sites_named name i [] = refl
sites_named name i (x ∷ xs) = ap (λ z. site (name i) ∷ z) (sites_named name (i + 1) xs)

-- another site behind so many
pub named_more : (k : Kept) (name : ℕ → SiteName) (i : ℕ) → after (after k (named_from name 0 i)) (site (name i) ∷ []) ≡ after k (named_from name 0 (i + 1))
named_more k name i = after_both k (named_from name 0 i) (site (name i) ∷ []) ∙ ap (after k) (sym (one_named name i))

pub named_more_from : (k : Kept) (name : ℕ → SiteName) (s i : ℕ) → after (after k (named_from name s i)) (site (name (s + i)) ∷ []) ≡ after k (named_from name s (i + 1))
named_more_from k name s i = let e : i + 1 ≡ suc i = omega arith in after_both k (named_from name s i) (site (name (s + i)) ∷ []) ∙ ap (after k) (sym (ap (named_from name s) e ∙ more_named name i s))
