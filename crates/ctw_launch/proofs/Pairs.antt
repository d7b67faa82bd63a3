-- Lists that go side by side, and pieces of lists that are joined.
use Rattle.std.proofs.Common.{◌≡◌, ℕ, zero, suc, ◌+◌, List, [], ◌∷◌, ◌++◌, length, map, flat_map, slice_get, Some, refl, ap, subst, ◌∙◌, arith, length-append}
use Rattle.std.specs.List.{range_with_len, AllZip}
use Rattle.std.specs.Prelude.{sum_by}
use Rattle.std.proofs.lemmas.List.Sums.{sum_by-cons}
use Rattle.std.proofs.lemmas.List.Concat.{length-flat_map}
use Rattle.std.proofs.lemmas.Option.{slice_get_within, same_Some}
use Rattle.ctw_form.proofs.Params.{slice_get_left}
use Rattle.ctw_link.proofs.Lists.{skipped}

pub paired_append : {A B : Type 0} (R : A → B → Type 0) (xs more : List A) (ys others : List B) → AllZip R xs ys → AllZip R more others → AllZip R (xs ++ more) (ys ++ others)
paired_append R [] more [] others p q = q
paired_append R [] more (y ∷ ys) others p q = absurd p
paired_append R (x ∷ xs) more [] others p q = absurd p
paired_append R (x ∷ xs) more (y ∷ ys) others p q = (p.0, paired_append R xs more ys others p.1 q)

pub paired_get : {A B : Type 0} (R : A → B → Type 0) (xs : List A) (ys : List B) (i : ℕ) (x : A) → AllZip R xs ys → slice_get xs i ≡ Some x → (y : B) × (slice_get ys i ≡ Some y) × R x y
paired_get R [] ys i x p e = absurd cc
paired_get R (z ∷ xs) [] i x p e = absurd p
paired_get R (z ∷ xs) (y ∷ ys) zero x p e = (y, refl, subst (λ w. R w y) (same_Some z x e) p.0)
paired_get R (z ∷ xs) (y ∷ ys) (suc i) x p e = paired_get R xs ys i x p.1 e

pub paired_back : {A B : Type 0} (R : A → B → Type 0) (xs : List A) (ys : List B) (i : ℕ) (y : B) → AllZip R xs ys → slice_get ys i ≡ Some y → (x : A) × (slice_get xs i ≡ Some x) × R x y
paired_back R xs [] i y p e = absurd cc
paired_back R [] (z ∷ ys) i y p e = absurd p
paired_back R (x ∷ xs) (z ∷ ys) zero y p e = (x, refl, subst (R x) (same_Some z y e) p.0)
paired_back R (x ∷ xs) (z ∷ ys) (suc i) y p e = paired_back R xs ys i y p.1 e

-- elements beside numbers that count up
pub paired_range : {A B : Type 0} (R : A → ℕ → Type 0) (f : B → A) (bs : List B) (start : ℕ) → ((j : ℕ) (b : B) → slice_get bs j ≡ Some b → R (f b) (j + start)) → AllZip R (map f bs) (range_with_len start (length bs))
paired_range R f [] start h = tt
paired_range R f (b ∷ bs) start h =
    let first : 0 + start ≡ start = omega arith in
    (subst (R (f b)) first (h 0 b refl), paired_range R f bs (start + 1) (λ j c e. let next : suc j + start ≡ j + (start + 1) = omega arith in subst (R (f c)) next (h (suc j) c e)))

-- ---- pieces

pub piece_at : {A B : Type 0} (f : A → List B) (front : List A) (a : A) (behind : List A) (j n : ℕ) (b : B) → n ≡ j + length (flat_map f front) → slice_get (f a) j ≡ Some b → slice_get (flat_map f (front ++ a ∷ behind)) n ≡ Some b
piece_at f [] a behind j n b q e =
    let same : n ≡ j = omega (arith, q) in
    ap (λ (m : ℕ). slice_get (f a ++ flat_map f behind) m) same ∙ slice_get_left (f a) (flat_map f behind) j (slice_get_within (f a) j b e) ∙ e
piece_at f (x ∷ front) a behind j n b q e =
    let rest = flat_map f (front ++ a ∷ behind) in
    skipped (f x) rest (j + length (flat_map f front)) n (omega (arith, q, length-append (f x) (flat_map f front))) ∙ piece_at f front a behind j (j + length (flat_map f front)) b refl e

sums_same : {A : Type 0} (f g : A → ℕ) → ((a : A) → f a ≡ g a) → (xs : List A) → sum_by f xs ≡ sum_by g xs
sums_same f g h [] = refl
sums_same f g h (x ∷ xs) = omega (arith, sum_by-cons f x xs, sum_by-cons g x xs, h x, sums_same f g h xs)

-- how long the pieces are together
pub pieces_length : {A B : Type 0} (f : A → List B) (size : A → ℕ) → ((a : A) → length (f a) ≡ size a) → (xs : List A) → length (flat_map f xs) ≡ sum_by size xs
pieces_length f size h xs = length-flat_map f xs ∙ sums_same (λ a. length (f a)) size h xs
