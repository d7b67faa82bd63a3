-- Lists by index, and stacks with values put upon them.
use Rattle.std.proofs.Common.{◌≡◌, Option, None, option_map, ℕ, zero, suc, ◌<◌, List, [], ◌∷◌, ◌++◌, map, length, Some, slice_get, slice_set, All, Contains, refl, sym, ap, ◌∙◌, subst, arith, append-nil}
use Rattle.std.proofs.lemmas.Option.{slice_get_within, get_or_from_slice_get}
use Rattle.ctw_ops.specs.Typing.{optional, upon}

pub all_get : {A : Type 0} (P : A → Type 0) (xs : List A) (i : ℕ) (x : A) → All P xs → slice_get xs i ≡ Some x → P x
all_get P xs i x h e = subst P (get_or_from_slice_get xs i x x e) (h i x (slice_get_within xs i x e))

pub contains_get : {A : Type 0} (xs : List A) (i : ℕ) (x : A) → slice_get xs i ≡ Some x → Contains xs x
contains_get xs i x e = (i, slice_get_within xs i x e, get_or_from_slice_get xs i x x e)

pub map_get : {A B : Type 0} (f : A → B) (xs : List A) (i : ℕ) (y : B) → slice_get (map f xs) i ≡ Some y → (x : A) × (slice_get xs i ≡ Some x) × (f x ≡ y)
map_get f [] i y e = cc
map_get f (x ∷ xs) zero y e = (x, refl, cc)
map_get f (x ∷ xs) (suc i) y e = map_get f xs i y e

pub map_set_same : {A B : Type 0} (f : A → B) (xs : List A) (i : ℕ) (x y : A) → slice_get xs i ≡ Some x → f y ≡ f x → map f (slice_set xs i y) ≡ map f xs
map_set_same f [] i x y e q = cc
map_set_same f (z ∷ xs) zero x y e q = let p : z ≡ x = cc in ap (λ b. b ∷ map f xs) (q ∙ ap f (sym p))
map_set_same f (z ∷ xs) (suc i) x y e q = ap (λ l. f z ∷ l) (map_set_same f xs i x y e q)

pub in_range : {A : Type 0} (xs : List A) (i : ℕ) → i < length xs → (x : A) × (slice_get xs i ≡ Some x)
in_range [] i h = absurd (omega arith)
in_range (x ∷ xs) zero h = (x, refl)
in_range (x ∷ xs) (suc i) h = in_range xs i (omega arith)

-- ---- stacks

pub upon_append : {A : Type 0} (xs ys s : List A) → upon (xs ++ ys) s ≡ upon ys (upon xs s)
upon_append [] ys s = refl
upon_append (x ∷ xs) ys s = upon_append xs ys (x ∷ s)

pub upon_below : {A : Type 0} (xs ys s : List A) → upon xs (ys ++ s) ≡ upon xs ys ++ s
upon_below [] ys s = refl
upon_below (x ∷ xs) ys s = upon_below xs (x ∷ ys) s

upon_twice : {A : Type 0} (xs ys s : List A) → upon (upon xs ys) s ≡ upon ys (xs ++ s)
upon_twice [] ys s = refl
upon_twice (x ∷ xs) ys s = upon_twice xs (x ∷ ys) s

pub upon_back : {A : Type 0} (xs : List A) → upon (upon xs []) [] ≡ xs
upon_back xs = upon_twice xs [] [] ∙ append-nil xs

pub map-upon : {A B : Type 0} (f : A → B) (xs s : List A) → map f (upon xs s) ≡ upon (map f xs) (map f s)
map-upon f [] s = refl
map-upon f (x ∷ xs) s = map-upon f xs (x ∷ s)

pub map-optional : {A B : Type 0} (f : A → B) (o : Option A) → map f (optional o) ≡ optional (option_map f o)
map-optional f None = refl
map-optional f (Some x) = refl
