-- What lists contain, by places.
use Rattle.std.proofs.Common.{◌≡◌, ◌<◌, ◌≤◌, ◌⊎◌, ℕ, zero, suc, ◌+◌, List, [], ◌∷◌, ◌++◌, length, map, flat_map, filter_map, slice_get, get_or, Option, Some, None, option_map, All, AllPairs, Contains, inl, inr, refl, sym, ap, subst, ◌∙◌, arith}
use Rattle.std.specs.List.{cons_option}
use Rattle.std.proofs.lemmas.Bool.{cases_lt}
use Rattle.std.proofs.lemmas.Option.{slice_get-map, slice_get-get_or, slice_get_within, get_or_from_slice_get}
use Rattle.std.proofs.lemmas.List.Elements.{All-nil, All-cons, All-append, All-head, All-tail}
use Rattle.ctw_ops.proofs.Lists.{contains_get}
use Rattle.ctw_form.proofs.Params.{slice_get_left}
use Rattle.ctw_link.proofs.Lists.{skipped}

abbrev pub In : {A : Type 0} → List A → A → Type 0
In xs x = (i : ℕ) × (slice_get xs i ≡ Some x)

pub in_from : {A : Type 0} (xs : List A) (x : A) → Contains xs x → In xs x
in_from xs x c = (c.0, slice_get-get_or xs c.0 x c.1 ∙ ap Some c.2)

pub in_to : {A : Type 0} (xs : List A) (x : A) → In xs x → Contains xs x
in_to xs x h = contains_get xs h.0 x h.1

pub in_left : {A : Type 0} (xs ys : List A) (x : A) → In xs x → In (xs ++ ys) x
in_left xs ys x h = (h.0, slice_get_left xs ys h.0 (slice_get_within xs h.0 x h.1) ∙ h.1)

pub in_right : {A : Type 0} (xs ys : List A) (y : A) → In ys y → In (xs ++ ys) y
in_right xs ys y h = (h.0 + length xs, skipped xs ys h.0 (h.0 + length xs) refl ∙ h.1)

pub in_map : {A B : Type 0} (f : A → B) (xs : List A) (x : A) → In xs x → In (map f xs) (f x)
in_map f xs x h = (h.0, slice_get-map f xs h.0 ∙ ap (option_map f) h.1)

flat_at : {A B : Type 0} (f : A → List B) (xs : List A) (a : A) (b : B) (i : ℕ) → slice_get xs i ≡ Some a → In (f a) b → In (flat_map f xs) b
flat_at f [] a b i e k = absurd cc
flat_at {A} f (x ∷ xs) a b zero e k = let q : x ≡ a = cc in in_left (f x) (flat_map f xs) b (subst (λ (y : A). In (f y) b) (sym q) k)
flat_at f (x ∷ xs) a b (suc i) e k = in_right (f x) (flat_map f xs) b (flat_at f xs a b i e k)

pub in_flat : {A B : Type 0} (f : A → List B) (xs : List A) (a : A) (b : B) → In xs a → In (f a) b → In (flat_map f xs) b
in_flat f xs a b h k = flat_at f xs a b h.0 h.1 k

in_behind : {B : Type 0} (o : Option B) (ys : List B) (b : B) → In ys b → In (cons_option o ys) b
in_behind None ys b r = r
in_behind (Some y) ys b r = (suc r.0, r.1)

filter_at : {A B : Type 0} (f : A → Option B) (xs : List A) (a : A) (b : B) (i : ℕ) → slice_get xs i ≡ Some a → f a ≡ Some b → In (filter_map f xs) b
filter_at f [] a b i e k = absurd cc
filter_at {A} {B} f (x ∷ xs) a b zero e k =
    let q : x ≡ a = cc in
    subst (λ (o : Option B). In (cons_option o (filter_map f xs)) b) (sym (ap f q ∙ k)) (0, refl)
filter_at f (x ∷ xs) a b (suc i) e k = in_behind (f x) (filter_map f xs) b (filter_at f xs a b i e k)

pub in_filter : {A B : Type 0} (f : A → Option B) (xs : List A) (a : A) (b : B) → In xs a → f a ≡ Some b → In (filter_map f xs) b
in_filter f xs a b h k = filter_at f xs a b h.0 h.1 k

-- any two of which each pair of places has a symmetric relation
pub any_two : {A : Type 0} (R : A → A → Type 0) (xs : List A) (a b : A) → ((x : A) → R x x) → ((x y : A) → R x y → R y x) → AllPairs R xs → In xs a → In xs b → R a b
any_two {A} R xs a b same turned h p q = by (cases_lt p.0 q.0) (cases_lt q.0 p.0)
  where
    at : (i : ℕ) (x : A) → slice_get xs i ≡ Some x → get_or xs i a ≡ x
    at i x e = get_or_from_slice_get xs i x a e

    by : (p.0 < q.0) ⊎ (q.0 ≤ p.0) → (q.0 < p.0) ⊎ (p.0 ≤ q.0) → R a b
    by (inl lt) o = subst (R a) (at q.0 b q.1) (subst (λ (x : A). R x (get_or xs q.0 a)) (at p.0 a p.1) (h p.0 q.0 a lt (slice_get_within xs q.0 b q.1)))
    by (inr le) (inl lt) = turned b a (subst (R b) (at p.0 a p.1) (subst (λ (x : A). R x (get_or xs p.0 a)) (at q.0 b q.1) (h q.0 p.0 a lt (slice_get_within xs p.0 a p.1))))
    by (inr le) (inr ge) =
        let places : p.0 ≡ q.0 = omega (arith, le, ge) in
        let values : a ≡ b = sym (at p.0 a p.1) ∙ ap (λ (i : ℕ). get_or xs i a) places ∙ at q.0 b q.1 in
        subst (R a) values (same a)

pub all_flat : {A B : Type 0} (P : B → Type 0) (f : A → List B) (xs : List A) → All (λ a. All P (f a)) xs → All P (flat_map f xs)
all_flat P f [] h = All-nil P
all_flat {A} P f (x ∷ xs) h =
    All-append P (f x) (flat_map f xs) (All-head (λ (a : A). All P (f a)) x xs h) (all_flat P f xs (All-tail (λ (a : A). All P (f a)) x xs h))

-- what holds of each image
pub every : {A B : Type 0} (P : B → Type 0) (f : A → B) (xs : List A) → ((x : A) → P (f x)) → All P (map f xs)
every P f [] h = All-nil P
every P f (x ∷ xs) h = All-cons P (f x) (map f xs) (h x) (every P f xs h)

pub all_unmap : {A B : Type 0} (P : B → Type 0) (f : A → B) (xs : List A) → All P (map f xs) → All (λ x. P (f x)) xs
all_unmap P f [] h = All-nil (λ x. P (f x))
all_unmap P f (x ∷ xs) h = All-cons (λ x. P (f x)) x xs (All-head P (f x) (map f xs) h) (all_unmap P f xs (All-tail P (f x) (map f xs) h))
