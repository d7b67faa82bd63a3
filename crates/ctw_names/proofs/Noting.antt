-- Faults that are noted one after another, and lists that are walked.
use Rattle.std.proofs.Common.{◌≡◌, ℕ, ◌+◌, Bool, true, false, List, [], ◌∷◌, ◌++◌, drop, take, refl, ap, sym, ◌∙◌, arith}
use Rattle.std.specs.Prelude.{Option, Some, None, nat_le, slice_get}
use Rattle.std.proofs.lemmas.Bool.{leb-true, leb-false}
use Rattle.std.proofs.lemmas.List.{drop_more, take_more}
use Rattle.std.proofs.lemmas.Option.{slice_get_within, get_or_from_slice_get}
use Rattle.ctw_text.specs.Names.{NameFault, leftmost, nearer}
use Rattle.ctw_names.specs.Noted.{earlier, noted}

pub noted_append : (xs ys : List NameFault) (b : Option NameFault) → noted b (xs ++ ys) ≡ noted (noted b xs) ys
noted_append [] ys b = refl
noted_append (f ∷ xs) ys b = noted_append xs ys (Some (earlier b f))

nearest : (b f : NameFault) (l : Option NameFault) → nearer (earlier (Some b) f) l ≡ nearer b (Some (nearer f l))
nearest b f None = refl
nearest b f (Some g) = go (nat_le b.place f.place) (nat_le f.place g.place) (nat_le b.place g.place) refl refl refl
  where
    go : (p q r : Bool) → nat_le b.place f.place ≡ p → nat_le f.place g.place ≡ q → nat_le b.place g.place ≡ r → nearer (earlier (Some b) f) (Some g) ≡ nearer b (Some (nearer f (Some g)))
    go true true true p q r = rw (p, q, p, r) refl
    go true true false p q r = absurd (omega (arith, leb-true _ _ p, leb-true _ _ q, leb-false _ _ r))
    go true false r p q h = rw (p, q) refl
    go false true r p q h = rw (p, q, p) refl
    go false false true p q r = absurd (omega (arith, leb-false _ _ p, leb-false _ _ q, leb-true _ _ r))
    go false false false p q r = rw (p, q, r) refl

noted_some : (fs : List NameFault) (b : NameFault) → noted (Some b) fs ≡ Some (nearer b (leftmost fs))
noted_some [] b = refl
noted_some (f ∷ fs) b = noted_some fs (earlier (Some b) f) ∙ ap (λ (g : NameFault). Some g) (nearest b f (leftmost fs))

-- the first fault of those that were noted
pub leftmost_noted : (fs : List NameFault) → leftmost fs ≡ noted None fs
leftmost_noted [] = refl
leftmost_noted (f ∷ fs) = sym (noted_some fs f)

pub take_get : {X : Type 0} (xs : List X) (i : ℕ) (x : X) → slice_get xs i ≡ Some x → take (i + 1) xs ≡ take i xs ++ x ∷ []
take_get xs i x e = take_more xs i x (slice_get_within xs i x e) ∙ ap (λ y. take i xs ++ y ∷ []) (get_or_from_slice_get xs i x x e)

pub drop_get : {X : Type 0} (xs : List X) (i : ℕ) (x : X) → slice_get xs i ≡ Some x → drop i xs ≡ x ∷ drop (i + 1) xs
drop_get xs i x e = drop_more xs i x (slice_get_within xs i x e) ∙ ap (λ y. y ∷ drop (i + 1) xs) (get_or_from_slice_get xs i x x e)
