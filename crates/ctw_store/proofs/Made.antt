-- Which pages are made, over all memories.
use Rattle.std.proofs.Common.{◌≡◌, ℕ, zero, suc, Bool, true, List, [], ◌∷◌, ◌++◌, Some, slice_get, slice_set, refl, sym, ap, ◌∙◌, subst}
use Rattle.std.specs.Prelude.{option_and_then}
use Rattle.ctw_store.specs.Made.{IsMade, KeepsMade}
use Rattle.ctw_store.specs.Pages.{IsMadeIn, KeepsMadeIn}

-- the pages of one memory
pub in_one : (made : List (List Bool)) (i : ℕ) (l : List Bool) → slice_get made i ≡ Some l → (page : ℕ) → IsMade made i page → IsMadeIn l page
in_one made i l g page h = sym (ap (option_and_then (λ (pages : List Bool). slice_get pages page)) g) ∙ h

pub of_one : (made : List (List Bool)) (i : ℕ) (l : List Bool) → slice_get made i ≡ Some l → (page : ℕ) → IsMadeIn l page → IsMade made i page
of_one made i l g page h = ap (option_and_then (λ (pages : List Bool). slice_get pages page)) g ∙ h

pub set_read : {A : Type 0} (xs : List A) (i : ℕ) (x y : A) → slice_get xs i ≡ Some x → slice_get (slice_set xs i y) i ≡ Some y
set_read [] i x y g = absurd cc
set_read (z ∷ xs) zero x y g = refl
set_read (z ∷ xs) (suc i) x y g = set_read xs i x y g

pub append_read : {A : Type 0} (xs ys : List A) (i : ℕ) (x : A) → slice_get xs i ≡ Some x → slice_get (xs ++ ys) i ≡ Some x
append_read [] ys i x g = absurd cc
append_read (z ∷ xs) ys zero x g = g
append_read (z ∷ xs) ys (suc i) x g = append_read xs ys i x g

-- one memory's pages change
pub keeps_set : (made : List (List Bool)) (i : ℕ) (l new : List Bool) → slice_get made i ≡ Some l → KeepsMadeIn l new → KeepsMade made (slice_set made i new)
keeps_set [] i l new g k mem page h = absurd cc
keeps_set (x ∷ made) zero l new g k zero page h = let e : x ≡ l = cc in k page (subst (λ l. IsMadeIn l page) e h)
keeps_set (x ∷ made) zero l new g k (suc mem) page h = h
keeps_set (x ∷ made) (suc i) l new g k zero page h = h
keeps_set (x ∷ made) (suc i) l new g k (suc mem) page h = keeps_set made i l new g k mem page h

-- a memory is added
pub keeps_more : (made more : List (List Bool)) → KeepsMade made (made ++ more)
keeps_more [] more mem page h = absurd cc
keeps_more (x ∷ made) more zero page h = h
keeps_more (x ∷ made) more (suc mem) page h = keeps_more made more mem page h

-- pages are added to one memory
pub keeps_extended : (made more : List Bool) → KeepsMadeIn made (made ++ more)
keeps_extended made more page h = append_read made more page true h
