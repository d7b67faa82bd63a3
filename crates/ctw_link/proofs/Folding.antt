-- Loops that fold over what each item of a list brings.
use Rattle.std.proofs.Common.{◌≡◌, ◌≤◌, ℕ, zero, suc, ◌+◌, List, [], ◌∷◌, length, drop, fold, flat_map, filter_map, slice_get, All, Option, Some, None, refl, sym, ap, subst, ◌∙◌, arith}
use Rattle.std.specs.List.{cons_option}
use Rattle.std.proofs.lemmas.List.Elements.{All-get_or}
use Rattle.std.proofs.lemmas.List.Sums.{fold-append}
use Rattle.std.proofs.lemmas.Option.{get_or_from_slice_get, slice_get_within}

drop_next : {A : Type 0} (l : List A) (i : ℕ) (a : A) → slice_get l i ≡ Some a → drop i l ≡ a ∷ drop (suc i) l
drop_next [] i a e = absurd cc
drop_next (b ∷ l) zero a e = let q : b ≡ a = cc in ap (λ x. x ∷ l) q
drop_next (b ∷ l) (suc i) a e = drop_next l i a e

pub drop_there : {A : Type 0} (l : List A) (i : ℕ) (a : A) → slice_get l i ≡ Some a → drop i l ≡ a ∷ drop (i + 1) l
drop_there l i a e =
    let next : suc i ≡ i + 1 = omega arith in
    drop_next l i a e ∙ ap (λ (k : ℕ). a ∷ drop k l) next

pub drop_past : {A : Type 0} (l : List A) (i : ℕ) → length l ≤ i → drop i l ≡ []
drop_past [] zero le = refl
drop_past [] (suc i) le = refl
drop_past (a ∷ l) zero le = absurd (omega (arith, le))
drop_past (a ∷ l) (suc i) le = drop_past l i (omega (arith, le))

pub none_past : {A : Type 0} (l : List A) (i : ℕ) → slice_get l i ≡ None → length l ≤ i
none_past [] i e = omega arith
none_past (a ∷ l) zero e = absurd cc
none_past (a ∷ l) (suc i) e = omega (arith, none_past l i e)

pub all_there : {A : Type 0} (P : A → Type 0) (l : List A) (i : ℕ) (a : A) → slice_get l i ≡ Some a → All P l → P a
all_there P l i a e all = subst P (get_or_from_slice_get l i a a e) (All-get_or P l i a (slice_get_within l i a e) all)

-- of the items those from i on are left to be folded in
pub record Folded {A B S : Type 0} (f : S → B → S) (g : A → List B) (items : List A) (start now : S) (i : ℕ) : Type 0 where
  pub left : fold f start (flat_map g items) ≡ fold f now (flat_map g (drop i items))

pub folded_none : {A B S : Type 0} (f : S → B → S) (g : A → List B) (items : List A) (start : S) → Folded f g items start start 0
folded_none f g items start = record { left = refl }

pub folded_more : {A B S : Type 0} (f : S → B → S) (g : A → List B) (items : List A) (start now after : S) (i : ℕ) (a : A) → slice_get items i ≡ Some a → after ≡ fold f now (g a) → Folded f g items start now i → Folded f g items start after (i + 1)
folded_more f g items start now after i a is e r =
    let others = flat_map g (drop (i + 1) items) in
    record { left = r.left ∙ ap (λ l. fold f now (flat_map g l)) (drop_there items i a is) ∙ fold-append f now (g a) others ∙ ap (λ s. fold f s others) (sym e) }

pub folded_at : {A B S : Type 0} (f : S → B → S) (g : A → List B) (items : List A) (start now after : S) (i next : ℕ) (a : A) → next ≡ i + 1 → slice_get items i ≡ Some a → after ≡ fold f now (g a) → Folded f g items start now i → Folded f g items start after next
folded_at f g items start now after i next a n is e r = subst (λ k. Folded f g items start after k) (sym n) (folded_more f g items start now after i a is e r)

pub folded_all : {A B S : Type 0} (f : S → B → S) (g : A → List B) (items : List A) (start now : S) (i : ℕ) → length items ≤ i → Folded f g items start now i → now ≡ fold f start (flat_map g items)
folded_all f g items start now i le r = sym (r.left ∙ ap (λ l. fold f now (flat_map g l)) (drop_past items i le))

-- the same of what each item may bring
pub record Filtered {A B S : Type 0} (f : S → B → S) (g : A → Option B) (items : List A) (start now : S) (i : ℕ) : Type 0 where
  pub left : fold f start (filter_map g items) ≡ fold f now (filter_map g (drop i items))

pub filtered_none : {A B S : Type 0} (f : S → B → S) (g : A → Option B) (items : List A) (start : S) → Filtered f g items start start 0
filtered_none f g items start = record { left = refl }

pub filtered_more : {A B S : Type 0} (f : S → B → S) (g : A → Option B) (items : List A) (start now after : S) (i : ℕ) (a : A) (b : B) → slice_get items i ≡ Some a → g a ≡ Some b → after ≡ f now b → Filtered f g items start now i → Filtered f g items start after (i + 1)
filtered_more f g items start now after i a b is brings e r =
    let others = filter_map g (drop (i + 1) items) in
    record {
      left = r.left ∙ ap (λ l. fold f now (filter_map g l)) (drop_there items i a is) ∙ ap (λ o. fold f now (cons_option o others)) brings ∙ ap (λ s. fold f s others) (sym e);
    }

pub filtered_all : {A B S : Type 0} (f : S → B → S) (g : A → Option B) (items : List A) (start now : S) (i : ℕ) → length items ≤ i → Filtered f g items start now i → now ≡ fold f start (filter_map g items)
filtered_all f g items start now i le r = sym (r.left ∙ ap (λ l. fold f now (filter_map g l)) (drop_past items i le))
