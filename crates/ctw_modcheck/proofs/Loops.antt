-- Loops over items that have a fault each, or are tested each: what is said of all of them is said of those that are left.
use Rattle.std.proofs.Common.{◌≡◌, ◌≤◌, ℕ, zero, suc, ◌+◌, Bool, true, false, ◌&&◌, List, [], ◌∷◌, length, drop, slice_get, Option, Some, None, refl, ap, ◌∙◌, arith}
use Rattle.std.specs.List.{list_all}
use Rattle.ctw_modcheck.specs.declared.fault.Invalid.{Invalid}
use Rattle.ctw_modcheck.specs.Answers.{fault_at}
use Rattle.ctw_modcheck.specs.Faults.{or_else, first_in, of_some}

-- of the items from `start` on, those from i on are left
pub record Reached {A : Type 0} (fault : ℕ → A → Option Invalid) (items : List A) (start i : ℕ) : Type 0 where
  pub left : first_in fault start (drop start items) ≡ first_in fault i (drop i items)

pub skip : (a b : Option Invalid) → a ≡ None → or_else a b ≡ b
skip a b e = ap (λ o. or_else o b) e

pub stop : (a b : Option Invalid) (f : Invalid) → a ≡ Some f → or_else a b ≡ Some f
stop a b f e = ap (λ o. or_else o b) e

next_left : {A : Type 0} (fault : ℕ → A → Option Invalid) (l : List A) (k j : ℕ) → of_some (fault k) (slice_get l j) ≡ None → first_in fault k (drop j l) ≡ first_in fault (suc k) (drop (suc j) l)
next_left fault [] k zero e = refl
next_left fault [] k (suc j) e = refl
next_left fault (a ∷ l) k zero e = skip (fault k a) (first_in fault (suc k) l) e
next_left fault (a ∷ l) k (suc j) e = next_left fault l k j e

fault_left : {A : Type 0} (fault : ℕ → A → Option Invalid) (l : List A) (k j : ℕ) (f : Invalid) → of_some (fault k) (slice_get l j) ≡ Some f → first_in fault k (drop j l) ≡ Some f
fault_left fault [] k j f e = absurd (no e)
  where
    no : ◌≡◌ {A = Option Invalid} None (Some f) → ⊥
    no q = cc
fault_left fault (a ∷ l) k zero f e = stop (fault k a) (first_in fault (suc k) l) f e
fault_left fault (a ∷ l) k (suc j) f e = fault_left fault l k j f e

none_left : {A : Type 0} (fault : ℕ → A → Option Invalid) (l : List A) (k j : ℕ) → length l ≤ j → first_in fault k (drop j l) ≡ None
none_left fault [] k zero le = refl
none_left fault [] k (suc j) le = refl
none_left fault (a ∷ l) k zero le = absurd (omega (arith, le))
none_left fault (a ∷ l) k (suc j) le = none_left fault l k j (omega (arith, le))

pub reached_none : {A : Type 0} (fault : ℕ → A → Option Invalid) (items : List A) (start : ℕ) → Reached fault items start start
reached_none fault items start = record { left = refl }

pub reached_more : {A : Type 0} (fault : ℕ → A → Option Invalid) (items : List A) (start i : ℕ) → fault_at fault items i ≡ None → Reached fault items start i → Reached fault items start (i + 1)
reached_more fault items start i e r =
    let next : suc i ≡ i + 1 = omega arith in
    record { left = r.left ∙ next_left fault items i i e ∙ ap (λ (k : ℕ). first_in fault k (drop k items)) next }

pub reached_fault : {A : Type 0} (fault : ℕ → A → Option Invalid) (items : List A) (start i : ℕ) (f : Invalid) → fault_at fault items i ≡ Some f → Reached fault items start i → first_in fault start (drop start items) ≡ Some f
reached_fault fault items start i f e r = r.left ∙ fault_left fault items i i f e

pub reached_all : {A : Type 0} (fault : ℕ → A → Option Invalid) (items : List A) (start i : ℕ) → length items ≤ i → Reached fault items start i → first_in fault start (drop start items) ≡ None
reached_all fault items start i le r = r.left ∙ none_left fault items i i le

pub at_item : {A : Type 0} (fault : ℕ → A → Option Invalid) (items : List A) (i : ℕ) (a : A) (o : Option Invalid) → slice_get items i ≡ Some a → fault i a ≡ o → fault_at fault items i ≡ o
at_item fault items i a o is e = ap (of_some (fault i)) is ∙ e

pub none_past : {A : Type 0} (l : List A) (i : ℕ) → slice_get l i ≡ None → length l ≤ i
none_past [] i e = omega arith
none_past (a ∷ l) zero e = absurd cc
none_past (a ∷ l) (suc i) e = omega (arith, none_past l i e)

-- ---- tests

-- of the items from `start` on, those from i on are left to be tested
pub record Tested {A : Type 0} (test : A → Bool) (items : List A) (start i : ℕ) : Type 0 where
  pub left : list_all test (drop start items) ≡ list_all test (drop i items)

next_tested : {A : Type 0} (test : A → Bool) (l : List A) (i : ℕ) (a : A) → slice_get l i ≡ Some a → list_all test (drop i l) ≡ (test a && list_all test (drop (suc i) l))
next_tested test [] i a e = absurd cc
next_tested test (b ∷ l) zero a e = let q : b ≡ a = cc in ap (λ x. test x && list_all test l) q
next_tested test (b ∷ l) (suc i) a e = next_tested test l i a e

pub tested_none : {A : Type 0} (test : A → Bool) (items : List A) (start : ℕ) → Tested test items start start
tested_none test items start = record { left = refl }

pub tested_more : {A : Type 0} (test : A → Bool) (items : List A) (start i : ℕ) (a : A) → slice_get items i ≡ Some a → test a ≡ true → Tested test items start i → Tested test items start (i + 1)
tested_more test items start i a is t r =
    let next : suc i ≡ i + 1 = omega arith in
    record { left = r.left ∙ next_tested test items i a is ∙ ap (λ (b : Bool). b && list_all test (drop (suc i) items)) t ∙ ap (λ (k : ℕ). list_all test (drop k items)) next }

pub tested_fails : {A : Type 0} (test : A → Bool) (items : List A) (start i : ℕ) (a : A) → slice_get items i ≡ Some a → test a ≡ false → Tested test items start i → list_all test (drop start items) ≡ false
tested_fails test items start i a is t r = r.left ∙ next_tested test items i a is ∙ ap (λ (b : Bool). b && list_all test (drop (suc i) items)) t

pub tested_all : {A : Type 0} (test : A → Bool) (items : List A) (start i : ℕ) → length items ≤ i → Tested test items start i → list_all test (drop start items) ≡ true
tested_all {A} test items start i le r = r.left ∙ none items i le
  where
    none : (l : List A) (j : ℕ) → length l ≤ j → list_all test (drop j l) ≡ true
    none [] zero k = refl
    none [] (suc j) k = refl
    none (a ∷ l) zero k = absurd (omega (arith, k))
    none (a ∷ l) (suc j) k = none l j (omega (arith, k))
