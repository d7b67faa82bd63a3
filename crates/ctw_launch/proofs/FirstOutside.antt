-- The first segment outside is found exactly where it is one.
use Rattle.std.proofs.Common.{◌≡◌, ◌≤◌, ◌<◌, ℕ, zero, suc, ◌+◌, Bool, true, false, cond, List, [], ◌∷◌, ◌++◌, slice_get, Option, Some, None, All, refl, ap, subst, ◌∙◌, nat_le, leb-true, arith}
use Rattle.std.proofs.lemmas.Bool.{leb-false}
use Rattle.std.proofs.lemmas.List.Elements.{All-nil, All-cons, All-head, All-tail}
use Rattle.std.proofs.lemmas.Option.{same_Some}
use Rattle.ctw_semantics.specs.Stores.{Storage}
use Rattle.ctw_link.specs.Numbers.{LinkedModule}
use Rattle.ctw_link.specs.Users.{or_later}
use Rattle.ctw_launch.specs.Launched.{LaunchFault, SegmentOutside, StartTrapped, StartUnfinished, Space, OfElements, OfData, element_fits, segment_fits, first_outside, outside}
use Rattle.ctw_launch.specs.Outcomes.{IsFirstWithout, ElementInside, DataInside, IsInside, IsOutside, FirstOutside}

-- ---- one list

module _ {A : Type 0} (P : A → Type 0) (fits : A → Bool) (does : (x : A) → fits x ≡ true → P x) (not : (x : A) → fits x ≡ false → P x → ⊥) where
  holds : (x : A) → P x → fits x ≡ true
  holds x p = go (fits x) refl
    where
      go : (b : Bool) → fits x ≡ b → fits x ≡ true
      go true e = e
      go false e = absurd (not x e p)

  none_fits : (fault : ℕ → LaunchFault) (k : ℕ) (xs : List A) → first_outside fits fault k xs ≡ None → All P xs
  none_fits fault k [] e = All-nil P
  none_fits fault k (x ∷ xs) e = go (fits x) refl e (none_fits fault (suc k) xs)
    where
      go : (b : Bool) → fits x ≡ b → cond b (first_outside fits fault (suc k) xs) (Some (fault k)) ≡ None → (first_outside fits fault (suc k) xs ≡ None → All P xs) → All P (x ∷ xs)
      go true f e later = All-cons P x xs (does x f) (later e)
      go false f e later = absurd cc

  fits_none : (fault : ℕ → LaunchFault) (k : ℕ) (xs : List A) → All P xs → first_outside fits fault k xs ≡ None
  fits_none fault k [] h = refl
  fits_none fault k (x ∷ xs) h = ap (λ (b : Bool). cond b (first_outside fits fault (suc k) xs) (Some (fault k))) (holds x (All-head P x xs h)) ∙ fits_none fault (suc k) xs (All-tail P x xs h)

  -- what is found, from a number on
  some_first : (fault : ℕ → LaunchFault) (k : ℕ) (xs : List A) (f : LaunchFault) → first_outside fits fault k xs ≡ Some f → (i : ℕ) × (fault (k + i) ≡ f) × IsFirstWithout P xs i
  some_first fault k [] f e = absurd cc
  some_first fault k (x ∷ xs) f e = go (fits x) refl e (some_first fault (suc k) xs f)
    where
      go : (b : Bool) → fits x ≡ b → cond b (first_outside fits fault (suc k) xs) (Some (fault k)) ≡ Some f → (first_outside fits fault (suc k) xs ≡ Some f → (i : ℕ) × (fault (suc k + i) ≡ f) × IsFirstWithout P xs i)
          → (i : ℕ) × (fault (k + i) ≡ f) × IsFirstWithout P (x ∷ xs) i
      go true q e later =
          let r = later e in
          let moved : k + suc r.0 ≡ suc k + r.0 = omega arith in (
            suc r.0,
            ap fault moved ∙ r.1,
            record {
              element = r.2.element;
              there = r.2.there;
              lacks = r.2.lacks;
              earlier = behind r.0 r.2 q;
            },
          )
        where
          behind : (i : ℕ) → IsFirstWithout P xs i → fits x ≡ true → (j : ℕ) (y : A) → j < suc i → slice_get (x ∷ xs) j ≡ Some y → P y
          behind i r q zero y less e = subst P (same_Some x y e) (does x q)
          behind i r q (suc j) y less e = r.earlier j y (omega (arith, less)) e
      go false q e later =
          let here : k + 0 ≡ k = omega arith in
          (0, ap fault here ∙ same_Some (fault k) f e, record { element = x; there = refl; lacks = not x q; earlier = λ j y less e. absurd (omega (arith, less)) })

  first_some : (fault : ℕ → LaunchFault) (k : ℕ) (xs : List A) (i : ℕ) → IsFirstWithout P xs i → first_outside fits fault k xs ≡ Some (fault (k + i))
  first_some fault k [] i h = absurd (let e = h.there in cc)
  first_some fault k (x ∷ xs) zero h =
      let here : k ≡ k + 0 = omega arith in
      let same : x ≡ h.element = same_Some x h.element h.there in
      ap (λ (b : Bool). cond b (first_outside fits fault (suc k) xs) (Some (fault k))) (out (fits x) refl (λ p. h.lacks (subst P same p))) ∙ ap (λ (n : ℕ). Some (fault n)) here
    where
      out : (b : Bool) → fits x ≡ b → (P x → ⊥) → fits x ≡ false
      out true e n = absurd (n (does x e))
      out false e n = e
  first_some fault k (x ∷ xs) (suc i) h =
      let moved : suc k + i ≡ k + suc i = omega arith in
      let rest : IsFirstWithout P xs i = record { element = h.element; there = h.there; lacks = h.lacks; earlier = λ j y less e. h.earlier (suc j) y (omega (arith, less)) e } in
      ap (λ (b : Bool). cond b (first_outside fits fault (suc k) xs) (Some (fault k))) (holds x (h.earlier 0 x (omega arith) refl)) ∙ first_some fault (suc k) xs i rest ∙ ap (λ (n : ℕ). Some (fault n)) moved

-- ---- all parts

module _ (s : Storage) where
  above : (a b : ℕ) → nat_le a b ≡ false → a ≤ b → ⊥
  above a b e le = omega (arith, leb-false a b e, le)

  module _ (q : LinkedModule) where
    elements_none : first_outside (element_fits s q) (SegmentOutside q.name OfElements) 0 q.tree.elements ≡ None → All (ElementInside s q) q.tree.elements
    elements_none = none_fits (ElementInside s q) (element_fits s q) (λ e. leb-true _ _) (λ e. above _ _) (SegmentOutside q.name OfElements) 0 q.tree.elements

    data_none : first_outside (segment_fits s q) (SegmentOutside q.name OfData) 0 q.tree.segments ≡ None → All (DataInside s q) q.tree.segments
    data_none = none_fits (DataInside s q) (segment_fits s q) (λ e. leb-true _ _) (λ e. above _ _) (SegmentOutside q.name OfData) 0 q.tree.segments

    elements_fit : All (ElementInside s q) q.tree.elements → first_outside (element_fits s q) (SegmentOutside q.name OfElements) 0 q.tree.elements ≡ None
    elements_fit = fits_none (ElementInside s q) (element_fits s q) (λ e. leb-true _ _) (λ e. above _ _) (SegmentOutside q.name OfElements) 0 q.tree.elements

    data_fit : All (DataInside s q) q.tree.segments → first_outside (segment_fits s q) (SegmentOutside q.name OfData) 0 q.tree.segments ≡ None
    data_fit = fits_none (DataInside s q) (segment_fits s q) (λ e. leb-true _ _) (λ e. above _ _) (SegmentOutside q.name OfData) 0 q.tree.segments

  -- what the search tells
  abbrev pub Tells : List LinkedModule → Option LaunchFault → Type 0
  Tells parts None = All (IsInside s) parts
  Tells parts (Some (SegmentOutside name space index)) = FirstOutside s parts name space index
  Tells parts (Some _) = ⊥

  here : (q : LinkedModule) (parts : List LinkedModule) (space : Space) (index : ℕ) (f : LaunchFault) → SegmentOutside q.name space index ≡ f → IsOutside s q space index → Tells (q ∷ parts) (Some f)
  here q parts space index f e h = subst (λ (f : LaunchFault). Tells (q ∷ parts) (Some f)) e (record { before = []; part = q; behind = parts; split = refl; inside = All-nil (IsInside s); named = refl; outside = h })

  later : (q : LinkedModule) (parts : List LinkedModule) (o : Option LaunchFault) → IsInside s q → Tells parts o → Tells (q ∷ parts) o
  later q parts None i h = All-cons (IsInside s) q parts i h
  later q parts (Some (SegmentOutside name space index)) i h = record {
    before = q ∷ h.before;
    part = h.part;
    behind = h.behind;
    split = ap (λ (l : List LinkedModule). q ∷ l) h.split;
    inside = All-cons (IsInside s) q h.before i h.inside;
    named = h.named;
    outside = h.outside;
  }
  later q parts (Some (StartTrapped name code)) i h = h
  later q parts (Some (StartUnfinished name)) i h = h

  pub outside_tells : (parts : List LinkedModule) → Tells parts (outside s parts)
  outside_tells [] = All-nil (IsInside s)
  outside_tells (q ∷ parts) = go (first_outside (element_fits s q) (SegmentOutside q.name OfElements) 0 q.tree.elements) refl (outside_tells parts)
    where
      go : (o : Option LaunchFault) → first_outside (element_fits s q) (SegmentOutside q.name OfElements) 0 q.tree.elements ≡ o → Tells parts (outside s parts)
          → Tells (q ∷ parts) (or_later o (or_later (first_outside (segment_fits s q) (SegmentOutside q.name OfData) 0 q.tree.segments) (outside s parts)))
      go (Some f) e rest =
          let r = some_first (ElementInside s q) (element_fits s q) (λ e. leb-true _ _) (λ e. above _ _) (SegmentOutside q.name OfElements) 0 q.tree.elements f e in
          let sum : r.0 ≡ 0 + r.0 = omega arith in
          here q parts OfElements r.0 f (ap (λ (n : ℕ). SegmentOutside q.name OfElements n) sum ∙ r.1) r.2
      go None e rest = with_data (first_outside (segment_fits s q) (SegmentOutside q.name OfData) 0 q.tree.segments) refl
        where
          with_data : (o : Option LaunchFault) → first_outside (segment_fits s q) (SegmentOutside q.name OfData) 0 q.tree.segments ≡ o → Tells (q ∷ parts) (or_later o (outside s parts))
          with_data (Some f) d =
              let r = some_first (DataInside s q) (segment_fits s q) (λ e. leb-true _ _) (λ e. above _ _) (SegmentOutside q.name OfData) 0 q.tree.segments f d in
              let sum : r.0 ≡ 0 + r.0 = omega arith in
              here q parts OfData r.0 f (ap (λ (n : ℕ). SegmentOutside q.name OfData n) sum ∙ r.1) (elements_none q e, r.2)
          with_data None d = later q parts (outside s parts) (elements_none q e, data_none q d) rest

  inside_passes : (q : LinkedModule) (parts : List LinkedModule) → IsInside s q → outside s (q ∷ parts) ≡ outside s parts
  inside_passes q parts i =
      ap (λ (o : Option LaunchFault). or_later o (or_later (first_outside (segment_fits s q) (SegmentOutside q.name OfData) 0 q.tree.segments) (outside s parts))) (elements_fit q i.0)
      ∙ ap (λ (o : Option LaunchFault). or_later o (outside s parts)) (data_fit q i.1)

  pub inside_none : (parts : List LinkedModule) → All (IsInside s) parts → outside s parts ≡ None
  inside_none [] h = refl
  inside_none (q ∷ parts) h = inside_passes q parts (All-head (IsInside s) q parts h) ∙ inside_none parts (All-tail (IsInside s) q parts h)

  outside_here : (q : LinkedModule) (parts : List LinkedModule) (space : Space) (index : ℕ) → IsOutside s q space index → outside s (q ∷ parts) ≡ Some (SegmentOutside q.name space index)
  outside_here q parts OfElements index h =
      ap (λ (o : Option LaunchFault). or_later o (or_later (first_outside (segment_fits s q) (SegmentOutside q.name OfData) 0 q.tree.segments) (outside s parts)))
      (first_some (ElementInside s q) (element_fits s q) (λ e. leb-true _ _) (λ e. above _ _) (SegmentOutside q.name OfElements) 0 q.tree.elements index h)
      ∙ ap (λ (n : ℕ). Some (SegmentOutside q.name OfElements n)) (omega arith)
  outside_here q parts OfData index h =
      ap (λ (o : Option LaunchFault). or_later o (or_later (first_outside (segment_fits s q) (SegmentOutside q.name OfData) 0 q.tree.segments) (outside s parts))) (elements_fit q h.0)
      ∙ ap (λ (o : Option LaunchFault). or_later o (outside s parts)) (first_some (DataInside s q) (segment_fits s q) (λ e. leb-true _ _) (λ e. above _ _) (SegmentOutside q.name OfData) 0 q.tree.segments index h.1)
      ∙ ap (λ (n : ℕ). Some (SegmentOutside q.name OfData n)) (omega arith)

  behind_inside : (before behind : List LinkedModule) → All (IsInside s) before → outside s (before ++ behind) ≡ outside s behind
  behind_inside [] behind h = refl
  behind_inside (q ∷ before) behind h = inside_passes q (before ++ behind) (All-head (IsInside s) q before h) ∙ behind_inside before behind (All-tail (IsInside s) q before h)

  pub first_found : (parts : List LinkedModule) (name : List ℕ) (space : Space) (index : ℕ) → FirstOutside s parts name space index → outside s parts ≡ Some (SegmentOutside name space index)
  first_found parts name space index h =
      ap (outside s) h.split ∙ behind_inside h.before (h.part ∷ h.behind) h.inside ∙ outside_here h.part h.behind space index h.outside ∙ ap (λ (n : List ℕ). Some (SegmentOutside n space index)) h.named
