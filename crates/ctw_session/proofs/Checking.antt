-- The first segment outside, as it is looked for.
use Rattle.std.proofs.Common.{◌≡◌, ◌≤◌, ◌<◌, ℕ, zero, suc, ◌+◌, Bool, true, false, cond, nat_le, List, [], ◌∷◌, length, drop, slice_get, Option, Some, None, is_some, refl, sym, ap, ◌∙◌, add-one, le-leb, arith}
use Rattle.std.proofs.lemmas.Bool.{leb-true, leb-false, lt-leb}
use Rattle.std.proofs.lemmas.List.{length-map, drop_all}
use Rattle.ctw_ops.proofs.Lists.{map_get}
use Rattle.ctw_semantics.specs.Stores.{Storage}
use Rattle.ctw_link.specs.declared.set.Part.{Part}
use Rattle.ctw_link.specs.Sets.{NamedModule, part_in, set_of}
use Rattle.ctw_link.specs.Numbers.{LinkedModule, linked}
use Rattle.ctw_link.specs.Users.{or_later}
use Rattle.ctw_link.proofs.LinkedFronts.{bare, bare_linked, linked_length}
use Rattle.ctw_link.proofs.Lists.{mapped_at, drop_next}
use Rattle.ctw_launch.specs.Launched.{LaunchFault, SegmentOutside, OfElements, OfData, element_fits, segment_fits, first_outside, outside}
use Rattle.ctw_session.specs.Launches.{IsNamed}
use Rattle.ctw_session.specs.Segments.{IsLinkedPart}

-- ---- sizes

alike : (a b x y : ℕ) → (a ≤ x → b ≤ y) → (b ≤ y → a ≤ x) → nat_le a x ≡ nat_le b y
alike a b x y to from = by (nat_le a x) (nat_le b y) refl refl
  where
    by : (u v : Bool) → nat_le a x ≡ u → nat_le b y ≡ v → u ≡ v
    by true true e f = refl
    by false false e f = refl
    by true false e f = absurd (omega (arith, to (leb-true a x e), leb-false b y f))
    by false true e f = absurd (omega (arith, from (leb-true b y f), leb-false a x e))

get_there : {A : Type 0} (xs : List A) (i : ℕ) → is_some (slice_get xs i) ≡ nat_le (suc i) (length xs)
get_there [] i = sym (lt-leb (suc i) 0 (omega arith))
get_there (x ∷ xs) zero = sym (le-leb 1 (suc (length xs)) (omega arith))
get_there (x ∷ xs) (suc i) = get_there xs i ∙ alike (suc i) (suc (suc i)) (length xs) (suc (length xs)) (λ h. omega (arith, h)) (λ h. omega (arith, h))

-- a list has so many elements if it has the last of them
pub has_last : {A : Type 0} (xs : List A) (i n : ℕ) → (i < length xs → n ≤ length xs) → (n ≤ length xs → i < length xs) → is_some (slice_get xs i) ≡ nat_le n (length xs)
has_last xs i n to from = get_there xs i ∙ alike (suc i) n (length xs) (length xs) (λ h. to (omega (arith, h))) (λ h. omega (arith, from h))

-- ---- one list

module _ {A : Type 0} (fits : A → Bool) (fault : ℕ → LaunchFault) (xs : List A) where
  -- the first ones fit
  abbrev pub FitBefore : ℕ → Type 0
  FitBefore i = first_outside fits fault 0 xs ≡ first_outside fits fault i (drop i xs)

  module _ (i : ℕ) (x : A) (at : slice_get xs i ≡ Some x) (h : FitBefore i) where
    tested : (b : Bool) → fits x ≡ b → first_outside fits fault 0 xs ≡ cond b (first_outside fits fault (i + 1) (drop (i + 1) xs)) (Some (fault i))
    tested b e =
        h ∙ ap (first_outside fits fault i) (drop_next xs i x at) ∙ ap (λ (b : Bool). cond b (first_outside fits fault (suc i) (drop (i + 1) xs)) (Some (fault i))) e
        ∙ ap (λ (n : ℕ). cond b (first_outside fits fault n (drop (i + 1) xs)) (Some (fault i))) (sym (add-one i))

    pub fits_more : fits x ≡ true → FitBefore (i + 1)
    fits_more e = tested true e

    pub found_outside : fits x ≡ false → first_outside fits fault 0 xs ≡ Some (fault i)
    found_outside e = tested false e

  pub all_fit : (i : ℕ) → length xs ≤ i → FitBefore i → first_outside fits fault 0 xs ≡ None
  all_fit i le h = h ∙ ap (first_outside fits fault i) (drop_all i xs le)

-- ---- a part

-- the part of an index has the name of the linked part
pub is_named : (parts : List Part) (k : ℕ) (p : LinkedModule) → IsLinkedPart parts k p → IsNamed parts k p.name
is_named parts k p there =
    let at : slice_get (set_of parts) k ≡ Some (bare p) = ap (λ (l : List NamedModule). slice_get l k) (sym (bare_linked (set_of parts))) ∙ mapped_at bare (linked (set_of parts)) k p there in
    let x = map_get part_in parts k (bare p) at in
    (x.0, x.1, ap (λ (q : NamedModule). q.name) x.2)

module _ (s : Storage) (p : LinkedModule) (others : List LinkedModule) where
  abbrev among_elements : Option LaunchFault
  among_elements = first_outside (element_fits s p) (SegmentOutside p.name OfElements) 0 p.tree.elements

  abbrev among_segments : Option LaunchFault
  among_segments = first_outside (segment_fits s p) (SegmentOutside p.name OfData) 0 p.tree.segments

  pub element_outside : (index : ℕ) → among_elements ≡ Some (SegmentOutside p.name OfElements index) → outside s (p ∷ others) ≡ Some (SegmentOutside p.name OfElements index)
  element_outside index e = ap (λ (o : Option LaunchFault). or_later o (or_later among_segments (outside s others))) e

  pub segment_outside : (index : ℕ) → among_elements ≡ None → among_segments ≡ Some (SegmentOutside p.name OfData index) → outside s (p ∷ others) ≡ Some (SegmentOutside p.name OfData index)
  segment_outside index e d =
      ap (λ (o : Option LaunchFault). or_later o (or_later among_segments (outside s others))) e ∙ ap (λ (o : Option LaunchFault). or_later o (outside s others)) d

  pub part_inside : among_elements ≡ None → among_segments ≡ None → outside s (p ∷ others) ≡ outside s others
  part_inside e d =
      ap (λ (o : Option LaunchFault). or_later o (or_later among_segments (outside s others))) e ∙ ap (λ (o : Option LaunchFault). or_later o (outside s others)) d

-- ---- all parts

module _ (parts : List Part) (s : Storage) where
  -- no segment of the first parts is outside
  abbrev pub InsideBefore : ℕ → Type 0
  InsideBefore k = outside s (linked (set_of parts)) ≡ outside s (drop k (linked (set_of parts)))

  pub from_part : (k : ℕ) (p : LinkedModule) → IsLinkedPart parts k p → InsideBefore k → outside s (linked (set_of parts)) ≡ outside s (p ∷ drop (k + 1) (linked (set_of parts)))
  from_part k p there h = h ∙ ap (outside s) (drop_next (linked (set_of parts)) k p there)

  pub all_inside : (k : ℕ) → length parts ≤ k → InsideBefore k → outside s (linked (set_of parts)) ≡ None
  all_inside k le h = h ∙ ap (outside s) (drop_all k (linked (set_of parts)) (omega (arith, le, linked_length (set_of parts), length-map parts part_in)))
