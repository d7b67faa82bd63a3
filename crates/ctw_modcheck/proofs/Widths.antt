-- Types of parameters have the same widths exactly where their bytes do.
use Rattle.std.proofs.Common.{◌≡◌, ◌≤◌, ◌<◌, ℕ, zero, suc, ◌+◌, Bool, true, false, ◌&&◌, List, [], ◌∷◌, length, map, drop, get_or, slice_get, Option, Some, None, is_some, IfSome, IsTrue, refl, sym, ap, ◌∙◌, arith}
use Rattle.std.specs.List.{list_all}
use Rattle.std.proofs.lemmas.List.{drop_all}
use Rattle.ctw_ops.specs.declared.types.Label.{Label}
use Rattle.ctw_ops.specs.declared.types.Label.TheVariants.{Public}
use Rattle.ctw_ops.specs.declared.types.Width.{Width}
use Rattle.ctw_ops.specs.declared.types.Width.TheVariants.{W32, W64}
use Rattle.ctw_ops.specs.Types.{ValueType, value_type, byte_type, byte_types, is_type_byte, erase_value_type}
use Rattle.ctw_form.proofs.Params.{types_length, types_at, type_byte_at}
use Rattle.ctw_ops.specs.Equal.{same_type, same_types}
use Rattle.ctw_modcheck.specs.Faults.{has_no_types}

-- erased types of these widths are equal
abbrev alike_width : Width → Width → Bool
alike_width w v = same_type (value_type w Public) (value_type v Public)

abbrev pub same_widths : List (ValueType Label) → List (ValueType Label) → Bool
same_widths ts us = same_types (map erase_value_type ts) (map erase_value_type us)

pub lengths_differ : (ts us : List (ValueType Label)) → (length ts ≡ length us → ⊥) → same_widths ts us ≡ false
lengths_differ [] [] n = absurd (n refl)
lengths_differ [] (u ∷ us) n = refl
lengths_differ (t ∷ ts) [] n = refl
lengths_differ (t ∷ ts) (u ∷ us) n = other (alike_width t.width u.width) (same_widths ts us) (lengths_differ ts us (λ e. n (ap suc e)))
  where
    other : (b c : Bool) → c ≡ false → (b && c) ≡ false
    other true c e = e
    other false c e = refl

pub bytes_differ : (a b : List ℕ) → IsTrue (list_all is_type_byte a) → IsTrue (list_all is_type_byte b) → (length a ≡ length b → ⊥) → same_widths (byte_types a) (byte_types b) ≡ false
bytes_differ a b h k n = lengths_differ (byte_types a) (byte_types b) (λ e. n (omega (arith, e, types_length a h, types_length b k)))

-- the types from i on are left to be compared
pub record Compared (a b : List ℕ) (i : ℕ) : Type 0 where
  pub left : same_widths (byte_types a) (byte_types b) ≡ same_widths (drop i (byte_types a)) (drop i (byte_types b))

pub compared_none : (a b : List ℕ) → Compared a b 0
compared_none a b = record { left = refl }

next_compared : (ts us : List (ValueType Label)) (i : ℕ) (t u : ValueType Label) → slice_get ts i ≡ Some t → slice_get us i ≡ Some u
    → same_widths (drop i ts) (drop i us) ≡ (alike_width t.width u.width && same_widths (drop (suc i) ts) (drop (suc i) us))
next_compared [] us i t u e f = absurd cc
next_compared (x ∷ ts) [] i t u e f = absurd cc
next_compared (x ∷ ts) (y ∷ us) zero t u e f =
    let p : x ≡ t = cc in
    let q : y ≡ u = cc in
    ap (λ (z : ValueType Label). alike_width z.width y.width && same_widths ts us) p ∙ ap (λ (z : ValueType Label). alike_width t.width z.width && same_widths ts us) q
next_compared (x ∷ ts) (y ∷ us) (suc i) t u e f = next_compared ts us i t u e f

-- a byte's type, and its width
record TypedAt (bytes : List ℕ) (i : ℕ) (w : Width) : Type 0 where
  type : ValueType Label
  is : slice_get (byte_types bytes) i ≡ Some type
  wide : w ≡ type.width

typed_at : (bytes : List ℕ) (i : ℕ) (w : Width) → IsTrue (list_all is_type_byte bytes) → i < length bytes → IfSome (byte_type (get_or bytes i 0)) (λ t. w ≡ t.width) → TypedAt bytes i w
typed_at bytes i w h lt wide = go (byte_type (get_or bytes i 0)) (types_at bytes i 0 h lt) (type_byte_at bytes i 0 h lt) wide
  where
    go : (o : Option (ValueType Label)) → slice_get (byte_types bytes) i ≡ o → IsTrue (is_some o) → IfSome o (λ t. w ≡ t.width) → TypedAt bytes i w
    go None e s k = absurd (no s)
      where
        no : IsTrue false → ⊥
        no s = cc
    go (Some t) e s k = record { type = t; is = e; wide = k }

same_refl : (w : Width) → alike_width w w ≡ true
same_refl W32 = refl
same_refl W64 = refl

same_differ : (w v : Width) → (w ≡ v → ⊥) → alike_width w v ≡ false
same_differ W32 W32 n = absurd (n refl)
same_differ W32 W64 n = refl
same_differ W64 W32 n = refl
same_differ W64 W64 n = absurd (n refl)

-- what is known of two lists of bytes at a place in both
pub record Both (a b : List ℕ) (i : ℕ) (w v : Width) : Type 0 where
  pub first : IsTrue (list_all is_type_byte a)
  pub second : IsTrue (list_all is_type_byte b)
  pub within : i < length a
  pub within_second : i < length b
  pub wide : IfSome (byte_type (get_or a i 0)) (λ t. w ≡ t.width)
  pub wide_second : IfSome (byte_type (get_or b i 0)) (λ t. v ≡ t.width)

both_next : (a b : List ℕ) (i : ℕ) (w v : Width) → Both a b i w v → same_widths (drop i (byte_types a)) (drop i (byte_types b)) ≡ (alike_width w v && same_widths (drop (suc i) (byte_types a)) (drop (suc i) (byte_types b)))
both_next a b i w v h =
    let t = typed_at a i w h.first h.within h.wide in
    let u = typed_at b i v h.second h.within_second h.wide_second in
    next_compared (byte_types a) (byte_types b) i t.type u.type t.is u.is
    ∙ ap (λ (x : Width). alike_width x u.type.width && same_widths (drop (suc i) (byte_types a)) (drop (suc i) (byte_types b))) (sym t.wide)
    ∙ ap (λ (x : Width). alike_width w x && same_widths (drop (suc i) (byte_types a)) (drop (suc i) (byte_types b))) (sym u.wide)

pub compared_more : (a b : List ℕ) (i : ℕ) (w v : Width) → Both a b i w v → w ≡ v → Compared a b i → Compared a b (i + 1)
compared_more a b i w v h e c =
    let next : suc i ≡ i + 1 = omega arith in
    let same : alike_width w v ≡ true = ap (alike_width w) (sym e) ∙ same_refl w in
    record {
      left = c.left ∙ both_next a b i w v h ∙ ap (λ (x : Bool). x && same_widths (drop (suc i) (byte_types a)) (drop (suc i) (byte_types b))) same
          ∙ ap (λ (k : ℕ). same_widths (drop k (byte_types a)) (drop k (byte_types b))) next;
    }

pub compared_differ : (a b : List ℕ) (i : ℕ) (w v : Width) → Both a b i w v → (w ≡ v → ⊥) → Compared a b i → same_widths (byte_types a) (byte_types b) ≡ false
compared_differ a b i w v h n c = c.left ∙ both_next a b i w v h ∙ ap (λ (x : Bool). x && same_widths (drop (suc i) (byte_types a)) (drop (suc i) (byte_types b))) (same_differ w v n)

pub compared_all : (a b : List ℕ) (i : ℕ) → IsTrue (list_all is_type_byte a) → IsTrue (list_all is_type_byte b) → length a ≤ i → length b ≤ i → Compared a b i → same_widths (byte_types a) (byte_types b) ≡ true
compared_all a b i h k le le_second c =
    c.left ∙ ap (λ ts. same_widths ts (drop i (byte_types b))) (drop_all i (byte_types a) (omega (arith, types_length a h)))
    ∙ ap (λ us. same_widths [] us) (drop_all i (byte_types b) (omega (arith, types_length b k)))

-- a type with a parameter isn't bare
pub not_bare : (bytes : List ℕ) (r : Option (ValueType Label)) → IsTrue (list_all is_type_byte bytes) → (length bytes ≡ 0 → ⊥) → has_no_types (byte_types bytes) r ≡ false
not_bare bytes r h n = go (byte_types bytes) r (λ e. n (omega (arith, e, types_length bytes h)))
  where
    go : (ts : List (ValueType Label)) (r : Option (ValueType Label)) → (length ts ≡ 0 → ⊥) → has_no_types ts r ≡ false
    go [] r k = absurd (k refl)
    go (t ∷ ts) r k = refl
