-- The base that an index of a type entry becomes.
use Rattle.std.proofs.Common.{◌≡◌, ℕ, zero, suc, ◌≤◌, List, [], ◌∷◌, map, slice_get, Option, Some, None, unwrap_or, option_and_then, refl, ap, arith}
use Rattle.std.proofs.lemmas.Option.{slice_get_past}
use Rattle.std.specs.Prelude.{length}
use Rattle.ctw_ops.specs.declared.types.Label.{Label}
use Rattle.ctw_ops.specs.Tree.{TypeEntry}
use Rattle.ctw_ops.specs.Valid.{AreTypes}
use Rattle.ctw_ops.specs.Erasure.{base_of}
use Rattle.ctw_ops.proofs.Variants.{VariantsFit, variants_fit}

abbrev base_in : TypeEntry Label → Option ℕ
base_in entry = entry.base

some_is : {A : Type 0} (x y : A) → Some x ≡ Some y → x ≡ y
some_is x y e = cc

found : (types : List (TypeEntry Label)) (i : ℕ) (base : Option ℕ) → slice_get (map base_in types) i ≡ Some base → option_and_then base_in (slice_get types i) ≡ base
found [] i base e = absurd cc
found (t ∷ types) zero base e = some_is t.base base e
found (t ∷ types) (suc i) base e = found types i base e

pub base_is : (types : List (TypeEntry Label)) (i : ℕ) (base : Option ℕ) → slice_get (map base_in types) i ≡ Some base → base_of types i ≡ unwrap_or base i
base_is types i base e = ap (λ (o : Option ℕ). unwrap_or o i) (found types i base e)

pub base_past : (types : List (TypeEntry Label)) (i : ℕ) → length types ≤ i → base_of types i ≡ i
base_past types i le = ap (λ o. unwrap_or (option_and_then base_in o) i) (slice_get_past types i le)

-- a base stands before its variants
pub base_below : (types : List (TypeEntry Label)) → AreTypes types → (i : ℕ) → base_of types i ≤ i
base_below types a i = entry (slice_get types i) refl
  where
    fit : VariantsFit types
    fit = variants_fit types a

    named : (t : TypeEntry Label) → slice_get types i ≡ Some t → (o : Option ℕ) → t.base ≡ o → unwrap_or o i ≤ i
    named t there None e = omega arith
    named t there (Some base) e =
        let b = fit.bases i t base there e in
        omega (arith, fit.order base i b.0 t base b.1 b.2 there e)

    entry : (o : Option (TypeEntry Label)) → slice_get types i ≡ o → unwrap_or (option_and_then base_in o) i ≤ i
    entry None e = omega arith
    entry (Some t) e = named t e t.base refl
