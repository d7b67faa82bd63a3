-- The types that bytes stand for, byte by byte.
use Rattle.std.proofs.Common.{◌≡◌, ℕ, ◌+◌, ◌≤◌, ◌<◌, List, [], ◌∷◌, ◌++◌, length, take, get_or, Option, Some, None, option_to_list, refl, ap, ◌∙◌, arith, add-one}
use Rattle.std.proofs.Math.Seq.{take-suc, take-length}
use Rattle.ctw_ops.specs.declared.types.Label.{Label}
use Rattle.ctw_ops.specs.Types.{ValueType, byte_type, byte_types}

abbrev put : Option (ValueType Label) → List (ValueType Label) → List (ValueType Label)
put None types = types
put (Some t) types = t ∷ types

put-append : (o : Option (ValueType Label)) (xs ys : List (ValueType Label)) → put o (xs ++ ys) ≡ put o xs ++ ys
put-append None xs ys = refl
put-append (Some t) xs ys = refl

byte_types-append : (xs ys : List ℕ) → byte_types (xs ++ ys) ≡ byte_types xs ++ byte_types ys
byte_types-append [] ys = refl
byte_types-append (x ∷ xs) ys = ap (put (byte_type x)) (byte_types-append xs ys) ∙ put-append (byte_type x) (byte_types xs) (byte_types ys)

put_one : (o : Option (ValueType Label)) → put o [] ≡ option_to_list o
put_one None = refl
put_one (Some t) = refl

pub types_next : (bytes : List ℕ) (i d : ℕ) → i < length bytes → byte_types (take (i + 1) bytes) ≡ byte_types (take i bytes) ++ option_to_list (byte_type (get_or bytes i d))
types_next bytes i d h =
    ap (λ (k : ℕ). byte_types (take k bytes)) (add-one i) ∙ ap byte_types (take-suc bytes i d h)
    ∙ byte_types-append (take i bytes) (get_or bytes i d ∷ []) ∙ ap (λ (l : List (ValueType Label)). byte_types (take i bytes) ++ l) (put_one (byte_type (get_or bytes i d)))

pub types_all : (bytes : List ℕ) (i : ℕ) → length bytes ≤ i → i ≤ length bytes → byte_types (take i bytes) ≡ byte_types bytes
types_all bytes i h k = let e : i ≡ length bytes = omega (arith, h, k) in ap (λ (n : ℕ). byte_types (take n bytes)) e ∙ ap byte_types (take-length bytes)
