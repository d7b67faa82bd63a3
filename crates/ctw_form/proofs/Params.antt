-- The bytes of a type's parameters.
use Rattle.std.proofs.Common.{◌≡◌, ℕ, zero, suc, ◌-◌, ◌<◌, ◌≤◌, ◌&&◌, IsTrue, List, [], ◌∷◌, ◌++◌, length, get_or, map, slice_get, unwrap_or, Option, Some, None, refl, ap, ◌∙◌, arith}
use Rattle.std.specs.List.{list_all}
use Rattle.std.specs.Prelude.{is_some}
use Rattle.std.proofs.lemmas.Bool.{false≢true}
use Rattle.ctw_ops.specs.declared.types.Label.{Label}
use Rattle.ctw_ops.specs.Types.{ValueType, byte_type, byte_types, is_type_byte}
use Rattle.ctw_ops.specs.Tree.{TypeEntry, no_function_type}
use Rattle.ctw_ops.specs.Limits.{most_params}
use Rattle.ctw_form.proofs.Weights.{Every}
use Rattle.ctw_form.proofs.Brought.{HasFewParams}

-- bytes of types, one by one
pub record Typed (byte : ℕ) (bytes : List ℕ) : Type 0 where
  pub type : ValueType Label
  pub first : byte_type byte ≡ Some type
  pub others : IsTrue (list_all is_type_byte bytes)

pub typed : (byte : ℕ) (bytes : List ℕ) → IsTrue (list_all is_type_byte (byte ∷ bytes)) → Typed byte bytes
typed byte bytes h = go (byte_type byte) refl h
  where
    go : (t : Option (ValueType Label)) → byte_type byte ≡ t → IsTrue (is_some t && list_all is_type_byte bytes) → Typed byte bytes
    go None e h = absurd (false≢true h)
    go (Some t) e h = record { type = t; first = e; others = h }

pub types_length : (bytes : List ℕ) → IsTrue (list_all is_type_byte bytes) → length (byte_types bytes) ≡ length bytes
types_length [] h = refl
types_length (b ∷ bytes) h =
    let t = typed b bytes h in
    rw t.first (ap suc (types_length bytes t.others))

-- the type of a parameter is that of its byte
pub types_at : (bytes : List ℕ) (k : ℕ) (d : ℕ) → IsTrue (list_all is_type_byte bytes) → k < length bytes → slice_get (byte_types bytes) k ≡ byte_type (get_or bytes k d)
types_at [] k d h lt = absurd (omega (arith, lt))
types_at (b ∷ bytes) zero d h lt =
    let t = typed b bytes h in
    rw t.first refl
types_at (b ∷ bytes) (suc k) d h lt =
    let t = typed b bytes h in
    rw t.first (types_at bytes k d t.others (omega (arith, lt)))

pub type_byte_at : (bytes : List ℕ) (k : ℕ) (d : ℕ) → IsTrue (list_all is_type_byte bytes) → k < length bytes → IsTrue (is_type_byte (get_or bytes k d))
type_byte_at [] k d h lt = absurd (omega (arith, lt))
type_byte_at (b ∷ bytes) zero d h lt =
    let t = typed b bytes h in
    rw t.first refl
type_byte_at (b ∷ bytes) (suc k) d h lt = type_byte_at bytes k d (typed b bytes h).others (omega (arith, lt))

pub named_few : (types : List (TypeEntry Label)) (index : ℕ) → Every HasFewParams types → length (unwrap_or (slice_get (map (λ entry. entry.type) types) index) no_function_type).params ≤ most_params
named_few [] index h = none
  where
    none : 0 ≤ most_params
    none = omega arith
named_few (e ∷ types) zero h = h.0
named_few (e ∷ types) (suc k) h = named_few types k h.1

-- ---- parameters and then declared locals

pub slice_get_left : {A : Type 0} (l others : List A) (k : ℕ) → k < length l → slice_get (l ++ others) k ≡ slice_get l k
slice_get_left [] others k lt = absurd (omega (arith, lt))
slice_get_left (a ∷ l) others zero lt = refl
slice_get_left (a ∷ l) others (suc k) lt = slice_get_left l others k (omega (arith, lt))

pub slice_get_right : {A : Type 0} (l others : List A) (k : ℕ) → length l ≤ k → slice_get (l ++ others) k ≡ slice_get others (k - length l)
slice_get_right {A} [] others k le = ap (λ (n : ℕ). slice_get others n) (omega arith)
slice_get_right (a ∷ l) others zero le = absurd (omega (arith, le))
slice_get_right {A} (a ∷ l) others (suc k) le = slice_get_right l others k (omega (arith, le)) ∙ ap (λ (n : ℕ). slice_get others n) (omega arith)
