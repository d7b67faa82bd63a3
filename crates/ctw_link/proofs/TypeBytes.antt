-- Types of bytes are equal exactly where the bytes are, and erase alike exactly where their keys are equal.
use Rattle.std.proofs.Common.{◌≡◌, ℕ, zero, suc, ◌+◌, ◌<◌, ◌≤◌, Bool, true, false, cond, ◌==◌, ◌&&◌, nat_eq, List, [], ◌∷◌, ◌++◌, length, take, map, slice_get, get_or, Option, Some, None, IsTrue, IfSome, is_some, option_map, refl, sym, ap, ap₂, ◌∙◌, arith}
use Rattle.std.specs.List.{list_all}
use Rattle.std.specs.Str.{bytes_eq}
use Rattle.std.proofs.lemmas.Bool.{eqb-true, false≢true}
use Rattle.std.proofs.lemmas.List.{map-append, take_all}
use Rattle.std.proofs.lemmas.Option.{same_Some, none-some}
use Rattle.ctw_ops.specs.declared.types.Label.{Label}
use Rattle.ctw_ops.specs.declared.types.Label.TheVariants.{Public, Secret}
use Rattle.ctw_ops.specs.declared.types.Width.{Width}
use Rattle.ctw_ops.specs.declared.types.Width.TheVariants.{W32, W64}
use Rattle.ctw_ops.specs.Types.{ValueType, FunctionType, value_type, type_byte, byte_type, byte_types, is_type_byte, erase_value_type}
use Rattle.ctw_ops.specs.Equal.{same_type, same_types, same_result, erases_alike}
use Rattle.ctw_form.proofs.Params.{typed, types_at, types_length, type_byte_at}
use Rattle.ctw_link.specs.Firsts.{width_byte, result_byte, params_bytes, key_of}

-- ---- a byte and its type

one_of : (byte n : ℕ) (s t : ValueType Label) (others : Option (ValueType Label)) → n ≡ type_byte s → (others ≡ Some t → byte ≡ type_byte t) → (b : Bool) → (byte == n) ≡ b → cond b (Some s) others ≡ Some t → byte ≡ type_byte t
one_of byte n s t others is behind true q e = eqb-true byte n q ∙ is ∙ ap type_byte (same_Some s t e)
one_of byte n s t others is behind false q e = behind e

is_byte_of : (byte : ℕ) (t : ValueType Label) → byte_type byte ≡ Some t → byte ≡ type_byte t
is_byte_of byte t e =
    one_of byte 0x7F (value_type W32 Public) t _ refl
    (λ e. one_of byte 0x7E (value_type W64 Public) t _ refl
    (λ e. one_of byte 0x7A (value_type W32 Secret) t _ refl
    (λ e. one_of byte 0x79 (value_type W64 Secret) t _ refl (λ e. absurd (none-some t e)) (byte == 0x79) refl e)
    (byte == 0x7A) refl e)
    (byte == 0x7E) refl e)
    (byte == 0x7F) refl e

same_bytes : (w v : Width) (l m : Label) → nat_eq (type_byte (value_type w l)) (type_byte (value_type v m)) ≡ same_type (value_type w l) (value_type v m)
same_bytes W32 W32 Public Public = refl
same_bytes W32 W32 Public Secret = refl
same_bytes W32 W32 Secret Public = refl
same_bytes W32 W32 Secret Secret = refl
same_bytes W32 W64 Public Public = refl
same_bytes W32 W64 Public Secret = refl
same_bytes W32 W64 Secret Public = refl
same_bytes W32 W64 Secret Secret = refl
same_bytes W64 W32 Public Public = refl
same_bytes W64 W32 Public Secret = refl
same_bytes W64 W32 Secret Public = refl
same_bytes W64 W32 Secret Secret = refl
same_bytes W64 W64 Public Public = refl
same_bytes W64 W64 Public Secret = refl
same_bytes W64 W64 Secret Public = refl
same_bytes W64 W64 Secret Secret = refl

same_byte : (x y : ℕ) (t u : ValueType Label) → byte_type x ≡ Some t → byte_type y ≡ Some u → nat_eq x y ≡ same_type t u
same_byte x y t u e f = ap₂ nat_eq (is_byte_of x t e) (is_byte_of y u f) ∙ same_bytes t.width u.width t.tag u.tag

pub same_params : (a b : List ℕ) → IsTrue (list_all is_type_byte a) → IsTrue (list_all is_type_byte b) → bytes_eq a b ≡ same_types (byte_types a) (byte_types b)
same_params [] [] h k = refl
same_params [] (y ∷ b) h k =
    let u = typed y b k in
    rw u.first refl
same_params (x ∷ a) [] h k =
    let t = typed x a h in
    rw t.first refl
same_params (x ∷ a) (y ∷ b) h k =
    let t = typed x a h in
    let u = typed y b k in
    rw (t.first, u.first) (ap₂ ◌&&◌ (same_byte x y t.type u.type t.first u.first) (same_params a b t.others u.others))

-- ---- the bytes of erased types, one by one

take_there : {A : Type 0} (l : List A) (i : ℕ) (a : A) → slice_get l i ≡ Some a → take (suc i) l ≡ take i l ++ a ∷ []
take_there [] i a e = absurd cc
take_there (b ∷ l) zero a e = let q : b ≡ a = cc in ap (λ x. x ∷ []) q
take_there (b ∷ l) (suc i) a e = ap (λ r. b ∷ r) (take_there l i a e)

pub one_more : (first : ℕ) (bytes params : List ℕ) (i byte : ℕ) → IsTrue (list_all is_type_byte params) → i < length params → IfSome (byte_type (get_or params i 0)) (λ t. byte ≡ width_byte t.width)
    → bytes ≡ first ∷ params_bytes (take i (byte_types params)) → bytes ++ byte ∷ [] ≡ first ∷ params_bytes (take (i + 1) (byte_types params))
one_more first bytes params i byte h lt wide e = go (byte_type (get_or params i 0)) (types_at params i 0 h lt) (type_byte_at params i 0 h lt) wide
  where
    next : suc i ≡ i + 1
    next = omega arith

    go : (o : Option (ValueType Label)) → slice_get (byte_types params) i ≡ o → IsTrue (is_some o) → IfSome o (λ t. byte ≡ width_byte t.width) → bytes ++ byte ∷ [] ≡ first ∷ params_bytes (take (i + 1) (byte_types params))
    go None q s w = absurd (false≢true s)
    go (Some t) q s w =
        ap₂ (λ l b. l ++ b ∷ []) e w
        ∙ ap (λ l. first ∷ l) (sym (map-append (λ t. width_byte t.width) (take i (byte_types params)) (t ∷ [])) ∙ ap params_bytes (sym (take_there (byte_types params) i t q)))
        ∙ ap (λ (k : ℕ). first ∷ params_bytes (take k (byte_types params))) next

pub all_more : (first : ℕ) (bytes params : List ℕ) (i : ℕ) → IsTrue (list_all is_type_byte params) → length params ≤ i → bytes ≡ first ∷ params_bytes (take i (byte_types params)) → bytes ≡ first ∷ params_bytes (byte_types params)
all_more first bytes params i h le e = e ∙ ap (λ l. first ∷ params_bytes l) (take_all i (byte_types params) (omega (arith, le, types_length params h)))

-- ---- keys

same_width_byte : (w v : Width) → nat_eq (width_byte w) (width_byte v) ≡ same_type (value_type w Public) (value_type v Public)
same_width_byte W32 W32 = refl
same_width_byte W32 W64 = refl
same_width_byte W64 W32 = refl
same_width_byte W64 W64 = refl

same_erased : (ts us : List (ValueType Label)) → bytes_eq (params_bytes ts) (params_bytes us) ≡ same_types (map erase_value_type ts) (map erase_value_type us)
same_erased [] [] = refl
same_erased [] (u ∷ us) = refl
same_erased (t ∷ ts) [] = refl
same_erased (t ∷ ts) (u ∷ us) = ap₂ ◌&&◌ (same_width_byte t.width u.width) (same_erased ts us)

no_result : (w : Width) → (nat_eq 0x40 (width_byte w) ≡ false) × (nat_eq (width_byte w) 0x40 ≡ false)
no_result W32 = (refl, refl)
no_result W64 = (refl, refl)

same_erased_result : (t u : Option (ValueType Label)) → nat_eq (result_byte t) (result_byte u) ≡ same_result (option_map erase_value_type t) (option_map erase_value_type u)
same_erased_result None None = refl
same_erased_result None (Some u) = (no_result u.width).0
same_erased_result (Some t) None = (no_result t.width).1
same_erased_result (Some t) (Some u) = same_width_byte t.width u.width

swapped : (a b : Bool) → a && b ≡ b && a
swapped true true = refl
swapped true false = refl
swapped false true = refl
swapped false false = refl

pub same_key : (a b : FunctionType Label) → bytes_eq (key_of a) (key_of b) ≡ erases_alike a b
same_key a b = ap₂ ◌&&◌ (same_erased_result a.result b.result) (same_erased a.params b.params) ∙ swapped (same_result (option_map erase_value_type a.result) (option_map erase_value_type b.result)) (same_types (map erase_value_type a.params) (map erase_value_type b.params))
