-- The bytes of erased types, and that they are equal exactly where the types erase alike.
use Rattle.std.proofs.Common.{◌≡◌, ℕ, zero, suc, ◌+◌, ◌<◌, ◌≤◌, Bool, true, false, ◌&&◌, nat_eq, List, [], ◌∷◌, ◌++◌, length, take, map, slice_get, get_or, Option, Some, None, IsTrue, IfSome, is_some, refl, sym, ap, ap₂, ◌∙◌, arith}
use Rattle.std.specs.List.{list_all}
use Rattle.std.specs.Str.{bytes_eq}
use Rattle.std.proofs.lemmas.Bool.{false≢true}
use Rattle.std.proofs.lemmas.List.{map-append, take_all}
use Rattle.ctw_ops.specs.declared.types.Label.{Label}
use Rattle.ctw_ops.specs.declared.types.Width.{Width}
use Rattle.ctw_ops.specs.declared.types.Width.TheVariants.{W32, W64}
use Rattle.ctw_ops.specs.Equal.{same_width}
use Rattle.ctw_ops.specs.Types.{ValueType, FunctionType, byte_type, byte_types, is_type_byte}
use Rattle.ctw_ops.specs.Typing.{optional}
use Rattle.ctw_form.proofs.Params.{types_at, types_length, type_byte_at}
use Rattle.ctw_labels.specs.ModuleLinks.{same_widths, erase_alike}
use Rattle.ctw_links.specs.Firsts.{width_byte, result_byte, params_bytes, key_of}

-- ---- the bytes of erased types, one by one

take_there : {A : Type 0} (l : List A) (i : ℕ) (a : A) → slice_get l i ≡ Some a → take (suc i) l ≡ take i l ++ a ∷ []
take_there [] i a e = absurd cc
take_there (b ∷ l) zero a e = let q : b ≡ a = cc in ap (λ x. x ∷ []) q
take_there (b ∷ l) (suc i) a e = ap (λ r. b ∷ r) (take_there l i a e)

pub one_more : (first : ℕ) (bytes params : List ℕ) (i byte : ℕ) → IsTrue (list_all is_type_byte params) → i < length params → IfSome (byte_type (get_or params i 0)) (λ t. byte ≡ width_byte t.width)
    → bytes ≡ first ∷ params_bytes (take i (byte_types params)) → bytes ++ byte ∷ [] ≡ first ∷ params_bytes (take (i + 1) (byte_types params))
one_more first bytes params i byte h lt wide e = go (byte_type (get_or params i 0)) (types_at params i 0 h lt) (type_byte_at params i 0 h lt) wide
  where
    next : suc i ≡ i + 1
    next = omega arith

    go : (o : Option (ValueType Label)) → slice_get (byte_types params) i ≡ o → IsTrue (is_some o) → IfSome o (λ t. byte ≡ width_byte t.width) → bytes ++ byte ∷ [] ≡ first ∷ params_bytes (take (i + 1) (byte_types params))
    go None q s w = absurd (false≢true s)
    go (Some t) q s w =
        ap₂ (λ l b. l ++ b ∷ []) e w
        ∙ ap (λ l. first ∷ l) (sym (map-append (λ t. width_byte t.width) (take i (byte_types params)) (t ∷ [])) ∙ ap params_bytes (sym (take_there (byte_types params) i t q)))
        ∙ ap (λ (k : ℕ). first ∷ params_bytes (take k (byte_types params))) next

pub all_more : (first : ℕ) (bytes params : List ℕ) (i : ℕ) → IsTrue (list_all is_type_byte params) → length params ≤ i → bytes ≡ first ∷ params_bytes (take i (byte_types params)) → bytes ≡ first ∷ params_bytes (byte_types params)
all_more first bytes params i h le e = e ∙ ap (λ l. first ∷ params_bytes l) (take_all i (byte_types params) (omega (arith, le, types_length params h)))

-- ---- keys

same_width_byte : (w v : Width) → nat_eq (width_byte w) (width_byte v) ≡ same_width w v
same_width_byte W32 W32 = refl
same_width_byte W32 W64 = refl
same_width_byte W64 W32 = refl
same_width_byte W64 W64 = refl

same_erased : (ts us : List (ValueType Label)) → bytes_eq (params_bytes ts) (params_bytes us) ≡ same_widths ts us
same_erased [] [] = refl
same_erased [] (u ∷ us) = refl
same_erased (t ∷ ts) [] = refl
same_erased (t ∷ ts) (u ∷ us) = ap₂ ◌&&◌ (same_width_byte t.width u.width) (same_erased ts us)

no_result : (w : Width) → (nat_eq 0x40 (width_byte w) ≡ false) × (nat_eq (width_byte w) 0x40 ≡ false)
no_result W32 = (refl, refl)
no_result W64 = (refl, refl)

and_true : (b : Bool) → b ≡ (b && true)
and_true true = refl
and_true false = refl

same_result : (t u : Option (ValueType Label)) → nat_eq (result_byte t) (result_byte u) ≡ same_widths (optional t) (optional u)
same_result None None = refl
same_result None (Some u) = (no_result u.width).0
same_result (Some t) None = (no_result t.width).1
same_result (Some t) (Some u) = same_width_byte t.width u.width ∙ and_true (same_width t.width u.width)

swapped : (a b : Bool) → (a && b) ≡ (b && a)
swapped true true = refl
swapped true false = refl
swapped false true = refl
swapped false false = refl

pub same_key : (a b : FunctionType Label) → bytes_eq (key_of a) (key_of b) ≡ erase_alike a b
same_key a b = ap₂ ◌&&◌ (same_result a.result b.result) (same_erased a.params b.params) ∙ swapped (same_widths (optional a.result) (optional b.result)) (same_widths a.params b.params)
