-- The bytes of value types both ways.
use Rattle.std.proofs.Common.{◌≡◌, ℕ, Bool, true, false, cond, Option, Some, refl, sym, ap, ◌∙◌}
use Rattle.std.specs.Prelude.{◌==◌}
use Rattle.std.proofs.lemmas.Bool.{eqb-true}
use Rattle.std.proofs.lemmas.Option.{same_Some, none-some}
use Rattle.ctw_ops.specs.declared.types.Label.{Label}
use Rattle.ctw_ops.specs.declared.types.Label.TheVariants.{Public, Secret}
use Rattle.ctw_ops.specs.declared.types.Width.{Width}
use Rattle.ctw_ops.specs.declared.types.Width.TheVariants.{W32, W64}
use Rattle.ctw_ops.specs.Types.{ValueType, value_type, type_byte, byte_type}

pub type_there : (t : ValueType Label) → byte_type (type_byte t) ≡ Some t
type_there t = go t.width t.tag
  where
    go : (width : Width) (label : Label) → byte_type (type_byte (value_type width label)) ≡ Some (value_type width label)
    go W32 Public = refl
    go W64 Public = refl
    go W32 Secret = refl
    go W64 Secret = refl

type_row : (byte : ℕ) (s t : ValueType Label) (others : Option (ValueType Label)) → (others ≡ Some t → type_byte t ≡ byte) → (b : Bool) → (byte == type_byte s) ≡ b → cond b (Some s) others ≡ Some t → type_byte t ≡ byte
type_row byte s t others behind true q e = sym (eqb-true byte (type_byte s) q ∙ ap type_byte (same_Some s t e))
type_row byte s t others behind false q e = behind e

pub type_is : (byte : ℕ) (t : ValueType Label) → byte_type byte ≡ Some t → type_byte t ≡ byte
type_is byte t e =
    type_row byte (value_type W32 Public) t _
    (λ e. type_row byte (value_type W64 Public) t _
    (λ e. type_row byte (value_type W32 Secret) t _
    (λ e. type_row byte (value_type W64 Secret) t _ (λ e. absurd (none-some t e)) (byte == 0x79) refl e)
    (byte == 0x7A) refl e)
    (byte == 0x7E) refl e)
    (byte == 0x7F) refl e
