-- Tests for equal labels, types and kinds.
use Rattle.std.specs.Prelude.{Bool, true, false, ◌&&◌, List, [], ◌∷◌, Option, Some, None}
use Rattle.ctw_ops.specs.declared.types.Label.{Label}
use Rattle.ctw_ops.specs.declared.types.Label.TheVariants.{Public, Secret}
use Rattle.ctw_ops.specs.declared.types.Width.{Width}
use Rattle.ctw_ops.specs.declared.types.Width.TheVariants.{W32, W64}
use Rattle.ctw_ops.specs.declared.types.Trust.{Trust}
use Rattle.ctw_ops.specs.declared.types.Trust.TheVariants.{Untrusted, Trusted}
use Rattle.ctw_ops.specs.declared.types.ExternTag.{ExternTag}
use Rattle.ctw_ops.specs.declared.types.ExternTag.TheVariants.{Func, Table, Memory, Global}
use Rattle.ctw_ops.specs.Types.{ValueType, FunctionType, erase_function_type}

abbrev pub same_label : Label → Label → Bool
same_label Public Public = true
same_label Secret Secret = true
same_label _ _ = false

abbrev pub same_width : Width → Width → Bool
same_width W32 W32 = true
same_width W64 W64 = true
same_width _ _ = false

abbrev pub same_trust : Trust → Trust → Bool
same_trust Untrusted Untrusted = true
same_trust Trusted Trusted = true
same_trust _ _ = false

abbrev pub same_tag : ExternTag → ExternTag → Bool
same_tag Func Func = true
same_tag Table Table = true
same_tag Memory Memory = true
same_tag Global Global = true
same_tag _ _ = false

-- width and label are equal
abbrev pub same_type : ValueType Label → ValueType Label → Bool
same_type t u = same_width t.width u.width && same_label t.tag u.tag

abbrev pub same_types : List (ValueType Label) → List (ValueType Label) → Bool
same_types [] [] = true
same_types (t ∷ ts) (u ∷ us) = same_type t u && same_types ts us
same_types _ _ = false

abbrev pub same_result : Option (ValueType Label) → Option (ValueType Label) → Bool
same_result None None = true
same_result (Some t) (Some u) = same_type t u
same_result _ _ = false

-- trust, parameters and result are equal, labels too
abbrev pub same_function_type : FunctionType Label → FunctionType Label → Bool
same_function_type f g = same_trust f.trust g.trust && (same_types f.params g.params && same_result f.result g.result)

-- whether two types differ in labels and trust alone
abbrev pub erases_alike : FunctionType Label → FunctionType Label → Bool
erases_alike f g = same_function_type (erase_function_type f) (erase_function_type g)
