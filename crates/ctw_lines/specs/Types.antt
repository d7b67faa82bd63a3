-- The types that lines tell.
use Rattle.std.specs.Prelude.{ℕ, Bool, true, false, List, [], ◌∷◌, ◌++◌, Option, Some, None, decimal, codes}
use Rattle.ctw_ops.specs.declared.types.Label.{Label}
use Rattle.ctw_ops.specs.declared.types.Label.TheVariants.{Public, Secret}
use Rattle.ctw_ops.specs.declared.types.Width.{Width}
use Rattle.ctw_ops.specs.declared.types.Width.TheVariants.{W32, W64}
use Rattle.ctw_ops.specs.declared.types.Trust.{Trust}
use Rattle.ctw_ops.specs.declared.types.Trust.TheVariants.{Untrusted, Trusted}
use Rattle.ctw_ops.specs.declared.types.Limits.{Limits}
use Rattle.ctw_ops.specs.Types.{ValueType, FunctionType}
use Rattle.ctw_module.specs.declared.types.ExternKind.{ExternKind}
use Rattle.ctw_module.specs.declared.types.ExternKind.TheVariants as external

abbrev pub value_word : ValueType Label → List ℕ
value_word t = of t.width t.tag
  where
    of : Width → Label → List ℕ
    of W32 Public = codes "i32"
    of W64 Public = codes "i64"
    of W32 Secret = codes "s32"
    of W64 Secret = codes "s64"

-- with blanks between them
abbrev pub value_words : List (ValueType Label) → List ℕ
value_words [] = []
value_words (t ∷ []) = value_word t
value_words (t ∷ types) = value_word t ++ 32 ∷ value_words types

abbrev pub result_words : Option (ValueType Label) → List ℕ
result_words None = []
result_words (Some t) = value_word t

abbrev pub trust_text : Trust → List ℕ
trust_text Untrusted = []
trust_text Trusted = codes "trusted "

-- such as `trusted (i32 s32)->(i32)`
abbrev pub function_text : FunctionType Label → List ℕ
function_text f =
    trust_text f.trust ++ codes "(" ++ value_words f.params ++ codes ")->(" ++ result_words f.result ++ codes ")"

abbrev pub size_word : Option ℕ → List ℕ
size_word None = codes "-"
size_word (Some size) = decimal size

abbrev pub limits_text : Limits → List ℕ
limits_text limits = 32 ∷ decimal limits.min ++ 32 ∷ size_word limits.max

abbrev pub secret_text : Label → List ℕ
secret_text Public = []
secret_text Secret = codes "secret "

abbrev pub mutable_text : Bool → List ℕ
mutable_text false = []
mutable_text true = codes "mut "

abbrev pub external_text : ExternKind → List ℕ
external_text (external.Func index f) = function_text f
external_text (external.Table limits) = codes "table" ++ limits_text limits
external_text (external.Memory m) = secret_text m.tag ++ codes "memory" ++ limits_text m.limits
external_text (external.Global g) = mutable_text g.mutable ++ value_word g.value
