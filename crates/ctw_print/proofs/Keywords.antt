-- The bytes of the words that fields are written with.
use Rattle.std.specs.Prelude.{◌≡◌, codes, refl}
use Rattle.ctw_ops.specs.declared.types.Label.{Label}
use Rattle.ctw_ops.specs.declared.types.Label.TheVariants.{Public, Secret}
use Rattle.ctw_ops.specs.declared.types.Width.{Width}
use Rattle.ctw_ops.specs.declared.types.Width.TheVariants.{W32, W64}
use Rattle.ctw_ops.specs.declared.types.ExternTag.{ExternTag}
use Rattle.ctw_ops.specs.declared.types.ExternTag.TheVariants.{Func, Table, Memory, Global}
use Rattle.ctw_ops.specs.ValueType.{ValueType}
use Rattle.ctw_ops.specs.Types.{value_type}
use Rattle.ctw_ops.specs.Code.{OfBlock, OfLoop, OfIf}
use Rattle.ctw_text.specs.declared.keys.Key.{Key}
use Rattle.ctw_text.specs.declared.keys.Key.TheVariants.{Module as KModule, Ct as KCt, «Type» as KType, Variant as KVariant, Trusted as KTrusted, Import as KImport, Export as KExport, Start as KStart, Elem as KElem, Data as KData, Custom as KCustom, Mut as KMut, Secret as KSecret, Funcref as KFuncref, Else as KElse, End as KEnd, Extern as KExtern, Group as KGroup, Shape as KShape, Ty as KTy, Op as KOp}
use Rattle.ctw_text.specs.declared.keys.Part.TheVariants as parts
use Rattle.ctw_text.specs.Words.{word_of}
use Rattle.ctw_print.specs.Words.{value_word}
use Rattle.ctw_print.specs.Texts.{kind_word}

pub module_word : word_of KModule ≡ codes "module"
unfolding word_of
module_word = refl

pub ct_word : word_of KCt ≡ codes "ct"
unfolding word_of
ct_word = refl

pub type_word : word_of KType ≡ codes "type"
unfolding word_of
type_word = refl

pub variant_word : word_of KVariant ≡ codes "variant"
unfolding word_of
variant_word = refl

pub trusted_word : word_of KTrusted ≡ codes "trusted"
unfolding word_of
trusted_word = refl

pub import_word : word_of KImport ≡ codes "import"
unfolding word_of
import_word = refl

pub export_word : word_of KExport ≡ codes "export"
unfolding word_of
export_word = refl

pub start_word : word_of KStart ≡ codes "start"
unfolding word_of
start_word = refl

pub elem_word : word_of KElem ≡ codes "elem"
unfolding word_of
elem_word = refl

pub data_word : word_of KData ≡ codes "data"
unfolding word_of
data_word = refl

pub custom_word : word_of KCustom ≡ codes "custom"
unfolding word_of
custom_word = refl

pub mut_word : word_of KMut ≡ codes "mut"
unfolding word_of
mut_word = refl

pub secret_word : word_of KSecret ≡ codes "secret"
unfolding word_of
secret_word = refl

pub funcref_word : word_of KFuncref ≡ codes "funcref"
unfolding word_of
funcref_word = refl

pub else_word : word_of KElse ≡ codes "else"
unfolding word_of
else_word = refl

pub end_word : word_of KEnd ≡ codes "end"
unfolding word_of
end_word = refl

pub func_word : word_of (KExtern Func) ≡ codes "func"
unfolding word_of
func_word = refl

pub table_word : word_of (KExtern Table) ≡ codes "table"
unfolding word_of
table_word = refl

pub memory_word : word_of (KExtern Memory) ≡ codes "memory"
unfolding word_of
memory_word = refl

pub global_word : word_of (KExtern Global) ≡ codes "global"
unfolding word_of
global_word = refl

pub extern_word : (tag : ExternTag) → word_of (KExtern tag) ≡ kind_word tag
extern_word Func = func_word
extern_word Table = table_word
extern_word Memory = memory_word
extern_word Global = global_word

pub param_word : word_of (KGroup parts.Param) ≡ codes "param"
unfolding word_of
param_word = refl

pub local_word : word_of (KGroup parts.Local) ≡ codes "local"
unfolding word_of
local_word = refl

pub block_word : word_of (KShape OfBlock) ≡ codes "block"
unfolding word_of
block_word = refl

pub loop_word : word_of (KShape OfLoop) ≡ codes "loop"
unfolding word_of
loop_word = refl

pub if_word : word_of (KShape OfIf) ≡ codes "if"
unfolding word_of
if_word = refl

pub value_is : (t : ValueType Label) → word_of (KTy t) ≡ value_word t
unfolding word_of
value_is t = go t.width t.tag
  where
    go : (w : Width) (l : Label) → word_of (KTy (value_type w l)) ≡ value_word (value_type w l)
    go W32 Public = refl
    go W64 Public = refl
    go W32 Secret = refl
    go W64 Secret = refl
