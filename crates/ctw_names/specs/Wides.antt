-- What is imported and exported, and constants, as they are kept.
use Rattle.std.specs.Prelude.{ℕ, List}
use Rattle.ctw_ops.specs.declared.types.Label.{Label}
use Rattle.ctw_ops.specs.declared.types.ExternTag.{ExternTag}
use Rattle.ctw_ops.specs.Tree.{Constant, Export, Extern}
use Rattle.ctw_ops.specs.Tree as tree
use Rattle.ctw_names.specs.declared.wide.WideExtern.{WideExtern}
use Rattle.ctw_names.specs.declared.wide.WideExtern.TheVariants as extern
use Rattle.ctw_names.specs.declared.wide.WideConstant.{WideConstant}
use Rattle.ctw_names.specs.declared.wide.WideConstant.TheVariants as constant

abbrev pub extern_in : WideExtern → Extern Label
extern_in (extern.Function n) = tree.ImportedFunction n
extern_in (extern.Table limits) = tree.ImportedTable limits
extern_in (extern.Memory t) = tree.ImportedMemory t
extern_in (extern.Global t) = tree.ImportedGlobal t

abbrev pub constant_of : WideConstant → Constant Label
constant_of (constant.Number t bits) = tree.Number t bits
constant_of (constant.ValueOf n) = tree.ValueOf n

-- an export of something under a name
abbrev pub export_of : ExternTag → (index : ℕ) → (name : List ℕ) → Export
export_of kind index name = record { name = name; kind = kind; index = index }
