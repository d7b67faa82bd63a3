-- What the values of code stand for.
use Rattle.ctw_ops.specs.declared.types.Label.{Label}
use Rattle.ctw_ops.specs.Tree.{Extern, ImportedFunction, ImportedTable, ImportedMemory, ImportedGlobal, Constant, Number, ValueOf, Global}
use Rattle.ctw_form.specs.declared.constant.ConstExpr.{ConstExpr}
use Rattle.ctw_form.specs.declared.constant.ConstExpr.TheVariants as constant
use Rattle.ctw_form.specs.declared.entry.ImportKind.{ImportKind}
use Rattle.ctw_form.specs.declared.entry.ImportKind.TheVariants as kind
use Rattle.ctw_form.specs.declared.entry.GlobalEntry.{GlobalEntry}
use Rattle.ctw_form.specs.declared.entry.LocalGroup.{LocalGroup}
use Rattle.ctw_form.specs.Sections.{Group}
use Rattle.ctw_form.specs.Spelled.{global_of, group_of}

-- a constant expression
abbrev pub constant_of : ConstExpr → Constant Label
constant_of (constant.Const value bits) = Number value bits
constant_of (constant.Get global) = ValueOf global

-- what an import asks for
abbrev pub extern_of : ImportKind → Extern Label
extern_of (kind.Func index) = ImportedFunction index
extern_of (kind.Table limits) = ImportedTable limits
extern_of (kind.Memory type) = ImportedMemory type
extern_of (kind.Global type) = ImportedGlobal type

-- a defined global
abbrev pub global_in : GlobalEntry → Global Label
global_in entry = global_of entry.ty (constant_of entry.init)

-- the locals of one type
abbrev pub group_in : LocalGroup → Group
group_in group = group_of group.count group.ty
