-- What the answers of a view's readers stand for.
use Rattle.std.specs.Prelude.{◌≡◌}
use Rattle.ctw_ops.specs.declared.types.Label.{Label}
use Rattle.ctw_ops.specs.Tree.{Module, Extern, ImportedFunction, ImportedTable, ImportedMemory, ImportedGlobal, Import as TreeImport, type_named}
use Rattle.ctw_ops.specs.ExternType.{ExternType}
use Rattle.ctw_ops.specs.ExternType as external
use Rattle.ctw_module.specs.declared.types.ExternKind.{ExternKind}
use Rattle.ctw_module.specs.declared.types.ExternKind.TheVariants as kind
use Rattle.ctw_module.specs.declared.types.Import.{Import}
use Rattle.ctw_form.specs.Spelled.{import_of}

-- what an import asks for
abbrev pub extern_given : ExternKind → Extern Label
extern_given (kind.Func index type) = ImportedFunction index
extern_given (kind.Table limits) = ImportedTable limits
extern_given (kind.Memory type) = ImportedMemory type
extern_given (kind.Global type) = ImportedGlobal type

abbrev pub import_given : Import → TreeImport Label
import_given import = import_of import.«module».now import.name.now (extern_given import.kind)

-- the type that it asks for
abbrev pub extern_type : ExternKind → ExternType Label
extern_type (kind.Func index type) = external.Func index type
extern_type (kind.Table limits) = external.Table limits
extern_type (kind.Memory type) = external.Memory type
extern_type (kind.Global type) = external.Global type

-- the value of code that stands for a type
abbrev pub extern_kind : ExternType Label → ExternKind
extern_kind (external.Func index type) = kind.Func index type
extern_kind (external.Table limits) = kind.Table limits
extern_kind (external.Memory type) = kind.Memory type
extern_kind (external.Global type) = kind.Global type

-- a function has the type that its index names
abbrev pub HasTypeNamed : Module Label → ExternKind → Type 0
HasTypeNamed m (kind.Func index type) = type ≡ type_named m index
HasTypeNamed m other = Unit {0}
