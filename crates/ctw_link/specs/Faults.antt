-- The first fault of a set that doesn't match: names first, then part by part and import by import, then tables,
-- pages and entries.
use Rattle.std.specs.Prelude.{ℕ, zero, suc, ◌+◌, Bool, true, false, ◌&&◌, nat_le, List, [], ◌∷◌, ◌++◌, length, Option, Some, None, if◌then◌else◌}
use Rattle.std.specs.List.{list_any}
use Rattle.ctw_ops.specs.declared.types.Label.{Label}
use Rattle.ctw_ops.specs.declared.types.Limits.{Limits}
use Rattle.ctw_ops.specs.declared.types.ExternTag.TheVariants.{Table}
use Rattle.ctw_ops.specs.Types.{FunctionType, VariableType}
use Rattle.ctw_ops.specs.Equal.{same_label, same_type, same_function_type}
use Rattle.ctw_ops.specs.Tree.{Module, Import}
use Rattle.ctw_ops.specs.ExternType.{ExternType}
use Rattle.ctw_ops.specs.ExternType as external
use Rattle.ctw_module.specs.Given.{extern_kind}
use Rattle.ctw_link.specs.declared.fault.LinkFault.{LinkFault}
use Rattle.ctw_link.specs.declared.fault.LinkFault.TheVariants.{NoImport, ImportType, TableMix, TooManyPages, TooManyEntries, DoubleName}
use Rattle.ctw_link.specs.Sets.{NamedModule, ModuleSet, defined}
use Rattle.ctw_link.specs.Externals.{wanted, has_name, offered_by}
use Rattle.ctw_link.specs.Numbers.{LinkedModule, linked}
use Rattle.ctw_link.specs.Users.{or_later, users_of, mix_among}
use Rattle.ctw_ops.specs.Limits.{most_set_pages, most_set_entries}
use Rattle.ctw_link.specs.Matching.{pages, entries}

-- ---- names

abbrev pub name_fault : ModuleSet → NamedModule → Option LinkFault
name_fault before p = if list_any (has_name p.name) before then Some (DoubleName (length before)) else None

-- parts behind others
abbrev pub names_fault : ModuleSet → ModuleSet → Option LinkFault
names_fault before [] = None
names_fault before (p ∷ set) = or_later (name_fault before p) (names_fault (before ++ p ∷ []) set)

-- ---- imports

abbrev pub same_bool : Bool → Bool → Bool
same_bool true b = b
same_bool false true = false
same_bool false false = true

abbrev pub at_most : Option ℕ → ℕ → Bool
at_most None wanted = false
at_most (Some most) wanted = nat_le most wanted

abbrev pub meets_most : Option ℕ → Option ℕ → Bool
meets_most got None = true
meets_most got (Some most) = at_most got most

abbrev pub meets_limits : Limits → Limits → Bool
meets_limits got want = nat_le want.min got.min && meets_most got.max want.max

abbrev pub same_variable : VariableType Label → VariableType Label → Bool
same_variable got want = same_bool got.mutable want.mutable && same_type got.value want.value

abbrev pub meets : ExternType Label → ExternType Label → Bool
meets (external.Func entry got) (external.Func index want) = same_function_type got want
meets (external.Table got) (external.Table want) = meets_limits got want
meets (external.Memory got) (external.Memory want) = same_label got.tag want.tag && meets_limits got.limits want.limits
meets (external.Global got) (external.Global want) = same_variable got want
meets got want = false

abbrev pub type_fault : ℕ → ℕ → ExternType Label → Option (ExternType Label) → Option LinkFault
type_fault part import want None = Some (NoImport part import)
type_fault part import want (Some got) =
    if meets got want then None else Some (ImportType part import (extern_kind want) (extern_kind got))

-- the fault of an import, by the parts before
abbrev pub import_fault : ModuleSet → Module Label → ℕ → Import Label → Option LinkFault
import_fault before m import i = type_fault (length before) import (wanted m i.kind) (offered_by before i)

-- imports that are numbered from `import` on
abbrev pub imports_fault_from : ModuleSet → Module Label → ℕ → List (Import Label) → Option LinkFault
imports_fault_from before m import [] = None
imports_fault_from before m import (i ∷ imports) =
    or_later (import_fault before m import i) (imports_fault_from before m (import + 1) imports)

-- parts behind others
abbrev pub imports_fault : ModuleSet → ModuleSet → Option LinkFault
imports_fault before [] = None
imports_fault before (p ∷ set) =
    or_later (imports_fault_from before p.tree 0 p.tree.imports) (imports_fault (before ++ p ∷ []) set)

-- ---- tables

abbrev pub mixed : ℕ → Option (FunctionType Label × FunctionType Label) → Option LinkFault
mixed table None = None
mixed table (Some types) = Some (TableMix table types.0 types.1)

abbrev pub table_fault : List LinkedModule → ℕ → Option LinkFault
table_fault set table = mixed table (mix_among (users_of set table))

-- the first `count` tables
abbrev pub tables_fault : List LinkedModule → ℕ → Option LinkFault
tables_fault set zero = None
tables_fault set (suc count) = or_later (tables_fault set count) (table_fault set count)

-- ---- sizes

abbrev pub pages_fault : ModuleSet → Option LinkFault
pages_fault set = if nat_le (pages set) most_set_pages then None else Some (TooManyPages (pages set))

abbrev pub entries_fault : ModuleSet → Option LinkFault
entries_fault set = if nat_le (entries set) most_set_entries then None else Some (TooManyEntries (entries set))

-- ---- the whole set

-- the first fault; None where the set matches
unfoldable pub set_fault : ModuleSet → Option LinkFault
set_fault set =
    or_later (names_fault [] set)
    (or_later (imports_fault [] set)
    (or_later (tables_fault (linked set) (defined Table set))
    (or_later (pages_fault set) (entries_fault set))))
