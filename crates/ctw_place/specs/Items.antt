-- Items under labels.
use Rattle.std.specs.Prelude.{ℕ, ◌+◌}
use Rattle.ctw_ops.specs.declared.types.Label.{Label}
use Rattle.ctw_ops.specs.Types.{VariableType, MemoryType, value_type}
use Rattle.ctw_ops.specs.Tree.{Extern, ImportedFunction, ImportedTable, ImportedMemory, ImportedGlobal, Import, Global}
use Rattle.ctw_labels.specs.Placed.{placed_constant}

abbrev pub variable_under : Label → VariableType Label → VariableType Label
variable_under l t = record { mutable = t.mutable; value = value_type t.value.width l }

abbrev pub memory_under : Label → MemoryType Label → MemoryType Label
memory_under l t = record { tag = l; limits = t.limits }

-- a function's type has this index, a memory the one label, and a global the other
abbrev pub extern_under : ℕ → Label → Label → Extern Label → Extern Label
extern_under index memory l (ImportedFunction y) = ImportedFunction index
extern_under index memory l (ImportedTable limits) = ImportedTable limits
extern_under index memory l (ImportedMemory t) = ImportedMemory (memory_under memory t)
extern_under index memory l (ImportedGlobal t) = ImportedGlobal (variable_under l t)

abbrev pub import_under : ℕ → Label → Label → Import Label → Import Label
import_under index memory l i =
    record { module_name = i.module_name; name = i.name; kind = extern_under index memory l i.kind }

abbrev pub global_under : Label → Global Label → Global Label
global_under l g = record { type = variable_under l g.type; init = placed_constant l g.init }

-- the number of the function behind an import, and the site of the global behind it
abbrev pub next_function_number : Extern Label → ℕ → ℕ
next_function_number (ImportedFunction y) f = f + 1
next_function_number e f = f

abbrev pub next_global_site : Extern Label → ℕ → ℕ
next_global_site (ImportedGlobal t) site = site + 1
next_global_site e site = site
