use Rattle.std.specs.Prelude.{◌≡◌, ◌++◌, drop}
use Rattle.ctw_module.specs.Trees.{view_module}
use Rattle.ctw_ops.specs.Tree.{function_types}
use Rattle.ctw_labels.specs.ModuleLinks.{entry_users}
use Rattle.ctw_labels.specs.SitedModule.{sited_functions}
use Rattle.ctw_links.specs.Uses.{types_of_users}
use Rattle.ctw_links.proofs.users.note_entries.Given as goal

-- the users that are noted, with the entries that are left, are all
abbrev pub invariant-entries : goal.invariant-entries
invariant-entries l =
    types_of_users (function_types (view_module l.m)) l.users.items ++ entry_users (sited_functions (view_module l.m)) (drop l.i l.element.functions)
    ≡ types_of_users (function_types (view_module l.m)) l.initial.users.items ++ entry_users (sited_functions (view_module l.m)) l.element.functions
