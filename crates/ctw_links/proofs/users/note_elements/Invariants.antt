use Rattle.std.specs.Prelude.{◌≡◌, ◌++◌, drop}
use Rattle.ctw_module.specs.Trees.{view_module}
use Rattle.ctw_ops.specs.Tree.{function_types}
use Rattle.ctw_labels.specs.ModuleLinks.{element_users}
use Rattle.ctw_labels.specs.SitedModule.{sited_functions}
use Rattle.ctw_links.specs.Uses.{types_of_users}
use Rattle.ctw_links.proofs.users.note_elements.Given as goal

-- the users that are noted, with the elements that are left, are all
abbrev pub invariant-elements : goal.invariant-elements
invariant-elements l =
    types_of_users (function_types (view_module l.m)) l.users.items ++ element_users (sited_functions (view_module l.m)) (drop l.i (view_module l.m).elements)
    ≡ types_of_users (function_types (view_module l.m)) l.initial.users.items ++ element_users (sited_functions (view_module l.m)) (view_module l.m).elements
