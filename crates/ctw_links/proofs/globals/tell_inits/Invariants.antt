use Rattle.std.specs.Prelude.{◌≡◌, ◌+◌, ◌++◌, drop}
use Rattle.ctw_module.specs.Trees.{view_module}
use Rattle.ctw_labels.specs.ModuleLinks.{init_facts}
use Rattle.ctw_labels.specs.SitedModule.{first_defined_global, sited_globals}
use Rattle.ctw_links.proofs.globals.tell_inits.Given as goal

-- what is told, with the globals that are left, is all
abbrev pub invariant-globals : goal.invariant-globals
invariant-globals l =
    l.told.items ++ init_facts (sited_globals (view_module l.m)) (first_defined_global (view_module l.m) + l.i) (drop l.i (view_module l.m).globals)
    ≡ l.initial.told.items ++ init_facts (sited_globals (view_module l.m)) (first_defined_global (view_module l.m)) (view_module l.m).globals
