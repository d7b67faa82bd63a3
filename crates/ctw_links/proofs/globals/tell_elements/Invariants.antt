use Rattle.std.specs.Prelude.{◌≡◌, ◌++◌, drop, map}
use Rattle.ctw_module.specs.Trees.{view_module}
use Rattle.ctw_labels.specs.ModuleLinks.{offset_facts}
use Rattle.ctw_labels.specs.SitedModule.{sited_globals}
use Rattle.ctw_links.proofs.globals.tell_elements.Given as goal

-- what is told, with the elements that are left, is all
abbrev pub invariant-elements : goal.invariant-elements
invariant-elements l =
    l.told.items ++ offset_facts (sited_globals (view_module l.m)) (map (λ e. e.offset) (drop l.i (view_module l.m).elements))
    ≡ l.initial.told.items ++ offset_facts (sited_globals (view_module l.m)) (map (λ e. e.offset) (view_module l.m).elements)
