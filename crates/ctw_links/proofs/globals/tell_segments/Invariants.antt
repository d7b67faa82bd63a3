use Rattle.std.specs.Prelude.{◌≡◌, ◌++◌, drop, map}
use Rattle.ctw_module.specs.Trees.{view_module}
use Rattle.ctw_labels.specs.ModuleLinks.{offset_facts}
use Rattle.ctw_labels.specs.SitedModule.{sited_globals}
use Rattle.ctw_links.proofs.globals.tell_segments.Given as goal

-- what is told, with the segments that are left, is all
abbrev pub invariant-segments : goal.invariant-segments
invariant-segments l =
    l.told.items ++ offset_facts (sited_globals (view_module l.m)) (map (λ s. s.offset) (drop l.i (view_module l.m).segments))
    ≡ l.initial.told.items ++ offset_facts (sited_globals (view_module l.m)) (map (λ s. s.offset) (view_module l.m).segments)
