use Rattle.std.specs.Prelude.{◌≡◌, length, take}
use Rattle.ctw_module.specs.Trees.{view_module}
use Rattle.ctw_ops.specs.Tree.{function_entries}
use Rattle.ctw_labels.specs.SitedModule.{function_sites}
use Rattle.ctw_place.proofs.setting.globals_site.Given as goal

-- the sites of the functions so far are counted
abbrev pub invariant-functions : goal.invariant-functions
invariant-functions l = l.site ≡ length (function_sites (view_module l.m) 0 (take l.f (function_entries (view_module l.m))))
