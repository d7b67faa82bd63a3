use Rattle.std.specs.Prelude.{◌≡◌, ◌≤◌, ◌-◌, ◌++◌, take}
use Rattle.ctw_module.specs.Lookup.{imported_count}
use Rattle.ctw_module.specs.Trees.{view_module}
use Rattle.ctw_ops.specs.Tree.{function_types}
use Rattle.ctw_labels.specs.ModuleLinks.{body_uses, facts_within}
use Rattle.ctw_labels.specs.Points.{no_points}
use Rattle.ctw_labels.specs.SitedModule.{bodies}
use Rattle.ctw_sites.specs.Packed.{after}
use Rattle.ctw_sites.proofs.BodiesLaws.{bodies_upto}
use Rattle.ctw_links.specs.Uses.{types_of_users}
use Rattle.ctw_links.proofs.bodies.add_bodies.Given as goal

-- the bodies before the reached one are told of
abbrev pub invariant-functions : goal.invariant-functions
invariant-functions l = record {
  from : imported_count (view_module l.m) ≤ l.f;
  sites : l.packer ≡ after l.initial.packer (bodies_upto (view_module l.m) (l.f - imported_count (view_module l.m)));
  told : l.told.items ≡ l.initial.told.items ++ facts_within (view_module l.m) no_points (take (l.f - imported_count (view_module l.m)) (bodies (view_module l.m) no_points));
  users : types_of_users (function_types (view_module l.m)) l.users.items
      ≡ types_of_users (function_types (view_module l.m)) l.initial.users.items ++ body_uses (take (l.f - imported_count (view_module l.m)) (bodies (view_module l.m) no_points));
}
