use Rattle.std.specs.Prelude.{◌≡◌, ◌≤◌, ◌-◌, take}
use Rattle.ctw_module.specs.Trees.{view_module}
use Rattle.ctw_module.specs.Lookup.{imported_count}
use Rattle.ctw_labels.specs.Points.{no_points}
use Rattle.ctw_labels.specs.SitedModule.{bodies}
use Rattle.ctw_sites.specs.Packed.{after}
use Rattle.ctw_sites.specs.Starts.{starts_from}
use Rattle.ctw_sites.proofs.BodiesLaws.{bodies_upto}
use Rattle.ctw_sites.proofs.bodies.add_bodies.Given as goal

-- the sites of the bodies so far are added
abbrev pub invariant-functions : goal.invariant-functions
invariant-functions l = record {
  from : imported_count (view_module l.m) ≤ l.f;
  sites : l.packer ≡ after l.initial.packer (bodies_upto (view_module l.m) (l.f - imported_count (view_module l.m)));
  starts : l.starts.items ≡ starts_from l.initial.packer.count (take (l.f - imported_count (view_module l.m)) (bodies (view_module l.m) no_points));
}
