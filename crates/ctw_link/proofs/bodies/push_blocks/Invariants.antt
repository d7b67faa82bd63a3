use Rattle.std.proofs.Common.{◌-◌}
use Rattle.ctw_link.proofs.BlockMaps.{ToldFirst}
use Rattle.ctw_link.proofs.bodies.push_blocks.Given as goal

abbrev pub invariant-functions : goal.invariant-functions
invariant-functions l = ToldFirst l.initial.maps.items l.m (l.f - l.imported) l.maps.items
