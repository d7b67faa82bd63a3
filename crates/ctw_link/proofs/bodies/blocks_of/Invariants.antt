use Rattle.ctw_link.proofs.BlockMaps.{ToldParts}
use Rattle.ctw_link.proofs.bodies.blocks_of.Given as goal

abbrev pub invariant-parts : goal.invariant-parts
invariant-parts l = ToldParts l.parts l.part-index l.maps.items
