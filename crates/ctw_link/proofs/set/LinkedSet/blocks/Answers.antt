use Rattle.std.proofs.Common.{◌<◌, length, arith}
use Rattle.ctw_link.proofs.Owned.{maps_count, blocks_of_function}
use Rattle.ctw_link.proofs.Readers.{seen_linked}
use Rattle.ctw_link.proofs.set.LinkedSet.blocks.Goals as goal

pub index-requires : goal.index-requires
index-requires c =
    let h = seen_linked _ c.args.self.now _ _ _ c.self.view_is c.self.invariant in
    omega (arith, maps_count c.args.self.now c.self.inside.blocks.items h.told)

pub returns : goal.returns
returns c =
    let h = seen_linked _ c.args.self.now _ _ _ c.self.view_is c.self.invariant in
    let lt : c.args.func < length c.self.inside.blocks.items = omega (arith, maps_count c.args.self.now c.self.inside.blocks.items h.told) in
    blocks_of_function c.args.self.now c.self.inside.blocks.items c.args.func c.index.result.now h.told lt c.index.ensures
