-- A node's bit says whether it is in the set.
use Rattle.std.proofs.Common.{length, ap, arith}
use Rattle.std.proofs.lemmas.List.FromFn.{length-map-range_with_len}
use Rattle.ctw_flow.specs.Bits.{is_set}
use Rattle.ctw_flow.proofs.Bits.{set_exactly}
use Rattle.ctw_flow.proofs.path.Marked.has.Goals as goal

pub index-requires : goal.index-requires
index-requires c =
    let l = length-map-range_with_len (is_set c.self.inside.words.items) 0 c.self.inside.nodes in
    let e = ap length c.self.view_is in
    let r = c.requires in
    let i = c.self.invariant in
    omega (arith, l, e, r, i, c.self.inside.words.ok)

pub returns : goal.returns
returns c =
    let l = length-map-range_with_len (is_set c.self.inside.words.items) 0 c.self.inside.nodes in
    let e = ap length c.self.view_is in
    let r = c.requires in
    let i = c.self.invariant in
    set_exactly c.self.inside.words.items c.self.inside.nodes c.args.node c.index.result.now c.args.self.now c.self.view_is r c.index.ensures (omega (arith, l, e, r, i))
