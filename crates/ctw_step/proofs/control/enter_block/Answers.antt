use Rattle.ctw_step.specs.Shown.{shown}
use Rattle.std.proofs.Common.{refl}
use Rattle.ctw_step.proofs.BlockLaws.{block_end_there, block_done}
use Rattle.ctw_step.proofs.control.enter_block.Goals as goal

pub behind_end-after-requires : goal.behind_end-after-requires
behind_end-after-requires c =
    let r = c.requires.runs.1 in
    block_end_there r.codes c.args.body.now (shown c.args.act.now) c.args.next r.fns r.fn c.requires.runs.0 r.place r.code r.values c.args.blocks.now c.requires.ends _ c.args.yields refl r.meets

pub returns-clause-does : goal.returns-clause-does
returns-clause-does c = λ s codes fns fn h code vs k m.
    block_done codes c.args.body.now (shown c.args.act.now) c.args.next fns fn s h code vs c.args.blocks.now c.requires.ends _ c.args.yields refl m c.behind_end-after.result c.behind_end-after.ensures (shown c.open.new.act) c.in_ok-open.ensures
