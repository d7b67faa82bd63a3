use Rattle.std.proofs.Common.{◌+◌, ◌-◌, ◌/◌, List, arith, sym, ap, ◌∙◌}
use Rattle.ctw_flat.specs.declared.blocks.Block.{Block}
use Rattle.ctw_flat.specs.Rising.{RisesFrom}
use Rattle.ctw_flat.specs.Blocks.{ends_in}
use Rattle.ctw_flat.proofs.Halves.{halves_found, halves_none, upper_half, lower_half}
use Rattle.ctw_flat.proofs.blocks.BlockMap.ends.Goals as goal

pub returns-then-block-at : goal.returns-then-block-at
returns-then-block-at c =
    let rise : RisesFrom 0 c.as_slice-found.result.now = rw c.as_slice-found.ensures.value c.self.invariant in
    let same = c.as_slice-found.ensures.value ∙ c.self.view_is in
    sym (halves_found c.as_slice-found.result.now c.args.at c.halves.low c.halves.high (c.halves.low + (c.halves.high - c.halves.low) / 2) rise c.halves.invariant (omega (arith, c.halves-test.true)) c.if-block-at.true)
    ∙ ap (λ (l : List Block). ends_in l c.args.at) same

pub halves-preserved-then-block-at-2 : goal.halves-preserved-then-block-at-2
halves-preserved-then-block-at-2 c =
    let rise : RisesFrom 0 c.as_slice-found.result.now = rw c.as_slice-found.ensures.value c.self.invariant in
    upper_half c.as_slice-found.result.now c.args.at c.halves.low c.halves.high (c.halves.low + (c.halves.high - c.halves.low) / 2) rise c.halves.invariant (omega arith) (omega (arith, c.halves-test.true)) c.if-block-at-2.true

pub halves-preserved : goal.halves-preserved
halves-preserved c =
    let rise : RisesFrom 0 c.as_slice-found.result.now = rw c.as_slice-found.ensures.value c.self.invariant in
    lower_half c.as_slice-found.result.now c.args.at c.halves.low c.halves.high (c.halves.low + (c.halves.high - c.halves.low) / 2) rise c.halves.invariant (omega arith) (omega (arith, c.halves-test.true)) c.if-block-at-2.false c.if-block-at.false

pub returns : goal.returns
returns c =
    let same = c.as_slice-found.ensures.value ∙ c.self.view_is in
    sym (halves_none c.as_slice-found.result.now c.args.at c.halves.low c.halves.high c.halves.invariant c.halves-test.false) ∙ ap (λ (l : List Block). ends_in l c.args.at) same
