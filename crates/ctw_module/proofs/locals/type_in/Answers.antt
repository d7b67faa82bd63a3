use Rattle.std.proofs.Common.{arith, refl}
use Rattle.ctw_form.proofs.Runs.{halved_start, halved_up, halved_down, halved_end}
use Rattle.ctw_module.proofs.locals.type_in.Goals as goal

pub halves-init : goal.halves-init
halves-init c = halved_start c.args.runs.now c.args.i _ c.requires refl

pub halves-preserved-then-runs-middle : goal.halves-preserved-then-runs-middle
halves-preserved-then-runs-middle c =
    halved_up c.args.runs.now c.args.i c.halves.low c.halves.high _ c.index-runs-middle.result c.halves.invariant (omega (arith, c.halves-test.true)) (omega (arith, c.halves-test.true)) c.if-runs-middle.true

pub halves-preserved : goal.halves-preserved
halves-preserved c =
    halved_down c.args.runs.now c.args.i c.halves.low c.halves.high _ c.index-runs-middle.result c.halves.invariant (omega (arith, c.halves-test.true)) (omega (arith, c.halves-test.true)) c.if-runs-middle.false

pub returns : goal.returns
returns c = halved_end c.args.runs.now c.args.i c.halves.low c.halves.high c.index-runs-low.result c.halves.invariant c.halves-test.false
