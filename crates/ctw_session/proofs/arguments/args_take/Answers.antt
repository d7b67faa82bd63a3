use Rattle.std.proofs.Common.{sym, get_or, arith, ◌+◌, subst, false}
use Rattle.std.proofs.lemmas.Option.{slice_get-get_or}
use Rattle.ctw_script.specs.declared.moves.Arg.TheVariants.{Number}
use Rattle.ctw_session.proofs.Taking.{TakenTo, byte_count, taken_more, taken_end}
use Rattle.ctw_session.proofs.arguments.args_take.Goals as goal

pub each-init : goal.each-init
each-init c = (omega arith, byte_count c.args.params.now c.args.args.now c.requires.typed c.requires.fit, omega arith)

pub each-preserved : goal.each-preserved
each-preserved c =
    let a = get_or c.args.args.now c.each.i (Number false 0) in
    let at = slice_get-get_or c.args.args.now c.each.i (Number false 0) (omega (arith, c.each.invariant.1, c.each-test.true)) in
    let more = taken_more c.args.params.now c.args.args.now c.each.i c.requires.typed c.param_type.result a 0 (omega (arith, c.each.invariant.1, c.each-test.true)) c.param_type.ensures at c.each.count c.each.invariant.0 in
    (subst (λ n. TakenTo c.args.params.now c.args.args.now (c.each.i + 1) (c.each.count + n)) (sym c.arg_takes-count.ensures.takes) more, c.each.invariant.1, omega (arith, c.each.invariant.2, c.arg_takes-count.ensures.few))

pub returns : goal.returns
returns c = taken_end c.args.params.now c.args.args.now c.each.i c.each.count (omega (arith, c.each-test.false)) c.each.invariant.0
