use Rattle.std.proofs.Common.{sym, ◌∙◌, get_or, arith, false}
use Rattle.std.proofs.lemmas.Option.{slice_get-get_or}
use Rattle.ctw_ops.specs.Types.{byte_types}
use Rattle.ctw_script.specs.declared.moves.Arg.TheVariants.{Number}
use Rattle.ctw_form.proofs.Params.{types_length}
use Rattle.ctw_session.proofs.Taking.{other_count, one_unfit, one_fits, fit_end}
use Rattle.ctw_session.proofs.arguments.args_fit.Goals as goal

pub returns-then-params-args : goal.returns-then-params-args
returns-then-params-args c =
    sym (other_count (byte_types c.args.params.now) c.args.args.now (λ e. c.if-params-args.true (sym (types_length c.args.params.now c.requires) ∙ e)))

pub returns-then-not-arg_fits : goal.returns-then-not-arg_fits
returns-then-not-arg_fits c =
    let a = get_or c.args.args.now c.each.i (Number false 0) in
    let at = slice_get-get_or c.args.args.now c.each.i (Number false 0) (omega (arith, c.each.invariant.1, c.each-test.true)) in
    sym (one_unfit c.args.params.now c.args.args.now c.each.i c.requires c.param_type.result a 0 (omega (arith, c.each.invariant.1, c.each-test.true)) c.param_type.ensures at c.each.invariant.0 (sym c.arg_fits.ensures ∙ c.if-not-arg_fits.true))

pub each-preserved : goal.each-preserved
each-preserved c =
    let a = get_or c.args.args.now c.each.i (Number false 0) in
    let at = slice_get-get_or c.args.args.now c.each.i (Number false 0) (omega (arith, c.each.invariant.1, c.each-test.true)) in
    (one_fits c.args.params.now c.args.args.now c.each.i c.requires c.param_type.result a 0 (omega (arith, c.each.invariant.1, c.each-test.true)) c.param_type.ensures at c.each.invariant.0 (sym c.arg_fits.ensures ∙ c.if-not-arg_fits.false), c.each.invariant.1)

pub returns : goal.returns
returns c =
    sym (fit_end c.args.params.now c.args.args.now c.each.i (omega (arith, c.each.invariant.1, c.each-test.false, types_length c.args.params.now c.requires)) (omega (arith, c.each-test.false)) c.each.invariant.0)
