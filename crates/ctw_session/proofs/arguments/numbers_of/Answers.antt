use Rattle.std.proofs.Common.{◌≡◌, ap, sym, ◌∙◌, get_or, refl, arith, length, ◌+◌, ◌++◌, ℕ, List, subst, drop, map, false}
use Rattle.std.proofs.lemmas.List.{length-drop}
use Rattle.std.proofs.lemmas.Option.{slice_get-get_or}
use Rattle.ctw_ops.specs.Types.{byte_types}
use Rattle.ctw_script.specs.declared.moves.Arg.TheVariants.{Number}
use Rattle.ctw_moves.specs.Arguments.{arg_number, arg_values}
use Rattle.ctw_step.specs.Stands.{number_of}
use Rattle.ctw_session.proofs.Taking.{TakenTo, ReadTo, byte_count, this_fits, taken_more, enough_here, read_more, read_end, rest_whole}
use Rattle.ctw_session.proofs.arguments.numbers_of.Goals as goal

pub each-init : goal.each-init
each-init c = (
  refl,
  omega arith,
  ap (λ (l : List ℕ). l ++ map number_of (arg_values (byte_types c.args.params.now) c.args.args.now c.args.vault.now)) c.new-numbers.ensures.items,
  byte_count c.args.params.now c.args.args.now c.requires.typed c.requires.fit,
)

pub arg_number-requires-clause-fits : goal.arg_number-requires-clause-fits
arg_number-requires-clause-fits c =
    let a = get_or c.args.args.now c.each.i (Number false 0) in
    let at = slice_get-get_or c.args.args.now c.each.i (Number false 0) (omega (arith, c.each.invariant.3, c.each-test.true)) in
    (this_fits c.args.params.now c.args.args.now c.each.i c.requires.typed c.param_type-ty.result a 0 (omega (arith, c.each.invariant.3, c.each-test.true)) c.param_type-ty.ensures at c.each.invariant.0 c.requires.fit).0

pub arg_number-requires-clause-enough : goal.arg_number-requires-clause-enough
arg_number-requires-clause-enough c =
    let a = get_or c.args.args.now c.each.i (Number false 0) in
    let at = slice_get-get_or c.args.args.now c.each.i (Number false 0) (omega (arith, c.each.invariant.3, c.each-test.true)) in
    let le = enough_here c.args.params.now c.args.args.now c.each.i c.requires.typed c.param_type-ty.result a 0 (omega (arith, c.each.invariant.3, c.each-test.true)) c.param_type-ty.ensures at c.each.used (length c.args.vault.now) c.each.invariant.1 c.requires.enough in
    omega (arith, le, ap length (rest_whole c.args.vault.now c.each.used), length-drop c.each.used c.args.vault.now)

pub each-preserved : goal.each-preserved
each-preserved c =
    let a = get_or c.args.args.now c.each.i (Number false 0) in
    let at = slice_get-get_or c.args.args.now c.each.i (Number false 0) (omega (arith, c.each.invariant.3, c.each-test.true)) in
    let params = c.args.params.now in
    let args = c.args.args.now in
    let t = c.param_type-ty.result in
    let n : c.arg_number.result ≡ arg_number t a (drop c.each.used c.args.vault.now) = c.arg_number.ensures ∙ ap (arg_number t a) (rest_whole c.args.vault.now c.each.used) in
    let fits = (this_fits params args c.each.i c.requires.typed t a 0 (omega (arith, c.each.invariant.3, c.each-test.true)) c.param_type-ty.ensures at c.each.invariant.0 c.requires.fit).1 in
    let more = taken_more params args c.each.i c.requires.typed t a 0 (omega (arith, c.each.invariant.3, c.each-test.true)) c.param_type-ty.ensures at c.each.used c.each.invariant.1 in
    let read = read_more params args c.each.i c.requires.typed t a 0 (omega (arith, c.each.invariant.3, c.each-test.true)) c.param_type-ty.ensures at c.args.vault.now c.each.numbers.items c.push.new.self.items c.each.used c.arg_number.result c.each.invariant.2 n c.in_ok-push.ensures.items in (
      fits,
      subst (λ k. TakenTo params args (c.each.i + 1) (c.each.used + k)) (sym c.arg_takes-used.ensures.takes) more,
      subst (λ k. ReadTo params args c.args.vault.now (c.each.i + 1) (c.each.used + k) c.push.new.self.items) (sym c.arg_takes-used.ensures.takes) read,
      c.each.invariant.3,
    )

pub returns : goal.returns
returns c = read_end c.args.params.now c.args.args.now c.args.vault.now c.each.numbers.items c.each.i c.each.used (omega (arith, c.each-test.false)) c.each.invariant.2
