use Rattle.std.proofs.Common.{◌≡◌, ◌++◌, ◌∷◌, [], Option, Some, length, sym, ap, ◌∙◌, subst, arith, length-append}
use Rattle.std.specs.Prelude.{IfSome}
use Rattle.ctw_ops.specs.declared.numeric.NumSig.{NumSig}
use Rattle.ctw_ops.specs.Types.{FitsWidth}
use Rattle.ctw_num.specs.Values.{value1}
use Rattle.ctw_step.specs.Shown.{shown}
use Rattle.ctw_step.specs.Told.{with_operands}
use Rattle.ctw_step.proofs.numeric.unary.Goals as goal

pub top-a-requires : goal.top-a-requires
top-a-requires c = let o = c.requires in omega (arith, ap length o.5, length-append o.1 (o.2 ∷ []))

pub apply1-requires : goal.apply1-requires
apply1-requires c =
    let o = c.requires in
    record { takes_one = subst (λ (s : Option NumSig). IfSome s (λ sig. (sig.arity ≡ 1) × FitsWidth sig.operand c.top-a.result)) (sym o.3) (o.4, subst (FitsWidth o.0.operand) (sym (c.top-a.ensures o.1 o.2 o.5)) o.6) }

pub set_top-requires : goal.set_top-requires
set_top-requires c = let o = c.requires in omega (arith, ap length o.5, length-append o.1 (o.2 ∷ []))

pub returns : goal.returns
returns c = λ front x n e v.
    let q : Some c.apply1.result ≡ Some n = sym c.apply1.ensures.value ∙ ap (value1 c.args.op) (c.top-a.ensures front x e) ∙ v in
    let same : c.apply1.result ≡ n = cc in
    c.set_top.ensures.set front x e ∙ ap (λ n. with_operands (shown c.args.act.now) (front ++ n ∷ []) c.args.next) same
