use Rattle.std.proofs.Common.{◌≡◌, ◌++◌, ◌∷◌, [], length, Option, Some, sym, ap, ◌∙◌, subst, arith, length-append}
use Rattle.std.specs.Prelude.{IfSome}
use Rattle.ctw_ops.specs.declared.types.Label.TheVariants.{Public}
use Rattle.ctw_ops.specs.declared.numeric.NumSig.{NumSig}
use Rattle.ctw_ops.specs.Types.{FitsWidth}
use Rattle.ctw_num.specs.Values.{value1}
use Rattle.ctw_flat.specs.declared.instr.Instr.TheVariants as instr
use Rattle.ctw_step.specs.Shown.{shown}
use Rattle.ctw_step.specs.Stands.{numbers}
use Rattle.ctw_step.specs.Told.{with_operands}
use Rattle.ctw_step.proofs.Inside.{under}
use Rattle.ctw_step.proofs.NumericLaws.{one, one_done}
use Rattle.ctw_step.proofs.ShortForms.{passes_with}
use Rattle.ctw_step.proofs.short.pass_unary.Goals as goal

pub top-a-requires : goal.top-a-requires
top-a-requires c =
    let q = c.requires.sig in
    let r = c.requires.runs.2 in
    let o = one r.codes c.requires.runs.0 (shown c.args.act.now) c.args.next r.fns r.fn c.requires.runs.1 r.place r.code r.values c.args.op Public r.meets q.0 q.1 q.2 in
    omega (arith, ap length o.are, length-append (under r.place ++ numbers o.below) (o.v.number ∷ []))

pub apply1-requires : goal.apply1-requires
apply1-requires c =
    let q = c.requires.sig in
    let r = c.requires.runs.2 in
    let o = one r.codes c.requires.runs.0 (shown c.args.act.now) c.args.next r.fns r.fn c.requires.runs.1 r.place r.code r.values c.args.op Public r.meets q.0 q.1 q.2 in
    record { takes_one = subst (λ (s : Option NumSig). IfSome s (λ sig. (sig.arity ≡ 1) × FitsWidth sig.operand c.top-a.result)) (sym q.1) (q.2, subst (FitsWidth q.0.operand) (sym (c.top-a.ensures (under r.place ++ numbers o.below) o.v.number o.are)) o.fits) }

pub set_top-requires : goal.set_top-requires
set_top-requires c =
    let q = c.requires.sig in
    let r = c.requires.runs.2 in
    let o = one r.codes c.requires.runs.0 (shown c.args.act.now) c.args.next r.fns r.fn c.requires.runs.1 r.place r.code r.values c.args.op Public r.meets q.0 q.1 q.2 in
    omega (arith, ap length o.are, length-append (under r.place ++ numbers o.below) (o.v.number ∷ []))

pub returns : goal.returns
returns c =
    passes_with (shown c.args.act.now) (shown c.set_top.new.act) (instr.Numeric c.args.op Public) c.args.next c.set_top.new.act.operands.items c.set_top.ensures.alone (let g = c.set_top.ensures.as_many in omega (arith, g))
    (λ bytes s codes fns fn h code vs k m.
    let q = c.requires.sig in
    let o = one codes bytes (shown c.args.act.now) c.args.next fns fn s h code vs c.args.op Public m q.0 q.1 q.2 in
    one_done codes bytes (shown c.args.act.now) c.args.next fns fn s h code vs c.args.op Public m q.0 q.1 o (shown c.set_top.new.act)
    (λ front x n e v.
    let w : Some c.apply1.result ≡ Some n = sym c.apply1.ensures.value ∙ ap (value1 c.args.op) (c.top-a.ensures front x e) ∙ v in
    let same : c.apply1.result ≡ n = cc in
    c.set_top.ensures.set front x e ∙ ap (λ n. with_operands (shown c.args.act.now) (front ++ n ∷ []) c.args.next) same))
