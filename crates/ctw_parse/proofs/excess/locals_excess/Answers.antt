use Rattle.std.proofs.Common.{sym, ◌∙◌}
use Rattle.ctw_parse.proofs.LocalEnds.{end_own, end_all, end_not, end_small, end_none}
use Rattle.ctw_parse.proofs.excess.locals_excess.Goals.{then-is_end+else-i+else-before-i, else-is_end}
use Rattle.ctw_parse.proofs.excess.locals_excess.Goals as goal

pub returns-then-i-clause-excess : goal.returns-then-i-clause-excess
returns-then-i-clause-excess c =
    c.over.ensures ∙ sym (end_own c.args.before c.loop-i.i c.args.locals.now c.loop-i.invariant c.loop-i-test.true (sym c.is_end.ensures ∙ c.if-is_end.true) c.if-i.true)

pub returns-then-before-i-clause-excess : goal.returns-then-before-i-clause-excess
returns-then-before-i-clause-excess c =
    c.over-then-before-i.ensures ∙ sym (end_all c.args.before c.loop-i.i c.args.locals.now c.loop-i.invariant c.loop-i-test.true (sym c.is_end.ensures ∙ c.if-is_end.true) c.if-i.false c.if-before-i.true)

pub loop-i-preserved : goal.loop-i-preserved
loop-i-preserved c = elim c.if-is_end.branch [
  | then-is_end+else-i+else-before-i w ↦ end_small c.args.before c.loop-i.i c.args.locals.now c.loop-i.invariant c.loop-i-test.true (sym c.is_end.ensures ∙ w.if-is_end.true) w.if-i.false w.if-before-i.false
  | else-is_end w ↦ end_not c.args.before c.loop-i.i c.args.locals.now c.loop-i.invariant c.loop-i-test.true (sym c.is_end.ensures ∙ w.if-is_end.false)
]

pub returns-clause-excess : goal.returns-clause-excess
returns-clause-excess c = end_none c.args.before c.loop-i.i c.args.locals.now c.loop-i.invariant c.loop-i-test.false
