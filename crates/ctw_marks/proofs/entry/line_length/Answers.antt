use Rattle.std.proofs.Common.{arith}
use Rattle.ctw_marks.proofs.EntryLaws.{line_ends, line_grows, line_is_all}
use Rattle.ctw_marks.proofs.entry.line_length.Goals as goal

pub returns-then-tokens-i-clause-lines : goal.returns-then-tokens-i-clause-lines
returns-then-tokens-i-clause-lines c = line_ends c.args.tokens.now _ c.same.i (omega (arith, c.same.invariant.from)) c.same.invariant.same _ (omega (arith, c.same-test.true)) c.if-tokens-i.true

pub same-preserved : goal.same-preserved
same-preserved c = record {
  from = omega (arith, c.same.invariant.from);
  same = line_grows c.args.tokens.now _ c.same.i (omega (arith, c.same.invariant.from)) c.same.invariant.same _ (omega (arith, c.same-test.true)) c.if-tokens-i.false;
}

pub returns-clause-lines : goal.returns-clause-lines
returns-clause-lines c = line_is_all c.args.tokens.now _ c.same.i (omega (arith, c.same.invariant.from)) c.same.invariant.same (omega (arith, c.same-test.false))
