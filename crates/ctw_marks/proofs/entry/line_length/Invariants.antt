use Rattle.std.proofs.Common.{◌≤◌, map}
use Rattle.ctw_lex.specs.Told.{lexeme_of}
use Rattle.ctw_marks.proofs.EntryLaws.{SameUpto}
use Rattle.ctw_marks.proofs.entry.line_length.Given as goal

-- the tokens so far stand on the first one's line
abbrev pub invariant-same : goal.invariant-same
invariant-same l = record {
  from : 1 ≤ l.i;
  same : SameUpto l.line l.i (map lexeme_of l.tokens);
}
