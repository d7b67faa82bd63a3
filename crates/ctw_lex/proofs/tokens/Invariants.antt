use Rattle.std.proofs.Common.{◌≡◌, ◌≤◌, ◌+◌, drop, length}
use Rattle.std.specs.Prelude.{All}
use Rattle.ctw_lex.specs.Spans.{IsSpanOf, lexemes}
use Rattle.ctw_lex.specs.Strings.{with_front}
use Rattle.ctw_lex.specs.Tokens.{tokens_from, tokens_of}
use Rattle.ctw_lex.proofs.tokens.Given as goal

abbrev pub invariant-loop-at : goal.invariant-loop-at
invariant-loop-at l = record {
  spans : All (IsSpanOf l.bytes) l.spans.items;
  count : length l.spans.items ≤ l.at;
  line : l.line ≤ l.at + 1;
  same : with_front (lexemes l.bytes l.spans.items) (tokens_from l.skip l.at l.line (drop l.at l.bytes)) ≡ tokens_of l.bytes;
}
