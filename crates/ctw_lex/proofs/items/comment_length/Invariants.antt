use Rattle.std.proofs.Common.{◌≡◌, ◌≤◌, ◌+◌, drop}
use Rattle.std.specs.Prelude.{option_map}
use Rattle.ctw_lex.specs.Items.{comment_len}
use Rattle.ctw_lex.proofs.items.comment_length.Given as goal

abbrev pub invariant-loop-i : goal.invariant-loop-i
invariant-loop-i l = record {
  nesting : l.depth ≤ l.i;
  same : option_map (λ n. n + l.i) (comment_len l.depth l.last (drop l.i l.rest)) ≡ comment_len 0 0 l.rest;
}
