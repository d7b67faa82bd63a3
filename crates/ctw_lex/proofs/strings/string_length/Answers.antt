use Rattle.std.proofs.Common.{rules}
use Rattle.ctw_lex.proofs.Steps.{string_after_escape, string_after_backslash, string_after_other}
use Rattle.ctw_lex.proofs.strings.string_length.Goals as goal
use Rattle.ctw_lex.proofs.strings.string_length.Goals.{then-escaped, else-escaped+else-b-eq34+then-b-eq92, else-escaped+else-b-eq34+else-b-eq92}

pub loop-i-preserved : goal.loop-i-preserved
loop-i-preserved c =
    elim c.if-escaped.branch [
      | then-escaped w ↦ let e = string_after_escape c.loop-i.i c.args.rest.now c.loop-i-test.true in cc
      | else-escaped+else-b-eq34+then-b-eq92 w ↦ let e = string_after_backslash c.loop-i.i c.args.rest.now c.loop-i-test.true w.if-b-eq92.true in cc
      | else-escaped+else-b-eq34+else-b-eq92 w ↦ let e = string_after_other c.loop-i.i c.args.rest.now c.loop-i-test.true (search rules) (search rules) in cc
    ]
