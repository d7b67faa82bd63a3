use Rattle.std.proofs.Common.{◌≡◌, ◌+◌, drop}
use Rattle.ctw_lex.specs.Strings.{contents, with_front}
use Rattle.ctw_lex.proofs.strings.unescaped.Given as goal

abbrev pub invariant-loop-i : goal.invariant-loop-i
invariant-loop-i l = with_front l.out.items (contents l.skip (l.i + 1) (drop l.i l.content)) ≡ contents 0 1 l.content
