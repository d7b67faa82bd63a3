use Rattle.std.proofs.Common.{map}
use Rattle.ctw_lex.specs.Told.{lexeme_of}
use Rattle.ctw_script.specs.MoveValues.{AreWhole}
use Rattle.ctw_script.specs.Progress.{ReadSoFar}
use Rattle.ctw_script.proofs.script.read_tokens.Given as goal

abbrev pub invariant-loop-i : goal.invariant-loop-i
invariant-loop-i l = record {
  reading : ReadSoFar l.list l.i (map lexeme_of l.line.items) l.moves.items;
  whole : AreWhole l.line.items;
}
