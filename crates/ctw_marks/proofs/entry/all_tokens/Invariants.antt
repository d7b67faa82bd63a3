use Rattle.std.proofs.Common.{◌≡◌, map, take}
use Rattle.ctw_lex.specs.Told.{lexeme_of}
use Rattle.ctw_script.specs.MoveValues.{AreWhole}
use Rattle.ctw_marks.proofs.entry.all_tokens.Given as goal

-- the tokens so far
abbrev pub invariant-loop-i : goal.invariant-loop-i
invariant-loop-i l = record {
  tokens : map lexeme_of l.all.items ≡ take l.i l.list;
  whole : AreWhole l.all.items;
}
