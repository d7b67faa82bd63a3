use Rattle.std.proofs.Common.{◌≡◌, ◌++◌, map, length}
use Rattle.ctw_lex.specs.Told.{lexeme_of}
use Rattle.ctw_script.specs.MoveValues.{AreWhole}
use Rattle.ctw_script.specs.Scripts.{lines_of}
use Rattle.ctw_marks.specs.Entries.{line_entry}
use Rattle.ctw_marks.proofs.entry.entries_of.Given as goal

-- the lines before the rest are read
abbrev pub invariant-lines : goal.invariant-lines
invariant-lines l = record {
  whole : AreWhole l.rest;
  read : l.entries.items ++ map line_entry (lines_of (map lexeme_of l.rest)) ≡ map line_entry (lines_of (map lexeme_of l.tokens));
}

abbrev pub decreases-lines : goal.decreases-lines
decreases-lines l = length l.rest
