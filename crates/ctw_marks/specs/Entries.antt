-- A line's number, and what it asks for.
use Rattle.std.specs.Prelude.{List}
use Rattle.ctw_lex.specs.Lexeme.{Lexeme}
use Rattle.ctw_script.specs.LineValues.{first_line}
use Rattle.ctw_marks.specs.declared.entry.Entry.{Entry}
use Rattle.ctw_marks.specs.Orders.{order_of}

abbrev pub line_entry : List Lexeme → Entry
line_entry ts = record { line = first_line ts; order = order_of ts }
