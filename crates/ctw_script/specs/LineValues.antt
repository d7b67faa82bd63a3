-- What reading one line answers.
use Rattle.std.specs.Prelude.{◌≡◌, ℕ, List, [], ◌∷◌, Some, None, Result, Ok, Err}
use Rattle.ctw_lex.specs.Lexeme.{Lexeme}
use Rattle.ctw_script.specs.declared.moves.Move.{Move}
use Rattle.ctw_script.specs.declared.script.ScriptFault.{ScriptFault}
use Rattle.ctw_script.specs.declared.script.ScriptFault.TheVariants.{Lex, Line, NoMemory}
use Rattle.ctw_script.specs.MoveValues.{move_of}

abbrev pub first_line : List Lexeme → ℕ
first_line [] = 0
first_line (t ∷ ts) = t.line

-- the line stands for no move, and this is its number
abbrev pub IsUnreadLine : List Lexeme → ScriptFault → Type 0
IsUnreadLine ts (Line line) = (move_of ts ≡ None) × (first_line ts ≡ line)
IsUnreadLine ts (Lex line) = ⊥
IsUnreadLine ts NoMemory = Unit {0}

-- the line's move, or its number where it stands for none
abbrev pub IsRead : List Lexeme → Result Move ScriptFault → Type 0
IsRead ts (Ok mv) = move_of ts ≡ Some mv
IsRead ts (Err fault) = IsUnreadLine ts fault
