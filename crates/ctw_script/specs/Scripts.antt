-- What a script stands for: the moves of its lines, in order.
use Rattle.std.specs.Prelude.{◌≡◌, ℕ, ◌==◌, List, [], ◌∷◌, ◌++◌, All, if◌then◌else◌}
use Rattle.std.specs.List.{AllZip}
use Rattle.ctw_lex.specs.declared.LexPlace.{LexPlace}
use Rattle.ctw_lex.specs.Lexeme.{Lexeme}
use Rattle.ctw_lex.specs.Grammar.{IsTokens}
use Rattle.ctw_lex.specs.Faults.{IsFirstFault}
use Rattle.ctw_script.specs.declared.moves.Move.{Move}
use Rattle.ctw_script.specs.declared.script.ScriptFault.{ScriptFault}
use Rattle.ctw_script.specs.declared.script.ScriptFault.TheVariants.{Lex, Line, NoMemory}
use Rattle.ctw_script.specs.Grammar.{IsMove}

-- a token before lines: on the first of them, where that one's tokens stand on its line, else on a line of its own
abbrev pub before_lines : Lexeme → List (List Lexeme) → List (List Lexeme)
before_lines t [] = (t ∷ []) ∷ []
before_lines t ([] ∷ lines) = (t ∷ []) ∷ lines
before_lines t ((u ∷ us) ∷ lines) =
    if t.line == u.line then (t ∷ u ∷ us) ∷ lines else (t ∷ []) ∷ (u ∷ us) ∷ lines

-- Tokens line by line: those of one line are those that start on it. Lines without a token are left out.
abbrev pub lines_of : List Lexeme → List (List Lexeme)
lines_of [] = []
lines_of (t ∷ ts) = before_lines t (lines_of ts)

-- the text has tokens, and those of each of its lines stand for a move
pub record IsReading (text : List ℕ) (moves : List Move) : Type 0 where
  pub tokens : List Lexeme
  pub lexed : IsTokens 0 1 text tokens
  pub read : AllZip IsMove (lines_of tokens) moves

-- the text has these moves, and no others
pub record HasReading (text : List ℕ) (moves : List Move) : Type 0 where
  pub reading : IsReading text moves
  pub only : (other : List Move) → IsReading text other → other ≡ moves

-- the text has no tokens, and this is the line of its first fault
pub record HasLexFault (text : List ℕ) (line : ℕ) : Type 0 where
  pub place : LexPlace
  pub faulty : IsFirstFault 0 1 text place
  pub same : place.line ≡ line

-- The text has tokens. Those of each line before this one stand for a move, and those of this one for none.
pub record HasLineFault (text : List ℕ) (line : ℕ) : Type 0 where
  pub tokens : List Lexeme
  pub lexed : IsTokens 0 1 text tokens
  pub earlier : List (List Lexeme)
  pub first : Lexeme
  pub more : List Lexeme
  pub later : List (List Lexeme)
  pub lines : lines_of tokens ≡ earlier ++ (first ∷ more) ∷ later
  pub number : first.line ≡ line
  pub read : All (λ ts. (mv : Move) × IsMove ts mv) earlier
  pub unread : (mv : Move) → ¬ (IsMove (first ∷ more) mv)

abbrev pub IsCause : List ℕ → ScriptFault → Type 0
IsCause text (Lex line) = HasLexFault text line
IsCause text (Line line) = HasLineFault text line
IsCause text NoMemory = Unit {0}

-- the text has no reading, for this cause; want of memory has no cause
pub record HasFault (text : List ℕ) (fault : ScriptFault) : Type 0 where
  pub cause : IsCause text fault
  pub unread : ¬ (fault ≡ NoMemory) → (moves : List Move) → ¬ (IsReading text moves)
