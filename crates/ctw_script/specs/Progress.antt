-- A script that is read token by token: the moves of the lines that have ended, and the tokens of the line that
-- goes on.
use Rattle.std.specs.Prelude.{◌≡◌, ℕ, ◌==◌, ◌≤◌, Bool, true, List, [], ◌∷◌, ◌++◌, ◌+◌, All, Some, drop, length, slice_get}
use Rattle.std.specs.List.{AllZip}
use Rattle.ctw_lex.specs.Lexeme.{Lexeme}
use Rattle.ctw_script.specs.declared.moves.Move.{Move}
use Rattle.ctw_script.specs.declared.script.ScriptFault.{ScriptFault}
use Rattle.ctw_script.specs.declared.script.ScriptFault.TheVariants.{Lex, Line, NoMemory}
use Rattle.ctw_script.specs.Grammar.{IsMove}
use Rattle.ctw_script.specs.MoveValues.{move_of}
use Rattle.ctw_script.specs.Scripts.{lines_of}

-- no tokens, or tokens of one line
abbrev pub IsOneLine : List Lexeme → Type 0
IsOneLine [] = Unit {0}
IsOneLine (t ∷ ts) = All (λ u. u.line ≡ t.line) ts

-- what is read before the token `i`
pub record ReadSoFar (tokens : List Lexeme) (i : ℕ) (line : List Lexeme) (moves : List Move) : Type 0 where
  pub earlier : List (List Lexeme)
  pub read : AllZip IsMove earlier moves
  pub lines : lines_of tokens ≡ earlier ++ lines_of (line ++ drop i tokens)
  pub one : IsOneLine line
  pub few : length moves + length line ≤ i

-- the line that goes on stands for no move
pub record IsUnread (tokens : List Lexeme) (number : ℕ) : Type 0 where
  pub earlier : List (List Lexeme)
  pub first : Lexeme
  pub more : List Lexeme
  pub later : List (List Lexeme)
  pub lines : lines_of tokens ≡ earlier ++ (first ∷ more) ∷ later
  pub same : first.line ≡ number
  pub read : All (λ ts. (mv : Move) × IsMove ts mv) earlier
  pub unread : (mv : Move) → ¬ (IsMove (first ∷ more) mv)

abbrev pub IsLineCause : List Lexeme → ScriptFault → Type 0
IsLineCause tokens (Line number) = IsUnread tokens number
IsLineCause tokens (Lex number) = ⊥
IsLineCause tokens NoMemory = Unit {0}

-- does the next token stand on the line that goes on, or begin the first one?
abbrev pub goes_on : List Lexeme → Lexeme → Bool
goes_on [] t = true
goes_on (u ∷ us) t = u.line == t.line

-- the next token leads from what is read before it to what is read behind it
abbrev pub KeepsReading : (line : List Lexeme) → (moves : List Move) → Lexeme →
    (line' : List Lexeme) → (moves' : List Move) → Type 0
KeepsReading line moves t line' moves' =
    (tokens : List Lexeme) (i : ℕ) → slice_get tokens i ≡ Some t → ReadSoFar tokens i line moves →
    ReadSoFar tokens (i + 1) line' moves'

-- before the next token a line ends that stands for no move
abbrev pub StopsReading : (line : List Lexeme) → (moves : List Move) → Lexeme → ScriptFault → Type 0
StopsReading line moves t fault =
    (tokens : List Lexeme) (i : ℕ) → slice_get tokens i ≡ Some t → ReadSoFar tokens i line moves →
    IsLineCause tokens fault

-- the line's move stands behind the others
pub record EndsLine (line : List Lexeme) (moves moves' : List Move) : Type 0 where
  pub last : Move
  pub read : move_of line ≡ Some last
  pub added : moves' ≡ moves ++ last ∷ []
