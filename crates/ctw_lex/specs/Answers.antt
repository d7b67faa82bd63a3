-- What a text has: a list of tokens or a first fault, and which one.
use Rattle.std.specs.Prelude.{◌≡◌, ℕ, ◌+◌, ◌<◌, ◌≤◌, List, All, length, take, slice_range}
use Rattle.std.specs.List.{AllPairs}
use Rattle.ctw_lex.specs.declared.LexPlace.{LexPlace}
use Rattle.ctw_lex.specs.Lexeme.{Lexeme}
use Rattle.ctw_lex.specs.Grammar.{IsTokens, line_feeds}
use Rattle.ctw_lex.specs.Faults.{IsFirstFault}

-- these are the text's tokens, it has no others and no fault
pub record HasTokens (text : List ℕ) (tokens : List Lexeme) : Type 0 where
  pub lists : IsTokens 0 1 text tokens
  pub only : (other : List Lexeme) → IsTokens 0 1 text other → other ≡ tokens
  pub faultless : (place : LexPlace) → ¬ (IsFirstFault 0 1 text place)

-- a fault's start is a byte of the text; its line counts the line feeds before it
pub record IsPlaced (text : List ℕ) (place : LexPlace) : Type 0 where
  pub within : place.start < length text
  pub line : place.line ≡ 1 + line_feeds (take place.start text)

-- this is the text's first fault, it has no other and no list of tokens
pub record HasFault (text : List ℕ) (place : LexPlace) : Type 0 where
  pub faulty : IsFirstFault 0 1 text place
  pub only : (other : LexPlace) → IsFirstFault 0 1 text other → other ≡ place
  pub listless : (tokens : List Lexeme) → ¬ (IsTokens 0 1 text tokens)
  pub placed : IsPlaced text place

-- a token is the slice of the text at its span, which isn't empty; its line counts the line feeds before it
pub record IsSlice (text : List ℕ) (t : Lexeme) : Type 0 where
  pub nonempty : t.start < t.end
  pub within : t.end ≤ length text
  pub slice : t.text ≡ slice_range text t.start t.end
  pub line : t.line ≡ 1 + line_feeds (take t.start text)

-- each token is such a slice, and ends before all later ones
pub record AreSlices (text : List ℕ) (tokens : List Lexeme) : Type 0 where
  pub each : All (IsSlice text) tokens
  pub rising : AllPairs (λ t u. t.end ≤ u.start) tokens
