-- A token as contracts see it.
use Rattle.std.specs.Prelude.{ℕ, List}
use Rattle.ctw_lex.specs.declared.TokenKind.{TokenKind}

-- what it is, its bytes, the offsets of its first byte and behind its last, and the line of its first byte
pub record Lexeme : Type 0 where
  pub kind : TokenKind
  pub text : List ℕ
  pub start : ℕ
  pub end : ℕ
  pub line : ℕ
