-- Where the tokens of a text stand in it.
use Rattle.std.specs.Prelude.{◌≡◌, ℕ, ◌<◌, ◌≤◌, ◌-◌, List, length, slice_index, slice_range, map, IsSome}
use Rattle.ctw_lex.specs.declared.TokenKind.TheVariants.{Text}
use Rattle.ctw_lex.specs.declared.list.Span.{Span}
use Rattle.ctw_lex.specs.Lexeme.{Lexeme}
use Rattle.ctw_lex.specs.Strings.{string_value}

-- the token of a span
abbrev pub lexeme : List ℕ → Span → Lexeme
lexeme text s =
    record { kind = s.kind; text = slice_range text s.start s.end; start = s.start; end = s.end; line = s.line }

-- the tokens of spans
abbrev pub lexemes : List ℕ → List Span → List Lexeme
lexemes text spans = map (lexeme text) spans

-- within the text, with ASCII at both ends; and a string is whole
pub record IsSpanOf (text : List ℕ) (s : Span) : Type 0 where
  pub nonempty : s.start < s.end
  pub within : s.end ≤ length text
  pub first : slice_index text s.start < 128
  pub last : slice_index text (s.end - 1) < 128
  pub whole : s.kind ≡ Text → IsSome (string_value (slice_range text s.start s.end))
