-- What a token tells.
use Rattle.ctw_lex.specs.declared.list.Token.{Token}
use Rattle.ctw_lex.specs.Lexeme.{Lexeme}

-- the token by its text's bytes
abbrev pub lexeme_of : Token → Lexeme
lexeme_of t = record { kind = t.kind; text = t.text.now; start = t.start; end = t.end; line = t.line }
