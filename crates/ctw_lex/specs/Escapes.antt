-- What an escape that was found stands for.
use Rattle.std.specs.Prelude.{ℕ, [], ◌∷◌, encode_utf8}
use Rattle.ctw_lex.specs.declared.escapes.Escape.{Escape}
use Rattle.ctw_lex.specs.declared.escapes.Escape.TheVariants.{Byte, Scalar}
use Rattle.ctw_lex.specs.Strings.{Meaning}

-- its length behind the backslash, and its bytes
abbrev pub meaning : Escape → Meaning
meaning (Byte n b) = record { len = n; bytes = b ∷ [] }
meaning (Scalar n c) = record { len = n; bytes = encode_utf8 c }

-- its length behind the backslash
abbrev pub escape_len : Escape → ℕ
escape_len (Byte n b) = n
escape_len (Scalar n c) = n
