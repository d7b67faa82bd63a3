-- The tokens of a text by their grammar. A text is the list of its bytes in UTF-8.
-- The bytes that are written as numbers:
-- 10 is a line feed, 34 `"`, 40 `(`, 41 `)`, 59 `;`, 92 `\`, 117 `u`, 123 `{` and 125 `}`.
use Rattle.std.specs.Prelude.{◌≡◌, ℕ, ◌+◌, ◌*◌, ◌==◌, ◌&&◌, ◌||◌, not, Bool, true, false, List, [], ◌∷◌, ◌++◌, Some, length, slice_index, encode_utf8, if◌then◌else◌}
use Rattle.std.specs.List.{list_all}
use Rattle.ctw_lex.specs.declared.TokenKind.{TokenKind}
use Rattle.ctw_lex.specs.declared.TokenKind.TheVariants.{Left, Right, Atom, Text}
use Rattle.ctw_lex.specs.Chars.{is_blank, is_atom_byte, is_string_byte, is_hex, hex_value, is_scalar, simple_of, number_of}
use Rattle.ctw_lex.specs.Lexeme.{Lexeme}

-- does `(;` or `;)` stand at the head?
abbrev pub is_mark : List ℕ → Bool
is_mark bs = slice_index bs 0 == 40 && slice_index bs 1 == 59 || slice_index bs 0 == 59 && slice_index bs 1 == 41

-- What stands in a comment behind its `(;`, up to the `;)` that closes it and with it. A `(;` in it opens a comment
-- that is closed before; any other byte is passed.
pub data IsInside : List ℕ → Type 0 where
  closed : IsInside (59 ∷ 41 ∷ [])
  nested : {inner more : List ℕ} → IsInside inner → IsInside more → IsInside (40 ∷ 59 ∷ (inner ++ more))
  passed : {b : ℕ} {more : List ℕ} → is_mark (b ∷ more) ≡ false → IsInside more → IsInside (b ∷ more)

-- does the first byte pass the test?
abbrev pub begins : (ℕ → Bool) → List ℕ → Bool
begins p [] = false
begins p (b ∷ bs) = p b

-- a longest run of bytes that pass a test: `rest`, which follows it, doesn't begin with one
pub record IsRun (p : ℕ → Bool) (run rest : List ℕ) : Type 0 where
  pub passes : list_all p run ≡ true
  pub ends : begins p rest ≡ false

-- What stands between tokens: a blank, a comment up to the line's end, or one from `(;` to its `;)`. `rest` follows it.
pub data IsGap : List ℕ → List ℕ → Type 0 where
  blank : {b : ℕ} {rest : List ℕ} → is_blank b ≡ true → IsGap (b ∷ []) rest
  line : {run rest : List ℕ} → IsRun (λ b. not (b == 10)) run rest → IsGap (59 ∷ 59 ∷ run) rest
  block : {inside rest : List ℕ} → IsInside inside → IsGap (40 ∷ 59 ∷ inside) rest

-- An escape without its backslash, and the bytes that it stands for: one of `t n r " ' \`, two hexadecimal digits, or
-- `u{`, one or more hexadecimal digits of a scalar value and `}`.
pub data IsEscape : List ℕ → List ℕ → Type 0 where
  simple : {c v : ℕ} → simple_of c ≡ Some v → IsEscape (c ∷ []) (v ∷ [])
  byte : {high low : ℕ} → is_hex high ≡ true → is_hex low ≡ true
      → IsEscape (high ∷ low ∷ []) ((16 * hex_value high + hex_value low) ∷ [])
  scalar : (first : ℕ) (digits : List ℕ) → list_all is_hex (first ∷ digits) ≡ true
      → is_scalar (number_of (first ∷ digits)) ≡ true →
      IsEscape (117 ∷ 123 ∷ first ∷ (digits ++ 125 ∷ [])) (encode_utf8 (number_of (first ∷ digits)))

-- what stands between a string's quotes, and the bytes that it stands for; a backslash is 92
pub data Spells : List ℕ → List ℕ → Type 0 where
  nothing : Spells [] []
  itself : {b : ℕ} {more value : List ℕ} → is_string_byte b ≡ true → Spells more value → Spells (b ∷ more) (b ∷ value)
  escape : {word bytes more value : List ℕ} → IsEscape word bytes → Spells more value
      → Spells (92 ∷ (word ++ more)) (bytes ++ value)

-- a string with its quotes, and what it stands for
pub data IsString : List ℕ → List ℕ → Type 0 where
  quoted : {inside value : List ℕ} → Spells inside value → IsString (34 ∷ (inside ++ 34 ∷ [])) value

-- a token of this kind, before `rest`
pub data IsToken : TokenKind → List ℕ → List ℕ → Type 0 where
  left : {rest : List ℕ} → begins (λ b. b == 59) rest ≡ false → IsToken Left (40 ∷ []) rest
  right : {rest : List ℕ} → IsToken Right (41 ∷ []) rest
  atom : {first : ℕ} {run rest : List ℕ} → IsRun is_atom_byte (first ∷ run) rest → IsToken Atom (first ∷ run) rest
  string : {word value rest : List ℕ} → IsString word value → IsToken Text word rest

-- how many line feeds a text has
abbrev pub line_feeds : List ℕ → ℕ
line_feeds [] = 0
line_feeds (b ∷ bs) = if b == 10 then 1 + line_feeds bs else line_feeds bs

-- the tokens of a text that begins at the offset `at` and on this line
pub data IsTokens : (at line : ℕ) → List ℕ → List Lexeme → Type 0 where
  done : {at line : ℕ} → IsTokens at line [] []
  gap : {at line : ℕ} {ts : List Lexeme} (word rest : List ℕ) → IsGap word rest
      → IsTokens (at + length word) (line + line_feeds word) rest ts →
      IsTokens at line (word ++ rest) ts
  token : {at line : ℕ} {ts : List Lexeme} (kind : TokenKind) (word rest : List ℕ) → IsToken kind word rest
      → IsTokens (at + length word) (line + line_feeds word) rest ts →
      IsTokens at line (word ++ rest)
      (record { kind = kind; text = word; start = at; end = at + length word; line = line } ∷ ts)
