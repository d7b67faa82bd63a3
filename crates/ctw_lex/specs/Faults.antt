-- The first fault of a text by its grammar.
use Rattle.std.specs.Prelude.{◌≡◌, ℕ, suc, ◌+◌, ◌==◌, ◌&&◌, ◌||◌, Bool, false, List, [], ◌∷◌, ◌++◌, length, slice_index}
use Rattle.ctw_lex.specs.declared.LexKind.{LexKind}
use Rattle.ctw_lex.specs.declared.LexKind.TheVariants.{BadChar, OpenString, OpenComment, BadEscape}
use Rattle.ctw_lex.specs.declared.LexPlace.{LexPlace}
use Rattle.ctw_lex.specs.declared.TokenKind.{TokenKind}
use Rattle.ctw_lex.specs.Chars.{is_blank, is_atom_byte, is_string_byte}
use Rattle.ctw_lex.specs.Grammar.{IsInside, IsEscape, Spells, IsGap, IsToken, line_feeds}

-- what reaches from a quote to the next one: no quote but behind a backslash that stands for itself
pub data IsUnclosed : List ℕ → Type 0 where
  no_more : IsUnclosed []
  plain : {b : ℕ} {more : List ℕ} → (b == 34) ≡ false → (b == 92) ≡ false → IsUnclosed more → IsUnclosed (b ∷ more)
  pair : {b : ℕ} {more : List ℕ} → IsUnclosed more → IsUnclosed (92 ∷ b ∷ more)

-- a byte at the head that may not stand in a string, or a backslash behind which no escape stands
pub data IsOffender : LexKind → List ℕ → Type 0 where
  character : {b : ℕ} {bs : List ℕ} → is_string_byte b ≡ false → (b == 92) ≡ false → IsOffender BadChar (b ∷ bs)
  backslash : {bs : List ℕ} → ((word bytes more : List ℕ) → IsEscape word bytes → ¬ (bs ≡ word ++ more))
      → IsOffender BadEscape (92 ∷ bs)

-- does a blank, a comment or a token begin with this byte, before these ones?
abbrev pub may_begin : ℕ → List ℕ → Bool
may_begin b bs = is_blank b || is_atom_byte b || b == 40 || b == 41 || b == 34 || b == 59 && slice_index bs 0 == 59

-- What stands at the head of a text is faulty in this way, with the fault so many bytes behind the first: a comment
-- that no mark closes, a quote that no quote closes, the first offender of a closed string, or what begins nothing.
pub data IsFaulty : LexKind → ℕ → List ℕ → Type 0 where
  comment : {bs : List ℕ} → ((inside rest : List ℕ) → IsInside inside → ¬ (bs ≡ inside ++ rest))
      → IsFaulty OpenComment 0 (40 ∷ 59 ∷ bs)
  unclosed : {bs : List ℕ} → ((inside rest : List ℕ) → IsUnclosed inside → ¬ (bs ≡ inside ++ 34 ∷ rest))
      → IsFaulty OpenString 0 (34 ∷ bs)
  offended : {kind : LexKind} {front value back : List ℕ} (rest : List ℕ) → IsUnclosed (front ++ back)
      → Spells front value → IsOffender kind back →
      IsFaulty kind (suc (length front)) (34 ∷ ((front ++ back) ++ 34 ∷ rest))
  stray : {b : ℕ} {bs : List ℕ} → may_begin b bs ≡ false → IsFaulty BadChar 0 (b ∷ bs)

-- the first fault of a text that begins at the offset `at` and on this line: all before it is blanks,
-- comments and tokens
pub data IsFirstFault : (at line : ℕ) → List ℕ → LexPlace → Type 0 where
  here : {at line k : ℕ} {kind : LexKind} {bs : List ℕ} → IsFaulty kind k bs
      → IsFirstFault at line bs (record { kind = kind; start = at + k; line = line })
  gap : {at line : ℕ} {place : LexPlace} (word rest : List ℕ) → IsGap word rest
      → IsFirstFault (at + length word) (line + line_feeds word) rest place →
      IsFirstFault at line (word ++ rest) place
  token : {at line : ℕ} {place : LexPlace} (kind : TokenKind) (word rest : List ℕ) → IsToken kind word rest
      → IsFirstFault (at + length word) (line + line_feeds word) rest place →
      IsFirstFault at line (word ++ rest) place
