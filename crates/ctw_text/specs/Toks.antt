-- Tokens as the grammar sees them: what an atom is (W3C WebAssembly Core 1.0, sections 6.2.1, 6.3.1 and 6.3.5).
use Rattle.std.specs.Prelude.{ℕ, ◌+◌, ◌*◌, ◌==◌, ◌&&◌, ◌||◌, nat_lt, Bool, true, false, List, [], ◌∷◌, Option, Some, None, option_map, map, length, take, drop, fold, bytes_eq, codes, slice_index, cond}
use Rattle.ctw_lex.specs.declared.TokenKind.{TokenKind}
use Rattle.ctw_lex.specs.declared.TokenKind.TheVariants as kind
use Rattle.ctw_lex.specs.Chars.{is_within, is_hex, hex_value}
use Rattle.ctw_lex.specs.Strings.{string_value}
use Rattle.ctw_lex.specs.Lexeme.{Lexeme}
use Rattle.ctw_text.specs.Keys.{Key}
use Rattle.ctw_text.specs.Words.{key_of}
pub use Rattle.ctw_text.specs.Written.{Name}
pub use Rattle.ctw_text.specs.declared.toks.Tok.{Tok}
pub use Rattle.ctw_text.specs.declared.toks.Tok.TheVariants.{Open, Close, Text, Id, Num, Signed, OffsetIs, AlignIs, Word, Floats, Other}

-- Numbers: digits with single `_` between them

abbrev pub is_digit : ℕ → Bool
is_digit b = is_within 48 57 b

-- the digits without `_`; None where a `_` has no digit before or behind it, or another byte stands there
abbrev pub plain_digits : (ℕ → Bool) → (before : Bool) → List ℕ → Option (List ℕ)
plain_digits p before [] = cond before (Some []) None
plain_digits p before (b ∷ bs) =
    cond (p b) (option_map (λ ds. b ∷ ds) (plain_digits p true bs))
    (cond (before && b == 95) (plain_digits p false bs) None)

abbrev pub value_of : (base : ℕ) → List ℕ → ℕ
value_of base digits = fold (λ n b. base * n + hex_value b) 0 digits

-- `0x` and hexadecimal digits, or decimal ones
abbrev pub begins_hex : List ℕ → Bool
begins_hex w = slice_index w 0 == 48 && slice_index w 1 == 120

-- the unsigned number that a word spells
abbrev pub number : List ℕ → Option ℕ
number w =
    cond (begins_hex w) (option_map (value_of 16) (plain_digits is_hex false (drop 2 w)))
    (option_map (value_of 10) (plain_digits is_digit false w))

-- Atoms

abbrev pub begins_with : List ℕ → List ℕ → Bool
begins_with front w = bytes_eq (take (length front) w) front

abbrev pub holds_word : List ℕ → List ℕ → Bool
holds_word inner [] = false
holds_word inner (b ∷ bs) = begins_with inner (b ∷ bs) || holds_word inner bs

-- it begins with `f32` or `f64` or holds `_f32` or `_f64`
abbrev pub names_float : List ℕ → Bool
names_float w =
    begins_with (codes "f32") w || begins_with (codes "f64") w || holds_word (codes "_f32") w
    || holds_word (codes "_f64") w

abbrev pub or_else : Option Tok → Tok → Tok
or_else (Some t) instead = t
or_else None instead = instead

abbrev pub is_sign : ℕ → Bool
is_sign b = b == 43 || b == 45

-- an atom that is neither an identifier nor a word of the text form
abbrev pub numeral : List ℕ → Option Tok
numeral w =
    cond (is_digit (slice_index w 0)) (option_map Num (number w))
    (cond (is_sign (slice_index w 0)) (option_map (Signed (slice_index w 0 == 45)) (number (drop 1 w)))
    (cond (begins_with (codes "offset=") w) (option_map OffsetIs (number (drop 7 w)))
    (cond (begins_with (codes "align=") w) (option_map AlignIs (number (drop 6 w)))
    (cond (names_float w) (Some Floats) None))))

abbrev pub atom : (place : ℕ) → List ℕ → Tok
atom place w =
    cond (slice_index w 0 == 36)
    (cond (nat_lt 1 (length w)) (Id (record { word = w; place = place })) Other)
    (or_else (option_map Word (key_of w)) (or_else (numeral w) Other))

abbrev pub string : Option (List ℕ) → Tok
string (Some bytes) = Text bytes
string None = Other

abbrev pub tok : TokenKind → (place : ℕ) → List ℕ → Tok
tok kind.Left place w = Open place
tok kind.Right place w = Close
tok kind.Atom place w = atom place w
tok kind.Text place w = string (string_value w)

-- a token as the grammar sees it
abbrev pub tok_of : Lexeme → Tok
tok_of t = tok t.kind t.start t.text

abbrev pub toks_of : List Lexeme → List Tok
toks_of ts = map tok_of ts
