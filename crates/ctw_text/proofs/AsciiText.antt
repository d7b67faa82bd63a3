-- A text that is laid out is ASCII.
use Rattle.std.proofs.Common.{◌≡◌, ◌<◌, ◌≤◌, ◌/◌, ◌%◌, ℕ, zero, suc, Bool, true, false, List, [], ◌∷◌, ◌++◌, refl, sym, subst, arith}
use Rattle.std.specs.Prelude.{◌&&◌, ◌==◌, nat_lt, nat_le, nat_eq, codes}
use Rattle.std.specs.List.{list_all, list_any}
use Rattle.std.specs.Str.{IsAscii}
use Rattle.std.proofs.lemmas.Bool.{false≢true, eqb-true, ltb-true, leb-true}
use Rattle.ctw_lex.specs.Chars.{is_blank, is_within, is_atom_byte, is_string_byte}
use Rattle.ctw_text.specs.Toks.{Tok}
use Rattle.ctw_text.specs.Print as p
use Rattle.ctw_text.specs.Print.{Sign, Ink, hex_char, quoted_byte, quoted, bytes_of, text_of}
use Rattle.ctw_text.proofs.Lexing.{both_true, IsAtomText, Laid, AllBytes, below}
use Rattle.ctw_text.proofs.Atoms.{either}

abbrev Low : List ℕ → Type 0
Low [] = Unit {0}
Low (b ∷ bs) = (b < 128) × Low bs

low_behind : (xs ys : List ℕ) → Low xs → Low ys → Low (xs ++ ys)
low_behind [] ys a b = b
low_behind (x ∷ xs) ys a b = (a.0, low_behind xs ys a.1 b)

equal_low : (n b : ℕ) → n < 128 → (b == n) ≡ true → b < 128
equal_low n b h e = let q : b ≡ n = eqb-true b n e in omega arith

within_low : (low high b : ℕ) → high < 128 → is_within low high b ≡ true → b < 128
within_low low high b h e = let l : b ≤ high = leb-true b high (both_true (nat_le low b) (nat_le b high) e).1 in omega arith

among_low : (bs : List ℕ) (b : ℕ) → list_all (λ c. nat_lt c 128) bs ≡ true → list_any (nat_eq b) bs ≡ true → b < 128
among_low [] b h e = absurd (false≢true e)
among_low (c ∷ cs) b h e =
    let l = both_true (nat_lt c 128) (list_all (λ c. nat_lt c 128) cs) h in
    either (nat_eq b c) (list_any (nat_eq b) cs) (b < 128) (equal_low c b (ltb-true c 128 l.0)) (among_low cs b l.1) e

blank_low : (b : ℕ) → is_blank b ≡ true → b < 128
blank_low b = either _ _ (b < 128) (either _ _ (b < 128) (either _ _ (b < 128) (equal_low 32 b (omega arith)) (equal_low 9 b (omega arith))) (equal_low 13 b (omega arith))) (equal_low 10 b (omega arith))

atom_low : (b : ℕ) → is_atom_byte b ≡ true → b < 128
atom_low b =
    either _ _ (b < 128) (either _ _ (b < 128) (either _ _ (b < 128) (within_low 97 122 b (omega arith)) (within_low 65 90 b (omega arith))) (within_low 48 57 b (omega arith)))
    (among_low (codes "!#$%&'*+-./:<=>?@\\^_`|~") b refl)

all_low : (p : ℕ → Bool) → ((b : ℕ) → p b ≡ true → b < 128) → (bs : List ℕ) → list_all p bs ≡ true → Low bs
all_low p f [] e = tt
all_low p f (b ∷ bs) e = let h = both_true (p b) (list_all p bs) e in (f b h.0, all_low p f bs h.1)

-- strings

digit_low : (d : ℕ) → d < 16 → hex_char d < 128
digit_low d h = ltb-true (hex_char d) 128 (below (λ d. nat_lt (hex_char d) 128) 16 refl d h)

byte_low : (b : ℕ) → b < 256 → Low (quoted_byte b)
byte_low b h = go (is_string_byte b && nat_lt b 127) refl
  where
    go : (t : Bool) → (is_string_byte b && nat_lt b 127) ≡ t → Low (quoted_byte b)
    go true e = rw e (let l : b < 127 = ltb-true b 127 (both_true (is_string_byte b) (nat_lt b 127) e).1 in (omega arith, tt))
    go false e = rw e (omega arith, (digit_low (b / 16) (omega arith), (digit_low (b % 16) (omega arith), tt)))

quoted_low : (bs : List ℕ) → AllBytes bs → Low (quoted bs)
quoted_low [] h = tt
quoted_low (b ∷ bs) h = low_behind (quoted_byte b) (quoted bs) (byte_low b h.0) (quoted_low bs h.1)

spelled_low : {w : List ℕ} {t : Tok} → IsAtomText w t → Low w
spelled_low a = subst Low (sym a.split) (atom_low a.head a.begins, all_low is_atom_byte atom_low a.tail a.goes_on)

text_low : (is : List Ink) → Laid is → Low (text_of is)
text_low [] l = tt
text_low (p.Gap g ∷ is) l = low_behind g (text_of is) (all_low is_blank blank_low g l.0) (text_low is l.1)
text_low (p.Mark p.Left ∷ is) l = (omega arith, text_low is l.1)
text_low (p.Mark p.Right ∷ is) l = (omega arith, text_low is l.1)
text_low (p.Mark (p.Quote bs) ∷ is) l =
    low_behind (34 ∷ quoted bs ++ 34 ∷ []) (text_of is) (omega arith, low_behind (quoted bs) (34 ∷ []) (quoted_low bs l.0) (omega arith, tt)) (text_low is l.1)
text_low (p.Mark (p.Number n) ∷ is) l = low_behind (bytes_of (p.Number n)) (text_of is) (spelled_low l.0.spelled) (text_low is l.1)
text_low (p.Mark (p.Negative n) ∷ is) l = low_behind (bytes_of (p.Negative n)) (text_of is) (spelled_low l.0.spelled) (text_low is l.1)
text_low (p.Mark (p.AtOffset n) ∷ is) l = low_behind (bytes_of (p.AtOffset n)) (text_of is) (spelled_low l.0.spelled) (text_low is l.1)
text_low (p.Mark (p.Aligned n) ∷ is) l = low_behind (bytes_of (p.Aligned n)) (text_of is) (spelled_low l.0.spelled) (text_low is l.1)
text_low (p.Mark (p.Said key) ∷ is) l = low_behind (bytes_of (p.Said key)) (text_of is) (spelled_low l.0.spelled) (text_low is l.1)

ascii : (bs : List ℕ) → Low bs → IsAscii bs
ascii [] h i = omega arith
ascii (b ∷ bs) h zero = h.0
ascii (b ∷ bs) h (suc i) = ascii bs h.1 i

-- a text that is laid out is ASCII
pub laid_ascii : (is : List Ink) → Laid is → IsAscii (text_of is)
laid_ascii is l = ascii (text_of is) (text_low is l)
