-- Words of instructions stand for leaves that can be written.
use Rattle.std.proofs.Common.{◌≡◌, ℕ, Bool, true, false, cond, List, [], ◌∷◌, Option, Some, None, refl}
use Rattle.std.specs.Prelude.{◌==◌, nat_lt, length, option_map, drop, bytes_eq, slice_index, codes}
use Rattle.std.specs.List.{list_all}
use Rattle.ctw_lex.specs.declared.TokenKind.{TokenKind}
use Rattle.ctw_lex.specs.declared.TokenKind.TheVariants as kind
use Rattle.ctw_lex.specs.Lexeme.{Lexeme}
use Rattle.ctw_lex.specs.Strings.{string_value}
use Rattle.ctw_ops.specs.Numeric.{is_numeric}
use Rattle.ctw_text.specs.Words.{Entry, words, key_of, look_up}
use Rattle.ctw_text.specs.Toks.{number, begins_with, names_float, is_digit, is_sign, or_else, numeral, atom, string, tok, toks_of}
use Rattle.ctw_text.specs.declared.toks.Tok.{Tok}
use Rattle.ctw_text.specs.declared.toks.Tok.TheVariants.{Id, Num, Signed, OffsetIs, AlignIs, Word, Floats, Other}
use Rattle.ctw_parse.proofs.Nested.{good_key, good_tok, first_true, second_true, both_true}

words_good : list_all (λ (e : Entry). good_key e.key) words ≡ true
unfolding words is_numeric
words_good = refl

look_good : (es : List Entry) (w : List ℕ) (t : Tok) → list_all (λ (e : Entry). good_key e.key) es ≡ true → good_tok t ≡ true → good_tok (or_else (option_map Word (look_up es w)) t) ≡ true
look_good [] w t h good = good
look_good (e ∷ es) w t h good = go (look_good es w t (second_true _ _ h) good) (bytes_eq e.word w)
  where
    go : good_tok (or_else (option_map Word (look_up es w)) t) ≡ true → (b : Bool) → good_tok (or_else (option_map Word (cond b (Some e.key) (look_up es w))) t) ≡ true
    go rest true = first_true _ _ h
    go rest false = rest

either : (b : Bool) (x y : Option Tok) → good_tok (or_else x Other) ≡ true → good_tok (or_else y Other) ≡ true → good_tok (or_else (cond b x y) Other) ≡ true
either true x y p q = p
either false x y p q = q

chosen : (b : Bool) (x y : Tok) → good_tok x ≡ true → good_tok y ≡ true → good_tok (cond b x y) ≡ true
chosen true x y p q = p
chosen false x y p q = q

counted : (c : ℕ → Tok) → ((n : ℕ) → good_tok (c n) ≡ true) → (o : Option ℕ) → good_tok (or_else (option_map c o) Other) ≡ true
counted c h None = refl
counted c h (Some n) = h n

numeral_good : (w : List ℕ) → good_tok (or_else (numeral w) Other) ≡ true
numeral_good w =
    let c = slice_index w 0 in
    let x4 : Option Tok = cond (names_float w) (Some Floats) None in
    let a = option_map AlignIs (number (drop 6 w)) in
    let x3 : Option Tok = cond (begins_with (codes "align=") w) a x4 in
    let o = option_map OffsetIs (number (drop 7 w)) in
    let x2 : Option Tok = cond (begins_with (codes "offset=") w) o x3 in
    let s = option_map (Signed (c == 45)) (number (drop 1 w)) in
    let x1 : Option Tok = cond (is_sign c) s x2 in
    let g4 = either (names_float w) (Some Floats) None refl refl in
    let g3 = either (begins_with (codes "align=") w) a x4 (counted AlignIs (λ n. refl) (number (drop 6 w))) g4 in
    let g2 = either (begins_with (codes "offset=") w) o x3 (counted OffsetIs (λ n. refl) (number (drop 7 w))) g3 in
    let g1 = either (is_sign c) s x2 (counted (Signed (c == 45)) (λ n. refl) (number (drop 1 w))) g2 in
    either (is_digit c) (option_map Num (number w)) x1 (counted Num (λ n. refl) (number w)) g1

atom_good : (place : ℕ) (w : List ℕ) → good_tok (atom place w) ≡ true
unfolding key_of
atom_good place w =
    let name = Id (record { word = w; place = place }) in
    chosen (slice_index w 0 == 36) (cond (nat_lt 1 (length w)) name Other) (or_else (option_map Word (look_up words w)) (or_else (numeral w) Other))
    (chosen (nat_lt 1 (length w)) name Other refl refl) (look_good words w (or_else (numeral w) Other) words_good (numeral_good w))

string_good : (o : Option (List ℕ)) → good_tok (string o) ≡ true
string_good None = refl
string_good (Some bytes) = refl

one_good : (k : TokenKind) (place : ℕ) (w : List ℕ) → good_tok (tok k place w) ≡ true
one_good kind.Left place w = refl
one_good kind.Right place w = refl
one_good kind.Atom place w = atom_good place w
one_good kind.Text place w = string_good (string_value w)

pub toks_good : (ts : List Lexeme) → list_all good_tok (toks_of ts) ≡ true
toks_good [] = refl
toks_good (t ∷ ts) = both_true (one_good t.kind t.start t.text) (toks_good ts)
