-- Tokens with their numbers cut off at 2 ^ 64.
use Rattle.std.specs.Prelude.{ℕ, ◌^◌, min, List, Option, Some, None, cond, codes, drop, option_map}
use Rattle.ctw_text.specs.declared.toks.Tok.{Tok}
use Rattle.ctw_text.specs.declared.toks.Tok.TheVariants.{Num, Signed, OffsetIs, AlignIs, Floats}
use Rattle.ctw_text.specs.Toks.{begins_with, names_float, number}

abbrev pub cut : ℕ → ℕ
cut n = min n (2 ^ 64)

abbrev pub cut_tok : Tok → Tok
cut_tok (Num n) = Num (cut n)
cut_tok (Signed neg n) = Signed neg (cut n)
cut_tok (OffsetIs n) = OffsetIs (cut n)
cut_tok (AlignIs n) = AlignIs (cut n)
cut_tok t = t

-- `offset=N`, `align=N`, or a word that names a float
abbrev pub worded : List ℕ → Option Tok
worded w =
    cond (begins_with (codes "offset=") w) (option_map OffsetIs (number (drop 7 w)))
    (cond (begins_with (codes "align=") w) (option_map AlignIs (number (drop 6 w)))
    (cond (names_float w) (Some Floats) None))
