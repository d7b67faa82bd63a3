-- The module that a text denotes (W3C WebAssembly Core 1.0, section 6.6.12),
-- and the first fault of a text that denotes none.
use Rattle.std.specs.Prelude.{◌≡◌, ℕ, ◌+◌, Bool, List, Option, Some, None, Result, Ok, Err, length, slice_get}
use Rattle.ctw_ops.specs.declared.types.Label.{Label}
use Rattle.ctw_ops.specs.Tree.{Module}
use Rattle.ctw_lex.specs.declared.LexPlace.{LexPlace}
use Rattle.ctw_lex.specs.Lexeme.{Lexeme}
use Rattle.ctw_lex.specs.Tokens.{tokens_of}
use Rattle.ctw_text.specs.Toks.{Tok, toks_of}
use Rattle.ctw_text.specs.Pieces.{Piece}
use Rattle.ctw_text.specs.Grammar.{Spells}
use Rattle.ctw_text.specs.Machine.{Why, Unexpected, NumberRange, FloatWord, Stop, is_ct, spelled}
use Rattle.ctw_text.specs.Fields.{fields_of}
use Rattle.ctw_text.specs.Names.{Kind, NameFault, Wide, named}
use Rattle.ctw_text.specs.Names as n
use Rattle.ctw_text.specs.Limits.{Excess, limited}

-- These tokens denote this module: they spell pieces, whose names stand for something, and nothing is too much.
pub record Denotes (ts : List Tok) (m : Module Label) : Type 0 where
  pub ct : Bool
  pub pieces : List Piece
  pub wide : Wide
  pub spells : Spells ct ts pieces
  pub names : named ct (fields_of pieces) ≡ Ok wide
  pub limits : limited wide ≡ Ok m

pub data Fault : Type 0 where
  InLex : (place : LexPlace) → Fault
  AtUnexpected AtUnknownName AtDoubleName AtNumberRange AtFloats : (start end : ℕ) → Fault
  InExcess : (excess : Excess) → Fault

abbrev pub why_fault : Why → (start end : ℕ) → Fault
why_fault Unexpected s e = AtUnexpected s e
why_fault NumberRange s e = AtNumberRange s e
why_fault FloatWord s e = AtFloats s e

-- where a token stands, or the text's end
abbrev pub stop_fault : (size : ℕ) → List Lexeme → Stop → Fault
stop_fault size ts f = of (slice_get ts f.at)
  where
    of : Option Lexeme → Fault
    of None = AtUnexpected size size
    of (Some t) = why_fault f.kind t.start t.end

abbrev pub name_fault : NameFault → Fault
name_fault f = of f.kind f.place (f.place + f.extent)
  where
    of : Kind → ℕ → ℕ → Fault
    of n.UnknownName s e = AtUnknownName s e
    of n.DoubleName s e = AtDoubleName s e
    of n.Mismatch s e = AtUnexpected s e

abbrev pub in_limits : Result (Module Label) Excess → Result (Module Label) Fault
in_limits (Ok m) = Ok m
in_limits (Err e) = Err (InExcess e)

abbrev pub after_names : Result Wide NameFault → Result (Module Label) Fault
after_names (Ok m) = in_limits (limited m)
after_names (Err f) = Err (name_fault f)

abbrev pub after_grammar : (size : ℕ) → (ct : Bool) → List Lexeme → Result (List Piece) Stop
    → Result (Module Label) Fault
after_grammar size ct ts (Ok ps) = after_names (named ct (fields_of ps))
after_grammar size ct ts (Err f) = Err (stop_fault size ts f)

-- the four passes
abbrev pub after_lex : (size : ℕ) → Result (List Lexeme) LexPlace → Result (Module Label) Fault
after_lex size (Ok ts) = after_grammar size (is_ct (toks_of ts)) ts (spelled (toks_of ts))
after_lex size (Err place) = Err (InLex place)

-- the module that a text denotes, or its first fault
abbrev pub assembled : List ℕ → Result (Module Label) Fault
assembled text = after_lex (length text) (tokens_of text)
