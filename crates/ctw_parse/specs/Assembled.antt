-- The fourth pass with all its limits, and the module that a text denotes within them, or its first fault.
use Rattle.std.specs.Prelude.{◌≡◌, ◌≤◌, ℕ, ◌&&◌, not, nat_lt, Bool, false, List, [], ◌++◌, Result, Ok, Err, length}
use Rattle.ctw_ops.specs.declared.types.Label.{Label}
use Rattle.ctw_ops.specs.declared.fault.What.TheVariants.{Bytes}
use Rattle.ctw_ops.specs.Limits.{most_plain_bytes}
use Rattle.ctw_ops.specs.Tree.{Module}
use Rattle.ctw_lex.specs.declared.LexPlace.{LexPlace}
use Rattle.ctw_lex.specs.Lexeme.{Lexeme}
use Rattle.ctw_lex.specs.Tokens.{tokens_of}
use Rattle.ctw_text.specs.Toks.{toks_of}
use Rattle.ctw_text.specs.declared.toks.Tok.{Tok}
use Rattle.ctw_text.specs.declared.pieces.Piece.{Piece}
use Rattle.ctw_text.specs.declared.fields.Field.{Field}
use Rattle.ctw_text.specs.Machine.{Stop, is_ct, spelled}
use Rattle.ctw_text.specs.Fields.{fields_of}
use Rattle.ctw_text.specs.Names.{NameFault, Wide, named}
use Rattle.ctw_text.specs.Limits.{Excess, over, excess_of, bounded, narrow}
use Rattle.ctw_text.specs.Denotes.{Denotes, Fault, InLex, stop_fault, name_fault, in_limits}
use Rattle.ctw_form.specs.Spelled.{Spells}
use Rattle.ctw_write.specs.Canon.{canon}
use Rattle.ctw_parse.specs.WideCanon.{wide_canon}
use Rattle.ctw_parse.specs.Numbers.{HasNumbers}

-- A reader of a file counts the bytes of a plain module straight behind the version, before it meets anything else that
-- is too much. A CT module has no such limit: how long its file may be is a matter of who loads it.
abbrev pub bytes_excess : Wide → List Excess
bytes_excess m = over (not m.ct && nat_lt most_plain_bytes (length (wide_canon m))) Bytes most_plain_bytes

abbrev pub all_excess : Wide → List Excess
all_excess m = bytes_excess m ++ excess_of m

-- the fourth pass
abbrev pub within_limits : Wide → Result (Module Label) Excess
within_limits m = bounded (all_excess m) m

abbrev pub after_names : Result Wide NameFault → Result (Module Label) Fault
after_names (Ok m) = in_limits (within_limits m)
after_names (Err f) = Err (name_fault f)

abbrev pub after_grammar : (size : ℕ) → (ct : Bool) → List Lexeme → Result (List Piece) Stop
    → Result (Module Label) Fault
after_grammar size ct ts (Ok ps) = after_names (named ct (fields_of ps))
after_grammar size ct ts (Err f) = Err (stop_fault size ts f)

abbrev pub after_lex : (size : ℕ) → Result (List Lexeme) LexPlace → Result (Module Label) Fault
after_lex size (Ok ts) = after_grammar size (is_ct (toks_of ts)) ts (spelled (toks_of ts))
after_lex size (Err place) = Err (InLex place)

-- the module that a text denotes within the limits, or its first fault
abbrev pub assembled : List ℕ → Result (Module Label) Fault
assembled text = after_lex (length text) (tokens_of text)

-- The same by the grammar: these tokens denote this module, and its bytes are not too many.
pub record IsAssembled (ts : List Tok) (m : Module Label) : Type 0 where
  pub denotes : Denotes ts m
  pub bytes : m.ct ≡ false → length (canon m) ≤ most_plain_bytes

-- These are the canonical bytes of the module that fields stand for, which is within the limits.
pub record HasModule (ct : Bool) (fs : List Field) (bytes : List ℕ) : Type 0 where
  pub wide : Wide
  pub names : named ct fs ≡ Ok wide
  pub limits : all_excess wide ≡ []
  pub numbers : HasNumbers wide
  pub text : bytes ≡ canon (narrow wide)

-- These are the canonical bytes of the module that a text denotes.
pub record IsAssembly (text bytes : List ℕ) : Type 0 where
  pub tokens : List Lexeme
  pub lexed : tokens_of text ≡ Ok tokens
  pub m : Module Label
  -- by the grammar, and by the passes, which compute
  pub denotes : IsAssembled (toks_of tokens) m
  pub computed : assembled text ≡ Ok m
  pub spelled : bytes ≡ canon m
  -- a reader of files takes them, and has the module
  pub read : Spells bytes m
