-- The printed text of a valid module within limits is read back as the module.
use Rattle.std.proofs.Common.{◌≡◌, ℕ, List, refl, ap, ◌∙◌}
use Rattle.std.specs.Prelude.{Ok}
use Rattle.std.specs.Str.{IsAscii}
use Rattle.ctw_ops.specs.declared.numeric.Profile.TheVariants.{Divide}
use Rattle.ctw_ops.specs.declared.types.Label.{Label}
use Rattle.ctw_ops.specs.Tree.{Module, under}
use Rattle.ctw_ops.specs.Valid.{IsValid}
use Rattle.ctw_lex.specs.Lexeme.{Lexeme}
use Rattle.ctw_lex.specs.Tokens.{tokens_of}
use Rattle.ctw_text.specs.Toks.{Tok, toks_of}
use Rattle.ctw_text.specs.Fields.{fields_of}
use Rattle.ctw_text.specs.Machine.{is_ct, spelled}
use Rattle.ctw_text.specs.Denotes.{Denotes, assembled}
use Rattle.ctw_text.specs.Print.{toks, print_module, printed}
use Rattle.ctw_text.specs.Limited.{IsLimited}
use Rattle.ctw_text.proofs.Exact.{spelled_of, kind_of}
use Rattle.ctw_text.proofs.Lexing.{Lexed, lexed}
use Rattle.ctw_text.proofs.GatheredFields.{module_said}
use Rattle.ctw_text.proofs.PrintableModules.{printable}
use Rattle.ctw_text.proofs.NamedBack.{wide, named_back}
use Rattle.ctw_text.proofs.LimitedBack.{limited_back}
use Rattle.ctw_text.proofs.Printed.{printed_spells}
use Rattle.ctw_text.proofs.LaidOut.{module_laid}
use Rattle.ctw_text.proofs.AsciiText.{laid_ascii}

-- the module that tokens denote is what a text with these tokens is read as
pub assembled_of : {ts : List Tok} {m : Module Label} (text : List ℕ) (ls : List Lexeme) → tokens_of text ≡ Ok ls → toks_of ls ≡ ts → Denotes ts m → assembled text ≡ Ok m
assembled_of {ts} {m} text ls r e d =
    let s : spelled (toks_of ls) ≡ Ok d.pieces = ap spelled e ∙ spelled_of d.spells in
    let c : is_ct (toks_of ls) ≡ d.ct = ap is_ct e ∙ kind_of d.spells in
    rw (r, s, c, d.names, d.limits) refl

module _ (m : Module Label) (v : IsValid m) (x : IsLimited m) where
  -- the tokens that are printed denote the module
  pub printed_denotes : Denotes (toks 0 (print_module m)) (under Divide m)
  printed_denotes =
      let t = printed_spells m (printable m v x) in
      record {
        ct = m.ct;
        pieces = t.pieces;
        wide = wide m;
        spells = t.derives;
        names = named_back m v x (fields_of t.pieces) ((module_said m).to t.says).fields;
        limits = limited_back m v.formed x;
      }

  pub printed_lexed : Lexed 0 1 (print_module m)
  printed_lexed = lexed (print_module m) (module_laid m v x) 0 1

  pub printed_assembled : assembled (printed m) ≡ Ok (under Divide m)
  printed_assembled = assembled_of (printed m) printed_lexed.list printed_lexed.reads printed_lexed.are printed_denotes

  pub printed_ascii : IsAscii (printed m)
  printed_ascii = laid_ascii (print_module m) (module_laid m v x)
