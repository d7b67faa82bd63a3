-- A CT module is told by its first four tokens.
use Rattle.std.proofs.Common.{◌≡◌, ℕ, zero, suc, ◌≤◌, List, [], ◌∷◌, Some, length, drop, slice_get, refl, arith}
use Rattle.ctw_lex.specs.Lexeme.{Lexeme}
use Rattle.ctw_text.specs.declared.keys.Key.TheVariants.{Module as KModule, Ct as KCt}
use Rattle.ctw_text.specs.declared.toks.Tok.{Tok}
use Rattle.ctw_text.specs.declared.toks.Tok.TheVariants.{Open, Close, Text, Id, Num, Signed, OffsetIs, AlignIs, Word, Floats, Other}
use Rattle.ctw_text.specs.Written.{Name}
use Rattle.ctw_text.specs.Toks.{tok_of, toks_of}
use Rattle.ctw_text.specs.Machine.{is_ct}
use Rattle.ctw_pieces.specs.declared.leads.Lead.{Lead}
use Rattle.ctw_pieces.specs.declared.leads.Lead.TheVariants as lead
use Rattle.ctw_pieces.specs.Numbers.{cut_tok}
use Rattle.ctw_pieces.specs.Leads.{lead_of_tok, lead_of, by_leads}

fourth : (at : ℕ) (w : Name) (ts : List Tok)
    → by_leads lead.Open lead.Module lead.Id (lead_of ts) ≡ is_ct (Open at ∷ Word KModule ∷ Id w ∷ ts)
fourth at w [] = refl
fourth at w (Word KModule ∷ ts) = refl
fourth at w (Word KCt ∷ ts) = refl
fourth at w (_ ∷ ts) = refl

third : (at : ℕ) (ts : List Tok)
    → by_leads lead.Open lead.Module (lead_of ts) (lead_of (drop 1 ts)) ≡ is_ct (Open at ∷ Word KModule ∷ ts)
third at [] = refl
third at (Id w ∷ ts) = fourth at w ts
third at (Word KModule ∷ ts) = refl
third at (Word KCt ∷ ts) = refl
third at (_ ∷ ts) = refl

second : (at : ℕ) (ts : List Tok)
    → by_leads lead.Open (lead_of ts) (lead_of (drop 1 ts)) (lead_of (drop 2 ts)) ≡ is_ct (Open at ∷ ts)
second at [] = refl
second at (Word KModule ∷ ts) = third at ts
second at (Word KCt ∷ ts) = refl
second at (_ ∷ ts) = refl

told : (ts : List Tok)
    → by_leads (lead_of ts) (lead_of (drop 1 ts)) (lead_of (drop 2 ts)) (lead_of (drop 3 ts)) ≡ is_ct ts
told [] = refl
told (Open at ∷ ts) = second at ts
told (Word KModule ∷ ts) = refl
told (Word KCt ∷ ts) = refl
told (_ ∷ ts) = refl

pub told_by : (ts : List Tok) (a b c d : Lead) → a ≡ lead_of (drop 0 ts) → b ≡ lead_of (drop 1 ts)
    → c ≡ lead_of (drop 2 ts) → d ≡ lead_of (drop 3 ts) → by_leads a b c d ≡ is_ct ts
told_by ts a b c d e f g h = rw (e, f, g, h) (told ts)

uncut : (t : Tok) → lead_of_tok (cut_tok t) ≡ lead_of_tok t
uncut (Open at) = refl
uncut Close = refl
uncut (Text b) = refl
uncut (Id w) = refl
uncut (Num n) = refl
uncut (Signed neg n) = refl
uncut (OffsetIs n) = refl
uncut (AlignIs n) = refl
uncut (Word key) = refl
uncut Floats = refl
uncut Other = refl

pub there : (ls : List Lexeme) (at : ℕ) (l : Lexeme) → slice_get ls at ≡ Some l
    → lead_of_tok (cut_tok (tok_of l)) ≡ lead_of (drop at (toks_of ls))
there [] at l e = absurd cc
there (x ∷ ls) zero l e = let f : x ≡ l = cc in rw f (uncut (tok_of l))
there (x ∷ ls) (suc at) l e = there ls at l e

pub past : (ls : List Lexeme) (at : ℕ) → length ls ≤ at → lead.Other ≡ lead_of (drop at (toks_of ls))
past [] zero h = refl
past [] (suc at) h = refl
past (x ∷ ls) zero h = absurd (omega arith)
past (x ∷ ls) (suc at) h = past ls at (omega arith)
