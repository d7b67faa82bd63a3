-- The loop over the tokens: what is known between two of them.
use Rattle.std.proofs.Common.{◌≡◌, ℕ, zero, suc, ◌+◌, ◌-◌, ◌<◌, Bool, List, [], ◌∷◌, Option, Some, None, Result, Ok, Err, length, map, drop, slice_get, reverse, refl, ap, sym, subst, ◌∙◌, arith, add-one, append-nil}
use Rattle.std.specs.Prelude.{IfSome}
use Rattle.ctw_lex.specs.Lexeme.{Lexeme}
use Rattle.ctw_text.specs.declared.toks.Tok.{Tok}
use Rattle.ctw_text.specs.Toks.{tok_of, toks_of}
use Rattle.ctw_text.specs.declared.pieces.Piece.{Piece}
use Rattle.ctw_text.specs.declared.sorts.Sort.{Sort}
use Rattle.ctw_text.specs.declared.sorts.Sort.TheVariants.{Module}
use Rattle.ctw_text.specs.Grammar.{Spells}
use Rattle.ctw_text.proofs.Exact.{spells_of, spelled_of}
use Rattle.ctw_text.specs.Machine.{Unexpected, Stop, stop, run, write, is_ct, spelled}
use Rattle.ctw_text.specs.Denotes.{Fault, stop_fault}
use Rattle.ctw_pieces.specs.declared.machine.Held.{Held}
use Rattle.ctw_pieces.specs.declared.machine.Progress.TheVariants as p
use Rattle.ctw_pieces.specs.declared.PiecesKind.{PiecesKind}
use Rattle.ctw_pieces.specs.declared.PiecesFault.{PiecesFault}
use Rattle.ctw_pieces.specs.Numbers.{cut_tok}
use Rattle.ctw_pieces.specs.Reasons.{why_of}
use Rattle.ctw_pieces.specs.States.{ahead, IsHeldAt, Advanced, Ended}
use Rattle.ctw_pieces.specs.Second.{second_pass, with_places, fault_of}
use Rattle.ctw_pieces.proofs.Cuts.{spelled_cut}

abbrev pub cut_toks : List Lexeme → List Tok
cut_toks ls = map cut_tok (toks_of ls)

pub record Claim (ls : List Lexeme) (ct : Bool) (at : ℕ) (held : Option Held) (st : List Sort) (out : List Piece) : Type 0 where
  pub held_at : IsHeldAt held (at - 1) at
  pub rest : write out (ahead ct held (at - 1) at st (drop at (cut_toks ls))) ≡ run ct 0 0 (Module ∷ []) (cut_toks ls)

write_nothing : (r : Result (List Piece) Stop) → write [] r ≡ r
write_nothing (Ok ps) = refl
write_nothing (Err e) = refl

pub begun : (ls : List Lexeme) (ct : Bool) (held : Option Held) (st : List Sort) (out : List Piece) → st ≡ Module ∷ []
    → held ≡ None → out ≡ [] → Claim ls ct 0 held (reverse st) out
begun ls ct held st out e f g =
    rw (e, f, g) (record { held_at = tt; rest = write_nothing (run ct 0 0 (Module ∷ []) (cut_toks ls)) })

drop_at : (ls : List Lexeme) (at : ℕ) (l : Lexeme) → slice_get ls at ≡ Some l
    → drop at (cut_toks ls) ≡ cut_tok (tok_of l) ∷ drop (suc at) (cut_toks ls)
drop_at [] at l e = absurd cc
drop_at (x ∷ ls) zero l e = let f : x ≡ l = cc in rw f refl
drop_at (x ∷ ls) (suc at) l e = drop_at ls at l e

next_is : (ls : List Lexeme) (at : ℕ) (l : Lexeme) (t : Tok) → slice_get ls at ≡ Some l → t ≡ cut_tok (tok_of l)
    → drop at (cut_toks ls) ≡ t ∷ drop (at + 1) (cut_toks ls)
next_is ls at l t e f = rw (f, add-one at) (drop_at ls at l e)

pub stepped : (ls : List Lexeme) (ct : Bool) (at : ℕ) (held held' : Option Held) (st st' : List Sort) (out out' : List Piece)
    (l : Lexeme) (t : Tok) → Claim ls ct at held st out → slice_get ls at ≡ Some l → t ≡ cut_tok (tok_of l)
    → Advanced p.Ahead ct t held st out held' st' out' → Claim ls ct (at + 1) held' st' out'
stepped ls ct at held held' st st' out out' l t c e f a =
    let n : at + 1 - 1 ≡ at = omega arith in
    record { held_at = rw n (behind held'); rest = rw n moved }
  where
    behind : (h : Option Held) → IsHeldAt h at (at + 1)
    behind None = tt
    behind (Some h) = refl

    moved : write out' (ahead ct held' at (at + 1) st' (drop (at + 1) (cut_toks ls))) ≡ run ct 0 0 (Module ∷ []) (cut_toks ls)
    moved =
        sym (a (at - 1) at (drop (at + 1) (cut_toks ls)) c.held_at)
        ∙ (ap (λ ts. write out (ahead ct held (at - 1) at st ts)) (sym (next_is ls at l t e f)) ∙ c.rest)

whole : (ls : List Lexeme) (ct : Bool) (r : Result (List Piece) Stop) → ct ≡ is_ct (toks_of ls)
    → r ≡ run ct 0 0 (Module ∷ []) (cut_toks ls) → spelled (toks_of ls) ≡ r
whole ls ct r e f = sym (f ∙ (ap (λ b. run b 0 0 (Module ∷ []) (cut_toks ls)) e ∙ spelled_cut (toks_of ls)))

pub stuck : (ls : List Lexeme) (ct : Bool) (at : ℕ) (held held' : Option Held) (st st' : List Sort) (out out' : List Piece)
    (l : Lexeme) (t : Tok) (k : PiecesKind) → ct ≡ is_ct (toks_of ls) → Claim ls ct at held st out → slice_get ls at ≡ Some l
    → t ≡ cut_tok (tok_of l) → Advanced (p.Stuck k) ct t held st out held' st' out'
    → spelled (toks_of ls) ≡ Err (stop at (why_of k))
stuck ls ct at held held' st st' out out' l t k i c e f a =
    whole ls ct (Err (stop at (why_of k))) i
    (ap (λ r. write out r) (sym (a (at - 1) at (drop (at + 1) (cut_toks ls)) c.held_at))
    ∙ (ap (λ ts. write out (ahead ct held (at - 1) at st ts)) (sym (next_is ls at l t e f)) ∙ c.rest))

pub record Before (ls : List Lexeme) (at : ℕ) : Type 0 where
  pub some : 0 < at
  pub stops : spelled (toks_of ls) ≡ Err (stop (at - 1) Unexpected)

pub stuck_before : (ls : List Lexeme) (ct : Bool) (at : ℕ) (held held' : Option Held) (st st' : List Sort)
    (out out' : List Piece) (l : Lexeme) (t : Tok) → ct ≡ is_ct (toks_of ls) → Claim ls ct at held st out
    → slice_get ls at ≡ Some l → t ≡ cut_tok (tok_of l) → Advanced p.StuckBefore ct t held st out held' st' out' → Before ls at
stuck_before ls ct at None held' st st' out out' l t i c e f a = absurd a
stuck_before ls ct at (Some h) held' st st' out out' l t i c e f a =
    let b : at ≡ at - 1 + 1 = c.held_at in
    record {
      some = omega arith;
      stops = whole ls ct (Err (stop (at - 1) Unexpected)) i
          (ap (λ r. write out r) (sym (a (at - 1) at (drop (at + 1) (cut_toks ls))))
          ∙ (ap (λ ts. write out (ahead ct (Some h) (at - 1) at st ts)) (sym (next_is ls at l t e f)) ∙ c.rest));
    }

drop_all : (ls : List Lexeme) → drop (length ls) (cut_toks ls) ≡ []
drop_all [] = refl
drop_all (l ∷ ls) = drop_all ls

end_is : (ls : List Lexeme) (at : ℕ) → at ≡ length ls → drop at (cut_toks ls) ≡ []
end_is ls at e = rw e (drop_all ls)

pub ended : (ls : List Lexeme) (ct : Bool) (at : ℕ) (held : Option Held) (st : List Sort) (out : List Piece)
    → ct ≡ is_ct (toks_of ls) → Claim ls ct at held st out → at ≡ length ls → Ended p.Ahead ct held st
    → spelled (toks_of ls) ≡ Ok out
ended ls ct at held st out i c e a =
    whole ls ct (Ok out) i
    (ap (λ ps. Ok ps) (sym (append-nil out))
    ∙ (ap (λ r. write out r) (sym (a (at - 1) at))
    ∙ (ap (λ ts. write out (ahead ct held (at - 1) at st ts)) (sym (end_is ls at e)) ∙ c.rest)))

pub end_stuck : (ls : List Lexeme) (ct : Bool) (at : ℕ) (held : Option Held) (st : List Sort) (out : List Piece)
    (k : PiecesKind) → ct ≡ is_ct (toks_of ls) → Claim ls ct at held st out → at ≡ length ls → Ended (p.Stuck k) ct held st
    → spelled (toks_of ls) ≡ Err (stop at (why_of k))
end_stuck ls ct at held st out k i c e a =
    whole ls ct (Err (stop at (why_of k))) i
    (ap (λ r. write out r) (sym (a (at - 1) at c.held_at))
    ∙ (ap (λ ts. write out (ahead ct held (at - 1) at st ts)) (sym (end_is ls at e)) ∙ c.rest))

pub end_before : (ls : List Lexeme) (ct : Bool) (at : ℕ) (held : Option Held) (st : List Sort) (out : List Piece)
    → ct ≡ is_ct (toks_of ls) → Claim ls ct at held st out → at ≡ length ls → Ended p.StuckBefore ct held st → Before ls at
end_before ls ct at None st out i c e a = absurd a
end_before ls ct at (Some h) st out i c e a =
    let b : at ≡ at - 1 + 1 = c.held_at in
    record {
      some = omega arith;
      stops = whole ls ct (Err (stop (at - 1) Unexpected)) i
          (ap (λ r. write out r) (sym (a (at - 1) at))
          ∙ (ap (λ ts. write out (ahead ct (Some h) (at - 1) at st ts)) (sym (end_is ls at e)) ∙ c.rest));
    }

told_at : (size : ℕ) (ls : List Lexeme) (f : PiecesFault) (s : Stop) → spelled (toks_of ls) ≡ Err s
    → (o : Option Fault) → fault_of f ≡ o → o ≡ Some (stop_fault size ls s)
    → IfSome o (λ fault. second_pass size ls ≡ Err fault)
told_at size ls f s e None q r = absurd cc
told_at size ls f s e (Some fault) q r =
    let g : fault ≡ stop_fault size ls s = cc in
    ap (λ r. with_places size ls r) e ∙ ap (λ x. Err x) (sym g)

pub fault_told : (size : ℕ) (ls : List Lexeme) (f : PiecesFault) (s : Stop) → spelled (toks_of ls) ≡ Err s
    → fault_of f ≡ Some (stop_fault size ls s) → IfSome (fault_of f) (λ fault. second_pass size ls ≡ Err fault)
fault_told size ls f s e q = told_at size ls f s e (fault_of f) refl q

-- in terms of the grammar
pub spells_told : (ls : List Lexeme) (ct : Bool) (ps : List Piece) → ct ≡ is_ct (toks_of ls) → spelled (toks_of ls) ≡ Ok ps
    → Spells ct (toks_of ls) ps
spells_told ls ct ps i e = subst (λ (b : Bool). Spells b (toks_of ls) ps) (sym i) (spells_of (toks_of ls) ps e)

not_both : (r : Result (List Piece) Stop) (s : Stop) (ps : List Piece) → r ≡ Err s → r ≡ Ok ps → ⊥
not_both r s ps e f = cc

none_in : (ls : List Lexeme) (s : Stop) (o : Option Fault) → spelled (toks_of ls) ≡ Err s
    → IfSome o (λ _. (ct : Bool) (ps : List Piece) → Spells ct (toks_of ls) ps → ⊥)
none_in ls s None e = tt
none_in ls s (Some f) e = λ ct ps d. not_both (spelled (toks_of ls)) s ps e (spelled_of d)

pub none_told : (ls : List Lexeme) (f : PiecesFault) (s : Stop) → spelled (toks_of ls) ≡ Err s
    → IfSome (fault_of f) (λ _. (ct : Bool) (ps : List Piece) → Spells ct (toks_of ls) ps → ⊥)
none_told ls f s e = none_in ls s (fault_of f) e

none_from : (size : ℕ) (ls : List Lexeme) (o : Option Fault) → IfSome o (λ fault. second_pass size ls ≡ Err fault)
    → IfSome o (λ _. (ct : Bool) (ps : List Piece) → Spells ct (toks_of ls) ps → ⊥)
none_from size ls None h = tt
none_from size ls (Some f) h = λ ct ps d. clash size ls ps f (spelled_of d) h
  where
    clash : (size : ℕ) (ls : List Lexeme) (ps : List Piece) (f : Fault) → spelled (toks_of ls) ≡ Ok ps
        → second_pass size ls ≡ Err f → ⊥
    clash size ls ps f e h = let g : Ok ps ≡ Err f = sym (ap (λ r. with_places size ls r) e) ∙ h in cc

pub none_by : (size : ℕ) (ls : List Lexeme) (f : PiecesFault) → IfSome (fault_of f) (λ fault. second_pass size ls ≡ Err fault)
    → IfSome (fault_of f) (λ _. (ct : Bool) (ps : List Piece) → Spells ct (toks_of ls) ps → ⊥)
none_by size ls f h = none_from size ls (fault_of f) h
