-- What became of a token, by what the token does.
use Rattle.std.proofs.Common.{◌≡◌, ℕ, ◌+◌, Bool, true, false, List, [], ◌∷◌, ◌++◌, Option, Some, None, Result, Ok, Err, refl, ap, sym, subst, ◌∙◌, append_assoc}
use Rattle.ctw_text.specs.declared.toks.Tok.{Tok}
use Rattle.ctw_text.specs.declared.toks.Tok.TheVariants.{Open}
use Rattle.ctw_text.specs.declared.pieces.Piece.{Piece}
use Rattle.ctw_text.specs.declared.sorts.Sort.{Sort}
use Rattle.ctw_text.specs.Grammar.{Move}
use Rattle.ctw_text.specs.Machine.{Stop, Takes1, Takes2, step, run, write, takes_open}
use Rattle.ctw_pieces.specs.declared.machine.Held.{Held}
use Rattle.ctw_pieces.specs.declared.machine.Progress.TheVariants as p
use Rattle.ctw_pieces.specs.declared.PiecesKind.{PiecesKind}
use Rattle.ctw_pieces.specs.declared.PiecesKind.TheVariants as kind
use Rattle.ctw_pieces.specs.declared.steps.Answer.{Answer}
use Rattle.ctw_pieces.specs.declared.steps.Answer.TheVariants as answer
use Rattle.ctw_pieces.specs.Steps.{IsHere, IsBehind}
use Rattle.ctw_pieces.specs.States.{Advanced, Ended}

write_write : (xs ys : List Piece) (r : Result (List Piece) Stop) → write (xs ++ ys) r ≡ write xs (write ys r)
write_write xs ys (Ok ps) = ap (λ qs. Ok qs) (append_assoc xs ys ps)
write_write xs ys (Err e) = refl

-- a move over one token, and over two
moved1 : (ct : Bool) (s : Sort) (t : Tok) (m : Move) (st : List Sort) (at : ℕ) (ts : List Tok) → step ct s t ts ≡ Takes1 m
    → run ct 0 at (s ∷ st) (t ∷ ts) ≡ write m.out (run ct 0 (at + 1) (m.next ++ st) ts)
moved1 ct s t m st at ts e = rw e refl

moved2 : (ct : Bool) (s : Sort) (place : ℕ) (t : Tok) (m : Move) (st : List Sort) (before at : ℕ) (ts : List Tok)
    → at ≡ before + 1 → step ct s (Open place) (t ∷ ts) ≡ Takes2 m
    → run ct 0 before (s ∷ st) (Open place ∷ t ∷ ts) ≡ write m.out (run ct 0 (at + 1) (m.next ++ st) ts)
moved2 ct s place t m st before at ts h e = rw (e, h) refl

written : (m : Move) (st st' : List Sort) (out out' : List Piece) (rest : List Sort → Result (List Piece) Stop)
    → out' ≡ out ++ m.out → st' ≡ m.next ++ st → write out (write m.out (rest (m.next ++ st))) ≡ write out' (rest st')
written m st st' out out' rest e f = rw (e, f) (sym (write_write out m.out (rest (m.next ++ st))))

-- at a token that has no `(` before it
pub here_takes : (ct : Bool) (s : Sort) (t : Tok) (a : Answer) (m : Move) (held : Option Held) (st st' : List Sort)
    (out out' : List Piece) → IsHere a ct s t → a ≡ answer.Takes m → held ≡ None → out' ≡ out ++ m.out
    → st' ≡ m.next ++ st → Advanced p.Ahead ct t None (s ∷ st) out held st' out'
here_takes ct s t a m held st st' out out' h e n f g =
    let k : IsHere (answer.Takes m) ct s t = subst (λ (a : Answer). IsHere a ct s t) e h in
    subst (λ (o : Option Held). Advanced p.Ahead ct t None (s ∷ st) out o st' out') (sym n)
    (λ before at ts i.
    ap (λ r. write out r) (moved1 ct s t m st at ts (k ts)) ∙ written m st st' out out' (λ st. run ct 0 (at + 1) st ts) f g)

pub here_holds : (ct : Bool) (s : Sort) (t : Tok) (a : Answer) (place : ℕ) (h : Held) (held : Option Held)
    (st st' : List Sort) (out out' : List Piece) → IsHere a ct s t → a ≡ answer.Holds place → held ≡ Some h
    → h.place ≡ place → h.sort ≡ s → st' ≡ st → out' ≡ out → Advanced p.Ahead ct t None (s ∷ st) out held st' out'
here_holds ct s t a place h held st st' out out' i e n f g j o =
    let k : t ≡ Open place = subst (λ (a : Answer). IsHere a ct s t) e i in
    subst (λ (x : Option Held). Advanced p.Ahead ct t None (s ∷ st) out x st' out') (sym n)
    (λ before at ts l. rw (k, f, g, j, o) refl)

pub here_stuck : (ct : Bool) (s : Sort) (t : Tok) (a : Answer) (k : PiecesKind) (st st' : List Sort)
    (out out' : List Piece) (held' : Option Held) → IsHere a ct s t → a ≡ answer.Stuck k
    → Advanced (p.Stuck k) ct t None (s ∷ st) out held' st' out'
here_stuck ct s t a k st st' out out' held' h e before at ts i =
    let l : IsHere (answer.Stuck k) ct s t = subst (λ (a : Answer). IsHere a ct s t) e h in
    rw (l ts) refl

pub here_not : (ct : Bool) (s : Sort) (t : Tok) (a : Answer) → IsHere a ct s t → a ≡ answer.StuckBefore → ⊥
here_not ct s t a h e = subst (λ (a : Answer). IsHere a ct s t) e h

-- where nothing is to come
pub nothing_left : (ct : Bool) (t : Tok) (held held' : Option Held) (st st' : List Sort) (out out' : List Piece)
    → held ≡ None → st ≡ [] → Advanced (p.Stuck kind.Unexpected) ct t held st out held' st' out'
nothing_left ct t held held' st st' out out' e f before at ts h = rw (e, f) refl

-- behind a `(`
pub behind_takes : (ct : Bool) (held : Held) (t : Tok) (a : Answer) (m : Move) (was now : Option Held)
    (st st' : List Sort) (out out' : List Piece) → IsBehind a ct held.sort held.place t → a ≡ answer.Takes m
    → was ≡ Some held → now ≡ None → out' ≡ out ++ m.out → st' ≡ m.next ++ st
    → Advanced p.Ahead ct t was st out now st' out'
behind_takes ct held t a m was now st st' out out' h e w n f g =
    let k : IsBehind (answer.Takes m) ct held.sort held.place t = subst (λ (a : Answer). IsBehind a ct held.sort held.place t) e h in
    subst (λ (o : Option Held). Advanced p.Ahead ct t o st out now st' out') (sym w)
    (subst (λ (o : Option Held). Advanced p.Ahead ct t (Some held) st out o st' out') (sym n)
    (λ before at ts i.
    ap (λ r. write out r) (moved2 ct held.sort held.place t m st before at ts i (k ts))
    ∙ written m st st' out out' (λ st. run ct 0 (at + 1) st ts) f g))

pub behind_stuck : (ct : Bool) (held : Held) (t : Tok) (a : Answer) (k : PiecesKind) (was now : Option Held)
    (st st' : List Sort) (out out' : List Piece) → IsBehind a ct held.sort held.place t → a ≡ answer.Stuck k
    → was ≡ Some held → Advanced (p.Stuck k) ct t was st out now st' out'
behind_stuck ct held t a k was now st st' out out' h e w =
    let l : IsBehind (answer.Stuck k) ct held.sort held.place t = subst (λ (a : Answer). IsBehind a ct held.sort held.place t) e h in
    subst (λ (o : Option Held). Advanced (p.Stuck k) ct t o st out now st' out') (sym w)
    (λ before at ts i. rw (l ts, i) refl)

pub behind_before : (ct : Bool) (held : Held) (t : Tok) (a : Answer) (was now : Option Held) (st st' : List Sort)
    (out out' : List Piece) → IsBehind a ct held.sort held.place t → a ≡ answer.StuckBefore → was ≡ Some held
    → Advanced p.StuckBefore ct t was st out now st' out'
behind_before ct held t a was now st st' out out' h e w =
    let l : IsBehind answer.StuckBefore ct held.sort held.place t = subst (λ (a : Answer). IsBehind a ct held.sort held.place t) e h in
    subst (λ (o : Option Held). Advanced p.StuckBefore ct t o st out now st' out') (sym w)
    (λ before at ts. rw (l ts) refl)

pub behind_not : (ct : Bool) (held : Held) (t : Tok) (a : Answer) (place : ℕ) → IsBehind a ct held.sort held.place t
    → a ≡ answer.Holds place → ⊥
behind_not ct held t a place h e = subst (λ (a : Answer). IsBehind a ct held.sort held.place t) e h

-- the text's end
pub end_open : (ct : Bool) (held : Held) (was : Option Held) (st : List Sort) → was ≡ Some held
    → takes_open ct held.sort ≡ true → Ended (p.Stuck kind.Unexpected) ct was st
end_open ct held was st w e =
    subst (λ (o : Option Held). Ended (p.Stuck kind.Unexpected) ct o st) (sym w) (λ before at h. rw (e, h) refl)

pub end_before : (ct : Bool) (held : Held) (was : Option Held) (st : List Sort) → was ≡ Some held
    → takes_open ct held.sort ≡ false → Ended p.StuckBefore ct was st
end_before ct held was st w e =
    subst (λ (o : Option Held). Ended p.StuckBefore ct o st) (sym w) (λ before at. rw e refl)

missing : (ct : Bool) (st : List Sort) → (st ≡ [] → ⊥) → Ended (p.Stuck kind.Unexpected) ct None st
missing ct [] h = absurd (h refl)
missing ct (s ∷ st) h = λ before at i. refl

pub end_missing : (ct : Bool) (was : Option Held) (st : List Sort) → was ≡ None → (st ≡ [] → ⊥)
    → Ended (p.Stuck kind.Unexpected) ct was st
end_missing ct was st w h = subst (λ (o : Option Held). Ended (p.Stuck kind.Unexpected) ct o st) (sym w) (missing ct st h)

pub end_ahead : (ct : Bool) (was : Option Held) (st : List Sort) → was ≡ None → st ≡ [] → Ended p.Ahead ct was st
end_ahead ct was st w e =
    subst (λ (o : Option Held). Ended p.Ahead ct o st) (sym w) (λ before at. rw e refl)
