-- Steps of the grammar's machine, by the moves of a token.
use Rattle.std.proofs.Common.{◌≡◌, ℕ, Bool, true, false, List, ◌∷◌, Some, None, refl, ap, sym, ◌∙◌}
use Rattle.ctw_text.specs.declared.keys.Key.{Key}
use Rattle.ctw_text.specs.declared.toks.Tok.{Tok}
use Rattle.ctw_text.specs.declared.toks.Tok.TheVariants.{Open, Close, Text, Id, Num, Signed, OffsetIs, AlignIs, Word, Floats, Other}
use Rattle.ctw_text.specs.declared.sorts.Sort.{Sort}
use Rattle.ctw_text.specs.Grammar.{Move}
use Rattle.ctw_text.specs.Machine.{Unexpected, Stuck, StuckBehind, Takes1, Takes2, step, step1, step2, move1, move2, takes_open, why_here, why_behind}
use Rattle.ctw_pieces.specs.declared.PiecesKind.{PiecesKind}
use Rattle.ctw_pieces.specs.Reasons.{why_of}
use Rattle.ctw_pieces.specs.Steps.{is_open, is_word}

here : (ct : Bool) (s : Sort) (t : Tok) → is_open t ≡ false → (ts : List Tok) → step ct s t ts ≡ step1 (move1 ct s t) (why_here s t)
here ct s (Open at) e ts = absurd cc
here ct s Close e ts = refl
here ct s (Text b) e ts = refl
here ct s (Id w) e ts = refl
here ct s (Num n) e ts = refl
here ct s (Signed neg n) e ts = refl
here ct s (OffsetIs n) e ts = refl
here ct s (AlignIs n) e ts = refl
here ct s (Word key) e ts = refl
here ct s Floats e ts = refl
here ct s Other e ts = refl

pub takes_here : (ct : Bool) (s : Sort) (t : Tok) (m : Move) → is_open t ≡ false → Some m ≡ move1 ct s t → (ts : List Tok)
    → step ct s t ts ≡ Takes1 m
takes_here ct s t m e f ts = here ct s t e ts ∙ ap (λ o. step1 o (why_here s t)) (sym f)

pub stuck_here : (ct : Bool) (s : Sort) (t : Tok) (k : PiecesKind) → is_open t ≡ false → None ≡ move1 ct s t
    → why_of k ≡ why_here s t → (ts : List Tok) → step ct s t ts ≡ Stuck (why_of k)
stuck_here ct s t k e f g ts =
    here ct s t e ts ∙ (ap (λ o. step1 o (why_here s t)) (sym f) ∙ ap (λ w. Stuck w) (sym g))

pub word_takes : (ct : Bool) (s : Sort) (at : ℕ) (key : Key) (m : Move) → Some m ≡ move2 ct s at key → (ts : List Tok)
    → step ct s (Open at) (Word key ∷ ts) ≡ Takes2 m
word_takes ct s at key m f ts = ap (λ o. step2 o (takes_open ct s) Unexpected Unexpected) (sym f)

pub word_stuck : (ct : Bool) (s : Sort) (at : ℕ) (key : Key) → None ≡ move2 ct s at key → takes_open ct s ≡ true
    → (ts : List Tok) → step ct s (Open at) (Word key ∷ ts) ≡ StuckBehind Unexpected
word_stuck ct s at key f g ts = rw (sym f, g) refl

pub word_before : (ct : Bool) (s : Sort) (at : ℕ) (key : Key) → None ≡ move2 ct s at key → takes_open ct s ≡ false
    → (ts : List Tok) → step ct s (Open at) (Word key ∷ ts) ≡ Stuck Unexpected
word_before ct s at key f g ts = rw (sym f, g) refl

pub other_stuck : (ct : Bool) (s : Sort) (at : ℕ) (t : Tok) (k : PiecesKind) → is_word t ≡ false → takes_open ct s ≡ true
    → why_of k ≡ why_behind s t → (ts : List Tok) → step ct s (Open at) (t ∷ ts) ≡ StuckBehind (why_of k)
other_stuck ct s at (Word key) k e f g ts = absurd cc
other_stuck ct s at (Open p) k e f g ts = rw (f, g) refl
other_stuck ct s at Close k e f g ts = rw (f, g) refl
other_stuck ct s at (Text b) k e f g ts = rw (f, g) refl
other_stuck ct s at (Id w) k e f g ts = rw (f, g) refl
other_stuck ct s at (Num n) k e f g ts = rw (f, g) refl
other_stuck ct s at (Signed neg n) k e f g ts = rw (f, g) refl
other_stuck ct s at (OffsetIs n) k e f g ts = rw (f, g) refl
other_stuck ct s at (AlignIs n) k e f g ts = rw (f, g) refl
other_stuck ct s at Floats k e f g ts = rw (f, g) refl
other_stuck ct s at Other k e f g ts = rw (f, g) refl

pub other_before : (ct : Bool) (s : Sort) (at : ℕ) (t : Tok) → is_word t ≡ false → takes_open ct s ≡ false → (ts : List Tok)
    → step ct s (Open at) (t ∷ ts) ≡ Stuck Unexpected
other_before ct s at (Word key) e f ts = absurd cc
other_before ct s at (Open p) e f ts = rw f refl
other_before ct s at Close e f ts = rw f refl
other_before ct s at (Text b) e f ts = rw f refl
other_before ct s at (Id w) e f ts = rw f refl
other_before ct s at (Num n) e f ts = rw f refl
other_before ct s at (Signed neg n) e f ts = rw f refl
other_before ct s at (OffsetIs n) e f ts = rw f refl
other_before ct s at (AlignIs n) e f ts = rw f refl
other_before ct s at Floats e f ts = rw f refl
other_before ct s at Other e f ts = rw f refl
