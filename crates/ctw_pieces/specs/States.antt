-- States of the grammar's machine between two tokens, where a `(` may be held until the next token says what it begins.
use Rattle.std.specs.Prelude.{◌≡◌, ℕ, ◌+◌, Bool, List, [], ◌∷◌, Option, Some, None, Result, Ok, Err}
use Rattle.ctw_text.specs.declared.toks.Tok.{Tok}
use Rattle.ctw_text.specs.declared.toks.Tok.TheVariants.{Open}
use Rattle.ctw_text.specs.declared.pieces.Piece.{Piece}
use Rattle.ctw_text.specs.declared.sorts.Sort.{Sort}
use Rattle.ctw_text.specs.Machine.{Unexpected, Stop, stop, run, write}
use Rattle.ctw_pieces.specs.declared.machine.Held.{Held}
use Rattle.ctw_pieces.specs.declared.machine.Progress.{Progress}
use Rattle.ctw_pieces.specs.declared.machine.Progress.TheVariants as p
use Rattle.ctw_pieces.specs.Reasons.{why_of}

-- the pieces of a held `(`, whose number is `before`, and of the tokens behind it, the first of which has the number `at`
abbrev pub ahead : Bool → Option Held → (before at : ℕ) → List Sort → List Tok → Result (List Piece) Stop
ahead ct None before at st ts = run ct 0 at st ts
ahead ct (Some h) before at st ts = run ct 0 before (h.sort ∷ st) (Open h.place ∷ ts)

abbrev pub IsHeldAt : Option Held → (before at : ℕ) → Type 0
IsHeldAt None before at = Unit {0}
IsHeldAt (Some h) before at = at ≡ before + 1

-- What became of a token: the `(` that was held, what was to come and what was written before it, and behind it.
abbrev pub Advanced : Progress → Bool → Tok → Option Held → List Sort → (out : List Piece) → Option Held → List Sort
    → (out : List Piece) → Type 0
Advanced p.Ahead ct t held st out held' st' out' =
    (before at : ℕ) (ts : List Tok) → IsHeldAt held before at
    → write out (ahead ct held before at st (t ∷ ts)) ≡ write out' (ahead ct held' at (at + 1) st' ts)
Advanced (p.Stuck kind) ct t held st out held' st' out' =
    (before at : ℕ) (ts : List Tok) → IsHeldAt held before at
    → ahead ct held before at st (t ∷ ts) ≡ Err (stop at (why_of kind))
Advanced p.StuckBefore ct t None st out held' st' out' = ⊥
Advanced p.StuckBefore ct t (Some h) st out held' st' out' =
    (before at : ℕ) (ts : List Tok) → ahead ct (Some h) before at st (t ∷ ts) ≡ Err (stop before Unexpected)

-- what becomes of the text's end
abbrev pub Ended : Progress → Bool → Option Held → List Sort → Type 0
Ended p.Ahead ct held st = (before at : ℕ) → ahead ct held before at st [] ≡ Ok []
Ended (p.Stuck kind) ct held st =
    (before at : ℕ) → IsHeldAt held before at → ahead ct held before at st [] ≡ Err (stop at (why_of kind))
Ended p.StuckBefore ct None st = ⊥
Ended p.StuckBefore ct (Some h) st = (before at : ℕ) → ahead ct (Some h) before at st [] ≡ Err (stop before Unexpected)
