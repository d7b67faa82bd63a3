-- What a token does in the grammar's machine.
use Rattle.std.specs.Prelude.{◌≡◌, ℕ, Bool, true, false, List, ◌∷◌}
use Rattle.ctw_text.specs.declared.toks.Tok.{Tok}
use Rattle.ctw_text.specs.declared.toks.Tok.TheVariants.{Open, Word}
use Rattle.ctw_text.specs.declared.sorts.Sort.{Sort}
use Rattle.ctw_text.specs.Machine.{Unexpected, Stuck, StuckBehind, Takes1, Takes2, step}
use Rattle.ctw_pieces.specs.declared.steps.Answer.{Answer}
use Rattle.ctw_pieces.specs.declared.steps.Answer.TheVariants as a
use Rattle.ctw_pieces.specs.Reasons.{why_of}

abbrev pub is_open : Tok → Bool
is_open (Open place) = true
is_open _ = false

abbrev pub is_word : Tok → Bool
is_word (Word key) = true
is_word _ = false

-- at a token that has no `(` before it
abbrev pub IsHere : Answer → Bool → Sort → Tok → Type 0
IsHere (a.Holds place) ct s t = t ≡ Open place
IsHere (a.Takes m) ct s t = (ts : List Tok) → step ct s t ts ≡ Takes1 m
IsHere (a.Stuck kind) ct s t = (ts : List Tok) → step ct s t ts ≡ Stuck (why_of kind)
IsHere a.StuckBefore ct s t = ⊥

-- behind a `(`
abbrev pub IsBehind : Answer → Bool → Sort → ℕ → Tok → Type 0
IsBehind (a.Holds place) ct s at t = ⊥
IsBehind (a.Takes m) ct s at t = (ts : List Tok) → step ct s (Open at) (t ∷ ts) ≡ Takes2 m
IsBehind (a.Stuck kind) ct s at t = (ts : List Tok) → step ct s (Open at) (t ∷ ts) ≡ StuckBehind (why_of kind)
IsBehind a.StuckBefore ct s at t = (ts : List Tok) → step ct s (Open at) (t ∷ ts) ≡ Stuck Unexpected
