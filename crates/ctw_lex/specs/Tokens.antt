-- The tokens of a text, or its first fault.
use Rattle.std.specs.Prelude.{ℕ, zero, suc, ◌+◌, ◌==◌, List, [], ◌∷◌, Option, Some, None, Result, Ok, Err, take, if◌then◌else◌}
use Rattle.ctw_lex.specs.declared.items.Item.{Item}
use Rattle.ctw_lex.specs.declared.items.Item.TheVariants.{Gap, Spelled, Faulty}
use Rattle.ctw_lex.specs.declared.LexPlace.{LexPlace}
use Rattle.ctw_lex.specs.declared.LexFault.{LexFault}
use Rattle.ctw_lex.specs.declared.LexFault.TheVariants.{Bad, NoMemory}
use Rattle.ctw_lex.specs.Lexeme.{Lexeme}
use Rattle.ctw_lex.specs.Strings.{with_front}
use Rattle.ctw_lex.specs.Items.{item}

-- an item at the head of these bytes, which stands at `at` on this line; `rest` reads on behind its first byte
abbrev pub onto : Item → List ℕ → (at line : ℕ) → (ℕ → Result (List Lexeme) LexPlace) → Result (List Lexeme) LexPlace
onto (Gap k) bs at line rest = rest k
onto (Spelled kind k) bs at line rest =
    with_front (record { kind = kind; text = take (suc k) bs; start = at; end = at + 1 + k; line = line } ∷ []) (rest k)
onto (Faulty kind k) bs at line rest = Err (record { kind = kind; start = at + k; line = line })

-- The tokens of what follows the place `at`, which is on this line. The first `skip` bytes belong to the item before.
abbrev pub tokens_from : (skip at line : ℕ) → List ℕ → Result (List Lexeme) LexPlace
tokens_from skip at line [] = Ok []
tokens_from (suc k) at line (b ∷ bs) = tokens_from k (at + 1) (if b == 10 then line + 1 else line) bs
tokens_from zero at line (b ∷ bs) =
    onto (item (b ∷ bs)) (b ∷ bs) at line (λ k. tokens_from k (at + 1) (if b == 10 then line + 1 else line) bs)

-- the tokens of a text, or its first fault
abbrev pub tokens_of : List ℕ → Result (List Lexeme) LexPlace
tokens_of text = tokens_from 0 0 1 text

-- the place that a fault of a text tells; none where memory ran out
abbrev pub place_of : LexFault → Option LexPlace
place_of (Bad place) = Some place
place_of NoMemory = None
