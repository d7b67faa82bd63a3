-- The slot that a move names.
use Rattle.std.specs.Prelude.{◌≡◌, ℕ}
use Rattle.ctw_script.specs.declared.moves.Move.{Move}
use Rattle.ctw_script.specs.declared.moves.Move.TheVariants.{Begin, Turn, Leave}

abbrev pub NamesSlot : Move → ℕ → Type 0
NamesSlot (Begin slot part export args) n = slot ≡ n
NamesSlot (Turn slot steps) n = slot ≡ n
NamesSlot (Leave slot) n = slot ≡ n
NamesSlot _ n = ⊥
