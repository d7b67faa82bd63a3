-- Where a reader stands.
use Rattle.std.specs.Prelude.{◌≡◌, ℕ, ◌+◌, List, ◌++◌, length, drop}

-- the file offset of the next byte, and the bytes that aren't read yet
pub record Input : Type 0 where
  pub at : ℕ
  pub rest : List ℕ

-- behind a text, with so many bytes left
abbrev pub behind : ℕ → List ℕ → List ℕ → Input
behind at text rest = record { at = at + length text; rest = rest }

-- the bytes that aren't read yet stand in a file at that offset
abbrev pub InFile : List ℕ → Input → Type 0
InFile bytes i = (more : List ℕ) × (drop i.at bytes ≡ i.rest ++ more)
