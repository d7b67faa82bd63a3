-- How far an item reaches.
use Rattle.std.specs.Prelude.{ℕ}
use Rattle.ctw_lex.specs.declared.items.Item.{Item}
use Rattle.ctw_lex.specs.declared.items.Item.TheVariants.{Gap, Spelled, Faulty}

-- how many bytes it has behind its first, or how far its fault is
abbrev pub extent : Item → ℕ
extent (Gap n) = n
extent (Spelled kind n) = n
extent (Faulty kind n) = n
