-- Blocks in the order of their places.
use Rattle.std.specs.Prelude.{ℕ, suc, ◌≤◌, List, [], ◌∷◌}
use Rattle.ctw_flat.specs.declared.blocks.Block.{Block}

-- each begins behind those before it, from a place on
abbrev pub RisesFrom : ℕ → List Block → Type 0
RisesFrom place [] = Unit {0}
RisesFrom place (b ∷ blocks) = (place ≤ b.at) × RisesFrom (suc b.at) blocks
