-- The open blocks that the fields of a stack stand for.
use Rattle.std.specs.Prelude.{◌≡◌, ◌≤◌, ◌<◌, ◌^◌, ℕ, List, [], ◌∷◌, length, reverse, take, drop, option_map}
use Rattle.ctw_stack.specs.declared.slot.Slot.{Slot}
use Rattle.ctw_stack.specs.declared.stack.Block.{Block}
use Rattle.ctw_stack.specs.Opens.{Open, type_of}

-- a block has the slots from its height on
abbrev pub open_from : {S : Type 0} → Block S → List (Slot S) → Open S
open_from b slots = record {
  operands = record { dead = b.dead; slots = reverse (drop b.height slots) };
  loops = b.loops;
  yields = option_map type_of b.yields;
}

-- from the innermost block outwards
abbrev pub blocks_from : {S : Type 0} → List (Block S) → List (Slot S) → List (Open S)
blocks_from [] slots = []
blocks_from (b ∷ outer) slots = open_from b slots ∷ blocks_from outer (take b.height slots)

abbrev pub blocks_of : {S : Type 0} → List (Block S) → List (Slot S) → List (Open S)
blocks_of blocks slots = blocks_from (reverse blocks) slots

-- heights don't rise outwards, and no slot stands below the outermost block
abbrev pub Rises : {S : Type 0} → List (Block S) → ℕ → Type 0
Rises [] top = top ≡ 0
Rises (b ∷ outer) top = (b.height ≤ top) × Rises outer b.height

pub record IsSound {S : Type 0} (blocks : List (Block S)) (slots : List (Slot S)) : Type 0 where
  pub rising : Rises (reverse blocks) (length slots)
  pub few : length slots < 2 ^ 32
