-- Where blocks end.
use Rattle.std.specs.Prelude.{ℕ, List, [], ◌∷◌, Option, Some, None, ◌==◌, if◌then◌else◌}
use Rattle.ctw_ops.specs.declared.types.Label.{Label}
use Rattle.ctw_ops.specs.Code.{Op, Plain, Opens, Closes, ByEnd, ByElse}
use Rattle.ctw_flat.specs.declared.blocks.Block.{Block}
use Rattle.ctw_flat.specs.declared.blocks.Closing.{Closing}
use Rattle.ctw_flat.specs.Places.{Placed}

-- the closings behind an opcode's place, of the innermost open block first, from those behind the next opcode
abbrev pub close : Op Label → ℕ → List Closing → List Closing
close (Plain leaf) at closings = closings
close (Opens shape t) at [] = []
close (Opens shape t) at (c ∷ closings) = closings
close (Closes ByEnd) at closings = record { end = at; other = None } ∷ closings
close (Closes ByElse) at [] = []
close (Closes ByElse) at (c ∷ closings) = record c { other = Some at } ∷ closings

-- the closings of the blocks that are open in front of opcodes
abbrev pub closings_of : List Placed → List Closing
closings_of [] = []
closings_of (p ∷ ps) = close p.op p.at (closings_of ps)

-- a block in front of others, with the first closing behind it
abbrev pub with_opened : Op Label → ℕ → List Closing → List Block → List Block
with_opened (Plain leaf) at closings blocks = blocks
with_opened (Closes closer) at closings blocks = blocks
with_opened (Opens shape t) at [] blocks = blocks
with_opened (Opens shape t) at (c ∷ closings) blocks = record { at = at; end = c.end; other = c.other } ∷ blocks

-- the blocks that begin among opcodes, in order
abbrev pub blocks_of : List Placed → List Block
blocks_of [] = []
blocks_of (p ∷ ps) = with_opened p.op p.at (closings_of ps) (blocks_of ps)

-- where the block that begins at a place ends, and where its `else` stands; None where none of them begins there
abbrev pub ends_in : List Block → ℕ → Option (ℕ × Option ℕ)
ends_in [] at = None
ends_in (b ∷ blocks) at = if b.at == at then Some (b.end, b.other) else ends_in blocks at
