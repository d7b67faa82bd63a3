-- The opcodes that begin, part and end blocks.
use Rattle.std.specs.Prelude.{ℕ, List, [], ◌∷◌, ◌++◌, Option, Some, None}
use Rattle.ctw_ops.specs.declared.types.Label.{Label}
use Rattle.ctw_ops.specs.Code.{Op, Plain, Opens, Closes, ByEnd, ByElse}
use Rattle.ctw_flat.specs.declared.blocks.Block.{Block}
use Rattle.ctw_flat.specs.declared.blocks.Closing.{Closing}
use Rattle.ctw_flat.specs.declared.blocks.Mark.{Mark}
use Rattle.ctw_flat.specs.declared.blocks.Role.{Role}
use Rattle.ctw_flat.specs.declared.blocks.Role.TheVariants.{Begins, Parts, Ends}
use Rattle.ctw_flat.specs.Places.{Placed}

-- what an opcode does to blocks
abbrev pub role_of : Op Label → Option Role
role_of (Plain leaf) = None
role_of (Opens shape t) = Some Begins
role_of (Closes ByElse) = Some Parts
role_of (Closes ByEnd) = Some Ends

abbrev pub marked : ℕ → Option Role → List Mark
marked at None = []
marked at (Some role) = record { at = at; role = role } ∷ []

-- the opcodes that do something to blocks, with their places
abbrev pub marks_of : List Placed → List Mark
marks_of [] = []
marks_of (p ∷ ps) = marked p.at (role_of p.op) ++ marks_of ps

-- the closings in front of a mark, from those behind it
abbrev pub mark_closings : Role → ℕ → List Closing → List Closing
mark_closings Begins at [] = []
mark_closings Begins at (c ∷ closings) = closings
mark_closings Ends at closings = record { end = at; other = None } ∷ closings
mark_closings Parts at [] = []
mark_closings Parts at (c ∷ closings) = record c { other = Some at } ∷ closings

abbrev pub closings_in : List Mark → List Closing
closings_in [] = []
closings_in (m ∷ marks) = mark_closings m.role m.at (closings_in marks)

abbrev pub mark_blocks : Role → ℕ → List Closing → List Block → List Block
mark_blocks Begins at [] blocks = blocks
mark_blocks Begins at (c ∷ closings) blocks = record { at = at; end = c.end; other = c.other } ∷ blocks
mark_blocks Parts at closings blocks = blocks
mark_blocks Ends at closings blocks = blocks

-- the blocks that begin among marks
abbrev pub blocks_in : List Mark → List Block
blocks_in [] = []
blocks_in (m ∷ marks) = mark_blocks m.role m.at (closings_in marks) (blocks_in marks)
