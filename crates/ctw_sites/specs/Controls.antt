-- What opening and closing blocks does to the open blocks.
use Rattle.std.specs.Prelude.{◌+◌, List, [], ◌∷◌}
use Rattle.ctw_stack.specs.Opens.{Open, opened}
use Rattle.ctw_labels.specs.declared.tag.Tag.{Tag}
use Rattle.ctw_labels.specs.declared.tag.Tag.TheVariants.{At, Fixed}
use Rattle.ctw_labels.specs.Collected.{IsSmallResult}

-- the then arm is closed, and the other one opened
abbrev pub parted : List (Open Tag) → List (Open Tag)
parted [] = []
parted (v ∷ outer) = opened v.loops v.yields ∷ outer

-- the tag of the push of a block's result, whose site is the next one
abbrev pub next_tag : Tag → Tag
next_tag (At n) = At (n + 1)
next_tag Fixed = Fixed

-- all results' sites and their pushes fit into 32 bits
abbrev pub AreSmall : List (Open Tag) → Type 0
AreSmall [] = Unit {0}
AreSmall (v ∷ outer) = IsSmallResult v.yields × AreSmall outer
