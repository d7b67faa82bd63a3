-- What a change of the innermost block's operands makes of the open blocks.
use Rattle.std.specs.Prelude.{List, [], ◌∷◌, Option, None}
use Rattle.ctw_stack.specs.Operands.{Operands}
use Rattle.ctw_stack.specs.Opens.{Open, with_operands}
use Rattle.ctw_labels.specs.declared.tag.Tag.{Tag}

abbrev pub on_innermost : (Operands Tag → Operands Tag) → List (Open Tag) → List (Open Tag)
on_innermost f [] = []
on_innermost f (v ∷ outer) = with_operands v (f v.operands) ∷ outer

-- what the innermost block's operands say; nothing where no block is open
abbrev pub of_innermost : {X : Type 0} → (Operands Tag → Option X) → List (Open Tag) → Option X
of_innermost f [] = None
of_innermost f (v ∷ outer) = f v.operands
