-- Instructions of the text form as leaves of a tree of instructions, and back.
use Rattle.std.specs.Prelude.{◌≡◌, refl}
use Rattle.ctw_ops.specs.declared.types.Label.{Label}
use Rattle.ctw_ops.specs.Code as ops
use Rattle.ctw_text.specs.declared.keys.LeafKind.{LeafKind}
use Rattle.ctw_text.specs.declared.keys.LeafKind.TheVariants as kind
use Rattle.ctw_text.specs.declared.keys.Opener.{Opener}
use Rattle.ctw_text.specs.declared.keys.Opener.TheVariants as opener

abbrev pub leaf_of : LeafKind → ops.Leaf Label
leaf_of kind.Unreachable = ops.Unreachable
leaf_of kind.Nop = ops.Nop
leaf_of kind.Return = ops.Return
leaf_of kind.Drop = ops.Drop
leaf_of (kind.Select l) = ops.Select l
leaf_of kind.MemorySize = ops.MemorySize
leaf_of kind.MemoryGrow = ops.MemoryGrow
leaf_of (kind.Load w l bytes signed align offset) = ops.Load w l bytes signed align offset
leaf_of (kind.Store w l bytes align offset) = ops.Store w l bytes align offset
leaf_of (kind.Const w l bits) = ops.Const w l bits
leaf_of (kind.Numeric op l) = ops.Numeric op l
leaf_of (kind.Classify w) = ops.Classify w
leaf_of (kind.Declassify w) = ops.Declassify w

-- branches, calls and variables have their index elsewhere
abbrev pub kind_of_leaf : ops.Leaf Label → LeafKind
kind_of_leaf ops.Unreachable = kind.Unreachable
kind_of_leaf ops.Return = kind.Return
kind_of_leaf ops.Drop = kind.Drop
kind_of_leaf (ops.Select l) = kind.Select l
kind_of_leaf ops.MemorySize = kind.MemorySize
kind_of_leaf ops.MemoryGrow = kind.MemoryGrow
kind_of_leaf (ops.Load w l bytes signed align offset) = kind.Load w l bytes signed align offset
kind_of_leaf (ops.Store w l bytes align offset) = kind.Store w l bytes align offset
kind_of_leaf (ops.Const w l bits) = kind.Const w l bits
kind_of_leaf (ops.Numeric op l) = kind.Numeric op l
kind_of_leaf (ops.Classify w) = kind.Classify w
kind_of_leaf (ops.Declassify w) = kind.Declassify w
kind_of_leaf _ = kind.Nop

pub leaf_back : (k : LeafKind) → kind_of_leaf (leaf_of k) ≡ k
leaf_back kind.Unreachable = refl
leaf_back kind.Nop = refl
leaf_back kind.Return = refl
leaf_back kind.Drop = refl
leaf_back (kind.Select l) = refl
leaf_back kind.MemorySize = refl
leaf_back kind.MemoryGrow = refl
leaf_back (kind.Load w l bytes signed align offset) = refl
leaf_back (kind.Store w l bytes align offset) = refl
leaf_back (kind.Const w l bits) = refl
leaf_back (kind.Numeric op l) = refl
leaf_back (kind.Classify w) = refl
leaf_back (kind.Declassify w) = refl

abbrev pub shape_of : Opener → ops.Shape
shape_of opener.Block = ops.OfBlock
shape_of opener.Loop = ops.OfLoop
shape_of opener.If = ops.OfIf

abbrev pub opener_of : ops.Shape → Opener
opener_of ops.OfBlock = opener.Block
opener_of ops.OfLoop = opener.Loop
opener_of ops.OfIf = opener.If

pub shape_back : (o : Opener) → opener_of (shape_of o) ≡ o
shape_back opener.Block = refl
shape_back opener.Loop = refl
shape_back opener.If = refl
