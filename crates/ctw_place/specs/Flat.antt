-- The placed code of a body over its opcodes: each opcode under sites, and what it becomes under labels.
use Rattle.std.specs.Prelude.{ℕ, ◌+◌, Bool, true, List, [], ◌∷◌, length, Option, Some, None, option_map}
use Rattle.ctw_ops.specs.declared.types.Width.{Width}
use Rattle.ctw_ops.specs.declared.types.Label.{Label}
use Rattle.ctw_ops.specs.declared.types.Label.TheVariants.{Public, Secret}
use Rattle.ctw_ops.specs.Types.{ValueType, FunctionType}
use Rattle.ctw_ops.specs.Code.{Leaf, CallIndirect, Classify, Declassify, Shape, OfBlock, OfLoop, OfIf, ByEnd, ByElse, Op, Plain, Opens, Closes}
use Rattle.ctw_ops.specs.Typing.{Context}
use Rattle.ctw_stack.specs.Opens.{Open}
use Rattle.ctw_ops.specs.TagMaps.{type_to, function_type_to, leaf_to}
use Rattle.ctw_labels.specs.declared.tag.Tag.{Tag}
use Rattle.ctw_labels.specs.Sited.{Lift, Sited, Done, Does, Uses, Blocks, Loops, Ifs, IfElses}
use Rattle.ctw_labels.specs.Numbering.{BodyPlace, result_from, type_from, named_in, sited_leaf, leaf_lift, block_lift}
use Rattle.ctw_labels.specs.FlatSites.{among, opens_behind, op_sites}
use Rattle.ctw_labels.specs.Placed.{TypeUse, use_of}

-- an opcode under sites: what pushes has its lift, and an `end` that of its block
pub data SitedOp (S : Type 0) : Type 0 where
  Doing : (leaf : Leaf S) (lift : Option (Lift S)) → SitedOp S
  Using : (index : ℕ) (type : FunctionType S) (lift : Option (Lift S)) → SitedOp S
  Opening : (shape : Shape) (result : Option (ValueType S)) → SitedOp S
  Parting : SitedOp S
  Ending : (lift : Option (Lift S)) → SitedOp S

-- the opcodes of sited code, and then others
abbrev pub sited_onto : {S : Type 0} → Sited S → List (SitedOp S) → List (SitedOp S)
sited_onto Done ops = ops
sited_onto (Does i l rest) ops = Doing i l ∷ sited_onto rest ops
sited_onto (Uses y g l rest) ops = Using y g l ∷ sited_onto rest ops
sited_onto (Blocks t l body rest) ops = Opening OfBlock t ∷ sited_onto body (Ending l ∷ sited_onto rest ops)
sited_onto (Loops t l body rest) ops = Opening OfLoop t ∷ sited_onto body (Ending l ∷ sited_onto rest ops)
sited_onto (Ifs t l arm rest) ops = Opening OfIf t ∷ sited_onto arm (Ending l ∷ sited_onto rest ops)
sited_onto (IfElses t l arm other rest) ops =
    Opening OfIf t ∷ sited_onto arm (Parting ∷ sited_onto other (Ending l ∷ sited_onto rest ops))

-- ---- by the open blocks

-- a leaf with its lift
abbrev pub sited_leaf_op : {A : Type 0} → BodyPlace A → Context Tag → ℕ → Leaf A → Option (Lift Tag) → SitedOp Tag
sited_leaf_op P C n (CallIndirect y) l = Using y (type_from n (named_in P.types y)) l
sited_leaf_op P C n i l = Doing (sited_leaf C n i) l

-- the lift of the innermost block
abbrev pub innermost_lift : List (Option (Lift Tag)) → Option (Lift Tag)
innermost_lift [] = None
innermost_lift (l ∷ outer) = l

abbrev pub without_innermost : List (Option (Lift Tag)) → List (Option (Lift Tag))
without_innermost [] = []
without_innermost (l ∷ outer) = outer

-- an opcode under sites; `ends` has the lift of each open block
abbrev pub sited_op : {A : Type 0} → BodyPlace A → Context Tag → ℕ → ℕ → Op A → List (Open Tag)
    → List (Option (Lift Tag)) → SitedOp Tag
sited_op P C n at op [] ends = Parting
sited_op P C n at (Plain i) (v ∷ outer) ends =
    sited_leaf_op P (among C (v ∷ outer)) n i (leaf_lift P (among C (v ∷ outer)) n at i v.operands)
sited_op P C n at (Opens shape t) (v ∷ outer) ends = Opening shape (result_from n t)
sited_op P C n at (Closes ByElse) (v ∷ outer) ends = Parting
sited_op P C n at (Closes ByEnd) (v ∷ outer) ends = Ending (innermost_lift ends)

-- the lifts of the open blocks behind it
abbrev pub ends_behind : {A : Type 0} → BodyPlace A → ℕ → ℕ → Op A → List (Option (Lift Tag)) → List (Option (Lift Tag))
ends_behind P n at (Plain i) ends = ends
ends_behind P n at (Opens shape t) ends = block_lift (P.free at) n t ∷ ends
ends_behind P n at (Closes ByElse) ends = ends
ends_behind P n at (Closes ByEnd) ends = without_innermost ends

-- opcodes under sites, from the site number `n` and the opcode number `at` on
abbrev pub sited_ops : {A : Type 0} → BodyPlace A → Context Tag → List (Op A) → List (Open Tag)
    → List (Option (Lift Tag)) → ℕ → ℕ → List (SitedOp Tag)
sited_ops P C [] blocks ends n at = []
sited_ops P C (op ∷ ops) blocks ends n at =
    sited_op P C n at op blocks ends
    ∷ sited_ops P C ops (opens_behind P C n at op blocks) (ends_behind P n at op ends)
    (n + length (op_sites P C n at op blocks)) (at + 1)

-- ---- what it becomes

-- what stands behind a value's push: a classify, a declassify where it is free, or nothing
abbrev pub raise_ops : Label → Label → Bool → Width → List (Op Label)
raise_ops Public Secret free w = Plain (Classify w) ∷ []
raise_ops Secret Public true w = Plain (Declassify w) ∷ []
raise_ops _ _ free w = []

module _ {S : Type 0} (L : S → Label) where
  abbrev pub lift_ops : Option (Lift S) → List (Op Label)
  lift_ops None = []
  lift_ops (Some l) = raise_ops (L l.source) (L l.target) l.free l.width

  -- the opcodes under labels; `name` gives the index of a type under labels
  abbrev pub placed_ops : (ℕ → FunctionType Label → ℕ) → SitedOp S → List (Op Label)
  placed_ops name (Doing i l) = Plain (leaf_to L i) ∷ lift_ops l
  placed_ops name (Using y g l) = Plain (CallIndirect (name y (function_type_to L g))) ∷ lift_ops l
  placed_ops name (Opening shape t) = Opens shape (option_map (type_to L) t) ∷ []
  placed_ops name Parting = Closes ByElse ∷ []
  placed_ops name (Ending l) = Closes ByEnd ∷ lift_ops l

-- the use of a type
abbrev pub op_uses : {S : Type 0} → SitedOp S → List (TypeUse S)
op_uses (Doing i l) = []
op_uses (Using y g l) = use_of y g ∷ []
op_uses (Opening shape t) = []
op_uses Parting = []
op_uses (Ending l) = []
