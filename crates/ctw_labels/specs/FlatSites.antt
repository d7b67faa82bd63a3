-- The sites, links and public sites of a body over its opcodes, with a stack of open blocks.
use Rattle.std.specs.Prelude.{◌≡◌, ℕ, ◌+◌, true, false, List, [], ◌∷◌, ◌++◌, length, map, Option, Some, None, unwrap_or, IsSome}
use Rattle.ctw_ops.specs.declared.types.Width.{Width}
use Rattle.ctw_ops.specs.Types.{ValueType}
use Rattle.ctw_ops.specs.Code.{Leaf, CallIndirect, OfBlock, OfLoop, OfIf, ByEnd, ByElse, Op, Plain, Opens, Closes}
use Rattle.ctw_ops.specs.Typing.{Context, optional, i32}
use Rattle.ctw_stack.specs.Operands.{Operands, fresh}
use Rattle.ctw_stack.specs.Opens.{Open, opened, with_operands, label_of}
use Rattle.ctw_stack.specs.Steps.{expect, pushes}
use Rattle.ctw_labels.specs.Names.{Tag, At, Fixed, Site}
use Rattle.ctw_labels.specs.Sited.{yes, Lift, lifted, with_user}
use Rattle.ctw_labels.specs.Links.{Fact, wants, facts_of, facts_of_end}
use Rattle.ctw_labels.specs.Numbering.{BodyPlace, result_from, type_from, named_in, sited_leaf, after_lift, stepped, leaf_lift, leaf_sites, block_sites}

-- what an opcode may name inside these blocks
abbrev pub among : Context Tag → List (Open Tag) → Context Tag
among C blocks = record C { labels = map label_of blocks }

-- a block's result goes under its push's site, which is numbered straight behind the block's
abbrev pub result_lift : Option (ValueType Tag) → Option (Lift Tag)
result_lift None = None
result_lift (Some t) = push_behind t.width t.tag
  where
    push_behind : Width → Tag → Option (Lift Tag)
    push_behind w (At n) = Some (record { width = w; source = At n; target = At (n + 1); free = false })
    push_behind w Fixed = None

-- a closed block's result goes to the block around it
abbrev pub handed : Open Tag → List (Open Tag) → List (Open Tag)
handed v [] = []
handed v (w ∷ outer) = with_operands w (lifted (result_lift v.yields) (pushes (optional v.yields) w.operands)) ∷ outer

-- the open blocks behind an opcode, innermost first
abbrev pub opens_behind : {A : Type 0} → BodyPlace A → Context Tag → ℕ → ℕ → Op A → List (Open Tag) → List (Open Tag)
opens_behind P C n at op [] = []
opens_behind P C n at (Plain i) (v ∷ outer) =
    with_operands v
    (after_lift (leaf_lift P (among C (v ∷ outer)) n at i v.operands) (stepped P (among C (v ∷ outer)) n i v.operands))
    ∷ outer
opens_behind P C n at (Opens OfBlock t) (v ∷ outer) = opened false (result_from n t) ∷ v ∷ outer
opens_behind P C n at (Opens OfLoop t) (v ∷ outer) = opened true (result_from n t) ∷ v ∷ outer
opens_behind P C n at (Opens OfIf t) (v ∷ outer) =
    opened false (result_from n t) ∷ with_operands v (unwrap_or (expect yes (i32 C) v.operands) fresh) ∷ outer
opens_behind P C n at (Closes ByElse) (v ∷ outer) = opened v.loops v.yields ∷ outer
opens_behind P C n at (Closes ByEnd) (v ∷ outer) = handed v outer

-- the sites of an opcode
abbrev pub op_sites : {A : Type 0} → BodyPlace A → Context Tag → ℕ → ℕ → Op A → List (Open Tag) → List Site
op_sites P C n at op [] = []
op_sites P C n at (Plain i) (v ∷ outer) = leaf_sites P (among C (v ∷ outer)) n at i v.operands
op_sites P C n at (Opens shape t) (v ∷ outer) = block_sites P.func at n t
op_sites P C n at (Closes closer) (v ∷ outer) = []

-- the sites of opcodes, from the site number `n` and the opcode number `at` on
abbrev pub flat_sites : {A : Type 0} → BodyPlace A → Context Tag → List (Op A) → List (Open Tag) → ℕ → ℕ → List Site
flat_sites P C [] blocks n at = []
flat_sites P C (op ∷ ops) blocks n at =
    op_sites P C n at op blocks
    ++ flat_sites P C ops (opens_behind P C n at op blocks) (n + length (op_sites P C n at op blocks)) (at + 1)

-- a leaf's row of the link table
abbrev pub leaf_facts : {A : Type 0} → BodyPlace A → Context Tag → ℕ → Leaf A → Operands Tag → List (Fact Tag)
leaf_facts P C n (CallIndirect y) o = facts_of (with_user (type_from n (named_in P.types y)) C) (CallIndirect 0) o
leaf_facts P C n i o = facts_of C (sited_leaf C n i) o

abbrev pub op_facts : {A : Type 0} → BodyPlace A → Context Tag → ℕ → Op A → List (Open Tag) → List (Fact Tag)
op_facts P C n op [] = []
op_facts P C n (Plain i) (v ∷ outer) = leaf_facts P (among C (v ∷ outer)) n i v.operands
op_facts P C n (Opens OfBlock t) (v ∷ outer) = []
op_facts P C n (Opens OfLoop t) (v ∷ outer) = []
op_facts P C n (Opens OfIf t) (v ∷ outer) = wants 13 (i32 C) v.operands
op_facts P C n (Closes closer) (v ∷ outer) = facts_of_end v.yields v.operands

abbrev pub flat_facts : {A : Type 0} → BodyPlace A → Context Tag → List (Op A) → List (Open Tag) → ℕ → ℕ
    → List (Fact Tag)
flat_facts P C [] blocks n at = []
flat_facts P C (op ∷ ops) blocks n at =
    op_facts P C n op blocks
    ++ flat_facts P C ops (opens_behind P C n at op blocks) (n + length (op_sites P C n at op blocks)) (at + 1)

-- the pass without tests gets past an opcode
abbrev pub GoesBy : {A : Type 0} → BodyPlace A → Context Tag → ℕ → Op A → List (Open Tag) → Type 0
GoesBy P C n op [] = ⊥
GoesBy P C n (Plain i) (v ∷ outer) = IsSome (stepped P (among C (v ∷ outer)) n i v.operands)
GoesBy P C n (Opens OfBlock t) (v ∷ outer) = Unit {0}
GoesBy P C n (Opens OfLoop t) (v ∷ outer) = Unit {0}
GoesBy P C n (Opens OfIf t) (v ∷ outer) = IsSome (expect yes (i32 C) v.operands)
GoesBy P C n (Closes closer) (v ∷ outer) = Unit {0}

-- it gets past all opcodes, and nothing is left open
abbrev pub Goes : {A : Type 0} → BodyPlace A → Context Tag → List (Op A) → List (Open Tag) → ℕ → ℕ → Type 0
Goes P C [] blocks n at = blocks ≡ []
Goes P C (op ∷ ops) blocks n at =
    GoesBy P C n op blocks
    × Goes P C ops (opens_behind P C n at op blocks) (n + length (op_sites P C n at op blocks)) (at + 1)
