-- What the collector does on the open blocks.
use Rattle.std.specs.Prelude.{ℕ, ◌+◌, ◌<◌, ◌^◌, List, [], ◌∷◌, Option, Some, None}
use Rattle.ctw_ops.specs.Types.{ValueType}
use Rattle.ctw_stack.specs.Opens.{Open}
use Rattle.ctw_labels.specs.Names.{Tag, At, Fixed}
use Rattle.ctw_labels.specs.Links.{Fact, wants, facts_of_end}
use Rattle.ctw_labels.specs.FlatSites.{handed}

-- what is wanted of the last operand of the innermost block
abbrev pub wants_on : ℕ → ValueType Tag → List (Open Tag) → List (Fact Tag)
wants_on r t [] = []
wants_on r t (b ∷ outer) = wants r t b.operands

-- the innermost block is closed
abbrev pub handed_on : List (Open Tag) → List (Open Tag)
handed_on [] = []
handed_on (v ∷ outer) = handed v outer

abbrev pub end_facts_on : List (Open Tag) → List (Fact Tag)
end_facts_on [] = []
end_facts_on (v ∷ outer) = facts_of_end v.yields v.operands

abbrev pub IsSmallTag : Tag → Type 0
IsSmallTag (At n) = n + 1 < 2 ^ 32
IsSmallTag Fixed = Unit {0}

-- the sites of blocks' results and their pushes fit into 32 bits
abbrev pub IsSmallResult : Option (ValueType Tag) → Type 0
IsSmallResult None = Unit {0}
IsSmallResult (Some t) = IsSmallTag t.tag

abbrev pub HasSmallResult : List (Open Tag) → Type 0
HasSmallResult [] = Unit {0}
HasSmallResult (v ∷ outer) = IsSmallResult v.yields
