-- Where open labels stand in the body of their function.
use Rattle.std.specs.Prelude.{◌≡◌, ◌⊎◌, ℕ, zero, suc, List, [], ◌∷◌, Option, Some, None}
use Rattle.ctw_ops.specs.declared.types.Label.{Label}
use Rattle.ctw_ops.specs.Types.{ValueType}
use Rattle.ctw_ops.specs.Code.{Code, Stop, Then, Block, Loop, If, IfElse}
use Rattle.ctw_semantics.specs.Activations.{Open}

-- a sequence without its first instruction
abbrev pub behind_first : {S : Type 0} → Code S → Code S
behind_first Stop = Stop
behind_first (Then leaf rest) = rest
behind_first (Block t body rest) = rest
behind_first (Loop t body rest) = rest
behind_first (If t arm rest) = rest
behind_first (IfElse t arm other rest) = rest

-- what is left of a sequence behind its first instructions, so many of them
abbrev pub behind : {S : Type 0} → ℕ → Code S → Code S
behind zero code = code
behind (suc n) code = behind_first (behind n code)

-- a sequence begins with an instruction that opens a label with this result and loop body around `inside`, and goes
-- on with `rest`
abbrev pub Opens : Code Label → Option (ValueType Label) → Option (Code Label) → Code Label → Code Label → Type 0
Opens (Block t body after) result again inside rest = (t ≡ result) × (again ≡ None) × (inside ≡ body) × (rest ≡ after)
Opens (Loop t body after) result again inside rest =
    (t ≡ result) × (again ≡ Some body) × (inside ≡ body) × (rest ≡ after)
Opens (If t arm after) result again inside rest =
    (t ≡ result) × (again ≡ None) × ((inside ≡ arm) ⊎ (inside ≡ Stop)) × (rest ≡ after)
Opens (IfElse t arm other after) result again inside rest =
    (t ≡ result) × (again ≡ None) × ((inside ≡ arm) ⊎ (inside ≡ other)) × (rest ≡ after)
Opens _ result again inside rest = ⊥

-- These labels of a body stand outside a label with this result and loop body around this sequence. The outermost
-- label is the body's own.
abbrev pub StandOutside : Code Label → Option (ValueType Label) → Option (Code Label) → Code Label → List Open → Type 0
StandOutside body result again inside [] = inside ≡ body
StandOutside body result again inside (o ∷ outer) =
    (whole : Code Label) × (n : ℕ) × Opens (behind n whole) result again inside o.code
    × StandOutside body o.result o.again whole outer

-- open labels around one place of a body, where the code of each is what is left there
abbrev pub StandIn : Code Label → List Open → Type 0
StandIn body [] = ⊥
StandIn body (o ∷ outer) = (inside : Code Label) × (n : ℕ) × (o.code ≡ behind n inside)
    × StandOutside body o.result o.again inside outer
