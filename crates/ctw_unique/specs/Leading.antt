-- What the first instructions of a sequence lead to, by their rows of the typing (W3C WebAssembly Core 1.0, section 3.3).
use Rattle.std.specs.Prelude.{◌≡◌, ℕ, zero, suc, List, ◌∷◌}
use Rattle.ctw_ops.specs.declared.types.Label.{Label}
use Rattle.ctw_ops.specs.Types.{ValueType}
use Rattle.ctw_ops.specs.Code.{Leaf, Unreachable, Br, BrTable, Return, Code, Stop, Then, Block, Loop, If, IfElse}
use Rattle.ctw_ops.specs.Typing.{Context, Row, i32, optional, upon}

-- an instruction behind which its sequence may go on
abbrev pub GoesOn : Leaf Label → Type 0
GoesOn Unreachable = ⊥
GoesOn (Br k) = ⊥
GoesOn (BrTable ks k) = ⊥
GoesOn Return = ⊥
GoesOn leaf = Unit {0}

-- So many first instructions of a sequence, each of which goes on, lead from a stack to this rest with a stack. The
-- stack in front of them decides the one behind them.
abbrev pub Leads : Context Label → ℕ → Code Label → List (ValueType Label) → Code Label → List (ValueType Label)
    → Type 0
Leads C zero code from rest to = (code ≡ rest) × (from ≡ to)
Leads C (suc n) Stop from rest to = ⊥
Leads C (suc n) (Then leaf after) from rest to =
    GoesOn leaf × (mid : List (ValueType Label)) × Row C leaf from mid × Leads C n after mid rest to
Leads C (suc n) (Block t body after) from rest to = Leads C n after (upon (optional t) from) rest to
Leads C (suc n) (Loop t body after) from rest to = Leads C n after (upon (optional t) from) rest to
Leads C (suc n) (If t arm after) from rest to =
    (kept : List (ValueType Label)) × (from ≡ i32 C ∷ kept) × Leads C n after (upon (optional t) kept) rest to
Leads C (suc n) (IfElse t arm other after) from rest to =
    (kept : List (ValueType Label)) × (from ≡ i32 C ∷ kept) × Leads C n after (upon (optional t) kept) rest to
