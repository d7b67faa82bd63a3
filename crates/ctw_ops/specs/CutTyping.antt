-- Typings of cut bodies.
use Rattle.std.specs.Prelude.{◌≡◌, ℕ, zero, suc, List, [], ◌∷◌, Option, Some, None}
use Rattle.ctw_ops.specs.ValueType.{ValueType}
use Rattle.ctw_ops.specs.Code.{Code, Stop, Then, Block, Loop, If, IfElse}
use Rattle.ctw_ops.specs.Typing.{Context, Row, Typed, optional, upon, i32, inside}
use Rattle.ctw_ops.specs.Cut.{behind, cut}

-- the typing of a body stops at its opcode k: cut before that opcode the body has its result's type,
-- and cut behind it it doesn't
abbrev pub StopsAt : {S : Type 0} → Context S → Code S → ℕ → Type 0
StopsAt C code k = Typed C (cut code k) [] (optional C.result) × (Typed C (cut code (suc k)) [] (optional C.result) → ⊥)

-- by whether a cut is inside a sequence, or behind its closer after some opcodes more
abbrev pub WhereCut : Option ℕ → Type 0 → (ℕ → Type 0) → Type 0
WhereCut None Inside After = Inside
WhereCut (Some k) Inside After = After k

-- a typing of the sequence cut after k opcodes, from the stack `from`,
-- has `at` in the innermost open block just before the first added `unreachable`
abbrev pub Reaches : {S : Type 0} → Context S → Code S → ℕ → List (ValueType S) → List (ValueType S) → Type 0
Reaches C code zero from at = from ≡ at
Reaches C Stop (suc k) from at = ⊥
Reaches C (Then leaf rest) (suc k) from at = (mid : List (ValueType _)) × Row C leaf from mid × Reaches C rest k mid at
Reaches C (Block t body rest) (suc k) from at =
    WhereCut (behind body k) (Reaches (inside t C) body k [] at)
    (λ j. Typed (inside t C) body [] (optional t) × Reaches C rest j (upon (optional t) from) at)
Reaches C (Loop t body rest) (suc k) from at =
    WhereCut (behind body k) (Reaches (inside None C) body k [] at)
    (λ j. Typed (inside None C) body [] (optional t) × Reaches C rest j (upon (optional t) from) at)
Reaches C (If t arm rest) (suc k) from at =
    WhereCut (behind arm k) ((kept : List (ValueType _)) × (from ≡ i32 C ∷ kept) × Reaches (inside t C) arm k [] at)
    (λ j. (t ≡ None) × Typed (inside t C) arm [] (optional t) × (kept : List (ValueType _)) × (from ≡ i32 C ∷ kept)
    × Reaches C rest j (upon (optional t) kept) at)
Reaches C (IfElse t arm other rest) (suc k) from at =
    WhereCut (behind arm k) ((kept : List (ValueType _)) × (from ≡ i32 C ∷ kept) × Reaches (inside t C) arm k [] at)
    (λ j. WhereCut (behind other j)
    (Typed (inside t C) arm [] (optional t) × (kept : List (ValueType _)) × (from ≡ i32 C ∷ kept)
    × Reaches (inside t C) other j [] at)
    (λ i. Typed (inside t C) arm [] (optional t) × Typed (inside t C) other [] (optional t)
    × (kept : List (ValueType _)) × (from ≡ i32 C ∷ kept) × Reaches C rest i (upon (optional t) kept) at))
