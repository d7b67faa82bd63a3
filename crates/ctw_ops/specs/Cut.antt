-- A body cut after some of its opcodes: these are kept, and each block that is open behind them is
-- closed after an `unreachable`.
use Rattle.std.specs.Prelude.{ℕ, zero, suc, Bool, true, false, List, [], ◌∷◌, ◌++◌, Option, Some, None, take}
use Rattle.ctw_ops.specs.ValueType.{ValueType}
use Rattle.ctw_ops.specs.Code.{Unreachable, Code, Stop, Then, Block, Loop, If, IfElse, OfBlock, OfLoop, OfIf, ByEnd, ByElse, Op, Plain, Opens, Closes}
use Rattle.ctw_ops.specs.Segments.{and_then}

-- ---- on opcodes

-- an open block: whether it is a then arm that may still get its `else`, and the type of its result
pub record OpenBlock (S : Type 0) : Type 0 where
  pub arm : Bool
  pub yields : Option (ValueType S)

abbrev pub open_block : {S : Type 0} → Bool → Option (ValueType S) → OpenBlock S
open_block arm yields = record { arm = arm; yields = yields }

-- what is open behind an opcode, innermost first
abbrev pub open_behind : {S : Type 0} → Op S → List (OpenBlock S) → List (OpenBlock S)
open_behind op [] = []
open_behind (Plain leaf) (b ∷ outer) = b ∷ outer
open_behind (Opens OfBlock t) (b ∷ outer) = open_block false t ∷ b ∷ outer
open_behind (Opens OfLoop t) (b ∷ outer) = open_block false t ∷ b ∷ outer
open_behind (Opens OfIf t) (b ∷ outer) = open_block true t ∷ b ∷ outer
open_behind (Closes ByElse) (b ∷ outer) = open_block false b.yields ∷ outer
open_behind (Closes ByEnd) (b ∷ outer) = outer

abbrev pub open_behind_all : {S : Type 0} → List (Op S) → List (OpenBlock S) → List (OpenBlock S)
open_behind_all [] blocks = blocks
open_behind_all (op ∷ ops) blocks = open_behind_all ops (open_behind op blocks)

-- what stands behind the `unreachable` that ends a block; a then arm with a result gets an `else` and an `unreachable`
abbrev pub ending : {S : Type 0} → Bool → Option (ValueType S) → List (Op S)
ending false t = Closes ByEnd ∷ []
ending true None = Closes ByEnd ∷ []
ending true (Some t) = Closes ByElse ∷ Plain Unreachable ∷ Closes ByEnd ∷ []

-- what closes all that is open
abbrev pub closing : {S : Type 0} → List (OpenBlock S) → List (Op S)
closing [] = []
closing (b ∷ outer) = Plain Unreachable ∷ (ending b.arm b.yields ++ closing outer)

-- the opcodes cut after k of them, where `blocks` are open before
abbrev pub cut_among : {S : Type 0} → ℕ → List (Op S) → List (OpenBlock S) → List (Op S)
cut_among k ops blocks = take k ops ++ closing (open_behind_all (take k ops) blocks)

-- a body's opcodes cut after k of them
abbrev pub cut_opcodes : {S : Type 0} → ℕ → List (Op S) → List (Op S)
cut_opcodes k ops = cut_among k ops (open_block false None ∷ [])

-- ---- on trees

-- how many of k opcodes stand behind a sequence and the opcode that closes it; None where k don't pass that opcode
abbrev pub behind : {S : Type 0} → Code S → ℕ → Option ℕ
behind code zero = None
behind Stop (suc k) = Some k
behind (Then leaf rest) (suc k) = behind rest k
behind (Block t body rest) (suc k) = and_then (behind body k) (behind rest)
behind (Loop t body rest) (suc k) = and_then (behind body k) (behind rest)
behind (If t arm rest) (suc k) = and_then (behind arm k) (behind rest)
behind (IfElse t arm other rest) (suc k) = and_then (behind arm k) (λ j. and_then (behind other j) (behind rest))

-- by whether a cut is inside a sequence, or behind its closer after some opcodes more
abbrev pub where_cut : {A : Type 0} → Option ℕ → A → (ℕ → A) → A
where_cut None inside after = inside
where_cut (Some k) inside after = after k

abbrev pub unreachable : {S : Type 0} → Code S
unreachable = Then Unreachable Stop

-- an `if` whose then arm is cut
abbrev pub cut_if : {S : Type 0} → Option (ValueType S) → Code S → Code S
cut_if None arm = If None arm unreachable
cut_if (Some t) arm = IfElse (Some t) arm unreachable unreachable

-- a sequence cut after k opcodes; whole where there are no more
abbrev pub cut : {S : Type 0} → Code S → ℕ → Code S
cut code zero = unreachable
cut Stop (suc k) = Stop
cut (Then leaf rest) (suc k) = Then leaf (cut rest k)
cut (Block t body rest) (suc k) =
    where_cut (behind body k) (Block t (cut body k) unreachable) (λ j. Block t body (cut rest j))
cut (Loop t body rest) (suc k) =
    where_cut (behind body k) (Loop t (cut body k) unreachable) (λ j. Loop t body (cut rest j))
cut (If t arm rest) (suc k) = where_cut (behind arm k) (cut_if t (cut arm k)) (λ j. If t arm (cut rest j))
cut (IfElse t arm other rest) (suc k) =
    where_cut (behind arm k) (cut_if t (cut arm k))
    (λ j.
    where_cut (behind other j) (IfElse t arm (cut other j) unreachable) (λ i. IfElse t arm other (cut rest i)))
