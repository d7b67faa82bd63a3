-- What is left of a body from a place on, as segments, and the tree that opcodes stand for.
use Rattle.std.specs.Prelude.{List, [], ◌∷◌, Option, Some, None}
use Rattle.ctw_ops.specs.ValueType.{ValueType}
use Rattle.ctw_ops.specs.Code.{Code, Stop, Then, Block, Loop, If, IfElse, Shape, OfBlock, OfLoop, OfIf, Closer, ByEnd, ByElse, Op, Plain, Opens, Closes, onto}

-- the rest of a sequence, and what closes it
pub record Segment (S : Type 0) : Type 0 where
  pub code : Code S
  pub closer : Closer

abbrev pub segment : {S : Type 0} → Code S → Closer → Segment S
segment code closer = record { code = code; closer = closer }

-- the opcodes that are left: of the innermost sequence with its closer, and so on outwards
abbrev pub spread : {S : Type 0} → List (Segment S) → List (Op S)
spread [] = []
spread (s ∷ outer) = onto s.code (Closes s.closer ∷ spread outer)

-- a block in front of the innermost sequence
abbrev pub with_block : {S : Type 0} → Shape → Option (ValueType S) → Code S → List (Segment S)
    → Option (List (Segment S))
with_block shape t body [] = None
with_block OfBlock t body (s ∷ outer) = Some (segment (Block t body s.code) s.closer ∷ outer)
with_block OfLoop t body (s ∷ outer) = Some (segment (Loop t body s.code) s.closer ∷ outer)
with_block OfIf t body (s ∷ outer) = Some (segment (If t body s.code) s.closer ∷ outer)

-- the same of an `if` whose `else` is written; an `end` has to close its other arm
abbrev pub with_arms : {S : Type 0} → Shape → Option (ValueType S) → Code S → List (Segment S)
    → Option (List (Segment S))
with_arms {S} OfIf t arm (other ∷ s ∷ outer) = closed other.closer
  where
    closed : Closer → Option (List (Segment S))
    closed ByEnd = Some (segment (IfElse t arm other.code s.code) s.closer ∷ outer)
    closed ByElse = None
with_arms shape t arm segments = None

-- the same by what closes the block's first sequence
abbrev pub with_opener : {S : Type 0} → Shape → Option (ValueType S) → Segment S → List (Segment S)
    → Option (List (Segment S))
with_opener {S} shape t first outer = closed first.closer
  where
    closed : Closer → Option (List (Segment S))
    closed ByEnd = with_block shape t first.code outer
    closed ByElse = with_arms shape t first.code outer

-- an opcode in front of what is left
abbrev pub in_front : {S : Type 0} → Op S → List (Segment S) → Option (List (Segment S))
in_front (Closes closer) segments = Some (segment Stop closer ∷ segments)
in_front (Plain leaf) [] = None
in_front (Plain leaf) (s ∷ outer) = Some (segment (Then leaf s.code) s.closer ∷ outer)
in_front (Opens shape t) [] = None
in_front (Opens shape t) (s ∷ outer) = with_opener shape t s outer

abbrev pub and_then : {A B : Type 0} → Option A → (A → Option B) → Option B
and_then None f = None
and_then (Some a) f = f a

-- what is left, from its opcodes; None where they don't nest
abbrev pub segments : {S : Type 0} → List (Op S) → Option (List (Segment S))
segments [] = Some []
segments (op ∷ ops) = and_then (segments ops) (in_front op)

-- one sequence that an `end` closes
abbrev pub only : {S : Type 0} → List (Segment S) → Option (Code S)
only {S} (s ∷ []) = closed s.closer
  where
    closed : Closer → Option (Code S)
    closed ByEnd = Some s.code
    closed ByElse = None
only segments = None

-- the tree of a body's opcodes; None where they are no body's
abbrev pub nested : {S : Type 0} → List (Op S) → Option (Code S)
nested ops = and_then (segments ops) only
