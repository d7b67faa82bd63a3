-- Places of a body, and what is left of it there.
use Rattle.std.specs.Prelude.{◌≡◌, ◌≤◌, ◌↔◌, ℕ, List, ◌∷◌, ◌++◌, length, Option, Some, None, IsSome}
use Rattle.ctw_ops.specs.ValueType.{ValueType}
use Rattle.ctw_ops.specs.declared.types.Label.{Label}
use Rattle.ctw_ops.specs.Code.{Code, Stop, Block, Loop, If, IfElse, Shape, Closer, ByEnd, ByElse, Opens}
use Rattle.ctw_ops.specs.Segments.{Segment, segment, spread}
use Rattle.ctw_flat.specs.Places.{Placed, Stand, ops_of}

-- A place that is reached from the start by whole opcodes, with the segments that are left there: the rest of the
-- sequence and what closes it, and so on outwards.
pub record At (bytes : List ℕ) (place : ℕ) (left : List (Segment Label)) : Type 0 where
  pub front : List Placed
  pub rest : List Placed
  pub all : Stand bytes 0 (front ++ rest)
  pub here : Stand bytes place rest
  pub inside : place ≤ length bytes
  pub opcodes : ops_of rest ≡ spread left

-- an opcode that opens a block stands at a place that is reached from the start
abbrev pub OpensAt : List ℕ → ℕ → Type 0
OpensAt bytes place =
    (front rest : List Placed) × (shape : Shape) × (t : Option (ValueType Label))
    × Stand bytes 0 (front ++ record { at = place; op = Opens shape t } ∷ rest)

-- the end of a block without an `else`, which has these segments behind it
abbrev pub EndsAlone : List ℕ → Option (ℕ × Option ℕ) → List (Segment Label) → Type 0
EndsAlone bytes told outer = (end : ℕ) × (told ≡ Some (end, None)) × At bytes end (segment Stop ByEnd ∷ outer)

-- the `else` and the end of an `if`, whose other arm this is and which has these segments behind it
abbrev pub EndsWithElse : List ℕ → Option (ℕ × Option ℕ) → Code Label → List (Segment Label) → Type 0
EndsWithElse bytes told other outer =
    (end parting : ℕ) × (told ≡ Some (end, Some parting))
    × At bytes parting (segment Stop ByElse ∷ segment other ByEnd ∷ outer)
    × At bytes end (segment Stop ByEnd ∷ outer)

-- For every place of a body: where the block that begins there ends.
pub record TellsEnds (bytes : List ℕ) (ends : ℕ → Option (ℕ × Option ℕ)) : Type 0 where
  pub blocks : (place : ℕ) (t : Option (ValueType Label)) (body rest : Code Label) (closer : Closer)
      (outer : List (Segment Label)) → At bytes place (segment (Block t body rest) closer ∷ outer)
      → EndsAlone bytes (ends place) (segment rest closer ∷ outer)
  pub loops : (place : ℕ) (t : Option (ValueType Label)) (body rest : Code Label) (closer : Closer)
      (outer : List (Segment Label)) → At bytes place (segment (Loop t body rest) closer ∷ outer)
      → EndsAlone bytes (ends place) (segment rest closer ∷ outer)
  pub ifs : (place : ℕ) (t : Option (ValueType Label)) (arm rest : Code Label) (closer : Closer)
      (outer : List (Segment Label)) → At bytes place (segment (If t arm rest) closer ∷ outer)
      → EndsAlone bytes (ends place) (segment rest closer ∷ outer)
  pub if_elses : (place : ℕ) (t : Option (ValueType Label)) (arm other rest : Code Label) (closer : Closer)
      (outer : List (Segment Label)) → At bytes place (segment (IfElse t arm other rest) closer ∷ outer)
      → EndsWithElse bytes (ends place) other (segment rest closer ∷ outer)
  pub only : (place : ℕ) → IsSome (ends place) ↔ OpensAt bytes place
