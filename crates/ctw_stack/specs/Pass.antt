-- The pass over a body's opcodes from the first on; None where one is refused.
use Rattle.std.specs.Prelude.{Bool, true, false, not, ◌||◌, List, [], ◌∷◌, map, Option, Some, None, is_none}
use Rattle.ctw_ops.specs.Types.{ValueType}
use Rattle.ctw_ops.specs.Code.{OfBlock, OfLoop, OfIf, ByEnd, ByElse, Op, Plain, Opens, Closes}
use Rattle.ctw_ops.specs.Typing.{Context, optional, i32}
use Rattle.ctw_ops.specs.Segments.{and_then}
use Rattle.ctw_stack.specs.declared.slot.Slot.{Slot}
use Rattle.ctw_stack.specs.Operands.{Operands, fresh}
use Rattle.ctw_stack.specs.Opens.{Open, opened, with_operands, label_of}
use Rattle.ctw_stack.specs.Steps.{when, pushes, expect, expects, step}

-- an open block, and whether it is a then arm that may still get its `else`
pub record Level (S : Type 0) : Type 0 where
  pub arm : Bool
  pub block : Open S

-- without slots
abbrev pub level : {S : Type 0} → Bool → Bool → Option (ValueType S) → Level S
level arm loops yields = record { arm = arm; block = opened loops yields }

-- the level with other operands
abbrev pub now_with : {S : Type 0} → Level S → Operands S → Level S
now_with v o = record { arm = v.arm; block = with_operands v.block o }

-- what an opcode may name inside these blocks
abbrev pub within : {S : Type 0} → Context S → List (Level S) → Context S
within C levels = record C { labels = map (λ v. label_of v.block) levels }

-- the block of a function's body
abbrev pub outermost : {S : Type 0} → Context S → List (Level S)
outermost C = level false false C.result ∷ []

-- a closed block's result goes to the block around it
abbrev pub given : {S : Type 0} → Option (ValueType S) → List (Level S) → List (Level S)
given t [] = []
given t (v ∷ outer) = now_with v (pushes (optional t) v.block.operands) ∷ outer

-- no slot of the block's own is left
abbrev pub is_empty : {S : Type 0} → List (Slot S) → Bool
is_empty [] = true
is_empty (slot ∷ slots) = false

-- what is left at a block's end, which must be nothing
abbrev pub emptied : {S : Type 0} → Operands S → Option (Operands S)
emptied o = when (is_empty o.slots) (Some fresh)

module _ {S : Type 0} (same : S → S → Bool) where
  -- a block ends with its result and nothing else
  abbrev pub ends_with : Option (ValueType S) → Operands S → Option (Operands S)
  ends_with t o = and_then (expects same (optional t) o) emptied

  -- what one opcode does to the open blocks, innermost first
  abbrev pub flat : Context S → Op S → List (Level S) → Option (List (Level S))
  flat C op [] = None
  flat C (Plain leaf) (v ∷ outer) =
      and_then (step same (within C (v ∷ outer)) leaf v.block.operands) (λ o. Some (now_with v o ∷ outer))
  flat C (Opens OfBlock t) (v ∷ outer) = Some (level false false t ∷ v ∷ outer)
  flat C (Opens OfLoop t) (v ∷ outer) = Some (level false true t ∷ v ∷ outer)
  flat C (Opens OfIf t) (v ∷ outer) =
      and_then (expect same (i32 C) v.block.operands) (λ o. Some (level true false t ∷ now_with v o ∷ outer))
  flat C (Closes ByElse) (v ∷ outer) =
      when v.arm
      (and_then (ends_with v.block.yields v.block.operands)
      (λ o. Some (level false v.block.loops v.block.yields ∷ outer)))
  flat C (Closes ByEnd) (v ∷ outer) =
      when (not v.arm || is_none v.block.yields)
      (and_then (ends_with v.block.yields v.block.operands) (λ o. Some (given v.block.yields outer)))

  -- opcode by opcode
  abbrev pub run : Context S → List (Op S) → List (Level S) → Option (List (Level S))
  run C [] levels = Some levels
  run C (op ∷ ops) levels = and_then (flat C op levels) (run C ops)
