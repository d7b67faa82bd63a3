-- The pass over a tree of instructions, in one block.
use Rattle.std.specs.Prelude.{Bool, Option, Some, None, is_some, is_none}
use Rattle.ctw_ops.specs.Types.{ValueType}
use Rattle.ctw_ops.specs.Code.{Code, Stop, Then, Block, Loop, If, IfElse}
use Rattle.ctw_ops.specs.Typing.{Context, optional, i32, inside}
use Rattle.ctw_ops.specs.Segments.{and_then}
use Rattle.ctw_stack.specs.Operands.{Operands, fresh}
use Rattle.ctw_stack.specs.Steps.{when, pushes, expect, step}
use Rattle.ctw_stack.specs.Pass.{ends_with}

module _ {S : Type 0} (same : S → S → Bool) where
  -- whether a block's inside ends with its result
  abbrev pub closes : Option (ValueType S) → Option (Operands S) → Bool
  closes t r = is_some (and_then r (ends_with same t))

  abbrev pub pass : Context S → Code S → Operands S → Option (Operands S)
  pass C Stop s = Some s
  pass C (Then leaf rest) s = and_then (step same C leaf s) (pass C rest)
  pass C (Block t body rest) s = when (closes t (pass (inside t C) body fresh)) (pass C rest (pushes (optional t) s))
  pass C (Loop t body rest) s = when (closes t (pass (inside None C) body fresh)) (pass C rest (pushes (optional t) s))
  pass C (If t arm rest) s =
      when (is_none t) (when (closes t (pass (inside t C) arm fresh)) (and_then (expect same (i32 C) s) (λ m. pass C rest (pushes (optional t) m))))
  pass C (IfElse t arm other rest) s =
      when (closes t (pass (inside t C) arm fresh)) (when (closes t (pass (inside t C) other fresh)) (and_then (expect same (i32 C) s) (λ m. pass C rest (pushes (optional t) m))))
