-- The operands of the innermost open block after k opcodes of a tree.
use Rattle.std.specs.Prelude.{ℕ, zero, suc, Bool, Option, Some, None, is_none}
use Rattle.ctw_ops.specs.Code.{Code, Stop, Then, Block, Loop, If, IfElse}
use Rattle.ctw_ops.specs.Typing.{Context, optional, i32, inside}
use Rattle.ctw_ops.specs.Segments.{and_then}
use Rattle.ctw_ops.specs.Cut.{behind, where_cut}
use Rattle.ctw_stack.specs.Operands.{Operands, fresh}
use Rattle.ctw_stack.specs.Steps.{when, pushes, expect, step}
use Rattle.ctw_stack.proofs.TreePass.{closes, pass}

module _ {S : Type 0} (same : S → S → Bool) where
  abbrev pub pass_at : Context S → Code S → ℕ → Operands S → Option (Operands S)
  pass_at C code zero s = Some s
  pass_at C Stop (suc k) s = None
  pass_at C (Then i rest) (suc k) s = and_then (step same C i s) (pass_at C rest k)
  pass_at C (Block t body rest) (suc k) s =
      where_cut (behind body k) (pass_at (inside t C) body k fresh) (λ j. when (closes same t (pass same (inside t C) body fresh)) (pass_at C rest j (pushes (optional t) s)))
  pass_at C (Loop t body rest) (suc k) s =
      where_cut (behind body k) (pass_at (inside None C) body k fresh) (λ j. when (closes same t (pass same (inside None C) body fresh)) (pass_at C rest j (pushes (optional t) s)))
  pass_at C (If t arm rest) (suc k) s =
      where_cut (behind arm k) (and_then (expect same (i32 C) s) (λ m. pass_at (inside t C) arm k fresh))
      (λ j. when (is_none t) (when (closes same t (pass same (inside t C) arm fresh)) (and_then (expect same (i32 C) s) (λ m. pass_at C rest j (pushes (optional t) m)))))
  pass_at C (IfElse t arm other rest) (suc k) s =
      where_cut (behind arm k) (and_then (expect same (i32 C) s) (λ m. pass_at (inside t C) arm k fresh))
      (λ j. where_cut (behind other j) (when (closes same t (pass same (inside t C) arm fresh)) (and_then (expect same (i32 C) s) (λ m. pass_at (inside t C) other j fresh)))
      (λ i. when (closes same t (pass same (inside t C) arm fresh)) (when (closes same t (pass same (inside t C) other fresh)) (and_then (expect same (i32 C) s) (λ m. pass_at C rest i (pushes (optional t) m))))))
