-- A leaf does what its row does, or has the fault that was found for it.
use Rattle.std.proofs.Common.{◌≡◌, ℕ, List, [], ◌∷◌, Option, Some, None, Result, Ok, Err, refl, sym, ◌∙◌, ap}
use Rattle.ctw_ops.specs.declared.types.Label.{Label}
use Rattle.ctw_ops.specs.Code.{Op, Plain, Opens, Closes}
use Rattle.ctw_ops.specs.Typing.{Context}
use Rattle.ctw_stack.specs.Operands.{Operands}
use Rattle.ctw_stack.specs.Opens.{Open, with_operands}
use Rattle.ctw_stack.specs.Steps.{step}
use Rattle.ctw_ops.specs.Segments.{and_then}
use Rattle.ctw_valid.specs.declared.fault.BodyFault.{BodyFault}
use Rattle.ctw_valid.specs.declared.row.Row.{Row}
use Rattle.ctw_valid.specs.Faults.{same_label}
use Rattle.ctw_valid.specs.OnStack.{on_innermost, own_slots, Follows}
use Rattle.ctw_valid.specs.Rows.{row_step, row_fault, LooksUpOp, OnLeaf}
use Rattle.ctw_valid.proofs.OnStack.{on_same}

pub follows_as : {A B : Type 0} (r : Result A BodyFault) (x y : Option B) (new : B) (why other : BodyFault) → x ≡ y → why ≡ other → Follows r y new other → Follows r x new why
follows_as (Ok a) x y new why other p q h = p ∙ h
follows_as (Err e) x y new why other p q h = λ n. let k = h n in (p ∙ k.0, k.1 ∙ sym q)

pub leaf_row : (C : Context Label) (op : Op Label) (at : ℕ) (row : Row) (r : Result (Unit {0}) BodyFault) (old new : List (Open Label)) → LooksUpOp C op at (Ok row)
    → Follows r (on_innermost (row_step row) old) new (row_fault row at (own_slots old)) → OnLeaf C op at r old new
leaf_row C (Plain i) at row r old new l h =
    follows_as r (on_innermost (step same_label C i) old) (on_innermost (row_step row) old) new _ (row_fault row at (own_slots old)) (on_same (step same_label C i) (row_step row) old l.same) (l.kind at (own_slots old)) h
leaf_row C (Opens shape t) at row r old new l h = tt
leaf_row C (Closes closer) at row r old new l h = tt

nowhere : (f : Operands Label → Option (Operands Label)) (s : List (Open Label)) → ((o : Operands Label) → f o ≡ None) → on_innermost f s ≡ None
nowhere f [] h = refl
nowhere f (b ∷ outer) h = ap (λ r. and_then r (λ o. Some (with_operands b o ∷ outer))) (h b.operands)

pub leaf_barred : (C : Context Label) (op : Op Label) (at : ℕ) (fault : BodyFault) (old new : List (Open Label)) → LooksUpOp C op at (Err fault) → OnLeaf C op at (Err fault) old new
leaf_barred C (Plain i) at fault old new l = λ n. (nowhere (step same_label C i) old l.refused, sym (l.kind (own_slots old)))
leaf_barred C (Opens shape t) at fault old new l = tt
leaf_barred C (Closes closer) at fault old new l = tt
