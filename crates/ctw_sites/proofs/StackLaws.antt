-- How many slots the open blocks hold.
use Rattle.std.proofs.Common.{◌≤◌, ℕ, zero, suc, ◌+◌, Bool, true, false, List, [], ◌∷◌, length, Option, Some, None, arith}
use Rattle.std.specs.Prelude.{unwrap_or, option_map, if◌then◌else◌}
use Rattle.ctw_ops.specs.Types.{ValueType}
use Rattle.ctw_ops.specs.Typing.{optional}
use Rattle.ctw_stack.specs.Operands.{Operands, killed, pop_from}
use Rattle.ctw_stack.specs.Opens.{Open, with_operands, slot_count}
use Rattle.ctw_stack.proofs.Counts.{slot_count-cons}
use Rattle.ctw_stack.specs.Steps.{pushes}
use Rattle.ctw_labels.specs.declared.tag.Tag.{Tag}
use Rattle.ctw_sites.specs.Rows.{rest_of, rests, Row, given_at, done}
use Rattle.ctw_sites.specs.Stacks.{on_innermost}

rest_short : (o : Operands Tag) → length (rest_of o).slots ≤ length o.slots
rest_short o = by_slots o.dead o.slots
  where
    by_slots : (d : Bool) (xs : _) → length (unwrap_or (option_map (λ p. p.rest) (pop_from {S = Tag} d xs)) (record { dead = d; slots = xs })).slots ≤ length xs
    by_slots d (x ∷ xs) = omega arith
    by_slots true [] = omega arith
    by_slots false [] = omega arith

rests_short : (k : ℕ) (o : Operands Tag) → length (rests k o).slots ≤ length o.slots
rests_short zero o = omega arith
rests_short (suc k) o = let h = rest_short (rests k o) in let g = rests_short k o in omega arith

pub take_short : (k : ℕ) (b : List (Open Tag)) → slot_count (on_innermost (rests k) b) ≤ slot_count b
take_short k [] = omega arith
take_short k (v ∷ outer) = let h = rests_short k v.operands in omega (arith, h, slot_count-cons v outer, slot_count-cons (with_operands v (rests k v.operands)) outer)

pushed_short : (t : Option (ValueType Tag)) (o : Operands Tag) → length (pushes (optional t) o).slots ≤ length o.slots + 1
pushed_short None o = omega arith
pushed_short (Some t) o = omega arith

ended_short : (e : Bool) (k : ℕ) (o : Operands Tag) → length (if e then killed else rests k o).slots ≤ length o.slots
ended_short true k o = omega arith
ended_short false k o = rests_short k o

pub done_short : (p : ℕ) (r : Row) (b : List (Open Tag)) → slot_count (on_innermost (done p r) b) ≤ slot_count b + 1
done_short p r [] = omega arith
done_short p r (v ∷ outer) =
    let h = pushed_short (given_at p r) (if r.ends then killed else rests r.takes v.operands) in
    let g = ended_short r.ends r.takes v.operands in
    omega (arith, h, g, slot_count-cons v outer, slot_count-cons (with_operands v (done p r v.operands)) outer)
