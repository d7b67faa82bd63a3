-- How many blocks are open and how many slots they hold, after a call.
use Rattle.std.proofs.Common.{◌≡◌, ℕ, ◌+◌, ◌≤◌, Bool, true, false, List, [], ◌∷◌, Option, Some, length, refl, ap, subst, arith}
use Rattle.std.proofs.lemmas.List.Sums.{sum_by-cons}
use Rattle.ctw_ops.specs.Types.{ValueType}
use Rattle.ctw_stack.specs.declared.slot.Slot.{Slot}
use Rattle.ctw_stack.specs.declared.slot.Slot.TheVariants.{Unknown}
use Rattle.ctw_stack.specs.Operands.{Operands, pop_from, push, killed}
use Rattle.ctw_stack.specs.Opens.{Open, opened, Taken, with_operands, taken_from, slot_count, after_push, after_pop, after_enter, after_kill, after_leave}

abbrev pub own_count : {S : Type 0} → Open S → ℕ
own_count b = length b.operands.slots

pub slot_count-cons : {S : Type 0} (b : Open S) (bs : List (Open S)) → slot_count (b ∷ bs) ≡ own_count b + slot_count bs
slot_count-cons b bs = sum_by-cons (λ (o : Open _). length o.operands.slots) b bs

pub length-after_push : {S : Type 0} (x : Slot S) (bs : List (Open S)) → length (after_push x bs) ≡ length bs
length-after_push x [] = refl
length-after_push x (b ∷ bs) = refl

pub slot_count-after_push : {S : Type 0} (x : Slot S) (bs : List (Open S)) → slot_count (after_push x bs) ≤ slot_count bs + 1
slot_count-after_push x [] = omega arith
slot_count-after_push x (b ∷ bs) = omega (arith, slot_count-cons b bs, slot_count-cons (with_operands b (push x b.operands)) bs)

pub length-after_kill : {S : Type 0} (bs : List (Open S)) → length (after_kill bs) ≡ length bs
length-after_kill [] = refl
length-after_kill (b ∷ bs) = refl

pub slot_count-after_kill : {S : Type 0} (bs : List (Open S)) → slot_count (after_kill bs) ≤ slot_count bs
slot_count-after_kill [] = omega arith
slot_count-after_kill (b ∷ bs) = omega (arith, slot_count-cons b bs, slot_count-cons (with_operands b killed) bs)

pub slot_count-after_enter : {S : Type 0} (loops : Bool) (yields : Option (ValueType S)) (bs : List (Open S)) → slot_count (after_enter loops yields bs) ≡ slot_count bs
slot_count-after_enter loops yields bs = omega (arith, slot_count-cons (opened loops yields) bs)

pub slot_count-after_leave : {S : Type 0} (bs : List (Open S)) → slot_count (after_leave bs) ≤ slot_count bs
slot_count-after_leave [] = omega arith
slot_count-after_leave (b ∷ bs) = omega (arith, slot_count-cons b bs)

-- what a pop leaves
pub record IsLeft {S : Type 0} (old new : List (Open S)) : Type 0 where
  pub blocks : length new ≡ length old
  pub slots : slot_count new ≤ slot_count old

pub left_by_pop : {S : Type 0} (bs : List (Open S)) (p : Taken S) → after_pop bs ≡ Some p → IsLeft bs p.blocks
left_by_pop [] p e = absurd cc
left_by_pop {S} (b ∷ bs) p e = by_pop b.operands.dead b.operands.slots refl e
  where
    some_same : {A : Type 0} {x y : A} → Some x ≡ Some y → x ≡ y
    some_same q = cc

    by_rest : (o : Operands S) → length o.slots ≤ own_count b → (x : Slot S) → Some (record { slot = x; blocks = with_operands b o ∷ bs }) ≡ Some p → IsLeft (b ∷ bs) p.blocks
    by_rest o h x q =
        let left : IsLeft (b ∷ bs) (with_operands b o ∷ bs) = record { blocks = refl; slots = omega (arith, h, slot_count-cons b bs, slot_count-cons (with_operands b o) bs) } in
        subst (λ z. IsLeft (b ∷ bs) z) (ap (λ (z : Taken S). z.blocks) (some_same q)) left

    by_pop : (dead : Bool) (xs : List (Slot S)) → length xs ≡ own_count b → taken_from b bs (pop_from dead xs) ≡ Some p → IsLeft (b ∷ bs) p.blocks
    by_pop dead (x ∷ xs) n q = by_rest (record { dead = dead; slots = xs }) (omega (arith, n)) x q
    by_pop true [] n q = by_rest killed (omega arith) Unknown q
    by_pop false [] n q = absurd cc
