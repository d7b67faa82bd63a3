-- How many of a body's opcodes are classify instructions.
use Rattle.std.proofs.Common.{◌≡◌, ◌≤◌, ℕ, Bool, true, false, List, [], ◌∷◌, length, cond, refl, length-append, arith}
use mir.Val.{bool_byte}
use Rattle.std.specs.List.{count_by}
use Rattle.std.proofs.lemmas.List.Sums.{sum_by-cons}
use Rattle.ctw_ops.specs.declared.types.Label.{Label}
use Rattle.ctw_ops.specs.Code.{Op}
use Rattle.ctw_write.specs.Canon.{all_texts}
use Rattle.ctwasm_top.specs.Works.{is_classify}

abbrev pub one_if : Bool → ℕ
one_if b = cond b 1 0

pub byte_counts : (b : Bool) → bool_byte b ≡ one_if b
byte_counts true = refl
byte_counts false = refl

pub one_most : (b : Bool) → one_if b ≤ 1
one_most true = omega arith
one_most false = omega arith

-- a mark for each
abbrev pub marks_if : Bool → List ℕ
marks_if b = cond b (0 ∷ []) []

abbrev pub mark_of : Op Label → List ℕ
mark_of op = marks_if (is_classify op)

pub mark_counts : (b : Bool) → length (marks_if b) ≡ one_if b
mark_counts true = refl
mark_counts false = refl

pub marks_counted : (ops : List (Op Label)) → length (all_texts mark_of ops) ≡ count_by is_classify ops
marks_counted [] = refl
marks_counted (op ∷ ops) =
    omega (arith, length-append (mark_of op) (all_texts mark_of ops), mark_counts (is_classify op), marks_counted ops, sum_by-cons (λ (o : Op Label). one_if (is_classify o)) op ops)
