-- Texts of functions whose instructions open no block.
use Rattle.std.proofs.Common.{◌≡◌, ℕ, zero, suc, ◌+◌, ◌<◌, ◌≤◌, ◌^◌, ◌%◌, Bool, true, false, get_or, List, [], ◌∷◌, ◌++◌, length, refl, sym, ap, ◌∙◌, append_assoc, append-nil, arith, length-append}
use Rattle.std.specs.Prelude.{if◌then◌else◌, ◌==◌}
use Rattle.ctw_ops.specs.declared.types.Label.{Label}
use Rattle.ctw_ops.specs.Code.{Leaf, LocalGet, straight, Closes, ByEnd}
use Rattle.ctw_ops.specs.Numeric.{is_numeric}
use Rattle.ctw_leb.specs.Spelling.{shortest, u32_text}
use Rattle.ctw_write.specs.Canon.{all_texts, sized_text, leaf_text, op_text, body_text, code_text}
use Rattle.ctw_write.proofs.Pieces.{all_texts-append}
use Rattle.ctw_gen.specs.Workload.{operations, computes, stores, leaves, calls, function}
use Rattle.ctw_gen.proofs.Few.{computes_few, stores_long, calls_few}

straight_text : (leaves : List (Leaf Label)) → body_text (straight leaves) ≡ all_texts leaf_text leaves ++ op_text (Closes ByEnd)
straight_text [] = refl
straight_text (leaf ∷ leaves) = ap (λ (l : List ℕ). leaf_text leaf ++ l) (straight_text leaves) ∙ sym (append_assoc (leaf_text leaf) (all_texts leaf_text leaves) (op_text (Closes ByEnd)))

-- what stands behind the size of a function's code
abbrev pub entry_text : List (Leaf Label) → List ℕ
entry_text leaves = (u32_text 0 ++ all_texts leaf_text leaves) ++ op_text (Closes ByEnd)

pub code_is : (type : ℕ) (leaves : List (Leaf Label)) → code_text (function type leaves) ≡ sized_text (entry_text leaves)
code_is type leaves =
    ap sized_text (ap (λ (l : List ℕ). l ++ body_text (straight leaves)) (append-nil (u32_text 0)) ∙ ap (λ (l : List ℕ). u32_text 0 ++ l) (straight_text leaves)
    ∙ sym (append_assoc (u32_text 0) (all_texts leaf_text leaves) (op_text (Closes ByEnd))))

entry_long : (leaves : List (Leaf Label)) → length (entry_text leaves) ≡ length (all_texts leaf_text leaves) + 2
unfolding u32_text shortest
entry_long leaves = omega (arith, length-append (u32_text 0 ++ all_texts leaf_text leaves) (op_text (Closes ByEnd)), length-append (u32_text 0) (all_texts leaf_text leaves))

pub made_few : (a c b : ℕ) → c < 2 ^ 15 → length (entry_text (leaves a c b)) ≤ 30
made_few a c b lt = of (b % 2 == 1)
  where
    of : (stored : Bool) → length (entry_text (computes a c ++ (if stored then stores else []))) ≤ 30
    of false = omega (arith, entry_long (computes a c ++ []), ap length (all_texts-append leaf_text (computes a c) []), length-append (all_texts leaf_text (computes a c)) [], computes_few a c (omega arith))
    of true =
        omega (arith, entry_long (computes a c ++ stores), ap length (all_texts-append leaf_text (computes a c) stores), length-append (all_texts leaf_text (computes a c)) (all_texts leaf_text stores), computes_few a c (omega arith), stores_long)

pub main_few : (size : ℕ) → size ≤ 20000 → length (entry_text (LocalGet 0 ∷ calls size)) ≤ 160004
unfolding u32_text shortest
main_few size le =
    let whole : length (all_texts leaf_text (LocalGet 0 ∷ calls size)) ≡ suc (suc (length (all_texts leaf_text (calls size)))) = refl in
    omega (arith, whole, entry_long (LocalGet 0 ∷ calls size), calls_few size le)

-- an operation that is chosen has an opcode
pub operation_numeric : (i : ℕ) → i < 8 → is_numeric (get_or operations i 0) ≡ true
unfolding is_numeric
operation_numeric zero lt = refl
operation_numeric (suc zero) lt = refl
operation_numeric (suc (suc zero)) lt = refl
operation_numeric (suc (suc (suc zero))) lt = refl
operation_numeric (suc (suc (suc (suc zero)))) lt = refl
operation_numeric (suc (suc (suc (suc (suc zero))))) lt = refl
operation_numeric (suc (suc (suc (suc (suc (suc zero)))))) lt = refl
operation_numeric (suc (suc (suc (suc (suc (suc (suc zero))))))) lt = refl
operation_numeric (suc (suc (suc (suc (suc (suc (suc (suc i)))))))) lt = absurd (omega arith)

-- what is put together behind a function's size
pub entry_joined : (leaves : List (Leaf Label)) (start counted listed ended seen : List ℕ) → start ≡ [] → counted ≡ start ++ u32_text 0 → listed ≡ counted ++ all_texts leaf_text leaves → ended ≡ listed ++ op_text (Closes ByEnd) → seen ≡ ended
    → seen ≡ entry_text leaves
entry_joined leaves start counted listed ended seen e f g h s =
    s ∙ h ∙ ap (λ (l : List ℕ). l ++ op_text (Closes ByEnd)) (g ∙ ap (λ (l : List ℕ). l ++ all_texts leaf_text leaves) (f ∙ ap (λ (l : List ℕ). l ++ u32_text 0) e))
