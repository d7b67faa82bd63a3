-- Words of operands and locals.
use Rattle.std.specs.Prelude.{◌==◌, true, false}
use Rattle.std.proofs.lemmas.Bool.Decides.{nat_tests}
use Rattle.std.proofs.Common.{◌≡◌, ℕ, ◌-◌, List, [], ◌∷◌, ◌++◌, length, slice_set, sym, ap, ◌∙◌, append_assoc, length-append, arith}
use Rattle.std.proofs.Math.Seq.{set-append_seam}
use Rattle.ctw_semantics.specs.Values.{Value}
use Rattle.ctw_step.specs.Stands.{numbers}

-- one operand more
pub numbers_push : (front : List ℕ) (v : Value) (vs : List Value) → (front ++ numbers vs) ++ v.number ∷ [] ≡ front ++ numbers (v ∷ vs)
numbers_push front v vs = append_assoc front (numbers vs) (v.number ∷ [])

pub set_last : (l front : List ℕ) (x y n : ℕ) → l ≡ front ++ x ∷ [] → n ≡ length l → slice_set l (n - 1) y ≡ front ++ y ∷ []
set_last l front x y n e q =
    let p : n - 1 ≡ length front = omega (arith, ap length e, length-append front (x ∷ [])) in
    ap (λ i. slice_set l i y) p ∙ ap (λ l. slice_set l (length front) y) e ∙ set-append_seam front x [] y

-- the last operand, and those below
pub numbers_top : (front : List ℕ) (v : Value) (vs : List Value) → front ++ numbers (v ∷ vs) ≡ (front ++ numbers vs) ++ v.number ∷ []
numbers_top front v vs = sym (append_assoc front (numbers vs) (v.number ∷ []))

pub numbers_two : (front : List ℕ) (w v : Value) (vs : List Value) → front ++ numbers (w ∷ v ∷ vs) ≡ (front ++ numbers vs) ++ v.number ∷ w.number ∷ []
numbers_two front w v vs =
    numbers_top front w (v ∷ vs) ∙ ap (λ l. l ++ w.number ∷ []) (numbers_top front v vs) ∙ append_assoc (front ++ numbers vs) (v.number ∷ []) (w.number ∷ [])

pub not_zero : (n m : ℕ) → n ≡ m → (n ≡ 0 → ⊥) → (m == 0) ≡ false
not_zero n m e h = grind (arith, nat_tests, e, h)

pub is_zero : (n m : ℕ) → n ≡ m → n ≡ 0 → (m == 0) ≡ true
is_zero n m e h = ap (λ m. m == 0) (sym e ∙ h)
