-- The standard's signed divisions, against the machine's words for them.
use Rattle.std.proofs.Common.{◌≡◌, ℕ, zero, suc, ◌-◌, ◌/◌, ◌^◌, ◌<◌, ◌≤◌, true, false, cond, ℤ, pos, negsuc, neg_ℤ, ◌+ℤ◌, ◌*ℤ◌, unsigned_abs, int_div, int_rem, int_eq, Ok, Err, refl, sym, ap, ap₂, ◌∙◌, subst, arith, div-le_self, lt_of_le_of_lt, ⊎_elim}
use Rattle.std.proofs.lemmas.Int.{quot-rem, rem_below}
use Rattle.std.proofs.lemmas.Bool.{cases_lt, ne_eqb}
use Rattle.std.proofs.lemmas.Bool.Decides.{nat_tests}
use Rattle.std.specs.Int.Signed.{mag}
use Rattle.ctw_num.specs.Integers.{signed, unsigned, truncated, remainder, idiv_s, irem_s}
use Rattle.ctw_num.specs.declared.trap.NumTrap.TheVariants.{DivZero, DivOverflow}

pub truncated_is : (j k : ℤ) → int_div j k ≡ truncated j k
unfolding truncated
truncated_is (pos a) (pos b) = refl
truncated_is (pos a) (negsuc b) = refl
truncated_is (negsuc a) (pos b) = refl
truncated_is (negsuc a) (negsuc b) = refl

pub remainder_is : (j k : ℤ) → int_rem j k ≡ remainder j k
unfolding remainder
remainder_is (pos a) k = refl
remainder_is (negsuc a) k = refl

-- a quotient times the divisor, and the remainder, make the dividend
pub quotient_and_remainder : (j k : ℤ) → truncated j k *ℤ k +ℤ remainder j k ≡ j
quotient_and_remainder j k = ap₂ (λ q r. q *ℤ k +ℤ r) (sym (truncated_is j k)) (sym (remainder_is j k)) ∙ quot-rem j k

-- the remainder is less than the divisor, signs apart
pub remainder_size : (j k : ℤ) → 0 < unsigned_abs k → unsigned_abs (remainder j k) < unsigned_abs k
remainder_size j k h = subst (λ r. unsigned_abs r < unsigned_abs k) (remainder_is j k) (rem_below j k h)

mag-neg : (n m : ℕ) → n ≤ suc m → mag (neg_ℤ (pos n)) ≤ m
mag-neg zero m h = omega arith
mag-neg (suc n) m h = omega arith

-- the one quotient of numbers from -H to H - 1 that isn't among them is H
unfit_quotient : (H : ℕ) (j k : ℤ) → mag j < H → (mag (int_div j k) < H → ⊥) → int_div j k ≡ pos H
unfit_quotient H (pos a) (pos b) h excluded = absurd (excluded (lt_of_le_of_lt (div-le_self a b) h))
unfit_quotient H (pos a) (negsuc b) h excluded =
    let least : a / suc b ≤ a = div-le_self a (suc b) in
    absurd (excluded (lt_of_le_of_lt (mag-neg (a / suc b) a (omega arith)) h))
unfit_quotient H (negsuc a) (pos b) h excluded = absurd (excluded (lt_of_le_of_lt (mag-neg (suc a / b) a (div-le_self (suc a) b)) h))
unfit_quotient H (negsuc a) (negsuc b) h excluded =
    let most : suc a / suc b ≤ suc a = div-le_self (suc a) (suc b) in
    ap pos (⊎_elim (λ small. absurd (excluded small)) (λ large. omega arith) (cases_lt (suc a / suc b) H))

fit_quotient : (H : ℕ) (z : ℤ) → mag z < H → int_eq z (pos H) ≡ false
fit_quotient H (pos n) h = grind (arith, nat_tests)
fit_quotient H (negsuc n) h = refl

same_quotient : (H : ℕ) → int_eq (pos H) (pos H) ≡ true
same_quotient H = grind (arith, nat_tests)

-- ---- what the code finds, where b isn't 0

pub quotient_fits : (N a b : ℕ) (j k : ℤ) → (b ≡ 0 → ⊥) → j ≡ signed N a → k ≡ signed N b → mag (int_div j k) < 2 ^ (N - 1) → Ok (unsigned N (int_div j k)) ≡ idiv_s N a b
unfolding idiv_s
quotient_fits N a b j k nonzero p q fits =
    let same : int_div j k ≡ truncated (signed N a) (signed N b) = ap₂ int_div p q ∙ truncated_is (signed N a) (signed N b) in
    let small : mag (truncated (signed N a) (signed N b)) < 2 ^ (N - 1) = subst (λ z. mag z < 2 ^ (N - 1)) same fits in
    ap (λ z. Ok (unsigned N z)) same
    ∙ sym (ap (λ t. cond t (Err DivOverflow) (Ok (unsigned N (truncated (signed N a) (signed N b))))) (fit_quotient (2 ^ (N - 1)) (truncated (signed N a) (signed N b)) small))
    ∙ sym (ap (λ t. cond t (Err DivZero) (cond (int_eq (truncated (signed N a) (signed N b)) (pos (2 ^ (N - 1)))) (Err DivOverflow) (Ok (unsigned N (truncated (signed N a) (signed N b)))))) (ne_eqb b 0 nonzero))

pub quotient_overflows : (N a b : ℕ) (j k : ℤ) → (b ≡ 0 → ⊥) → j ≡ signed N a → k ≡ signed N b → mag j < 2 ^ (N - 1) → (mag (int_div j k) < 2 ^ (N - 1) → ⊥) → Err DivOverflow ≡ idiv_s N a b
unfolding idiv_s
quotient_overflows N a b j k nonzero p q least excluded =
    let same : truncated (signed N a) (signed N b) ≡ pos (2 ^ (N - 1)) =
    sym (truncated_is (signed N a) (signed N b)) ∙ sym (ap₂ int_div p q) ∙ unfit_quotient (2 ^ (N - 1)) j k least excluded in
    sym (ap (λ t. cond t (Err DivOverflow) (Ok (unsigned N (truncated (signed N a) (signed N b))))) (ap (λ z. int_eq z (pos (2 ^ (N - 1)))) same ∙ same_quotient (2 ^ (N - 1))))
    ∙ sym (ap (λ t. cond t (Err DivZero) (cond (int_eq (truncated (signed N a) (signed N b)) (pos (2 ^ (N - 1)))) (Err DivOverflow) (Ok (unsigned N (truncated (signed N a) (signed N b)))))) (ne_eqb b 0 nonzero))

pub remainder_given : (N a b : ℕ) (j k : ℤ) → (b ≡ 0 → ⊥) → j ≡ signed N a → k ≡ signed N b → Ok (unsigned N (int_rem j k)) ≡ irem_s N a b
unfolding irem_s
remainder_given N a b j k nonzero p q =
    ap (λ z. Ok (unsigned N z)) (ap₂ int_rem p q ∙ remainder_is (signed N a) (signed N b))
    ∙ sym (ap (λ t. cond t (Err DivZero) (Ok (unsigned N (remainder (signed N a) (signed N b))))) (ne_eqb b 0 nonzero))
