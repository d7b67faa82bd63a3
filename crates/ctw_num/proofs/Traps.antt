-- The two ways in which an operation has no value.
use Rattle.std.proofs.Common.{◌≡◌, ℕ, zero, suc, ◌-◌, ◌*◌, ◌/◌, ◌%◌, ◌^◌, ◌<◌, ◌≤◌, ◌↔◌, Bool, true, false, cond, ◌==◌, ℤ, pos, negsuc, neg_ℤ, unsigned_abs, int_eq, Option, Some, None, Result, Ok, Err, IsOk, true≢false, refl, sym, ap, ◌∙◌, subst, arith, inl, inr, ⊎_elim, div-le_self, div-mul-le_self, div-one, mul-suc, w32, w64, SFits, lit<}
use Rattle.std.proofs.Math.Facts.{sfits_to_z}
use Rattle.std.proofs.lemmas.Bool.{cond_both, cond-true, cond-false, eqb-true, or_cases, or_left, or_right}
use Rattle.std.proofs.lemmas.Option.{same_Some}
use Rattle.std.specs.Prelude.{option_map}
use Rattle.std.proofs.lemmas.Bool.Decides.{Decides-int_eq, nat_tests}
use Rattle.std.specs.Int.{cast_signed}
use Rattle.std.specs.Int.Signed.{mag}
use Rattle.ctw_ops.specs.declared.types.Width.TheVariants.{W32, W64}
use Rattle.ctw_ops.specs.declared.numeric.NumSig.{NumSig}
use Rattle.ctw_ops.specs.Types.{FitsWidth}
use Rattle.ctw_ops.specs.Numeric.{within, num_sig_of, is_timed}
use Rattle.ctw_num.specs.Integers.{signed, unsigned, truncated, remainder, idiv_u, idiv_s, irem_u, irem_s}
use Rattle.ctw_num.specs.declared.trap.NumTrap.{NumTrap}
use Rattle.ctw_num.specs.declared.trap.NumTrap.TheVariants.{DivZero, DivOverflow}
use Rattle.ctw_num.specs.Values.{division32, division64, comparison32, comparison64, shift32, shift64, arithmetic32, arithmetic64, binary32, binary64, by_width, value2, DividesLeastByMinusOne}
use Rattle.ctw_num.proofs.Signs.{signed32, signed64, unsigned-signed32, unsigned-signed64}
use Rattle.ctw_num.proofs.Signatures.{timed_narrow, timed_wide}
use Rattle.ctw_num.proofs.Sizes.{by_operand}
use Rattle.ctw_num.proofs.Values.{value2_of}

given : (n : ℕ) (e : NumTrap) → Ok n ≡ Err e → ⊥
given n e h = cc

other : (x y : Result ℕ NumTrap) → x ≡ Err DivOverflow → y ≡ Err DivZero → x ≡ y → ⊥
other x y p q h = cc

-- ---- where value2 is a division

at_division32 : (op a b : ℕ) (sig : NumSig) → num_sig_of op ≡ Some sig → within 0x6D 0x70 op ≡ true → value2 op a b ≡ division32 op a b
unfolding binary32
at_division32 op a b sig s e =
    let apart : within 0x46 0x4F op ≡ false = grind (arith, nat_tests) in
    value2_of op a b sig s ∙ ap (λ w. by_width w (binary32 op a b) (binary64 op a b)) (timed_narrow op sig s e)
    ∙ cond-false (within 0x46 0x4F op) _ _ apart ∙ cond-true (within 0x6D 0x70 op) _ _ e

at_division64 : (op a b : ℕ) (sig : NumSig) → num_sig_of op ≡ Some sig → within 0x7F 0x82 op ≡ true → value2 op a b ≡ division64 op a b
unfolding binary64
at_division64 op a b sig s e =
    let apart : within 0x51 0x5A op ≡ false = grind (arith, nat_tests) in
    value2_of op a b sig s ∙ ap (λ w. by_width w (binary32 op a b) (binary64 op a b)) (timed_wide op sig s e)
    ∙ cond-false (within 0x51 0x5A op) _ _ apart ∙ cond-true (within 0x7F 0x82 op) _ _ e

no_error : (e : NumTrap) (o : Option ℕ) → option_map Ok o ≡ Some (Err e) → ⊥
no_error e None h = cc
no_error e (Some n) h = given n e (same_Some (Ok n) (Err e) h)

past : (e : NumTrap) (P : Type 0) (t : Bool) (o : Option ℕ) (r : Option (Result ℕ NumTrap)) → (r ≡ Some (Err e) → P) → cond t (option_map Ok o) r ≡ Some (Err e) → P
past e P true o r f h = absurd (no_error e o h)
past e P false o r f h = f h

divides : (e : NumTrap) (P : Type 0) (t : Bool) (q r : Option (Result ℕ NumTrap)) → (t ≡ true → q ≡ Some (Err e) → P) → (r ≡ Some (Err e) → P) → cond t q r ≡ Some (Err e) → P
divides e P true q r f g h = f refl h
divides e P false q r f g h = g h

-- an error comes from a division
from_error : (e : NumTrap) (P : Type 0) (op a b : ℕ) (sig : NumSig) → num_sig_of op ≡ Some sig
    → (sig.operand ≡ W32 → within 0x6D 0x70 op ≡ true → division32 op a b ≡ Some (Err e) → P)
    → (sig.operand ≡ W64 → within 0x7F 0x82 op ≡ true → division64 op a b ≡ Some (Err e) → P)
    → value2 op a b ≡ Some (Err e) → P
unfolding binary32 binary64
from_error e P op a b sig s narrow wide h =
    by_operand sig.operand (λ (r : Option (Result ℕ NumTrap)). r ≡ Some (Err e) → P) (binary32 op a b) (binary64 op a b)
    (λ w. past e P (within 0x46 0x4F op) (comparison32 op a b) _
    (divides e P (within 0x6D 0x70 op) (division32 op a b) _ (narrow w)
    (past e P (within 0x74 0x78 op) (shift32 op a b) _ (λ h. absurd (no_error e (arithmetic32 op a b) h)))))
    (λ w. past e P (within 0x51 0x5A op) (comparison64 op a b) _
    (divides e P (within 0x7F 0x82 op) (division64 op a b) _ (wide w)
    (past e P (within 0x86 0x8A op) (shift64 op a b) _ (λ h. absurd (no_error e (arithmetic64 op a b) h)))))
    (sym (value2_of op a b sig s) ∙ h)

-- what holds of each of four rows, and of none of them, holds of the table
four : (P : Option (Result ℕ NumTrap) → Type 0) (s t u v : Bool) (p q r x : Result ℕ NumTrap) → (s ≡ true → P (Some p)) → P (Some q) → P (Some r) → P (Some x)
    → (s ≡ false → t ≡ false → u ≡ false → v ≡ false → P None) → P (cond s (Some p) (cond t (Some q) (cond u (Some r) (cond v (Some x) None))))
four P true t u v p q r x f g h k l = f refl
four P false true u v p q r x f g h k l = g
four P false false true v p q r x f g h k l = h
four P false false false true p q r x f g h k l = k
four P false false false false p q r x f g h k l = l refl refl refl refl

-- an error of a row
row : {P : Type 0} (e : NumTrap) (r : Result ℕ NumTrap) → (r ≡ Err e → P) → Some r ≡ Some (Err e) → P
row e r f h = f (same_Some r (Err e) h)

no_row : {P : Type 0} (e : NumTrap) (o : Option (Result ℕ NumTrap)) → o ≡ None → o ≡ Some (Err e) → P
no_row e o n h = absurd cc

-- ---- by zero

-- a test for a divisor of zero, and what follows it
zero_divisor : (b : ℕ) (r : Result ℕ NumTrap) → (r ≡ Err DivZero → ⊥) → cond (b == 0) (Err DivZero) r ≡ Err DivZero → b ≡ 0
zero_divisor b r excluded = cond_both (b == 0) (Err DivZero) r (λ q. q ≡ Err DivZero → b ≡ 0) (λ e h. eqb-true b 0 e) (λ e h. absurd (excluded h))

div_s_zero : (N a b : ℕ) → idiv_s N a b ≡ Err DivZero → b ≡ 0
unfolding idiv_s
div_s_zero N a b =
    let t = int_eq (truncated (signed N a) (signed N b)) (pos (2 ^ (N - 1))) in
    let n = unsigned N (truncated (signed N a) (signed N b)) in
    zero_divisor b (cond t (Err DivOverflow) (Ok n)) (cond_both t (Err DivOverflow) (Ok n) (λ q. q ≡ Err DivZero → ⊥) (λ e h. other (Err DivOverflow) (Err DivZero) refl refl h) (λ e h. given n DivZero h))

rem_s_zero : (N a b : ℕ) → irem_s N a b ≡ Err DivZero → b ≡ 0
unfolding irem_s
rem_s_zero N a b = zero_divisor b (Ok (unsigned N (remainder (signed N a) (signed N b)))) (given (unsigned N (remainder (signed N a) (signed N b))) DivZero)

no_fifth32 : (op : ℕ) → within 0x6D 0x70 op ≡ true → (op == 0x6D) ≡ false → (op == 0x6E) ≡ false → (op == 0x6F) ≡ false → (op == 0x70) ≡ false → ⊥
no_fifth32 op l s t u v = grind (arith, nat_tests)

division32_zero : (op a b : ℕ) → division32 op a b ≡ Some (Err DivZero) → b ≡ 0
unfolding division32
division32_zero op a b =
    four (λ r. r ≡ Some (Err DivZero) → b ≡ 0) (op == 0x6D) (op == 0x6E) (op == 0x6F) (op == 0x70) (idiv_s 32 a b) (idiv_u a b) (irem_s 32 a b) (irem_u a b)
    (λ e. row DivZero _ (div_s_zero 32 a b)) (row DivZero _ (zero_divisor b (Ok (a / b)) (given (a / b) DivZero))) (row DivZero _ (rem_s_zero 32 a b))
    (row DivZero _ (zero_divisor b (Ok (a % b)) (given (a % b) DivZero))) (λ s t u v. no_row DivZero _ refl)

division32-zero : (op a b : ℕ) → within 0x6D 0x70 op ≡ true → b ≡ 0 → division32 op a b ≡ Some (Err DivZero)
unfolding division32 idiv_s irem_s
division32-zero op a b listed none = subst (λ d. division32 op a d ≡ Some (Err DivZero)) (sym none)
    (four (λ r. r ≡ Some (Err DivZero)) (op == 0x6D) (op == 0x6E) (op == 0x6F) (op == 0x70) (idiv_s 32 a 0) (idiv_u a 0) (irem_s 32 a 0) (irem_u a 0) (λ e. refl) refl refl refl
    (λ s t u v. absurd (no_fifth32 op listed s t u v)))

no_fifth64 : (op : ℕ) → within 0x7F 0x82 op ≡ true → (op == 0x7F) ≡ false → (op == 0x80) ≡ false → (op == 0x81) ≡ false → (op == 0x82) ≡ false → ⊥
no_fifth64 op l s t u v = grind (arith, nat_tests)

division64_zero : (op a b : ℕ) → division64 op a b ≡ Some (Err DivZero) → b ≡ 0
unfolding division64
division64_zero op a b =
    four (λ r. r ≡ Some (Err DivZero) → b ≡ 0) (op == 0x7F) (op == 0x80) (op == 0x81) (op == 0x82) (idiv_s 64 a b) (idiv_u a b) (irem_s 64 a b) (irem_u a b)
    (λ e. row DivZero _ (div_s_zero 64 a b)) (row DivZero _ (zero_divisor b (Ok (a / b)) (given (a / b) DivZero))) (row DivZero _ (rem_s_zero 64 a b))
    (row DivZero _ (zero_divisor b (Ok (a % b)) (given (a % b) DivZero))) (λ s t u v. no_row DivZero _ refl)

division64-zero : (op a b : ℕ) → within 0x7F 0x82 op ≡ true → b ≡ 0 → division64 op a b ≡ Some (Err DivZero)
unfolding division64 idiv_s irem_s
division64-zero op a b listed none = subst (λ d. division64 op a d ≡ Some (Err DivZero)) (sym none)
    (four (λ r. r ≡ Some (Err DivZero)) (op == 0x7F) (op == 0x80) (op == 0x81) (op == 0x82) (idiv_s 64 a 0) (idiv_u a 0) (irem_s 64 a 0) (irem_u a 0) (λ e. refl) refl refl refl
    (λ s t u v. absurd (no_fifth64 op listed s t u v)))

-- an operation without a value is a timed one
timed_error : (e : NumTrap) (op a b : ℕ) (sig : NumSig) → num_sig_of op ≡ Some sig → value2 op a b ≡ Some (Err e) → is_timed op ≡ true
unfolding is_timed
timed_error e op a b sig s =
    from_error e (is_timed op ≡ true) op a b sig s
    (λ w t h. or_left (within 0x6D 0x70 op) (within 0x7F 0x82 op) t)
    (λ w t h. or_right (within 0x6D 0x70 op) (within 0x7F 0x82 op) t)

-- so any other has one
pub untimed : (op a b : ℕ) (r : Result ℕ NumTrap) (sig : NumSig) → num_sig_of op ≡ Some sig → value2 op a b ≡ Some r → is_timed op ≡ false → IsOk r
untimed op a b (Ok n) sig s e h = refl
untimed op a b (Err t) sig s e h = absurd (true≢false (sym (timed_error t op a b sig s e) ∙ h))

-- DivZero is the answer exactly where a timed operation has the divisor 0
pub zero_exactly : (op a b : ℕ) (r : Result ℕ NumTrap) (sig : NumSig) → num_sig_of op ≡ Some sig → value2 op a b ≡ Some r → (r ≡ Err DivZero) ↔ ((is_timed op ≡ true) × (b ≡ 0))
unfolding is_timed
zero_exactly op a b r sig s v = (
  λ z. from_error DivZero ((is_timed op ≡ true) × (b ≡ 0)) op a b sig s
      (λ w e h. (or_left (within 0x6D 0x70 op) (within 0x7F 0x82 op) e, division32_zero op a b h))
      (λ w e h. (or_right (within 0x6D 0x70 op) (within 0x7F 0x82 op) e, division64_zero op a b h))
      (v ∙ ap Some z),
  λ h. same_Some r (Err DivZero) (sym v ∙ ⊎_elim
      (λ e. at_division32 op a b sig s e ∙ division32-zero op a b e h.1)
      (λ e. at_division64 op a b sig s e ∙ division64-zero op a b e h.1)
      (or_cases (within 0x6D 0x70 op) (within 0x7F 0x82 op) h.0)),
)

-- ---- the least number by -1

negated : (n H : ℕ) → neg_ℤ (pos n) ≡ pos H → H ≡ 0
negated zero H h = sym (ap unsigned_abs h)
negated (suc n) H h = absurd (cc)

-- only the least number by -1 has the quotient H
least_by_minus_one : (H : ℕ) (j k : ℤ) → 0 < H → mag j < H → truncated j k ≡ pos H → (j ≡ negsuc (H - 1)) × (k ≡ negsuc 0)
unfolding truncated
least_by_minus_one H (pos x) (pos y) some h e =
    let size : x / y ≡ H = ap unsigned_abs e in absurd (omega (arith, div-le_self x y))
least_by_minus_one H (pos x) (negsuc y) some h e = absurd (omega (arith, negated (x / suc y) H e))
least_by_minus_one H (negsuc x) (pos y) some h e = absurd (omega (arith, negated (suc x / y) H e))
least_by_minus_one H (negsuc x) (negsuc zero) some h e =
    let size : suc x / 1 ≡ H = ap unsigned_abs e in
    (ap negsuc (omega (arith, div-one (suc x))), refl)
least_by_minus_one H (negsuc x) (negsuc (suc y)) some h e =
    let size : suc x / suc (suc y) ≡ H = ap unsigned_abs e in
    let product : H * suc (suc y) ≤ suc x = subst (λ q. q * suc (suc y) ≤ suc x) size (div-mul-le_self (suc x) (suc (suc y))) in
    absurd (omega (arith, mul-suc H (suc y), mul-suc H y))

overflow_quotient : (N a b : ℕ) → idiv_s N a b ≡ Err DivOverflow → truncated (signed N a) (signed N b) ≡ pos (2 ^ (N - 1))
unfolding idiv_s
overflow_quotient N a b =
    let z = truncated (signed N a) (signed N b) in
    let rest = cond (int_eq z (pos (2 ^ (N - 1)))) (Err DivOverflow) (Ok (unsigned N z)) in
    cond_both (b == 0) (Err DivZero) rest (λ r. r ≡ Err DivOverflow → z ≡ pos (2 ^ (N - 1)))
    (λ e h. absurd (other (Err DivOverflow) (Err DivZero) refl refl (sym h)))
    (λ e. cond_both (int_eq z (pos (2 ^ (N - 1)))) (Err DivOverflow) (Ok (unsigned N z)) (λ r. r ≡ Err DivOverflow → z ≡ pos (2 ^ (N - 1)))
    (λ f h. (Decides-int_eq z (pos (2 ^ (N - 1)))).0 f)
    (λ f h. absurd (given (unsigned N z) DivOverflow h)))

never_overflows : (b n : ℕ) → cond (b == 0) (Err DivZero) (Ok n) ≡ Err DivOverflow → ⊥
never_overflows b n = cond_both (b == 0) (Err DivZero) (Ok n) (λ r. r ≡ Err DivOverflow → ⊥)
    (λ e h. other (Err DivOverflow) (Err DivZero) refl refl (sym h)) (λ e h. given n DivOverflow h)

rem_s_never : (N a b : ℕ) → irem_s N a b ≡ Err DivOverflow → ⊥
unfolding irem_s
rem_s_never N a b = never_overflows b (unsigned N (remainder (signed N a) (signed N b)))

div_s_overflow32 : (a b : ℕ) → a < 2 ^ 32 → b < 2 ^ 32 → idiv_s 32 a b ≡ Err DivOverflow → (a ≡ 2 ^ 31) × (b ≡ 2 ^ 32 - 1)
unfolding unsigned
div_s_overflow32 a b h k e =
    let fits : SFits w32 (cast_signed w32 a) = sfits_to_z {w = w32} (record { fits = h }) in
    let size : mag (signed 32 a) < 2 ^ 31 = subst (λ z. mag z < 2 ^ 31) (signed32 a h) fits.sfits in
    let both = least_by_minus_one (2 ^ 31) (signed 32 a) (signed 32 b) (lit< tt) size (overflow_quotient 32 a b e) in
    (sym (unsigned-signed32 a h) ∙ ap (unsigned 32) both.0, sym (unsigned-signed32 b k) ∙ ap (unsigned 32) both.1)

division32_overflow : (op a b : ℕ) → a < 2 ^ 32 → b < 2 ^ 32 → division32 op a b ≡ Some (Err DivOverflow) → (op ≡ 0x6D) × (a ≡ 2 ^ 31) × (b ≡ 2 ^ 32 - 1)
unfolding division32
division32_overflow op a b fa fb =
    four (λ r. r ≡ Some (Err DivOverflow) → (op ≡ 0x6D) × (a ≡ 2 ^ 31) × (b ≡ 2 ^ 32 - 1)) (op == 0x6D) (op == 0x6E) (op == 0x6F) (op == 0x70) (idiv_s 32 a b) (idiv_u a b) (irem_s 32 a b) (irem_u a b)
    (λ e. row DivOverflow _ (λ h. let both = div_s_overflow32 a b fa fb h in (eqb-true op 0x6D e, both.0, both.1)))
    (row DivOverflow _ (λ h. absurd (never_overflows b (a / b) h))) (row DivOverflow _ (λ h. absurd (rem_s_never 32 a b h))) (row DivOverflow _ (λ h. absurd (never_overflows b (a % b) h)))
    (λ s t u v. no_row DivOverflow _ refl)

overflow32 : (op a b : ℕ) → (op ≡ 0x6D) × (a ≡ 2 ^ 31) × (b ≡ 2 ^ 32 - 1) → value2 op a b ≡ Some (Err DivOverflow)
unfolding value2 binary32 division32 idiv_s truncated signed num_sig_of
overflow32 op a b (e, f, g) = ap (λ o. value2 o a b) e ∙ ap (λ n. value2 0x6D n b) f ∙ ap (λ n. value2 0x6D (2 ^ 31) n) g

div_s_overflow64 : (a b : ℕ) → a < 2 ^ 64 → b < 2 ^ 64 → idiv_s 64 a b ≡ Err DivOverflow → (a ≡ 2 ^ 63) × (b ≡ 2 ^ 64 - 1)
unfolding unsigned
div_s_overflow64 a b h k e =
    let fits : SFits w64 (cast_signed w64 a) = sfits_to_z {w = w64} (record { fits = h }) in
    let size : mag (signed 64 a) < 2 ^ 63 = subst (λ z. mag z < 2 ^ 63) (signed64 a h) fits.sfits in
    let both = least_by_minus_one (2 ^ 63) (signed 64 a) (signed 64 b) (lit< tt) size (overflow_quotient 64 a b e) in
    (sym (unsigned-signed64 a h) ∙ ap (unsigned 64) both.0, sym (unsigned-signed64 b k) ∙ ap (unsigned 64) both.1)

division64_overflow : (op a b : ℕ) → a < 2 ^ 64 → b < 2 ^ 64 → division64 op a b ≡ Some (Err DivOverflow) → (op ≡ 0x7F) × (a ≡ 2 ^ 63) × (b ≡ 2 ^ 64 - 1)
unfolding division64
division64_overflow op a b fa fb =
    four (λ r. r ≡ Some (Err DivOverflow) → (op ≡ 0x7F) × (a ≡ 2 ^ 63) × (b ≡ 2 ^ 64 - 1)) (op == 0x7F) (op == 0x80) (op == 0x81) (op == 0x82) (idiv_s 64 a b) (idiv_u a b) (irem_s 64 a b) (irem_u a b)
    (λ e. row DivOverflow _ (λ h. let both = div_s_overflow64 a b fa fb h in (eqb-true op 0x7F e, both.0, both.1)))
    (row DivOverflow _ (λ h. absurd (never_overflows b (a / b) h))) (row DivOverflow _ (λ h. absurd (rem_s_never 64 a b h))) (row DivOverflow _ (λ h. absurd (never_overflows b (a % b) h)))
    (λ s t u v. no_row DivOverflow _ refl)

overflow64 : (op a b : ℕ) → (op ≡ 0x7F) × (a ≡ 2 ^ 63) × (b ≡ 2 ^ 64 - 1) → value2 op a b ≡ Some (Err DivOverflow)
unfolding value2 binary64 division64 idiv_s truncated signed num_sig_of
overflow64 op a b (e, f, g) = ap (λ o. value2 o a b) e ∙ ap (λ n. value2 0x7F n b) f ∙ ap (λ n. value2 0x7F (2 ^ 63) n) g

-- DivOverflow is the answer exactly where div_s divides the least number by -1
pub overflow_exactly : (op a b : ℕ) (r : Result ℕ NumTrap) (sig : NumSig) → num_sig_of op ≡ Some sig → FitsWidth sig.operand a → FitsWidth sig.operand b → value2 op a b ≡ Some r
    → (r ≡ Err DivOverflow) ↔ DividesLeastByMinusOne op a b
overflow_exactly op a b r sig s h k v = (
  λ z. from_error DivOverflow (DividesLeastByMinusOne op a b) op a b sig s
      (λ w e d. inl (division32_overflow op a b (subst (λ v. FitsWidth v a) w h) (subst (λ v. FitsWidth v b) w k) d))
      (λ w e d. inr (division64_overflow op a b (subst (λ v. FitsWidth v a) w h) (subst (λ v. FitsWidth v b) w k) d))
      (v ∙ ap Some z),
  λ d. same_Some r (Err DivOverflow) (sym v ∙ ⊎_elim (overflow32 op a b) (overflow64 op a b) d),
)
