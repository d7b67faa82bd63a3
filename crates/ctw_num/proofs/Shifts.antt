-- The standard's shifts and rotations, against the machine's words for them.
use Rattle.std.proofs.Common.{◌≡◌, ℕ, zero, suc, ◌+◌, ◌-◌, ◌*◌, ◌/◌, ◌%◌, ◌^◌, ◌<◌, ◌≤◌, pos, negsuc, sym, ap, ap₂, ◌∙◌, subst, arith, bit_or, w32, w64, ⊎_elim, add-mul, suc-mul, mul-one, div-one, add-zero, pow_pos, pow_mono, one-mul, zero-mul, zero-add}
use Rattle.std.proofs.Math.Nat.{mod-eq_of_lt, mod-lt, mod_self, mod-one, mul-mod_left, div-eq_of_lt}
use Rattle.std.proofs.lemmas.Nat.{mod-pow-add, pow-add, shl-shr, shr_below, shr_high, shr_split, or_shifted, or_comm, mod_below}
use Rattle.std.proofs.lemmas.Int.{to_z_pos}
use Rattle.std.proofs.lemmas.Bool.{le-ltb}
use Rattle.std.specs.Int.{cast_signed, cast_unsigned, int_shr, rotate_left, rotate_right}
use Rattle.std.specs.Int.Bits.{or_self}
use mir.Val.{sel}
use Rattle.ctw_num.specs.Integers.{ishr_s, irotl, irotr}
use Rattle.ctw_num.proofs.Bits.{top_digit}

-- ---- rotations of a number of j + k bits

shifted_up : (j k a : ℕ) → a * 2 ^ k % 2 ^ (j + k) ≡ a % 2 ^ j * 2 ^ k
shifted_up j k a =
    mod-pow-add (a * 2 ^ k) j k
    ∙ ap₂ (λ high low. high % 2 ^ j * 2 ^ k + low) (shl-shr a k) (mul-mod_left a (2 ^ k))
    ∙ add-zero (a % 2 ^ j * 2 ^ k)

joined : (j k a : ℕ) → a < 2 ^ (k + j) → bit_or (a * 2 ^ k % 2 ^ (j + k)) (a / 2 ^ j) ≡ a % 2 ^ j * 2 ^ k + a / 2 ^ j
joined j k a h = ap (λ high. bit_or high (a / 2 ^ j)) (shifted_up j k a) ∙ or_shifted (a % 2 ^ j) k (a / 2 ^ j) (shr_below a k j h)

no_multiple : (m n : ℕ) → 0 * m + n ≡ n
no_multiple m n = ap (λ x. x + n) (zero-mul m) ∙ zero-add n

rotated_left : (N k a : ℕ) → k < N → a < 2 ^ N → bit_or (a * 2 ^ k % 2 ^ N) (a / 2 ^ ((N - k) % N)) ≡ a % 2 ^ (N - k) * 2 ^ k + a / 2 ^ (N - k)
rotated_left N zero a some h =
    let e : N - 0 ≡ N = omega arith in
    let high : a * 1 % 2 ^ N ≡ a = ap (λ n. n % 2 ^ N) (mul-one a) ∙ mod-eq_of_lt h in
    let low : a / 2 ^ ((N - 0) % N) ≡ a = ap (λ m. a / 2 ^ m) (ap (λ m. m % N) e ∙ mod_self N) ∙ div-one a in
    let kept : a % 2 ^ (N - 0) * 1 ≡ a = mul-one (a % 2 ^ (N - 0)) ∙ ap (λ m. a % 2 ^ m) e ∙ mod-eq_of_lt h in
    let none : a / 2 ^ (N - 0) ≡ 0 = ap (λ m. a / 2 ^ m) e ∙ div-eq_of_lt h in
    ap₂ bit_or high low ∙ or_self a ∙ sym (ap₂ (λ m n. m + n) kept none ∙ add-zero a)
rotated_left N (suc k) a some h =
    let whole : N ≡ (N - suc k) + suc k = omega arith in
    let turned : N ≡ suc k + (N - suc k) = omega arith in
    let within : (N - suc k) % N ≡ N - suc k = mod-eq_of_lt (omega arith) in
    ap₂ (λ m e. bit_or (a * 2 ^ suc k % 2 ^ m) (a / 2 ^ e)) whole within
    ∙ joined (N - suc k) (suc k) a (subst (λ m. a < 2 ^ m) turned h)

rotated_right : (N k a : ℕ) → k < N → a < 2 ^ N → bit_or (a / 2 ^ k) (a * 2 ^ ((N - k) % N) % 2 ^ N) ≡ a % 2 ^ k * 2 ^ (N - k) + a / 2 ^ k
rotated_right N zero a some h =
    let e : (N - 0) % N ≡ 0 = ap (λ m. m % N) (omega arith) ∙ mod_self N in
    let high : a * 2 ^ ((N - 0) % N) % 2 ^ N ≡ a = ap (λ m. a * 2 ^ m % 2 ^ N) e ∙ ap (λ n. n % 2 ^ N) (mul-one a) ∙ mod-eq_of_lt h in
    ap₂ bit_or (div-one a) high ∙ or_self a
    ∙ sym (ap₂ (λ m n. m * 2 ^ (N - 0) + n) (mod-one a) (div-one a) ∙ no_multiple (2 ^ (N - 0)) a)
rotated_right N (suc k) a some h =
    let whole : N ≡ suc k + (N - suc k) = omega arith in
    let turned : N ≡ (N - suc k) + suc k = omega arith in
    let within : (N - suc k) % N ≡ N - suc k = mod-eq_of_lt (omega arith) in
    ap₂ (λ e m. bit_or (a / 2 ^ suc k) (a * 2 ^ e % 2 ^ m)) within whole
    ∙ or_comm (a / 2 ^ suc k) (a * 2 ^ (N - suc k) % 2 ^ (suc k + (N - suc k)))
    ∙ joined (suc k) (N - suc k) a (subst (λ m. a < 2 ^ m) turned h)

pub rotl32 : (a b : ℕ) → a < 2 ^ 32 → rotate_left w32 a b ≡ irotl 32 a b
unfolding irotl
rotl32 a b h = rotated_left 32 (b % 32) a (mod_below b 32 (omega arith)) h

pub rotl64 : (a b : ℕ) → a < 2 ^ 64 → rotate_left w64 a b ≡ irotl 64 a b
unfolding irotl
rotl64 a b h = rotated_left 64 (b % 64) a (mod_below b 64 (omega arith)) h

pub rotr32 : (a b : ℕ) → a < 2 ^ 32 → rotate_right w32 a b ≡ irotr 32 a b
unfolding irotr
rotr32 a b h = rotated_right 32 (b % 32) a (mod_below b 32 (omega arith)) h

pub rotr64 : (a b : ℕ) → a < 2 ^ 64 → rotate_right w64 a b ≡ irotr 64 a b
unfolding irotr
rotr64 a b h = rotated_right 64 (b % 64) a (mod_below b 64 (omega arith)) h

-- ---- shifts that copy the sign

-- a negative number of j + k bits, shifted by k places
shifted_negative : (j k a : ℕ) → a < 2 ^ (j + k) → 2 ^ (j + k) - suc ((2 ^ (j + k) - suc a) / 2 ^ k) ≡ (2 ^ (j + k) - 2 ^ j) + a / 2 ^ k
shifted_negative j k a h =
    let q = a / 2 ^ k in
    let r = a % 2 ^ k in
    let high : q < 2 ^ j = shr_below a j k h in
    let low : r < 2 ^ k = mod-lt a (pow_pos k) in
    let parts : q * 2 ^ k + r ≡ a = shr_split a k in
    let rest = 2 ^ j - suc q in
    let whole : 2 ^ (j + k) ≡ rest * 2 ^ k + (q * 2 ^ k + 2 ^ k) =
    pow-add 2 j k ∙ ap (λ m. m * 2 ^ k) (omega arith) ∙ add-mul rest (suc q) (2 ^ k) ∙ ap (λ m. rest * 2 ^ k + m) (suc-mul q (2 ^ k)) in
    let split : 2 ^ (j + k) - suc a ≡ rest * 2 ^ k + (2 ^ k - suc r) = omega arith in
    let quotient : (2 ^ (j + k) - suc a) / 2 ^ k ≡ rest = ap (λ n. n / 2 ^ k) split ∙ shr_high rest k (2 ^ k - suc r) (omega arith) in
    let most : 2 ^ j ≤ 2 ^ (j + k) = pow_mono (omega arith) in
    omega arith

pub shifted_down : (N k a : ℕ) → k ≤ N → a < 2 ^ N → 2 ^ N - suc ((2 ^ N - suc a) / 2 ^ k) ≡ (2 ^ N - 2 ^ (N - k)) + a / 2 ^ k
shifted_down N k a le h =
    let whole : (N - k) + k ≡ N = omega arith in
    subst (λ m. 2 ^ m - suc ((2 ^ m - suc a) / 2 ^ k) ≡ (2 ^ m - 2 ^ (N - k)) + a / 2 ^ k) whole
    (shifted_negative (N - k) k a (subst (λ m. a < 2 ^ m) (sym whole) h))

pub shr_s32 : (a b : ℕ) → a < 2 ^ 32 → cast_unsigned w32 (int_shr (cast_signed w32 a) (b % 32)) ≡ ishr_s 32 a b
unfolding ishr_s
shr_s32 a b h = ⊎_elim
    (λ t. ap (λ z. cast_unsigned w32 (int_shr z (b % 32))) (to_z_pos w32 a t.1)
    ∙ sym (ap (λ d. d * (2 ^ 32 - 2 ^ (32 - b % 32)) + a / 2 ^ (b % 32)) t.0 ∙ no_multiple (2 ^ 32 - 2 ^ (32 - b % 32)) (a / 2 ^ (b % 32))))
    (λ t. ap (λ z. cast_unsigned w32 (int_shr (sel z (pos a) (negsuc (2 ^ 32 - suc a))) (b % 32))) (le-ltb a (2 ^ 31) t.1)
    ∙ shifted_down 32 (b % 32) a (omega (arith, mod_below b 32 (omega arith))) h
    ∙ sym (ap (λ d. d * (2 ^ 32 - 2 ^ (32 - b % 32)) + a / 2 ^ (b % 32)) t.0 ∙ ap (λ m. m + a / 2 ^ (b % 32)) (one-mul (2 ^ 32 - 2 ^ (32 - b % 32)))))
    (top_digit 31 a h)

pub shr_s64 : (a b : ℕ) → a < 2 ^ 64 → cast_unsigned w64 (int_shr (cast_signed w64 a) (b % 64)) ≡ ishr_s 64 a b
unfolding ishr_s
shr_s64 a b h = ⊎_elim
    (λ t. ap (λ z. cast_unsigned w64 (int_shr z (b % 64))) (to_z_pos w64 a t.1)
    ∙ sym (ap (λ d. d * (2 ^ 64 - 2 ^ (64 - b % 64)) + a / 2 ^ (b % 64)) t.0 ∙ no_multiple (2 ^ 64 - 2 ^ (64 - b % 64)) (a / 2 ^ (b % 64))))
    (λ t. ap (λ z. cast_unsigned w64 (int_shr (sel z (pos a) (negsuc (2 ^ 64 - suc a))) (b % 64))) (le-ltb a (2 ^ 63) t.1)
    ∙ shifted_down 64 (b % 64) a (omega (arith, mod_below b 64 (omega arith))) h
    ∙ sym (ap (λ d. d * (2 ^ 64 - 2 ^ (64 - b % 64)) + a / 2 ^ (b % 64)) t.0 ∙ ap (λ m. m + a / 2 ^ (b % 64)) (one-mul (2 ^ 64 - 2 ^ (64 - b % 64)))))
    (top_digit 63 a h)
