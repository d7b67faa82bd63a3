-- The size of each value: it is below 2^N, where N is the width of the result.
use Rattle.std.proofs.Common.{◌≡◌, ℕ, zero, suc, ◌+◌, ◌-◌, ◌*◌, ◌/◌, ◌%◌, ◌^◌, ◌<◌, ◌≤◌, min, max, Bool, true, false, cond, ◌==◌, ltb, ℤ, pos, negsuc, ◌-ℤ◌, unsigned_abs, Option, Some, None, Result, Ok, Err, IfOk, refl, sym, ap, ◌∙◌, subst, arith, div-le_self, lt_of_le_of_lt, lt_of_lt_of_le, ⊎_elim, pow_pos, pow_mono, bit_and, bit_or, bit_xor, lit≤, int_eq}
use Rattle.std.proofs.Math.Nat.{mod-lt, mod-le}
use Rattle.std.proofs.lemmas.Nat.{shr_le, or_lt, leading_le, trailing_le, ones-le, mod_below}
use Rattle.std.proofs.lemmas.Nat.Bits.{bit_at_and, bit_at_or, bit_at_xor}
use Rattle.std.proofs.lemmas.Bool.{cond_both, ltb-false}
use Rattle.std.proofs.lemmas.Int.{ints}
use Rattle.std.proofs.lemmas.Option.{same_Some}
use Rattle.ctw_ops.specs.declared.types.Width.{Width}
use Rattle.ctw_ops.specs.declared.types.Width.TheVariants.{W32, W64}
use Rattle.ctw_ops.specs.declared.numeric.NumSig.{NumSig}
use Rattle.std.specs.Prelude.{option_map, option_and_then}
use Rattle.ctw_ops.specs.Types.{FitsWidth}
use Rattle.ctw_ops.specs.Numeric.{within, num_sig_of}
use Rattle.ctw_num.specs.Integers.{bit_width, digit, bitwise, signed, unsigned, truth, with_sign, truncated, remainder, idiv_s, irem_s, idiv_u, irem_u, iand, ior, ixor, ishl, ishr_u, ishr_s, irotl, irotr, iclz, ictz, ipopcnt, extend_s, iextend_s}
use Rattle.ctw_num.specs.declared.trap.NumTrap.{NumTrap}
use Rattle.ctw_num.specs.declared.trap.NumTrap.TheVariants.{DivZero, DivOverflow}
use Rattle.ctw_num.specs.Values.{count32, count64, unary32, unary64, comparison32, comparison64, division32, division64, shift32, shift64, arithmetic32, arithmetic64, binary32, binary64, by_width, value1, value2}
use Rattle.ctw_num.proofs.Bits.{bitwise_is, top_digit, leading_is, trailing_is, ones_is}
use Rattle.ctw_num.proofs.Shifts.{shifted_down, rotl32, rotl64, rotr32, rotr64}
use Rattle.ctw_num.proofs.Signatures.{two_wide, extends, extends8, extends16, extends32}

-- ---- choices

choose : {m : ℕ} (t : Bool) (x y : ℕ) → x < m → y < m → cond t x y < m
choose true x y p q = p
choose false x y p q = q

truth_below : (t : Bool) → truth t < 2 ^ 32
truth_below true = omega arith
truth_below false = omega arith

untruth_below : (t : Bool) → cond t 0 1 < 2 ^ 32
untruth_below true = omega arith
untruth_below false = omega arith

-- ---- bits

bitwise_below : (f o : ℕ → ℕ → ℕ) → ((a b i : ℕ) → digit (o a b) i ≡ f (digit a i) (digit b i)) → (N a b : ℕ) → bitwise f N a b < 2 ^ N
bitwise_below f o step N a b = subst (λ n. n < 2 ^ N) (bitwise_is f o step N a b) (mod-lt (o a b) (pow_pos N))

and_below : (N a b : ℕ) → iand N a b < 2 ^ N
unfolding iand
and_below = bitwise_below min bit_and bit_at_and

or_below : (N a b : ℕ) → ior N a b < 2 ^ N
unfolding ior
or_below = bitwise_below max bit_or bit_at_or

xor_below : (N a b : ℕ) → ixor N a b < 2 ^ N
unfolding ixor
xor_below = bitwise_below (λ d e. (d + e) % 2) bit_xor bit_at_xor

-- ---- shifts and rotations

shl_below : (N a b : ℕ) → ishl N a b < 2 ^ N
unfolding ishl
shl_below N a b = mod-lt (a * 2 ^ (b % N)) (pow_pos N)

shr_u_below : (N a b : ℕ) → a < 2 ^ N → ishr_u N a b < 2 ^ N
unfolding ishr_u
shr_u_below N a b h = lt_of_le_of_lt (shr_le a (b % N)) h

shr_s_below : (M k a : ℕ) → k ≤ suc M → a < 2 ^ suc M → digit a M * (2 ^ suc M - 2 ^ (suc M - k)) + a / 2 ^ k < 2 ^ suc M
shr_s_below M k a le h = ⊎_elim
    (λ t. subst (λ d. d * (2 ^ suc M - 2 ^ (suc M - k)) + a / 2 ^ k < 2 ^ suc M) (sym t.0) (omega (arith, lt_of_le_of_lt (shr_le a k) h)))
    (λ t. subst (λ d. d * (2 ^ suc M - 2 ^ (suc M - k)) + a / 2 ^ k < 2 ^ suc M) (sym t.0) (omega (arith, shifted_down (suc M) k a le h, pow_pos (suc M))))
    (top_digit M a h)

shr_s_below32 : (a b : ℕ) → a < 2 ^ 32 → ishr_s 32 a b < 2 ^ 32
unfolding ishr_s
shr_s_below32 a b h = shr_s_below 31 (b % 32) a (omega (arith, mod_below b 32 (omega arith))) h

shr_s_below64 : (a b : ℕ) → a < 2 ^ 64 → ishr_s 64 a b < 2 ^ 64
unfolding ishr_s
shr_s_below64 a b h = shr_s_below 63 (b % 64) a (omega (arith, mod_below b 64 (omega arith))) h

rotl_below32 : (a b : ℕ) → a < 2 ^ 32 → irotl 32 a b < 2 ^ 32
rotl_below32 a b h = subst (λ n. n < 2 ^ 32) (rotl32 a b h) (or_lt 32 _ _ (mod-lt _ (pow_pos 32)) (lt_of_le_of_lt (shr_le a _) h))

rotl_below64 : (a b : ℕ) → a < 2 ^ 64 → irotl 64 a b < 2 ^ 64
rotl_below64 a b h = subst (λ n. n < 2 ^ 64) (rotl64 a b h) (or_lt 64 _ _ (mod-lt _ (pow_pos 64)) (lt_of_le_of_lt (shr_le a _) h))

rotr_below32 : (a b : ℕ) → a < 2 ^ 32 → irotr 32 a b < 2 ^ 32
rotr_below32 a b h = subst (λ n. n < 2 ^ 32) (rotr32 a b h) (or_lt 32 _ _ (lt_of_le_of_lt (shr_le a _) h) (mod-lt _ (pow_pos 32)))

rotr_below64 : (a b : ℕ) → a < 2 ^ 64 → irotr 64 a b < 2 ^ 64
rotr_below64 a b h = subst (λ n. n < 2 ^ 64) (rotr64 a b h) (or_lt 64 _ _ (lt_of_le_of_lt (shr_le a _) h) (mod-lt _ (pow_pos 64)))

-- ---- counts

clz_most : (N n : ℕ) → n < 2 ^ N → iclz N n ≤ N
clz_most N n h = subst (λ m. m ≤ N) (leading_is N n h) (leading_le N n)

ctz_most : (N n : ℕ) → ictz N n ≤ N
ctz_most N n = subst (λ m. m ≤ N) (trailing_is N n) (trailing_le N n)

popcnt_most : (N n : ℕ) → n < 2 ^ N → ipopcnt N n ≤ N
popcnt_most N n h = subst (λ m. m ≤ N) (ones_is N n h) (ones-le N n h)

few : (m N : ℕ) → m ≤ N → N ≤ 64 → m < 2 ^ 32
few m N h k = omega arith

-- ---- signed results

unsigned_below : (N : ℕ) (z : ℤ) → unsigned_abs z < 2 ^ N → unsigned N z < 2 ^ N
unfolding unsigned
unsigned_below N (pos n) h = h
unsigned_below N (negsuc n) h = omega (arith, pow_pos N)

size_of : (m : Bool) (n : ℕ) → unsigned_abs (with_sign m n) ≡ n
size_of false n = refl
size_of true zero = refl
size_of true (suc n) = refl

size_below : (M n : ℕ) → n < M → 0 < n → unsigned_abs (pos n -ℤ pos M) < M
size_below M n h some =
    let e : pos n -ℤ pos M ≡ negsuc (M - suc n) = omega (arith, ints) in
    subst (λ z. unsigned_abs z < M) (sym e) (omega arith)

signed_below : (N n : ℕ) → n < 2 ^ N → unsigned_abs (signed N n) < 2 ^ N
unfolding signed
signed_below N n h = cond_both (ltb n (2 ^ (N - 1))) (pos n) (pos n -ℤ pos (2 ^ N)) (λ z. unsigned_abs z < 2 ^ N)
    (λ e. h)
    (λ e. size_below (2 ^ N) n h (lt_of_lt_of_le (pow_pos (N - 1)) (ltb-false n (2 ^ (N - 1)) e)))

truncated_below : (N : ℕ) (j k : ℤ) → unsigned_abs j < 2 ^ N → unsigned N (truncated j k) < 2 ^ N
unfolding truncated
truncated_below N j k h = unsigned_below N (truncated j k)
    (subst (λ n. n < 2 ^ N) (sym (size_of _ (unsigned_abs j / unsigned_abs k))) (lt_of_le_of_lt (div-le_self (unsigned_abs j) (unsigned_abs k)) h))

remainder_below : (N : ℕ) (j k : ℤ) → unsigned_abs j < 2 ^ N → unsigned N (remainder j k) < 2 ^ N
unfolding remainder
remainder_below N j k h = unsigned_below N (remainder j k)
    (subst (λ n. n < 2 ^ N) (sym (size_of _ (unsigned_abs j % unsigned_abs k))) (lt_of_le_of_lt (mod-le (unsigned_abs j) (unsigned_abs k)) h))

-- a number of M bits, carried on to N bits
pub extend_s_below : (M N n : ℕ) → M ≤ N → n < 2 ^ M → extend_s M N n < 2 ^ N
extend_s_below M N n h b = unsigned_below N (signed M n) (lt_of_lt_of_le (signed_below M n b) (pow_mono h))

extended_below : (M N n : ℕ) → M ≤ N → iextend_s M N n < 2 ^ N
extended_below M N n h = extend_s_below M N (n % 2 ^ M) h (mod-lt n (pow_pos M))

-- ---- divisions

record Below (m : ℕ) (r : Result ℕ NumTrap) : Type 0 where
  below : IfOk r (λ n. n < m)

none_above : (m : ℕ) (e : NumTrap) → Below m (Err e)
none_above m e = record { below = tt }

ok_below : (m n : ℕ) → n < m → Below m (Ok n)
ok_below m n h = record { below = h }

choose_ok : (m : ℕ) (t : Bool) (x y : Result ℕ NumTrap) → Below m x → Below m y → Below m (cond t x y)
choose_ok m true x y p q = p
choose_ok m false x y p q = q

div_s_below : (N a b : ℕ) → a < 2 ^ N → Below (2 ^ N) (idiv_s N a b)
unfolding idiv_s
div_s_below N a b h =
    choose_ok _ (b == 0) _ _ (none_above _ DivZero) (choose_ok _ (int_eq (truncated (signed N a) (signed N b)) (pos (2 ^ (N - 1)))) _ _ (none_above _ DivOverflow) (ok_below _ _ (truncated_below N (signed N a) (signed N b) (signed_below N a h))))

rem_s_below : (N a b : ℕ) → a < 2 ^ N → Below (2 ^ N) (irem_s N a b)
unfolding irem_s
rem_s_below N a b h = choose_ok _ (b == 0) _ _ (none_above _ DivZero) (ok_below _ _ (remainder_below N (signed N a) (signed N b) (signed_below N a h)))

div_u_below : (N a b : ℕ) → a < 2 ^ N → Below (2 ^ N) (idiv_u a b)
div_u_below N a b h = choose_ok _ (b == 0) _ _ (none_above _ DivZero) (ok_below _ _ (lt_of_le_of_lt (div-le_self a b) h))

rem_u_below : (N a b : ℕ) → a < 2 ^ N → Below (2 ^ N) (irem_u a b)
rem_u_below N a b h = choose_ok _ (b == 0) _ _ (none_above _ DivZero) (ok_below _ _ (lt_of_le_of_lt (mod-le a b) h))

-- ---- the tables

-- the number that a row gives, if it gives one, is below m
record Under (m : ℕ) (o : Option ℕ) : Type 0 where
  under : (n : ℕ) → o ≡ Some n → n < m

none : (m : ℕ) → Under m None
none m = record { under = λ n e. absurd cc }

some : (m n : ℕ) → n < m → Under m (Some n)
some m n h = record { under = λ k e. subst (λ x. x < m) (same_Some n k e) h }

pick : (m : ℕ) (t : Bool) (x y : Option ℕ) → Under m x → Under m y → Under m (cond t x y)
pick m true x y p q = p
pick m false x y p q = q

-- the same of a row that may give a trap
record Rests (m : ℕ) (o : Option (Result ℕ NumTrap)) : Type 0 where
  rests : (r : Result ℕ NumTrap) → o ≡ Some r → IfOk r (λ n. n < m)

no_rest : (m : ℕ) → Rests m None
no_rest m = record { rests = λ r e. absurd cc }

rest : (m : ℕ) (r : Result ℕ NumTrap) → Below m r → Rests m (Some r)
rest m r h = record { rests = λ q e. subst (λ (x : Result ℕ NumTrap). IfOk x (λ n. n < m)) (same_Some r q e) h.below }

pick_rest : (m : ℕ) (t : Bool) (x y : Option (Result ℕ NumTrap)) → Rests m x → Rests m y → Rests m (cond t x y)
pick_rest m true x y p q = p
pick_rest m false x y p q = q

all_ok : (m : ℕ) (o : Option ℕ) → Under m o → Rests m (option_map Ok o)
all_ok m None h = no_rest m
all_ok m (Some n) h = rest m (Ok n) (ok_below m n (h.under n refl))

comparison32_below : (op a b : ℕ) → Under (2 ^ 32) (comparison32 op a b)
unfolding comparison32
comparison32_below op a b = search (pick, some, none, truth_below, untruth_below) depth 40

division32_below : (op a b : ℕ) → a < 2 ^ 32 → Rests (2 ^ 32) (division32 op a b)
unfolding division32
division32_below op a b h =
    pick_rest _ _ _ _ (rest _ _ (div_s_below 32 a b h)) (pick_rest _ _ _ _ (rest _ _ (div_u_below 32 a b h))
    (pick_rest _ _ _ _ (rest _ _ (rem_s_below 32 a b h)) (pick_rest _ _ _ _ (rest _ _ (rem_u_below 32 a b h)) (no_rest _))))

shift32_below : (op a b : ℕ) → a < 2 ^ 32 → Under (2 ^ 32) (shift32 op a b)
unfolding shift32
shift32_below op a b h =
    pick _ _ _ _ (some _ _ (shl_below 32 a b)) (pick _ _ _ _ (some _ _ (shr_s_below32 a b h)) (pick _ _ _ _ (some _ _ (shr_u_below 32 a b h))
    (pick _ _ _ _ (some _ _ (rotl_below32 a b h)) (pick _ _ _ _ (some _ _ (rotr_below32 a b h)) (none _)))))

arithmetic32_below : (op a b : ℕ) → Under (2 ^ 32) (arithmetic32 op a b)
unfolding arithmetic32
arithmetic32_below op a b =
    pick _ _ _ _ (some _ _ (mod-lt (a + b) (pow_pos 32))) (pick _ _ _ _ (some _ _ (mod-lt (a + 2 ^ 32 - b) (pow_pos 32)))
    (pick _ _ _ _ (some _ _ (mod-lt (a * b) (pow_pos 32))) (pick _ _ _ _ (some _ _ (and_below 32 a b))
    (pick _ _ _ _ (some _ _ (or_below 32 a b)) (pick _ _ _ _ (some _ _ (xor_below 32 a b)) (none _))))))

count32_below : (op n : ℕ) → n < 2 ^ 32 → Under (2 ^ 32) (count32 op n)
unfolding count32
count32_below op n h =
    pick _ _ _ _ (some _ _ (few _ 32 (clz_most 32 n h) (lit≤ tt))) (pick _ _ _ _ (some _ _ (few _ 32 (ctz_most 32 n) (lit≤ tt)))
    (pick _ _ _ _ (some _ _ (few _ 32 (popcnt_most 32 n h) (lit≤ tt))) (none _)))

comparison64_below : (op a b : ℕ) → Under (2 ^ 32) (comparison64 op a b)
unfolding comparison64
comparison64_below op a b = search (pick, some, none, truth_below, untruth_below) depth 40

division64_below : (op a b : ℕ) → a < 2 ^ 64 → Rests (2 ^ 64) (division64 op a b)
unfolding division64
division64_below op a b h =
    pick_rest _ _ _ _ (rest _ _ (div_s_below 64 a b h)) (pick_rest _ _ _ _ (rest _ _ (div_u_below 64 a b h))
    (pick_rest _ _ _ _ (rest _ _ (rem_s_below 64 a b h)) (pick_rest _ _ _ _ (rest _ _ (rem_u_below 64 a b h)) (no_rest _))))

shift64_below : (op a b : ℕ) → a < 2 ^ 64 → Under (2 ^ 64) (shift64 op a b)
unfolding shift64
shift64_below op a b h =
    pick _ _ _ _ (some _ _ (shl_below 64 a b)) (pick _ _ _ _ (some _ _ (shr_s_below64 a b h)) (pick _ _ _ _ (some _ _ (shr_u_below 64 a b h))
    (pick _ _ _ _ (some _ _ (rotl_below64 a b h)) (pick _ _ _ _ (some _ _ (rotr_below64 a b h)) (none _)))))

arithmetic64_below : (op a b : ℕ) → Under (2 ^ 64) (arithmetic64 op a b)
unfolding arithmetic64
arithmetic64_below op a b =
    pick _ _ _ _ (some _ _ (mod-lt (a + b) (pow_pos 64))) (pick _ _ _ _ (some _ _ (mod-lt (a + 2 ^ 64 - b) (pow_pos 64)))
    (pick _ _ _ _ (some _ _ (mod-lt (a * b) (pow_pos 64))) (pick _ _ _ _ (some _ _ (and_below 64 a b))
    (pick _ _ _ _ (some _ _ (or_below 64 a b)) (pick _ _ _ _ (some _ _ (xor_below 64 a b)) (none _))))))

count64_below : (op n : ℕ) → n < 2 ^ 64 → Under (2 ^ 32) (count64 op n)
unfolding count64
count64_below op n h =
    pick _ _ _ _ (some _ _ (few _ 64 (clz_most 64 n h) (lit≤ tt))) (pick _ _ _ _ (some _ _ (few _ 64 (ctz_most 64 n) (lit≤ tt)))
    (pick _ _ _ _ (some _ _ (few _ 64 (popcnt_most 64 n h) (lit≤ tt))) (none _)))

-- ---- by the widths of results

narrow : (w : Width) (n : ℕ) → n < 2 ^ 32 → n < 2 ^ bit_width w
narrow W32 n h = h
narrow W64 n h = omega arith

narrow_all : (w : Width) (o : Option ℕ) → Under (2 ^ 32) o → Under (2 ^ bit_width w) o
narrow_all w o h = record { under = λ n e. narrow w n (h.under n e) }

narrow_ok : (w : Width) (r : Result ℕ NumTrap) → IfOk r (λ n. n < 2 ^ 32) → IfOk r (λ n. n < 2 ^ bit_width w)
narrow_ok w (Ok n) h = narrow w n h
narrow_ok w (Err e) h = tt

narrow_rest : (w : Width) (o : Option (Result ℕ NumTrap)) → Rests (2 ^ 32) o → Rests (2 ^ bit_width w) o
narrow_rest w o h = record { rests = λ r e. narrow_ok w r (h.rests r e) }

wide : (w : Width) (n : ℕ) → w ≡ W64 → n < 2 ^ 64 → n < 2 ^ bit_width w
wide w n e h = subst (λ v. n < 2 ^ bit_width v) (sym e) h

wide_rest : (w : Width) (o : Option (Result ℕ NumTrap)) → w ≡ W64 → Rests (2 ^ 64) o → Rests (2 ^ bit_width w) o
wide_rest w o e h = subst (λ v. Rests (2 ^ bit_width v) o) (sym e) h

unary32_below : (op n : ℕ) (sig : NumSig) → num_sig_of op ≡ Some sig → n < 2 ^ 32 → Under (2 ^ bit_width sig.result) (unary32 op n)
unfolding unary32
unary32_below op n sig s h =
    let w = sig.result in
    pick _ _ _ _ (some _ _ (narrow w _ (truth_below _))) (pick _ _ _ _ (narrow_all w _ (count32_below op n h))
    (cond_both (op == 0xAC) _ _ (Under (2 ^ bit_width w)) (λ e. some _ _ (wide w _ (extends op sig s e) (unsigned_below 64 (signed 32 n) (omega (arith, signed_below 32 n h))))) (λ e.
    pick _ _ _ _ (some _ _ (narrow w n h)) (pick _ _ _ _ (some _ _ (narrow w _ (extended_below 8 32 n (lit≤ tt))))
    (pick _ _ _ _ (some _ _ (narrow w _ (extended_below 16 32 n (lit≤ tt)))) (none _))))))

unary64_below : (op n : ℕ) (sig : NumSig) → num_sig_of op ≡ Some sig → n < 2 ^ 64 → Under (2 ^ bit_width sig.result) (unary64 op n)
unfolding unary64
unary64_below op n sig s h =
    let w = sig.result in
    pick _ _ _ _ (some _ _ (narrow w _ (truth_below _))) (pick _ _ _ _ (narrow_all w _ (count64_below op n h))
    (pick _ _ _ _ (some _ _ (narrow w _ (mod-lt n (pow_pos 32))))
    (cond_both (op == 0xC2) _ _ (Under (2 ^ bit_width w)) (λ e. some _ _ (wide w _ (extends8 op sig s e) (extended_below 8 64 n (lit≤ tt)))) (λ e.
    cond_both (op == 0xC3) _ _ (Under (2 ^ bit_width w)) (λ e. some _ _ (wide w _ (extends16 op sig s e) (extended_below 16 64 n (lit≤ tt)))) (λ e.
    cond_both (op == 0xC4) _ _ (Under (2 ^ bit_width w)) (λ e. some _ _ (wide w _ (extends32 op sig s e) (extended_below 32 64 n (lit≤ tt)))) (λ e. none _))))))

binary32_below : (op a b : ℕ) (w : Width) → a < 2 ^ 32 → Rests (2 ^ bit_width w) (binary32 op a b)
unfolding binary32
binary32_below op a b w h =
    narrow_rest w _ (pick_rest _ _ _ _ (all_ok _ _ (comparison32_below op a b)) (pick_rest _ _ _ _ (division32_below op a b h)
    (pick_rest _ _ _ _ (all_ok _ _ (shift32_below op a b h)) (all_ok _ _ (arithmetic32_below op a b)))))

binary64_below : (op a b : ℕ) (w : Width) → a < 2 ^ 64 → (within 0x51 0x5A op ≡ false → w ≡ W64) → Rests (2 ^ bit_width w) (binary64 op a b)
unfolding binary64
binary64_below op a b w h computes =
    cond_both (within 0x51 0x5A op) _ _ (Rests (2 ^ bit_width w)) (λ e. narrow_rest w _ (all_ok _ _ (comparison64_below op a b))) (λ e.
    wide_rest w _ (computes e) (pick_rest _ _ _ _ (division64_below op a b h) (pick_rest _ _ _ _ (all_ok _ _ (shift64_below op a b h)) (all_ok _ _ (arithmetic64_below op a b)))))

-- what holds of the table of each width holds of the one that a width picks
pub by_operand : {A : Type 0} (w : Width) (P : A → Type 0) (narrow wide : A) → (w ≡ W32 → P narrow) → (w ≡ W64 → P wide) → P (by_width w narrow wide)
by_operand W32 P narrow wide p q = p refl
by_operand W64 P narrow wide p q = q refl

-- the value of an operation with one operand has the result's width
pub value1_below : (op n r : ℕ) (sig : NumSig) → num_sig_of op ≡ Some sig → FitsWidth sig.operand n → value1 op n ≡ Some r → FitsWidth sig.result r
unfolding value1
value1_below op n r sig s h e =
    let all : Under (2 ^ bit_width sig.result) (by_width sig.operand (unary32 op n) (unary64 op n)) =
    by_operand sig.operand (Under (2 ^ bit_width sig.result)) (unary32 op n) (unary64 op n)
    (λ e. unary32_below op n sig s (subst (λ w. FitsWidth w n) e h)) (λ e. unary64_below op n sig s (subst (λ w. FitsWidth w n) e h)) in
    all.under r (sym (ap (option_and_then (λ sig. by_width sig.operand (unary32 op n) (unary64 op n))) s) ∙ e)

-- so has that of an operation with two operands, where there is one
pub value2_below : (op a b : ℕ) (r : Result ℕ NumTrap) (sig : NumSig) → num_sig_of op ≡ Some sig → sig.arity ≡ 2 → FitsWidth sig.operand a → value2 op a b ≡ Some r → IfOk r (FitsWidth sig.result)
unfolding value2
value2_below op a b r sig s two h e =
    let all : Rests (2 ^ bit_width sig.result) (by_width sig.operand (binary32 op a b) (binary64 op a b)) =
    by_operand sig.operand (Rests (2 ^ bit_width sig.result)) (binary32 op a b) (binary64 op a b)
    (λ e. binary32_below op a b sig.result (subst (λ w. FitsWidth w a) e h))
    (λ e. binary64_below op a b sig.result (subst (λ w. FitsWidth w a) e h) (two_wide op sig s two e)) in
    all.rests r (sym (ap (option_and_then (λ sig. by_width sig.operand (binary32 op a b) (binary64 op a b))) s) ∙ e)
