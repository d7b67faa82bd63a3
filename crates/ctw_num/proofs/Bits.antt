-- The standard's bits, against what the machine's words for them count and combine.
use Rattle.std.proofs.Common.{◌≡◌, ℕ, zero, suc, ◌+◌, ◌*◌, ◌/◌, ◌%◌, ◌^◌, ◌<◌, ◌≤◌, min, max, cond, ◌==◌, List, [], ◌∷◌, ◌++◌, reverse, ◌⊎◌, inl, inr, ⊎_elim, refl, sym, ap, ap₂, ◌∙◌, arith, bit_and, bit_or, bit_xor, count_ones, div-one, lt_of_le_of_lt, pow-suc, one-add}
use Rattle.std.proofs.Math.Nat.{mod-eq_of_lt, mod-one, mod-lt}
use Rattle.std.proofs.lemmas.Nat.{mod-pow-add, and_le_l, or_lt, xor_lt, le-div, div_below, pow_pos, ones_cat}
use Rattle.std.proofs.lemmas.Nat.Bits.{bit_at_and, bit_at_or, bit_at_xor, bit_at_above, bit_at-suc, bit_at-lt}
use Rattle.std.proofs.lemmas.Bool.{cases_lt, ne_eqb}
use Rattle.std.proofs.lemmas.List.{reverse-append}
use Rattle.std.proofs.lemmas.List.Sums.{sum_by-cons}
use Rattle.std.specs.Int.Count.{count_leading_zeros, count_trailing_zeros, leading_unique, under, ones-ones}
use Rattle.std.specs.List.{prefix_len}
use Rattle.ctw_num.specs.Integers.{digit, ibits, bitwise, iand, ior, ixor, iclz, ictz, ipopcnt}

-- ---- the bits of two numbers

split_top : (N n : ℕ) → n % 2 ^ suc N ≡ digit n N * 2 ^ N + n % 2 ^ N
split_top N n = ap (λ k. n % 2 ^ k) (sym (one-add N)) ∙ mod-pow-add n 1 N

-- an operation on bits agrees with the one that works on each digit
pub bitwise_is : (f o : ℕ → ℕ → ℕ) → ((a b i : ℕ) → digit (o a b) i ≡ f (digit a i) (digit b i)) → (N a b : ℕ) → o a b % 2 ^ N ≡ bitwise f N a b
unfolding bitwise
bitwise_is f o step zero a b = mod-one (o a b)
bitwise_is f o step (suc N) a b =
    split_top N (o a b) ∙ ap₂ (λ d rest. d * 2 ^ N + rest) (step a b N) (bitwise_is f o step N a b)

pub and_is : (N a b : ℕ) → a < 2 ^ N → bit_and a b ≡ iand N a b
unfolding iand
and_is N a b h = sym (mod-eq_of_lt (lt_of_le_of_lt (and_le_l a b) h)) ∙ bitwise_is min bit_and bit_at_and N a b

pub or_is : (N a b : ℕ) → a < 2 ^ N → b < 2 ^ N → bit_or a b ≡ ior N a b
unfolding ior
or_is N a b h k = sym (mod-eq_of_lt (or_lt N a b h k)) ∙ bitwise_is max bit_or bit_at_or N a b

pub xor_is : (N a b : ℕ) → a < 2 ^ N → b < 2 ^ N → bit_xor a b ≡ ixor N a b
unfolding ixor
xor_is N a b h k =
    sym (mod-eq_of_lt (xor_lt N a b h k)) ∙ bitwise_is (λ d e. (d + e) % 2) bit_xor bit_at_xor N a b

-- ---- counts

-- the top digit of a number of N + 1 bits
pub top_digit : (N n : ℕ) → n < 2 ^ suc N → ((digit n N ≡ 0) × (n < 2 ^ N)) ⊎ ((digit n N ≡ 1) × (2 ^ N ≤ n))
top_digit N n h = ⊎_elim low high (cases_lt n (2 ^ N))
  where
    low : n < 2 ^ N → ((digit n N ≡ 0) × (n < 2 ^ N)) ⊎ ((digit n N ≡ 1) × (2 ^ N ≤ n))
    low small = inl (bit_at_above n N N small (omega arith), small)

    high : 2 ^ N ≤ n → ((digit n N ≡ 0) × (n < 2 ^ N)) ⊎ ((digit n N ≡ 1) × (2 ^ N ≤ n))
    high large =
        let above : 1 ≤ n / 2 ^ N = le-div 1 n (2 ^ N) (pow_pos N) (omega arith) in
        let below : n / 2 ^ N < 2 = div_below n (2 ^ N) 2 (pow_pos N) (omega (arith, pow-suc 2 N)) in
        let one : n / 2 ^ N ≡ 1 = omega arith in
        inr (ap (λ q. q % 2) one, large)

-- the length m of n in digits makes N with the count of the zeros before it
record Length (N n : ℕ) : Type 0 where
  m : ℕ
  whole : iclz N n + m ≡ N
  below : n < 2 ^ m
  least : 2 ^ m ≤ 2 * n + 1

length_low : (N n : ℕ) → digit n N ≡ 0 → Length N n → Length (suc N) n
unfolding iclz ibits
length_low N n e rest =
    let count : iclz (suc N) n ≡ 1 + iclz N n = ap (λ d. cond (d == 0) (1 + iclz N n) 0) e in
    record { m = rest.m; whole = omega (arith, rest.whole, count); below = rest.below; least = rest.least }

length_high : (N n : ℕ) → digit n N ≡ 1 → n < 2 ^ suc N → 2 ^ N ≤ n → Length (suc N) n
unfolding iclz ibits
length_high N n e h large =
    let count : iclz (suc N) n ≡ 0 = ap (λ d. cond (d == 0) (1 + iclz N n) 0) e in
    record { m = suc N; whole = omega (arith, count); below = h; least = omega (arith, pow-suc 2 N) }

length_of : (N n : ℕ) → n < 2 ^ N → Length N n
unfolding iclz ibits
length_of zero n h = record { m = 0; whole = refl; below = h; least = omega arith }
length_of (suc N) n h =
    ⊎_elim (λ t. length_low N n t.0 (length_of N n t.1)) (λ t. length_high N n t.0 h t.1) (top_digit N n h)

pub leading_is : (N n : ℕ) → n < 2 ^ N → count_leading_zeros N n ≡ iclz N n
leading_is N n h = let at = length_of N n h in sym (leading_unique N n (iclz N n) at.m at.whole at.below at.least)

-- the N bits of n, the least significant one first
low_first : ℕ → ℕ → List ℕ
low_first zero n = []
low_first (suc N) n = n % 2 ∷ low_first N (n / 2)

low_first-last : (N n : ℕ) → low_first (suc N) n ≡ low_first N n ++ digit n N ∷ []
unfolding low_first
low_first-last zero n = ap (λ m. m % 2 ∷ []) (sym (div-one n))
low_first-last (suc N) n = ap (λ rest. n % 2 ∷ rest) (low_first-last N (n / 2) ∙ ap (λ d. low_first N (n / 2) ++ d ∷ []) (sym (bit_at-suc n N)))

reverse-ibits : (N n : ℕ) → reverse (ibits N n) ≡ low_first N n
unfolding low_first ibits
reverse-ibits zero n = refl
reverse-ibits (suc N) n = reverse-append (digit n N ∷ []) (ibits N n) ∙ ap (λ bits. bits ++ digit n N ∷ []) (reverse-ibits N n) ∙ sym (low_first-last N n)

under_is : (d t : ℕ) → under d t ≡ cond (d == 0) (1 + t) 0
under_is zero t = sym (one-add t)
under_is (suc d) t = ap (λ b. cond b (1 + t) 0) (sym (ne_eqb (suc d) 0 (λ e. absurd (omega arith))))

trailing_low : (N n : ℕ) → count_trailing_zeros N n ≡ prefix_len (λ d. d == 0) (low_first N n)
unfolding low_first count_trailing_zeros
trailing_low zero n = refl
trailing_low (suc N) n = ap (under (n % 2)) (trailing_low N (n / 2)) ∙ under_is (n % 2) (prefix_len (λ d. d == 0) (low_first N (n / 2)))

pub trailing_is : (N n : ℕ) → count_trailing_zeros N n ≡ ictz N n
unfolding ictz
trailing_is N n = trailing_low N n ∙ ap (prefix_len (λ d. d == 0)) (sym (reverse-ibits N n))

-- a digit's own count
one_digit : (d : ℕ) → d < 2 → count_ones d ≡ cond (d == 1) 1 0
one_digit zero h = ones-ones 0
one_digit (suc zero) h = ones-ones 1
one_digit (suc (suc d)) h = absurd (omega arith)

ones_low : (N n : ℕ) → count_ones (n % 2 ^ N) ≡ ipopcnt N n
unfolding ipopcnt ibits
ones_low zero n = ap count_ones (mod-one n) ∙ one_digit 0 (omega arith)
ones_low (suc N) n =
    ap count_ones (split_top N n) ∙ ones_cat N (digit n N) (n % 2 ^ N) (mod-lt n (pow_pos N))
    ∙ ap₂ (λ d rest. d + rest) (one_digit (digit n N) (bit_at-lt n N)) (ones_low N n)
    ∙ sym (sum_by-cons (λ d. cond (d == 1) 1 0) (digit n N) (ibits N n))

pub ones_is : (N n : ℕ) → n < 2 ^ N → count_ones n ≡ ipopcnt N n
ones_is N n h = ap count_ones (sym (mod-eq_of_lt h)) ∙ ones_low N n
