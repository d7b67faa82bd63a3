-- The operations on integers (W3C WebAssembly Core 1.0, sections 4.3.1, 4.3.2 and 4.3.4, and the sign extensions).
-- N is a width in bits, and an integer of N bits is a number below 2^N.
use Rattle.std.specs.Prelude.{ℕ, zero, suc, ◌+◌, ◌-◌, ◌*◌, ◌/◌, ◌%◌, ◌^◌, min, max, Bool, true, false, not, ◌==◌, nat_lt, nat_le, if◌then◌else◌, List, [], ◌∷◌, count_by, ℤ, pos, negsuc, neg_ℤ, ◌-ℤ◌, unsigned_abs, int_lt, int_le, Result, Ok, Err}
use Rattle.std.specs.List.{prefix_len, suffix_len}
use Rattle.std.specs.Ordering.{int_eq}
pub use Rattle.ctw_ops.specs.Types.{bit_width}
use Rattle.ctw_num.specs.declared.trap.NumTrap.{NumTrap}
use Rattle.ctw_num.specs.declared.trap.NumTrap.TheVariants.{DivZero, DivOverflow}

-- ---- bits (section 4.3.1)

-- the digit d_k of n, where n is the sum of the d_k * 2^k
abbrev pub digit : ℕ → ℕ → ℕ
digit n k = n / 2 ^ k % 2

-- the N bits of n, d_(N-1) to d_0, the most significant one first
unfoldable pub ibits : ℕ → ℕ → List ℕ
ibits zero n = []
ibits (suc N) n = digit n N ∷ ibits N n

-- the number whose digit k, for each k below N, is `f` of the two digits there
unfoldable pub bitwise : (ℕ → ℕ → ℕ) → ℕ → ℕ → ℕ → ℕ
bitwise f zero a b = 0
bitwise f (suc N) a b = f (digit a N) (digit b N) * 2 ^ N + bitwise f N a b

-- ---- signs and truth values (section 4.3.2)

-- the signed interpretation: n itself in the lower half of the range, and n - 2^N in the upper half
unfoldable pub signed : ℕ → ℕ → ℤ
signed N n = if nat_lt n (2 ^ (N - 1)) then pos n else pos n -ℤ pos (2 ^ N)

-- its inverse: a negative number -(n + 1) is taken modulo 2^N
unfoldable pub unsigned : ℕ → ℤ → ℕ
unsigned N (pos n) = n
unsigned N (negsuc n) = 2 ^ N - suc n

-- 1 where a condition holds, else 0
abbrev pub truth : Bool → ℕ
truth condition = if condition then 1 else 0

abbrev pub negative : ℤ → Bool
negative (pos n) = false
negative (negsuc n) = true

-- a size with a sign
abbrev pub with_sign : Bool → ℕ → ℤ
with_sign minus size = if minus then neg_ℤ (pos size) else pos size

-- j divided by k, rounded toward zero: negative where just one of the two is
unfoldable pub truncated : ℤ → ℤ → ℤ
truncated j k = with_sign (if negative j then not (negative k) else negative k) (unsigned_abs j / unsigned_abs k)

-- the remainder of j divided by k, with the sign of j
unfoldable pub remainder : ℤ → ℤ → ℤ
remainder j k = with_sign (negative j) (unsigned_abs j % unsigned_abs k)

-- ---- arithmetic (section 4.3.2)

abbrev pub iadd : ℕ → ℕ → ℕ → ℕ
iadd N a b = (a + b) % 2 ^ N

abbrev pub isub : ℕ → ℕ → ℕ → ℕ
isub N a b = (a + 2 ^ N - b) % 2 ^ N

abbrev pub imul : ℕ → ℕ → ℕ → ℕ
imul N a b = a * b % 2 ^ N

abbrev pub idiv_u : ℕ → ℕ → Result ℕ NumTrap
idiv_u a b = if b == 0 then Err DivZero else Ok (a / b)

-- undefined also where the quotient is 2^(N-1), which no integer of N bits stands for
unfoldable pub idiv_s : ℕ → ℕ → ℕ → Result ℕ NumTrap
idiv_s N a b =
    if b == 0 then Err DivZero
    else if int_eq (truncated (signed N a) (signed N b)) (pos (2 ^ (N - 1))) then Err DivOverflow
    else Ok (unsigned N (truncated (signed N a) (signed N b)))

abbrev pub irem_u : ℕ → ℕ → Result ℕ NumTrap
irem_u a b = if b == 0 then Err DivZero else Ok (a % b)

unfoldable pub irem_s : ℕ → ℕ → ℕ → Result ℕ NumTrap
irem_s N a b = if b == 0 then Err DivZero else Ok (unsigned N (remainder (signed N a) (signed N b)))

-- ---- bits of two numbers (section 4.3.2)

unfoldable pub iand : ℕ → ℕ → ℕ → ℕ
iand N a b = bitwise min N a b

unfoldable pub ior : ℕ → ℕ → ℕ → ℕ
ior N a b = bitwise max N a b

unfoldable pub ixor : ℕ → ℕ → ℕ → ℕ
ixor N a b = bitwise (λ d e. (d + e) % 2) N a b

-- ---- shifts and rotations (section 4.3.2); the count is b modulo N

unfoldable pub ishl : ℕ → ℕ → ℕ → ℕ
ishl N a b = a * 2 ^ (b % N) % 2 ^ N

unfoldable pub ishr_u : ℕ → ℕ → ℕ → ℕ
ishr_u N a b = a / 2 ^ (b % N)

-- copies of the most significant bit come in from above
unfoldable pub ishr_s : ℕ → ℕ → ℕ → ℕ
ishr_s N a b = digit a (N - 1) * (2 ^ N - 2 ^ (N - b % N)) + a / 2 ^ (b % N)

-- the high bits that are shifted out follow the others
unfoldable pub irotl : ℕ → ℕ → ℕ → ℕ
irotl N a b = a % 2 ^ (N - b % N) * 2 ^ (b % N) + a / 2 ^ (N - b % N)

-- the low bits that are shifted out come before the others
unfoldable pub irotr : ℕ → ℕ → ℕ → ℕ
irotr N a b = a % 2 ^ (b % N) * 2 ^ (N - b % N) + a / 2 ^ (b % N)

-- ---- counts (section 4.3.2)

-- how many zeros stand before the first 1; N where there is no 1
unfoldable pub iclz : ℕ → ℕ → ℕ
iclz N n = prefix_len (λ d. d == 0) (ibits N n)

-- how many zeros stand after the last 1; N where there is no 1
unfoldable pub ictz : ℕ → ℕ → ℕ
ictz N n = suffix_len (λ d. d == 0) (ibits N n)

-- how many bits are 1
unfoldable pub ipopcnt : ℕ → ℕ → ℕ
ipopcnt N n = count_by (λ d. d == 1) (ibits N n)

-- ---- tests and comparisons (section 4.3.2)

abbrev pub ieqz : ℕ → ℕ
ieqz n = truth (n == 0)

abbrev pub ieq : ℕ → ℕ → ℕ
ieq a b = truth (a == b)

abbrev pub ine : ℕ → ℕ → ℕ
ine a b = if a == b then 0 else 1

abbrev pub ilt_u : ℕ → ℕ → ℕ
ilt_u a b = truth (nat_lt a b)

abbrev pub igt_u : ℕ → ℕ → ℕ
igt_u a b = truth (nat_lt b a)

abbrev pub ile_u : ℕ → ℕ → ℕ
ile_u a b = truth (nat_le a b)

abbrev pub ige_u : ℕ → ℕ → ℕ
ige_u a b = truth (nat_le b a)

abbrev pub ilt_s : ℕ → ℕ → ℕ → ℕ
ilt_s N a b = truth (int_lt (signed N a) (signed N b))

abbrev pub igt_s : ℕ → ℕ → ℕ → ℕ
igt_s N a b = truth (int_lt (signed N b) (signed N a))

abbrev pub ile_s : ℕ → ℕ → ℕ → ℕ
ile_s N a b = truth (int_le (signed N a) (signed N b))

abbrev pub ige_s : ℕ → ℕ → ℕ → ℕ
ige_s N a b = truth (int_le (signed N b) (signed N a))

-- ---- conversions between M and N bits (section 4.3.4)

abbrev pub wrap : ℕ → ℕ → ℕ
wrap N n = n % 2 ^ N

abbrev pub extend_u : ℕ → ℕ
extend_u n = n

abbrev pub extend_s : ℕ → ℕ → ℕ → ℕ
extend_s M N n = unsigned N (signed M n)

-- the low M of N bits, read as signed (of the sign extensions, which came after 1.0)
abbrev pub iextend_s : ℕ → ℕ → ℕ → ℕ
iextend_s M N n = extend_s M N (wrap M n)
