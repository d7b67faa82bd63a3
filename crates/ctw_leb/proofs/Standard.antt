-- The standard's numbers are those of the grammar by `half`.
use Rattle.std.proofs.Common.{◌≡◌, ℕ, suc, ◌+◌, ◌-◌, ◌*◌, ◌/◌, ◌^◌, ◌<◌, ◌≤◌, ◌⊎◌, inl, inr, List, [], ◌∷◌, ltb, leb, cond, Some, None, refl, sym, ap, subst, ◌∙◌, arith}
use Rattle.std.proofs.lemmas.Bool.{ltb-true, ltb-false, leb-true, lt-ltb, le-ltb, le-leb, cases_lt}
use Rattle.std.proofs.lemmas.Nat.{pow-add}
use Rattle.std.proofs.Math.Pow.{pow_mono}
use Rattle.std.proofs.Math.Nat.{pow-succ'}
use Rattle.std.specs.Prelude.{ℤ, pos, negsuc, ◌+ℤ◌, ◌-ℤ◌, ◌*ℤ◌}
use Rattle.std.proofs.lemmas.Int.{ints}
use Rattle.ctw_leb.specs.Numbers.{IsUnsigned, IsSignedEnd, IsSigned}
use Rattle.ctw_leb.specs.Readers.{unsigned_end, signed_end}
use Rattle.ctw_leb.proofs.Exact.{chosen}
use Rattle.ctw_leb.proofs.Numbers.{IsNumber}

-- seven bits more
pub seven_more : (m : ℕ) → 7 ≤ m → 2 ^ m ≡ 128 * 2 ^ (m - 7)
seven_more m le =
    let same : m ≡ 7 + (m - 7) = omega arith in
    ap (λ (k : ℕ). 2 ^ k) same ∙ pow-add 2 7 (m - 7)

-- a half that more than seven bits fit into
pub large_half : (m : ℕ) → 7 ≤ m → 128 ≤ 2 ^ m
large_half m le = pow_mono le

pub small_half : (m : ℕ) → 64 < 2 ^ m → 7 ≤ m
small_half m le =
    elim (cases_lt m 7) [
      | inl lt ↦ let le6 : m ≤ 6 = omega arith in
          let h : 2 ^ m ≤ 2 ^ 6 = pow_mono {i = m} {j = 6} le6 in absurd (omega (arith, h))
      | inr ge ↦ ge
    ]

-- a half of seven bits less
pub less_half : (m half : ℕ) → 7 ≤ m → half ≡ 2 ^ m → half / 128 ≡ 2 ^ (m - 7)
less_half m half le e = omega (arith, e, seven_more m le)

pub unsigned_ends : (half b : ℕ) → b < 2 * half → unsigned_end half b ≡ Some b
unsigned_ends half b lt = rw (lt-ltb (b / 2) half (omega arith)) refl

pub double : (m : ℕ) → 2 ^ suc m ≡ 2 * 2 ^ m
double m = pow-succ' 2 m

pub number_from_unsigned : (m half : ℕ) (text : List ℕ) (n : ℕ) → half ≡ 2 ^ m → IsUnsigned (suc m) text n → IsNumber unsigned_end half text n
number_from_unsigned m half [] n e h = absurd h
number_from_unsigned m half (b ∷ []) n e h = (h.0, unsigned_ends half b (omega (arith, e, double m, h.1)) ∙ ap (λ (k : ℕ). Some k) (sym h.2))
number_from_unsigned m half (b ∷ c ∷ bs) n e h =
    let le : 7 ≤ m = omega (arith, h.2) in
    let bits : suc m - 7 ≡ suc (m - 7) = omega arith in
    let below : IsUnsigned (suc (m - 7)) (c ∷ bs) h.3 = subst (λ (k : ℕ). IsUnsigned k (c ∷ bs) h.3) bits h.4 in
    (h.0, h.1, omega (arith, e, large_half m le), h.3, omega (arith, h.5), number_from_unsigned (m - 7) (half / 128) (c ∷ bs) h.3 (less_half m half le e) below)

pub some_is : (x y : ℕ) → Some x ≡ Some y → y ≡ x
some_is x y q = cc

pub none_some : (x : ℕ) → None ≡ Some x → ⊥
none_some x q = cc

-- which test an unsigned last byte passed
pub unsigned_end_is : (half b n : ℕ) → unsigned_end half b ≡ Some n → (b / 2 < half) × (n ≡ b)
unsigned_end_is half b n e =
    elim (chosen (ltb (b / 2) half) (Some b) None (Some n) e) [
      | inl p ↦ (ltb-true (b / 2) half p.0, some_is b n p.1)
      | inr p ↦ absurd (none_some n p.1)
    ]

pub unsigned_from_number : (m half : ℕ) (text : List ℕ) (n : ℕ) → half ≡ 2 ^ m → IsNumber unsigned_end half text n → IsUnsigned (suc m) text n
unsigned_from_number m half [] n e h = absurd h
unsigned_from_number m half (b ∷ []) n e h =
    let p = unsigned_end_is half b n h.1 in
    (h.0, omega (arith, e, double m, p.0), p.1)
unsigned_from_number m half (b ∷ c ∷ bs) n e h =
    let le : 7 ≤ m = small_half m (omega (arith, e, h.2)) in
    let bits : suc (m - 7) ≡ suc m - 7 = omega arith in
    let below = unsigned_from_number (m - 7) (half / 128) (c ∷ bs) h.3 (less_half m half le e) h.5 in
    (h.0, h.1, omega (arith, le), h.3, subst (λ (k : ℕ). IsUnsigned k (c ∷ bs) h.3) bits below, omega (arith, h.4))

-- ---- signed numbers

-- a number from - half on, below half
abbrev pub FitsHalf : ℕ → ℤ → Type 0
FitsHalf half (pos k) = k < half
FitsHalf half (negsuc k) = k < half

-- its bits in two's complement
abbrev pub bits_of : ℕ → ℤ → ℕ
bits_of half (pos k) = k
bits_of half (negsuc k) = 2 * half - suc k

-- the number of these bits
abbrev pub number_of : ℕ → ℕ → ℤ
number_of half n = cond (ltb n half) (pos n) (negsuc (2 * half - suc n))

below_zero : (b : ℕ) → b < 128 → pos b -ℤ pos 128 ≡ negsuc (127 - b)
below_zero b lt = omega (arith, ints)

above_pos : (k b : ℕ) → (pos 128 *ℤ pos k) +ℤ pos (b - 128) ≡ pos (128 * k + (b - 128))
above_pos k b = omega (arith, ints)

above_negsuc : (k b : ℕ) → 128 ≤ b → b < 256 → (pos 128 *ℤ negsuc k) +ℤ pos (b - 128) ≡ negsuc (128 * k + (255 - b))
above_negsuc k b le lt = omega (arith, ints)

pub signed_ends_low : (half b : ℕ) → b < 64 → b < half → signed_end half b ≡ Some b
signed_ends_low half b low lt = rw (lt-ltb b 64 low, lt-ltb b half lt) refl

pub signed_ends_high : (half b : ℕ) → 64 ≤ b → 128 ≤ b + half → signed_end half b ≡ Some (half - (128 - b) + half)
signed_ends_high half b high le = rw (le-ltb b 64 high, le-leb 128 (b + half) le) refl

-- the last byte
from_signed_end : (m half b : ℕ) (z : ℤ) → half ≡ 2 ^ m → IsSignedEnd (suc m) b z → (b < 128) × (signed_end half b ≡ Some (bits_of half z)) × FitsHalf half z
from_signed_end m half b z e (inl h) =
    let bits : suc m - 1 ≡ m = omega arith in
    let lt : b < half = rw (bits, ← e) at h.1 in
    subst (λ (y : ℤ). (b < 128) × (signed_end half b ≡ Some (bits_of half y)) × FitsHalf half y) (sym h.2) (omega (arith, h.0), signed_ends_low half b h.0 lt, lt)
from_signed_end m half b z e (inr h) =
    let bits : suc m - 1 ≡ m = omega arith in
    let le : 128 ≤ b + half = rw (bits, ← e) at h.2 in
    let same : half - (128 - b) + half ≡ 2 * half - suc (127 - b) = omega (arith, h.1, le) in
    subst (λ (y : ℤ). (b < 128) × (signed_end half b ≡ Some (bits_of half y)) × FitsHalf half y) (sym (h.3 ∙ below_zero b h.1))
    (h.1, signed_ends_high half b h.0 le ∙ ap (λ (k : ℕ). Some k) same, omega (arith, h.1, le))

-- a byte in front of a number
from_signed_more : (half b : ℕ) (k z : ℤ) → 128 ≤ b → b < 256 → 128 * (half / 128) ≡ half → FitsHalf (half / 128) k → z ≡ (pos 128 *ℤ k) +ℤ pos (b - 128)
    → (bits_of half z ≡ b - 128 + 128 * bits_of (half / 128) k) × FitsHalf half z
from_signed_more half b (pos k) z le lt whole fits e =
    subst (λ (y : ℤ). (bits_of half y ≡ b - 128 + 128 * k) × FitsHalf half y) (sym (e ∙ above_pos k b)) (omega arith, omega arith)
from_signed_more half b (negsuc k) z le lt whole fits e =
    subst (λ (y : ℤ). (bits_of half y ≡ b - 128 + 128 * (2 * (half / 128) - suc k)) × FitsHalf half y) (sym (e ∙ above_negsuc k b le lt)) (omega arith, omega arith)

pub number_from_signed : (m half : ℕ) (text : List ℕ) (z : ℤ) → half ≡ 2 ^ m → IsSigned (suc m) text z → IsNumber signed_end half text (bits_of half z) × FitsHalf half z
number_from_signed m half [] z e h = absurd h
number_from_signed m half (b ∷ []) z e h =
    let s = from_signed_end m half b z e h in
    ((s.0, s.1), s.2)
number_from_signed m half (b ∷ c ∷ bs) z e h =
    let le : 7 ≤ m = omega (arith, h.2) in
    let bits : suc m - 7 ≡ suc (m - 7) = omega arith in
    let below : IsSigned (suc (m - 7)) (c ∷ bs) h.3 = subst (λ (k : ℕ). IsSigned k (c ∷ bs) h.3) bits h.4 in
    let less = less_half m half le e in
    let whole : 128 * (half / 128) ≡ half = omega (arith, e, less, seven_more m le) in
    let again = number_from_signed (m - 7) (half / 128) (c ∷ bs) h.3 less below in
    let made = from_signed_more half b h.3 z h.0 h.1 whole again.1 h.5 in
    ((h.0, h.1, omega (arith, e, large_half m le), bits_of (half / 128) h.3, made.0, again.0), made.1)

-- which tests a signed last byte passed
pub signed_end_tests : (half b n : ℕ) → signed_end half b ≡ Some n → ((b < 64) × (b < half) × (n ≡ b)) ⊎ ((64 ≤ b) × (128 ≤ b + half) × (n ≡ half - (128 - b) + half))
signed_end_tests half b n q =
    elim (chosen (ltb b 64) (cond (ltb b half) (Some b) None) (cond (leb 128 (b + half)) (Some (half - (128 - b) + half)) None) (Some n) q) [
      | inl p ↦
          elim (chosen (ltb b half) (Some b) None (Some n) p.1) [
            | inl r ↦ inl (ltb-true b 64 p.0, ltb-true b half r.0, some_is b n r.1)
            | inr r ↦ absurd (none_some n r.1)
          ]
      | inr p ↦
          elim (chosen (leb 128 (b + half)) (Some (half - (128 - b) + half)) None (Some n) p.1) [
            | inl r ↦ inr (ltb-false b 64 p.0, leb-true 128 (b + half) r.0, some_is (half - (128 - b) + half) n r.1)
            | inr r ↦ absurd (none_some n r.1)
          ]
    ]

-- the number that a last byte ends
signed_end_is : (m half b n : ℕ) → half ≡ 2 ^ m → b < 128 → signed_end half b ≡ Some n → IsSignedEnd (suc m) b (number_of half n) × (n < 2 * half)
signed_end_is m half b n e lt q =
    elim (signed_end_tests half b n q) [
      | inl t ↦ low t.0 t.1 t.2
      | inr t ↦ high t.0 t.1 t.2
    ]
  where
    bits : suc m - 1 ≡ m
    bits = omega arith

    low : b < 64 → b < half → n ≡ b → IsSignedEnd (suc m) b (number_of half n) × (n < 2 * half)
    low p r s =
        let within : n < half = omega arith in
        let is : number_of half n ≡ pos b = rw (lt-ltb n half within) (ap (λ (k : ℕ). pos k) s) in
        (inl (p, rw (bits, ← e) r, is), omega arith)

    high : 64 ≤ b → 128 ≤ b + half → n ≡ half - (128 - b) + half → IsSignedEnd (suc m) b (number_of half n) × (n < 2 * half)
    high p r s =
        let above : half ≤ n = omega arith in
        let same : 2 * half - suc n ≡ 127 - b = omega arith in
        let is : number_of half n ≡ pos b -ℤ pos 128 = rw (le-ltb n half above) (ap (λ (k : ℕ). negsuc k) same ∙ sym (below_zero b lt)) in
        (inr (p, lt, rw (bits, ← e) r, is), omega arith)

-- a byte in front of a number's bits
signed_end_more : (half b high n : ℕ) → 128 ≤ b → b < 256 → 128 * (half / 128) ≡ half → high < 2 * (half / 128) → n ≡ b - 128 + 128 * high
    → (number_of half n ≡ (pos 128 *ℤ number_of (half / 128) high) +ℤ pos (b - 128)) × (n < 2 * half)
signed_end_more half b high n le lt whole fits e =
    elim (cases_lt high (half / 128)) [
      | inl small ↦
          let small' : n < half = omega arith in
          let here : number_of half n ≡ pos n = rw (lt-ltb n half small') refl in
          let there : number_of (half / 128) high ≡ pos high = rw (lt-ltb high (half / 128) small) refl in
          let same : n ≡ 128 * high + (b - 128) = omega arith in
          (here ∙ ap (λ (k : ℕ). pos k) same ∙ sym (above_pos high b) ∙ ap (λ (y : ℤ). (pos 128 *ℤ y) +ℤ pos (b - 128)) (sym there), omega arith)
      | inr large ↦
          let large' : half ≤ n = omega arith in
          let here : number_of half n ≡ negsuc (2 * half - suc n) = rw (le-ltb n half large') refl in
          let there : number_of (half / 128) high ≡ negsuc (2 * (half / 128) - suc high) = rw (le-ltb high (half / 128) large) refl in
          let same : 2 * half - suc n ≡ 128 * (2 * (half / 128) - suc high) + (255 - b) = omega arith in
          (here ∙ ap (λ (k : ℕ). negsuc k) same ∙ sym (above_negsuc (2 * (half / 128) - suc high) b le lt) ∙ ap (λ (y : ℤ). (pos 128 *ℤ y) +ℤ pos (b - 128)) (sym there), omega arith)
    ]

pub signed_from_number : (m half : ℕ) (text : List ℕ) (n : ℕ) → half ≡ 2 ^ m → IsNumber signed_end half text n → IsSigned (suc m) text (number_of half n) × (n < 2 * half)
signed_from_number m half [] n e h = absurd h
signed_from_number m half (b ∷ []) n e h = signed_end_is m half b n e h.0 h.1
signed_from_number m half (b ∷ c ∷ bs) n e h =
    let le : 7 ≤ m = small_half m (omega (arith, e, h.2)) in
    let bits : suc (m - 7) ≡ suc m - 7 = omega arith in
    let less = less_half m half le e in
    let whole : 128 * (half / 128) ≡ half = omega (arith, e, less, seven_more m le) in
    let again = signed_from_number (m - 7) (half / 128) (c ∷ bs) h.3 less h.5 in
    let made = signed_end_more half b h.3 n h.0 h.1 whole again.1 h.4 in
    ((h.0, h.1, omega (arith, le), number_of (half / 128) h.3, subst (λ (k : ℕ). IsSigned k (c ∷ bs) (number_of (half / 128) h.3)) bits again.0, made.0), made.1)

-- a number's bits are those of that number
pub number_of-bits_of : (half : ℕ) (z : ℤ) → FitsHalf half z → number_of half (bits_of half z) ≡ z
number_of-bits_of half (pos k) fits = rw (lt-ltb k half fits) refl
number_of-bits_of half (negsuc k) fits =
    let above : half ≤ 2 * half - suc k = omega arith in
    let same : 2 * half - suc (2 * half - suc k) ≡ k = omega arith in
    rw (le-ltb (2 * half - suc k) half above) (ap (λ (j : ℕ). negsuc j) same)
