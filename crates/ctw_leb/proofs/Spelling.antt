-- The minimal spellings.
use Rattle.std.proofs.Common.{◌≡◌, ◌++◌, ◌+◌, ◌-◌, ◌*◌, ◌<◌, ◌≤◌, ◌^◌, ◌/◌, ◌%◌, ◌⊎◌, ◌∷◌, [], List, ℕ, zero, suc, length, Bool, true, false, Some, refl, sym, ap, ◌∙◌, subst, append_assoc, arith, inl, inr}
use Rattle.std.proofs.lemmas.Bool.{lt-ltb, le-ltb, ltb-true, cases_lt}
use Rattle.std.specs.Prelude.{ℤ, pos, negsuc, FitsSigned}
use Rattle.std.specs.Int.{w32, w64, cast_unsigned, cast_signed}
use Rattle.std.proofs.lemmas.Int.{to_z-of_z}
use lib.Signed.{lt_z}
use Rattle.ctw_leb.specs.Numbers.{IsU32, IsSigned}
use Rattle.ctw_leb.specs.Readers.{unsigned_end, signed_end}
use Rattle.ctw_leb.specs.Spelling.{IsMinimal, turned, shortest, u32_text, s64_text}
use Rattle.ctw_leb.proofs.Numbers.{IsNumber, more_bytes}
use Rattle.ctw_leb.proofs.Standard.{number_from_unsigned, unsigned_from_number, number_from_signed, signed_from_number, bits_of, number_of, FitsHalf, less_half, seven_more, large_half, small_half, unsigned_ends, unsigned_end_is, signed_ends_low, signed_ends_high, signed_end_tests, number_of-bits_of}

-- how many numbers have a spelling of so many bytes and one more
abbrev pub room : ℕ → ℕ → ℕ
room limit zero = limit
room limit (suc k) = 128 * room limit k

pub one_more : (limit : ℕ) (below : Bool) (k n : ℕ) → limit ≤ n → shortest limit below (suc k) n ≡ (turned below (n % 128) + 128) ∷ shortest limit below k (n / 128)
unfolding shortest
one_more limit below k n le = rw (le-ltb n limit le) refl

pub last_one : (limit : ℕ) (below : Bool) (k n : ℕ) → n < limit → shortest limit below (suc k) n ≡ turned below n ∷ []
unfolding shortest
last_one limit below k n lt = rw (lt-ltb n limit lt) refl

-- a byte is written
pub step : (limit : ℕ) (below : Bool) (k n : ℕ) (out start whole : List ℕ) → limit ≤ n → n < room limit k → out ++ shortest limit below (suc k) n ≡ start ++ whole
    → (j : ℕ) × (n / 128 < room limit j) × ((out ++ (turned below (n % 128) + 128) ∷ []) ++ shortest limit below (suc j) (n / 128) ≡ start ++ whole)
step limit below zero n out start whole le lt e = absurd (omega arith)
step limit below (suc j) n out start whole le lt e =
    (j, omega arith, append_assoc out ((turned below (n % 128) + 128) ∷ []) (shortest limit below (suc j) (n / 128)) ∙ ap (λ (l : List ℕ). out ++ l) (sym (one_more limit below (suc j) n le)) ∙ e)

-- seven bits fit into a half above 64
pub record SevenLess (m : ℕ) : Type 0 where
  pub seven : 7 ≤ m
  pub large : 128 ≤ 2 ^ m
  pub less : 2 ^ m / 128 ≡ 2 ^ (m - 7)
  pub whole : 128 * 2 ^ (m - 7) ≡ 2 ^ m

seven_less : (m : ℕ) → 64 < 2 ^ m → SevenLess m
seven_less m lt =
    let le : 7 ≤ m = small_half m lt in
    record { seven = le; large = large_half m le; less = less_half m (2 ^ m) le refl; whole = sym (seven_more m le) }

-- ---- unsigned numbers

-- it is a spelling
unsigned_spells : (k m n : ℕ) → n < room 128 k → n < 2 * 2 ^ m → IsNumber unsigned_end (2 ^ m) (shortest 128 false (suc k) n) n
unsigned_spells zero m n fits below = rw (last_one 128 false 0 n fits) (fits, unsigned_ends (2 ^ m) n below)
unsigned_spells (suc k) m n fits below =
    elim (cases_lt n 128) [
      | inl lt ↦ rw (last_one 128 false (suc k) n lt) (lt, unsigned_ends (2 ^ m) n below)
      | inr le ↦
          let h = seven_less m (omega arith) in
          let high : n / 128 < 2 * 2 ^ (m - 7) = omega (arith, h.whole) in
          let rest = subst (λ (half : ℕ). IsNumber unsigned_end half (shortest 128 false (suc k) (n / 128)) (n / 128)) (sym h.less) (unsigned_spells k (m - 7) (n / 128) (omega arith) high) in
          let made = more_bytes unsigned_end (2 ^ m) (n % 128 + 128) (shortest 128 false (suc k) (n / 128)) (n / 128) (omega arith) (omega arith) h.large rest in
          let same : n % 128 + 128 - 128 + 128 * (n / 128) ≡ n = omega arith in
          rw (one_more 128 false (suc k) n le) (subst (λ (j : ℕ). IsNumber unsigned_end (2 ^ m) ((n % 128 + 128) ∷ shortest 128 false (suc k) (n / 128)) j) same made)
    ]

-- of two texts one is the same or longer
abbrev pub IsSameOrLonger : List ℕ → List ℕ → Type 0
IsSameOrLonger other text = (other ≡ text) ⊎ (length text < length other)

one_longer : (a : ℕ) (other text : List ℕ) (b : ℕ) → a ≡ b → IsSameOrLonger other text → IsSameOrLonger (a ∷ other) (b ∷ text)
one_longer a other text b e (inl h) = inl cc
one_longer a other text b e (inr h) = inr (omega arith)

-- all others are longer
unsigned_others : (k half n : ℕ) (text : List ℕ) → IsNumber unsigned_end half text n → n < room 128 k → IsSameOrLonger text (shortest 128 false (suc k) n)
unsigned_others k half n [] h fits = absurd h
unsigned_others k half n (b ∷ []) h fits =
    let is : n ≡ b = (unsigned_end_is half b n h.1).1 in
    let lt : n < 128 = omega arith in
    rw (last_one 128 false k n lt) (inl (ap (λ (j : ℕ). j ∷ []) (sym is)))
unsigned_others zero half n (b ∷ c ∷ bs) h fits = rw (last_one 128 false 0 n fits) (inr (omega arith))
unsigned_others (suc k) half n (b ∷ c ∷ bs) h fits =
    elim (cases_lt n 128) [
      | inl lt ↦ rw (last_one 128 false (suc k) n lt) (inr (omega arith))
      | inr le ↦
          let same : h.3 ≡ n / 128 = omega (arith, h.0, h.1, h.4) in
          let rest = unsigned_others k (half / 128) (n / 128) (c ∷ bs) (subst (λ (j : ℕ). IsNumber unsigned_end (half / 128) (c ∷ bs) j) same h.5) (omega arith) in
          rw (one_more 128 false (suc k) n le) (one_longer b (c ∷ bs) (shortest 128 false (suc k) (n / 128)) (n % 128 + 128) (omega (arith, h.0, h.1, h.4)) rest)
    ]

pub u32_minimal : (n : ℕ) → n < 2 ^ 32 → IsMinimal IsU32 (u32_text n) n
unfolding u32_text
u32_minimal n lt = record {
  spelled = unsigned_from_number 31 (2 ^ 31) (shortest 128 false 10 n) n refl (unsigned_spells 9 31 n (omega arith) (omega arith));
  others = λ other m. unsigned_others 9 (2 ^ 31) n other (number_from_unsigned 31 (2 ^ 31) other n refl m) (omega arith);
}

-- ---- signed numbers: n, or - (n + 1)

-- the bits of a number in two's complement
abbrev pub bits_below : ℕ → Bool → ℕ → ℕ
bits_below half false n = n
bits_below half true n = 2 * half - suc n

signed_ends : (half : ℕ) (below : Bool) (n : ℕ) → n < 64 → n < half → (turned below n < 128) × (signed_end half (turned below n) ≡ Some (bits_below half below n))
signed_ends half false n small fits = (omega arith, signed_ends_low half n small fits)
signed_ends half true n small fits =
    let same : half - (128 - (127 - n)) + half ≡ 2 * half - suc n = omega arith in
    (omega arith, signed_ends_high half (127 - n) (omega arith) (omega arith) ∙ ap (λ (j : ℕ). Some j) same)

-- what is in front of the other bytes
turned_low : (half : ℕ) (below : Bool) (n : ℕ) → n < 128 * half → (turned below (n % 128) < 128) × (turned below (n % 128) + 128 * bits_below half below (n / 128) ≡ bits_below (128 * half) below n)
turned_low half false n fits = (omega arith, omega arith)
turned_low half true n fits = (omega arith, omega arith)

signed_spells : (k m : ℕ) (below : Bool) (n : ℕ) → n < room 64 k → n < 2 ^ m → IsNumber signed_end (2 ^ m) (shortest 64 below (suc k) n) (bits_below (2 ^ m) below n)
signed_spells zero m below n fits lt = rw (last_one 64 below 0 n fits) (signed_ends (2 ^ m) below n fits lt)
signed_spells (suc k) m below n fits lt =
    elim (cases_lt n 64) [
      | inl small ↦ rw (last_one 64 below (suc k) n small) (signed_ends (2 ^ m) below n small lt)
      | inr large ↦
          let h = seven_less m (omega arith) in
          let low = turned_low (2 ^ (m - 7)) below n (omega (arith, h.whole)) in
          let rest = subst (λ (half : ℕ). IsNumber signed_end half (shortest 64 below (suc k) (n / 128)) (bits_below (2 ^ (m - 7)) below (n / 128))) (sym h.less) (signed_spells k (m - 7) below (n / 128) (omega arith) (omega (arith, h.whole))) in
          let b : ℕ = turned below (n % 128) + 128 in
          let made = more_bytes signed_end (2 ^ m) b (shortest 64 below (suc k) (n / 128)) (bits_below (2 ^ (m - 7)) below (n / 128)) (omega arith) (omega (arith, low.0)) h.large rest in
          let same : b - 128 + 128 * bits_below (2 ^ (m - 7)) below (n / 128) ≡ bits_below (2 ^ m) below n = omega (arith, low.1) ∙ ap (λ (half : ℕ). bits_below half below n) h.whole in
          rw (one_more 64 below (suc k) n large) (subst (λ (j : ℕ). IsNumber signed_end (2 ^ m) (b ∷ shortest 64 below (suc k) (n / 128)) j) same made)
    ]

last_byte : (half : ℕ) (below : Bool) (n b : ℕ) → b < 128 → n < half → signed_end half b ≡ Some (bits_below half below n) → (n < 64) × (turned below n ≡ b)
last_byte half false n b lt fits e =
    elim (signed_end_tests half b n e) [
      | inl t ↦ (omega arith, omega arith)
      | inr t ↦ absurd (omega arith)
    ]
last_byte half true n b lt fits e =
    elim (signed_end_tests half b (2 * half - suc n) e) [
      | inl t ↦ absurd (omega arith)
      | inr t ↦ (omega arith, omega arith)
    ]

first_byte : (half : ℕ) (below : Bool) (n b high : ℕ) → 128 ≤ b → b < 256 → n < 128 * half → bits_below (128 * half) below n ≡ b - 128 + 128 * high
    → (high ≡ bits_below half below (n / 128)) × (b ≡ turned below (n % 128) + 128)
first_byte half false n b high le lt fits e = (omega arith, omega arith)
first_byte half true n b high le lt fits e = (omega arith, omega arith)

one_byte_longer : (k : ℕ) (below : Bool) (n b c : ℕ) (bs : List ℕ) → n < 64 → IsSameOrLonger (b ∷ c ∷ bs) (shortest 64 below (suc k) n)
one_byte_longer k below n b c bs small = rw (last_one 64 below k n small) (inr (omega arith))

signed_others : (k m : ℕ) (below : Bool) (n : ℕ) (text : List ℕ) → IsNumber signed_end (2 ^ m) text (bits_below (2 ^ m) below n) → n < 2 ^ m → n < room 64 k → IsSameOrLonger text (shortest 64 below (suc k) n)
signed_others k m below n [] h lt fits = absurd h
signed_others k m below n (b ∷ []) h lt fits =
    let s = last_byte (2 ^ m) below n b h.0 lt h.1 in
    rw (last_one 64 below k n s.0) (inl (ap (λ (j : ℕ). j ∷ []) (sym s.1)))
signed_others zero m below n (b ∷ c ∷ bs) h lt fits = one_byte_longer 0 below n b c bs fits
signed_others (suc k) m below n (b ∷ c ∷ bs) h lt fits =
    elim (cases_lt n 64) [
      | inl small ↦ one_byte_longer (suc k) below n b c bs small
      | inr large ↦
          let s = seven_less m (omega (arith, h.2)) in
          let half : ℕ = 2 ^ (m - 7) in
          let f = first_byte half below n b h.3 h.0 h.1 (omega (arith, s.whole)) (ap (λ (j : ℕ). bits_below j below n) s.whole ∙ h.4) in
          let behind_it : IsNumber signed_end half (c ∷ bs) h.3 = subst (λ (j : ℕ). IsNumber signed_end j (c ∷ bs) h.3) s.less h.5 in
          let rest = signed_others k (m - 7) below (n / 128) (c ∷ bs) (subst (λ (j : ℕ). IsNumber signed_end half (c ∷ bs) j) f.0 behind_it) (omega (arith, s.whole)) (omega arith) in
          rw (one_more 64 below (suc k) n large) (one_longer b (c ∷ bs) (shortest 64 below (suc k) (n / 128)) (turned below (n % 128) + 128) f.1 rest)
    ]

-- in each width that it fits
signed_minimal : (m k : ℕ) (below : Bool) (n : ℕ) (z : ℤ) → n < 2 ^ m → n < room 64 k → bits_of (2 ^ m) z ≡ bits_below (2 ^ m) below n → FitsHalf (2 ^ m) z → IsMinimal (IsSigned (suc m)) (shortest 64 below (suc k) n) z
signed_minimal m k below n z lt fits e ok = record {
  spelled =
      let s = (signed_from_number m (2 ^ m) (shortest 64 below (suc k) n) (bits_below (2 ^ m) below n) refl (signed_spells k m below n fits lt)).0 in
      subst (λ (y : ℤ). IsSigned (suc m) (shortest 64 below (suc k) n) y) (ap (number_of (2 ^ m)) (sym e) ∙ number_of-bits_of (2 ^ m) z ok) s;
  others = λ other o. signed_others k m below n other (subst (λ (j : ℕ). IsNumber signed_end (2 ^ m) other j) e (number_from_signed m (2 ^ m) other z refl o).0) lt fits;
}

pub s64_minimal : (z : ℤ) → FitsSigned w64 z → IsMinimal (IsSigned 64) (s64_text z) z
unfolding s64_text
s64_minimal (pos n) fits = signed_minimal 63 9 false n (pos n) fits.sfits (omega (arith, fits.sfits)) refl fits.sfits
s64_minimal (negsuc n) fits = signed_minimal 63 9 true n (negsuc n) fits.sfits (omega (arith, fits.sfits)) refl fits.sfits

pub s32_minimal : (z : ℤ) → FitsSigned w32 z → IsMinimal (IsSigned 32) (s64_text z) z
unfolding s64_text
s32_minimal (pos n) fits = signed_minimal 31 9 false n (pos n) fits.sfits (omega (arith, fits.sfits)) refl fits.sfits
s32_minimal (negsuc n) fits = signed_minimal 31 9 true n (negsuc n) fits.sfits (omega (arith, fits.sfits)) refl fits.sfits

-- ten bytes suffice
pub ten_bytes : (limit n : ℕ) → 64 ≤ limit → n < 2 ^ 64 → n < room limit 9
ten_bytes limit n le lt = omega arith

-- what is written for a number below 0, by its bits turned over
pub text_below : (z : ℤ) (bits : ℕ) → FitsSigned w64 z → bits ≡ cast_unsigned w64 (cast_signed w64 (cast_unsigned w64 z)) → lt_z (cast_signed w64 (cast_unsigned w64 z)) (pos 0) ≡ true
    → shortest 64 true 10 (2 ^ 64 - 1 - bits) ≡ s64_text z
unfolding s64_text
text_below z bits fits e t =
    let same : cast_signed w64 (cast_unsigned w64 z) ≡ z = to_z-of_z w64 z fits in
    go z fits (e ∙ ap (cast_unsigned w64) same) (ap (λ (y : ℤ). lt_z y (pos 0)) (sym same) ∙ t)
  where
    go : (y : ℤ) → FitsSigned w64 y → bits ≡ cast_unsigned w64 y → lt_z y (pos 0) ≡ true → shortest 64 true 10 (2 ^ 64 - 1 - bits) ≡ s64_text y
    go (pos k) f q l =
        let none : k < 0 = ltb-true k 0 l in
        absurd (omega arith)
    go (negsuc k) f q l =
        let is : 2 ^ 64 - 1 - bits ≡ k = omega (arith, f.sfits, q) in
        ap (λ (j : ℕ). shortest 64 true 10 j) is

-- and for the others
pub text_not_below : (z : ℤ) (bits : ℕ) → FitsSigned w64 z → bits ≡ cast_unsigned w64 (cast_signed w64 (cast_unsigned w64 z)) → lt_z (cast_signed w64 (cast_unsigned w64 z)) (pos 0) ≡ false
    → shortest 64 false 10 bits ≡ s64_text z
unfolding s64_text
text_not_below z bits fits e t =
    let same : cast_signed w64 (cast_unsigned w64 z) ≡ z = to_z-of_z w64 z fits in
    go z (e ∙ ap (cast_unsigned w64) same) (ap (λ (y : ℤ). lt_z y (pos 0)) (sym same) ∙ t)
  where
    go : (y : ℤ) → bits ≡ cast_unsigned w64 y → lt_z y (pos 0) ≡ false → shortest 64 false 10 bits ≡ s64_text y
    go (pos k) q l = ap (λ (j : ℕ). shortest 64 false 10 j) q
    go (negsuc k) q l = absurd cc
