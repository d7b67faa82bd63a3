-- The minimal spellings of numbers.
use Rattle.std.specs.Prelude.{◌≡◌, ℕ, zero, suc, ◌+◌, ◌-◌, ◌/◌, ◌%◌, ◌<◌, ◌⊎◌, Bool, true, false, List, [], ◌∷◌, length, nat_lt, if◌then◌else◌, ℤ, pos, negsuc}
use Rattle.ctw_leb.specs.Grammar.{Grammar}

-- a spelling of a value, and all others are longer
pub record IsMinimal {A : Type 0} (G : Grammar A) (text : List ℕ) (a : A) : Type 0 where
  pub spelled : G text a
  pub others : (other : List ℕ) → G other a → (other ≡ text) ⊎ (length text < length other)

-- seven bits as they are, or turned over
abbrev pub turned : Bool → ℕ → ℕ
turned false x = x
turned true x = 127 - x

-- n, or - (n + 1) by the bits of n turned over, in at most so many bytes; the last one has what is below `limit`
unfoldable pub shortest : ℕ → Bool → ℕ → ℕ → List ℕ
shortest limit below zero n = []
shortest limit below (suc k) n =
    if nat_lt n limit then turned below n ∷ [] else (turned below (n % 128) + 128) ∷ shortest limit below k (n / 128)

-- the minimal spelling of an unsigned number: seven bits in each byte
unfoldable pub u32_text : ℕ → List ℕ
u32_text = shortest 128 false 10

-- the minimal spelling of a signed number: seven bits in each byte, the uppermost of the last one its sign
unfoldable pub s64_text : ℤ → List ℕ
s64_text (pos n) = shortest 64 false 10 n
s64_text (negsuc n) = shortest 64 true 10 n
