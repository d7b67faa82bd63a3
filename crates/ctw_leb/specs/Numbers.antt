-- Numbers in bytes of seven bits, the lowest first, as the W3C WebAssembly Core Specification 1.0 gives
-- them in section 5.2.2.
use Rattle.std.specs.Prelude.{◌≡◌, ℕ, ◌+◌, ◌-◌, ◌*◌, ◌^◌, ◌<◌, ◌≤◌, ◌⊎◌, [], ◌∷◌, ℤ, pos, ◌+ℤ◌, ◌-ℤ◌, ◌*ℤ◌}
use Rattle.std.specs.Int.{w32, w64, cast_unsigned}
use Rattle.ctw_leb.specs.Grammar.{Grammar, Mapped}

-- an unsigned number below 2 ^ bits
abbrev pub IsUnsigned : ℕ → Grammar ℕ
IsUnsigned bits [] n = ⊥
IsUnsigned bits (b ∷ []) n = (b < 2 ^ 7) × (b < 2 ^ bits) × (n ≡ b)
IsUnsigned bits (b ∷ c ∷ bs) n =
    (2 ^ 7 ≤ b) × (b < 2 ^ 8) × (7 < bits) × (m : ℕ) × IsUnsigned (bits - 7) (c ∷ bs) m × (n ≡ 2 ^ 7 * m + (b - 2 ^ 7))

-- the last byte of a signed number: from 0 on, or below 0
abbrev pub IsSignedEnd : ℕ → ℕ → ℤ → Type 0
IsSignedEnd bits b z =
    ((b < 2 ^ 6) × (b < 2 ^ (bits - 1)) × (z ≡ pos b))
    ⊎ ((2 ^ 6 ≤ b) × (b < 2 ^ 7) × (2 ^ 7 ≤ b + 2 ^ (bits - 1)) × (z ≡ pos b -ℤ pos (2 ^ 7)))

-- a signed number from - 2 ^ (bits - 1) on, below 2 ^ (bits - 1)
abbrev pub IsSigned : ℕ → Grammar ℤ
IsSigned bits [] z = ⊥
IsSigned bits (b ∷ []) z = IsSignedEnd bits b z
IsSigned bits (b ∷ c ∷ bs) z =
    (2 ^ 7 ≤ b) × (b < 2 ^ 8) × (7 < bits) × (m : ℤ) × IsSigned (bits - 7) (c ∷ bs) m
    × (z ≡ (pos (2 ^ 7) *ℤ m) +ℤ pos (b - 2 ^ 7))

-- an unsigned number of 32 bits; at most 5 bytes
abbrev pub IsU32 : Grammar ℕ
IsU32 = IsUnsigned 32

-- a signed number of 32 bits, by its bits in two's complement; at most 5 bytes
abbrev pub IsS32 : Grammar ℕ
IsS32 = Mapped (cast_unsigned w32) (IsSigned 32)

-- a signed number of 64 bits, by its bits in two's complement; at most 10 bytes
abbrev pub IsS64 : Grammar ℕ
IsS64 = Mapped (cast_unsigned w64) (IsSigned 64)
