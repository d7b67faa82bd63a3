-- How atoms spell numbers (W3C WebAssembly Core 1.0, section 6.3.1).
use Rattle.std.specs.Prelude.{◌≡◌, ℕ, ◌+◌, ◌*◌, Bool, true, false, List, [], ◌∷◌, ◌++◌}
use Rattle.ctw_lex.specs.Chars.{is_within, is_hex, hex_value}

-- a decimal digit
abbrev pub is_decimal : ℕ → Bool
is_decimal b = is_within 48 57 b

-- digits of a base with single `_` between them, and the number that they spell; `_` is 95
pub data IsDigits (base : ℕ) (is_digit : ℕ → Bool) : List ℕ → ℕ → Type 0 where
  one : {d : ℕ} → is_digit d ≡ true → IsDigits base is_digit (d ∷ []) (hex_value d)
  more : {bs : List ℕ} {n d : ℕ} → IsDigits base is_digit bs n → is_digit d ≡ true →
      IsDigits base is_digit (bs ++ d ∷ []) (base * n + hex_value d)
  spaced : {bs : List ℕ} {n d : ℕ} → IsDigits base is_digit bs n → is_digit d ≡ true →
      IsDigits base is_digit (bs ++ 95 ∷ d ∷ []) (base * n + hex_value d)

-- a number: decimal digits, or `0x` and hexadecimal ones of either case
pub data IsNumber : List ℕ → ℕ → Type 0 where
  decimal : {bs : List ℕ} {n : ℕ} → IsDigits 10 is_decimal bs n → IsNumber bs n
  hexadecimal : {bs : List ℕ} {n : ℕ} → IsDigits 16 is_hex bs n → IsNumber (48 ∷ 120 ∷ bs) n

-- a number with no sign, a `+` (43) or a `-` (45) before it: whether the sign is `-`, and the number without it
pub data IsSignedNumber : List ℕ → (negative : Bool) → (size : ℕ) → Type 0 where
  plain : {bs : List ℕ} {n : ℕ} → IsNumber bs n → IsSignedNumber bs false n
  plus : {bs : List ℕ} {n : ℕ} → IsNumber bs n → IsSignedNumber (43 ∷ bs) false n
  minus : {bs : List ℕ} {n : ℕ} → IsNumber bs n → IsSignedNumber (45 ∷ bs) true n
