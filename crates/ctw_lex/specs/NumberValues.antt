-- The same numbers by functions, which compute, and what is told of a number of any size.
use Rattle.std.specs.Prelude.{◌≡◌, ℕ, ◌+◌, ◌*◌, ◌^◌, ◌<◌, ◌≤◌, ◌==◌, ◌&&◌, Bool, true, false, List, [], ◌∷◌, Option, Some, None, option_map, drop, nat_lt, slice_index, if◌then◌else◌}
use Rattle.std.specs.Option.{option_or}
use Rattle.ctw_lex.specs.declared.numbers.Magnitude.{Magnitude}
use Rattle.ctw_lex.specs.declared.numbers.Magnitude.TheVariants.{Small, Large}
use Rattle.ctw_lex.specs.declared.numbers.SignedNumber.{SignedNumber}
use Rattle.ctw_lex.specs.declared.numbers.Base.{Base}
use Rattle.ctw_lex.specs.declared.numbers.Base.TheVariants.{Decimal, Hexadecimal}
use Rattle.ctw_lex.specs.Chars.{is_hex, hex_value}
use Rattle.ctw_lex.specs.NumberForms.{is_decimal, IsNumber, IsSignedNumber}

-- the number that digits spell behind those of `n`; `after_digit`: does a digit stand straight before them?
abbrev pub digits_value : (base : ℕ) → (is_digit : ℕ → Bool) → (after_digit : Bool) → (n : ℕ) → List ℕ → Option ℕ
digits_value base is_digit after_digit n [] = if after_digit then Some n else None
digits_value base is_digit after_digit n (b ∷ bs) =
    if is_digit b then digits_value base is_digit true (base * n + hex_value b) bs
    else (if after_digit && b == 95 then digits_value base is_digit false n bs else None)

abbrev pub radix : Base → ℕ
radix Decimal = 10
radix Hexadecimal = 16

abbrev pub digit_test : Base → ℕ → Bool
digit_test Decimal b = is_decimal b
digit_test Hexadecimal b = is_hex b

abbrev pub decimal_value : List ℕ → Option ℕ
decimal_value bs = digits_value 10 is_decimal false 0 bs

abbrev pub hexadecimal_value : List ℕ → Option ℕ
hexadecimal_value bs =
    if slice_index bs 0 == 48 && slice_index bs 1 == 120 then digits_value 16 is_hex false 0 (drop 2 bs) else None

-- the number that an atom spells
abbrev pub number_value : List ℕ → Option ℕ
number_value bs = option_or (decimal_value bs) (hexadecimal_value bs)

-- one from 2 ^ 64 on is told without its value
abbrev pub number_of_value : ℕ → Magnitude
number_of_value n = if nat_lt n (2 ^ 64) then Small n else Large

-- the signed number that an atom spells: whether its sign is `-`, and the number without it
abbrev pub signed_number_value : List ℕ → Option (Bool × ℕ)
signed_number_value bs =
    if slice_index bs 0 == 43 then option_map (λ n. (false, n)) (number_value (drop 1 bs))
    else (if slice_index bs 0 == 45 then option_map (λ n. (true, n)) (number_value (drop 1 bs))
    else option_map (λ n. (false, n)) (number_value bs))

abbrev pub signed_of_value : Bool × ℕ → SignedNumber
signed_of_value (negative, n) = record { negative = negative; size = number_of_value n }

-- the number is told so: by its value, which is below 2 ^ 64, or as one that isn't
abbrev pub IsTold : Magnitude → ℕ → Type 0
IsTold (Small value) n = (n ≡ value) × (n < 2 ^ 64)
IsTold Large n = 2 ^ 64 ≤ n

abbrev pub NoNumber : List ℕ → Type 0
NoNumber text = (n : ℕ) → ¬ (IsNumber text n)

abbrev pub NoSigned : List ℕ → Type 0
NoSigned text = (negative : Bool) (n : ℕ) → ¬ (IsSignedNumber text negative n)

-- the atom spells a number that is told so
pub record SpellsNumber (text : List ℕ) (told : Magnitude) : Type 0 where
  pub value : ℕ
  pub spelled : IsNumber text value
  pub as_told : IsTold told value

-- the atom spells a number with a sign or without one that is told so
pub record SpellsSigned (text : List ℕ) (told : SignedNumber) : Type 0 where
  pub value : ℕ
  pub spelled : IsSignedNumber text told.negative value
  pub as_told : IsTold told.size value
