-- Strings: where one ends, and what it stands for.
use Rattle.std.specs.Prelude.{ℕ, zero, suc, ◌+◌, ◌*◌, ◌==◌, length, ◌&&◌, not, nat_lt, Bool, false, List, [], ◌∷◌, ◌++◌, Option, Some, None, Result, Ok, Err, option_map, take, drop, slice_index, encode_utf8, if◌then◌else◌}
use Rattle.std.specs.List.{prefix_len}
use Rattle.std.specs.Option.{option_or}
use Rattle.std.specs.Result.{result_ok}
use Rattle.ctw_lex.specs.declared.LexKind.{LexKind}
use Rattle.ctw_lex.specs.declared.LexKind.TheVariants.{BadChar, BadEscape}
use Rattle.ctw_lex.specs.Chars.{is_string_byte, hex_value, is_hex, is_scalar, number_of, simple_of}

-- How many bytes stand before the closing quote. A quote behind an unescaped backslash closes nothing.
abbrev pub string_len : (escaped : Bool) → List ℕ → Option ℕ
string_len escaped [] = None
string_len escaped (b ∷ bs) =
    if not escaped && b == 34 then Some 0 else option_map suc (string_len (not escaped && b == 92) bs)

-- an escape: how many bytes it has behind its backslash, and what it stands for
pub record Meaning : Type 0 where
  pub len : ℕ
  pub bytes : List ℕ

-- the byte that two hexadecimal digits name
abbrev pub byte_of : ℕ → List ℕ → Option ℕ
byte_of b [] = None
byte_of b (c ∷ bs) = if is_hex b && is_hex c then Some (16 * hex_value b + hex_value c) else None

-- `u{`, digits of a scalar value, and `}`
abbrev pub scalar_of : ℕ → List ℕ → Option Meaning
scalar_of b bs =
    let n = prefix_len is_hex (drop 1 bs) in
    let value = number_of (take n (drop 1 bs)) in
    if b == 117 && slice_index bs 0 == 123 && nat_lt 0 n && slice_index bs (n + 1) == 125 && is_scalar value
    then Some (record { len = n + 3; bytes = encode_utf8 value }) else None

-- the escape behind a backslash
abbrev pub escape_of : List ℕ → Option Meaning
escape_of [] = None
escape_of (b ∷ bs) =
    option_or (option_map (λ c. record { len = 1; bytes = c ∷ [] }) (simple_of b))
    (option_or (option_map (λ c. record { len = 2; bytes = c ∷ [] }) (byte_of b bs))
    (scalar_of b bs))

-- a byte that may not stand in a string: why, and where
pub record Fault : Type 0 where
  pub kind : LexKind
  pub start : ℕ

-- more before what was read, if it was
abbrev pub with_front : {A E : Type 0} → List A → Result (List A) E → Result (List A) E
with_front front (Ok xs) = Ok (front ++ xs)
with_front front (Err e) = Err e

-- an escape's bytes before those of what follows it, or the fault where there is none
abbrev pub escaped : Option Meaning → Fault → (ℕ → Result (List ℕ) Fault) → Result (List ℕ) Fault
escaped None fault rest = Err fault
escaped (Some e) fault rest = with_front e.bytes (rest e.len)

-- What a string's characters stand for, from the place `at` on, or the first that may not stand there.
-- The first `skip` of them belong to an escape before.
abbrev pub contents : (skip at : ℕ) → List ℕ → Result (List ℕ) Fault
contents skip at [] = Ok []
contents (suc k) at (b ∷ bs) = contents k (at + 1) bs
contents zero at (b ∷ bs) =
    if b == 92 then escaped (escape_of bs) (record { kind = BadEscape; start = at }) (λ k. contents k (at + 1) bs)
    else
    (if is_string_byte b then with_front (b ∷ []) (contents zero (at + 1) bs)
    else Err (record { kind = BadChar; start = at }))

-- the fault, if there is one
abbrev pub fault_of : {A E : Type 0} → Result A E → Option E
fault_of (Ok x) = None
fault_of (Err e) = Some e

-- what stands before a closing quote stands for, if nothing stands behind that quote
abbrev pub value_up_to : List ℕ → Option ℕ → Option (List ℕ)
value_up_to bs None = None
value_up_to bs (Some n) = if n + 1 == length bs then result_ok (contents 0 1 (take n bs)) else None

-- The bytes that a string stands for, quotes and all; None where the text isn't one whole string.
abbrev pub string_value : List ℕ → Option (List ℕ)
string_value [] = None
string_value (b ∷ bs) = if b == 34 then value_up_to bs (string_len false bs) else None
