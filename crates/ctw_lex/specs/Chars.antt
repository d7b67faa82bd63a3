-- Which bytes stand where. A text is the list of its bytes in UTF-8.
use Rattle.std.specs.Prelude.{ℕ, ◌+◌, ◌*◌, ◌==◌, ◌&&◌, ◌||◌, ◌-◌, List, fold, not, nat_le, nat_lt, nat_eq, Bool, Option, Some, None, codes, if◌then◌else◌}
use Rattle.std.specs.List.{list_any}

-- a space, a tab, a carriage return or a line feed
abbrev pub is_blank : ℕ → Bool
is_blank b = b == 32 || b == 9 || b == 13 || b == 10

-- from `low` to `high`
abbrev pub is_within : ℕ → ℕ → ℕ → Bool
is_within low high b = nat_le low b && nat_le b high

-- an ASCII letter, an ASCII digit or one of the marks
abbrev pub is_atom_byte : ℕ → Bool
is_atom_byte b =
    is_within 97 122 b || is_within 65 90 b || is_within 48 57 b
    || list_any (nat_eq b) (codes "!#$%&'*+-./:<=>?@\\^_`|~")

-- what stands for itself in a string: from U+20 on, but not U+7F, a quote or a backslash
abbrev pub is_string_byte : ℕ → Bool
is_string_byte b = nat_le 32 b && not (b == 127) && not (b == 34) && not (b == 92)

-- what a hexadecimal digit of either case counts
abbrev pub hex_value : ℕ → ℕ
hex_value b = if nat_le b 57 then b - 48 else (if nat_le b 70 then b - 55 else b - 87)

-- a hexadecimal digit of either case
abbrev pub is_hex : ℕ → Bool
is_hex b = is_within 48 57 b || is_within 65 70 b || is_within 97 102 b

-- a Unicode scalar value: no surrogate, and at most 10FFFF
abbrev pub is_scalar : ℕ → Bool
is_scalar c = nat_lt c 0xD800 || (nat_le 0xE000 c && nat_lt c 0x11_0000)

-- the number that hexadecimal digits spell
abbrev pub number_of : List ℕ → ℕ
number_of digits = fold (λ n b. 16 * n + hex_value b) 0 digits

-- what `t`, `n`, `r`, a quote, an apostrophe or a backslash stands for behind a backslash
abbrev pub simple_of : ℕ → Option ℕ
simple_of b =
    if b == 116 then Some 9
    else (if b == 110 then Some 10
    else (if b == 114 then Some 13
    else (if b == 34 then Some 34
    else (if b == 39 then Some 39
    else (if b == 92 then Some 92
    else None)))))
