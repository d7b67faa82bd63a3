-- The readers of bytes, numbers and names on lists. `half` is half of how many numbers fit.
use Rattle.std.specs.Prelude.{ℕ, ◌+◌, ◌-◌, ◌*◌, ◌/◌, ◌^◌, Bool, true, false, List, [], ◌∷◌, length, Option, Some, None, Result, Ok, Err, nat_lt, nat_le, take, drop, if◌then◌else◌, ◌&&◌}
use Rattle.std.specs.Str.{is_utf8}
use Rattle.ctw_leb.specs.declared.fault.Cause.{Cause}
use Rattle.ctw_leb.specs.declared.fault.Cause.TheVariants.{Short, Illegal}
use Rattle.ctw_leb.specs.declared.fault.LebFault.{LebFault}
use Rattle.ctw_leb.specs.declared.fault.LebFault.TheVariants.{Truncated, BadLeb, BadUtf8}
use Rattle.ctw_leb.specs.Input.{Input}
use Rattle.ctw_leb.specs.Reading.{Reader, one_of, tested, ◌>>=◌}

-- one byte as it is
unfoldable pub byte_at : Reader ℕ LebFault
byte_at = one_of (λ at. Truncated) (λ (kind : LebFault). λ at. kind) Ok

-- so many bytes as they are
unfoldable pub bytes_at : ℕ → Reader (List ℕ) LebFault
bytes_at n i =
    if nat_le n (length i.rest) then Ok (take n i.rest, record { at = i.at + n; rest = drop n i.rest })
    else Err Truncated

-- what the last byte of an unsigned number stands for
abbrev pub unsigned_end : ℕ → ℕ → Option ℕ
unsigned_end half b = if nat_lt (b / 2) half then Some b else None

-- what the last byte of a signed number stands for, in two's complement
abbrev pub signed_end : ℕ → ℕ → Option ℕ
signed_end half b =
    if nat_lt b 64 then (if nat_lt b half then Some b else None)
    else if nat_le 128 (b + half) then Some (half - (128 - b) + half) else None

-- what a last byte stands for, in signed numbers or unsigned ones
abbrev pub ending : Bool → ℕ → ℕ → Option ℕ
ending true = signed_end
ending false = unsigned_end

-- the low bits of a byte that isn't the last, below the number behind it
abbrev pub prefixed : ℕ → Result (ℕ × List ℕ) Cause → Result (ℕ × List ℕ) Cause
prefixed b (Ok x) = Ok (b - 128 + 128 * x.0, x.1)
prefixed b (Err e) = Err e

-- the number of the last byte, and the bytes behind it
abbrev pub ended : List ℕ → Option ℕ → Result (ℕ × List ℕ) Cause
ended rest (Some n) = Ok (n, rest)
ended rest None = Err Illegal

-- the number at the front of the bytes, and the bytes behind it
unfoldable pub number_at : (ℕ → ℕ → Option ℕ) → ℕ → List ℕ → Result (ℕ × List ℕ) Cause
number_at last half [] = Err Short
number_at last half (b ∷ bs) =
    if nat_lt b 128 then ended bs (last half b)
    else if nat_le 128 half && nat_lt b 256 then prefixed b (number_at last (half / 128) bs) else Err Illegal

-- the same from a place in a file
abbrev pub placed : Input → Result (ℕ × List ℕ) Cause → Result (ℕ × Input) LebFault
placed i (Ok x) = Ok (x.0, record { at = i.at + (length i.rest - length x.1); rest = x.1 })
placed i (Err Short) = Err Truncated
placed i (Err Illegal) = Err (BadLeb i.at)

-- an unsigned number of 32 bits
abbrev pub u32_at : Reader ℕ LebFault
u32_at i = placed i (number_at unsigned_end (2 ^ 31) i.rest)

-- a signed number of 32 bits, by its bits
abbrev pub s32_at : Reader ℕ LebFault
s32_at i = placed i (number_at signed_end (2 ^ 31) i.rest)

-- a signed number of 64 bits, by its bits
abbrev pub s64_at : Reader ℕ LebFault
s64_at i = placed i (number_at signed_end (2 ^ 63) i.rest)

-- the text of a name behind its size
abbrev pub text_at : ℕ → Reader (List ℕ) LebFault
text_at n = tested is_utf8 BadUtf8 (bytes_at n)

-- a name
unfoldable pub name_at : Reader (List ℕ) LebFault
name_at = u32_at >>= text_at
