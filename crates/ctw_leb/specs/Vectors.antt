-- Things behind their count or size.
use Rattle.std.specs.Prelude.{ℕ, List}
use Rattle.std.specs.Str.{is_utf8}
use Rattle.ctw_leb.specs.Grammar.{Grammar, Times, Within, Passing, Bytes, ◌>>=◌}
use Rattle.ctw_leb.specs.Numbers.{IsU32}

-- a count and so many items
abbrev pub Vector : {A : Type 0} → Grammar A → Grammar (List A)
Vector G = IsU32 >>= λ n. Times G n

-- a size and something in so many bytes
abbrev pub Sized : {A : Type 0} → Grammar A → Grammar A
Sized G = IsU32 >>= λ n. Within n G

-- a size and so many bytes
abbrev pub IsByteVector : Grammar (List ℕ)
IsByteVector = Sized Bytes

-- a size and so many bytes in UTF-8
abbrev pub IsName : Grammar (List ℕ)
IsName = Passing is_utf8 IsByteVector
