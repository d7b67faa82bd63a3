-- The arguments of a call that begins.
use Rattle.std.specs.Prelude.{ℕ, ◌+◌, ◌-◌, ◌^◌, Bool, true, false, ◌&&◌, List, [], ◌∷◌, take, drop, nat_le, nat_lt}
use Rattle.ctw_ops.specs.declared.types.Label.{Label}
use Rattle.ctw_ops.specs.declared.types.Label.TheVariants.{Secret}
use Rattle.ctw_ops.specs.declared.types.Width.{Width}
use Rattle.ctw_ops.specs.declared.types.Width.TheVariants.{W32, W64}
use Rattle.ctw_ops.specs.Types.{ValueType}
use Rattle.ctw_ops.specs.Equal.{same_label}
use Rattle.ctw_num.specs.Integers.{bit_width, wrap}
use Rattle.ctw_script.specs.declared.moves.Arg.{Arg}
use Rattle.ctw_script.specs.declared.moves.Arg.TheVariants.{Number, Vault}
use Rattle.ctw_semantics.specs.Values.{Value, value}
use Rattle.ctw_semantics.specs.Stores.{number_of_bytes}

-- how many bytes a number of this width has
abbrev pub byte_width : Width → ℕ
byte_width W32 = 4
byte_width W64 = 8

-- whether a number is from -2^(w-1) to 2^w - 1, for a width of w bits
unfoldable pub in_range : Width → Bool → ℕ → Bool
in_range w true size = nat_le size (2 ^ (bit_width w - 1))
in_range w false size = nat_lt size (2 ^ bit_width w)

-- the number of w bits that stands for a number in that range, a negative one modulo 2^w
unfoldable pub number_of : Width → Bool → ℕ → ℕ
number_of w true size = wrap (bit_width w) (2 ^ bit_width w - size)
number_of w false size = wrap (bit_width w) size

-- The number that the next bytes of a vault stand for, the lowest byte first. The wrapping changes nothing where
-- these are bytes.
unfoldable pub next_number : Width → List ℕ → ℕ
next_number w vault = wrap (bit_width w) (number_of_bytes (take (byte_width w) vault))

-- whether a parameter takes an argument: a number in its range, or for a secret parameter the next bytes of the vault
abbrev pub arg_fits : ValueType Label → Arg → Bool
arg_fits t (Number neg size) = in_range t.width neg size
arg_fits t Vault = same_label t.tag Secret

abbrev pub args_fit : List (ValueType Label) → List Arg → Bool
args_fit [] [] = true
args_fit (t ∷ ts) (a ∷ args) = arg_fits t a && args_fit ts args
args_fit _ _ = false

-- how many bytes of the vault an argument takes
abbrev pub arg_takes : ValueType Label → Arg → ℕ
arg_takes t (Number neg size) = 0
arg_takes t Vault = byte_width t.width

abbrev pub args_take : List (ValueType Label) → List Arg → ℕ
args_take (t ∷ ts) (a ∷ args) = arg_takes t a + args_take ts args
args_take _ _ = 0

-- the number that an argument stands for before this rest of the vault
abbrev pub arg_number : ValueType Label → Arg → List ℕ → ℕ
arg_number t (Number neg size) vault = number_of t.width neg size
arg_number t Vault vault = next_number t.width vault

-- the values that arguments stand for; each takes its bytes from what the ones before left of the vault
abbrev pub arg_values : List (ValueType Label) → List Arg → List ℕ → List Value
arg_values (t ∷ ts) (a ∷ args) vault = value t (arg_number t a vault) ∷ arg_values ts args (drop (arg_takes t a) vault)
arg_values _ _ vault = []
