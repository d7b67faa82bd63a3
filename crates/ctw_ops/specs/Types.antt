-- Labels and types (W3C WebAssembly Core 1.0, section 2.3, and the types of the CT-Wasm paper).
use Rattle.std.specs.Prelude.{◌≡◌, ◌<◌, ◌^◌, ℕ, Bool, List, [], ◌∷◌, Option, Some, None, option_map, map, ◌==◌, if◌then◌else◌, is_some}
use Rattle.ctw_ops.specs.declared.types.Label.{Label}
use Rattle.ctw_ops.specs.declared.types.Label.TheVariants.{Public, Secret}
use Rattle.ctw_ops.specs.declared.types.Width.{Width}
use Rattle.ctw_ops.specs.declared.types.Width.TheVariants.{W32, W64}
use Rattle.ctw_ops.specs.declared.types.Trust.{Trust}
use Rattle.ctw_ops.specs.declared.types.Trust.TheVariants.{Untrusted}
use Rattle.ctw_ops.specs.declared.types.Limits.{Limits}
pub use Rattle.ctw_ops.specs.ValueType.{ValueType}

-- Public is below Secret
abbrev pub IsBelow : Label → Label → Type 0
IsBelow Secret Public = ⊥
IsBelow _ _ = Unit {0}

abbrev pub value_type : {S : Type 0} → Width → S → ValueType S
value_type width tag = record { width = width; tag = tag }

-- how many bits an integer of this width has
abbrev pub bit_width : Width → ℕ
bit_width W32 = 32
bit_width W64 = 64

-- the numbers of a width
abbrev pub FitsWidth : Width → ℕ → Type 0
FitsWidth width n = n < 2 ^ bit_width width

-- a function type: a trust, the parameters' types from the first on, and perhaps a result's
pub record FunctionType (S : Type 0) : Type 0 where
  pub trust : Trust
  pub params : List (ValueType S)
  pub result : Option (ValueType S)

-- a global's type: a value type, and whether it may be written
pub record VariableType (S : Type 0) : Type 0 where
  pub mutable : Bool
  pub value : ValueType S

-- a memory's type: one label for all its bytes, and its limits in pages
pub record MemoryType (S : Type 0) : Type 0 where
  pub tag : S
  pub limits : Limits

-- the public type of the same width
abbrev pub erase_value_type : ValueType Label → ValueType Label
erase_value_type t = value_type t.width Public

-- untrusted, with every type erased
abbrev pub erase_function_type : FunctionType Label → FunctionType Label
erase_function_type f = record {
  trust = Untrusted;
  params = map erase_value_type f.params;
  result = option_map erase_value_type f.result;
}

-- two function types that differ in labels and trust alone
abbrev pub EraseAlike : FunctionType Label → FunctionType Label → Type 0
EraseAlike f g = erase_function_type f ≡ erase_function_type g

-- the byte of a value type in a file
abbrev pub type_byte : ValueType Label → ℕ
type_byte t = of t.width t.tag
  where
    of : Width → Label → ℕ
    of W32 Public = 0x7F
    of W64 Public = 0x7E
    of W32 Secret = 0x7A
    of W64 Secret = 0x79

-- the one of these types whose byte a byte is
abbrev pub type_among : List (ValueType Label) → ℕ → Option (ValueType Label)
type_among [] byte = None
type_among (t ∷ types) byte = if byte == type_byte t then Some t else type_among types byte

-- the value type of a byte, where it has one
abbrev pub byte_type : ℕ → Option (ValueType Label)
byte_type byte =
    type_among (value_type W32 Public ∷ value_type W64 Public ∷ value_type W32 Secret ∷ value_type W64 Secret ∷ []) byte

abbrev pub is_type_byte : ℕ → Bool
is_type_byte byte = is_some (byte_type byte)

-- the value types of bytes
abbrev pub byte_types : List ℕ → List (ValueType Label)
byte_types [] = []
byte_types (byte ∷ bytes) = with_type (byte_type byte) (byte_types bytes)
  where
    with_type : Option (ValueType Label) → List (ValueType Label) → List (ValueType Label)
    with_type None types = types
    with_type (Some t) types = t ∷ types
