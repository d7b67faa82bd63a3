-- Values (W3C WebAssembly Core 1.0, section 4.2.1, with the labels of the CT-Wasm paper).
use Rattle.std.specs.Prelude.{ℕ}
use Rattle.ctw_ops.specs.declared.types.Label.{Label}
use Rattle.ctw_ops.specs.declared.types.Label.TheVariants.{Public}
use Rattle.ctw_ops.specs.declared.types.Width.TheVariants.{W32}
use Rattle.ctw_ops.specs.Types.{ValueType, value_type}

-- a number of a type: in all runs below 2 to the type's width
pub record Value : Type 0 where
  pub type : ValueType Label
  pub number : ℕ

abbrev pub value : ValueType Label → ℕ → Value
value type number = record { type = type; number = number }

-- the type of conditions, indexes, addresses and sizes
abbrev pub i32 : ValueType Label
i32 = value_type W32 Public

-- what a declared local begins with
abbrev pub zero_of : ValueType Label → Value
zero_of type = value type 0
