-- Value types: a width and a tag. The tag is a label where a module is meant;
-- passes that number places of a module use other tags.
use Rattle.ctw_ops.specs.declared.types.Width.{Width}

-- a value type (W3C WebAssembly Core 1.0, section 2.3.1, with the label of the CT-Wasm paper)
pub record ValueType (S : Type 0) : Type 0 where
  pub width : Width
  pub tag : S
