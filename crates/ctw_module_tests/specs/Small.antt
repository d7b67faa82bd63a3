-- Small valid parts of linked sets.
use Rattle.std.specs.Prelude.{◌<◌, length}
use Rattle.ctw_ops.specs.Tree.{function_entries, global_types}
use Rattle.ctw_module.specs.Trees.{tree}
use Rattle.ctw_link.specs.declared.set.Part.{Part}
use Rattle.ctw_link.specs.Linked.{IsValidPart}

-- a valid part with few functions and globals, imported ones among them
pub record IsSmall (p : Part) : Type 0 where
  pub valid : IsValidPart p
  pub functions : length (function_entries (tree p.«module»)) < 1000
  pub globals : length (global_types (tree p.«module»)) < 1000
