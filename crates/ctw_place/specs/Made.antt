-- What is made of a module before the sections of its placed one are written.
use Rattle.std.specs.Prelude.{◌≡◌}
use Rattle.ctw_ops.specs.Tree.{function_entries}
use Rattle.ctw_write.specs.Canon.{vector_text, code_text}
use Rattle.ctw_place.specs.declared.made.Made.{Made}
use Rattle.ctw_place.specs.declared.setting.Setting.{Setting}
use Rattle.ctw_place.specs.Bodies.{placed_of, variants_of}
use Rattle.ctw_place.specs.Settings.{module_of, labels_of, points_of, names_from}
use Rattle.ctw_place.specs.Variants.{Holds}
use Rattle.ctw_labels.specs.Placed.{variant_name}

pub record IsMade (s : Setting) (made : Made) : Type 0 where
  pub types : made.functions.types.items
      ≡ names_from (labels_of s) (variant_name (labels_of s) (module_of s) (points_of s)) (module_of s) (points_of s) 0 0
      (function_entries (module_of s))
  pub variants : Holds made.variants (variants_of s)
  pub codes : made.codes.items ≡ vector_text code_text (placed_of s).functions
