-- The uses of types in a body, under labels.
use Rattle.std.specs.Prelude.{ℕ, List, map}
use Rattle.ctw_ops.specs.declared.types.Label.{Label}
use Rattle.ctw_ops.specs.Code.{Code}
use Rattle.ctw_labels.specs.Placed.{TypeUse, code_uses, use_to}
use Rattle.ctw_sites.specs.declared.around.Around.{Around}
use Rattle.ctw_place.specs.declared.setting.Setting.{Setting}
use Rattle.ctw_place.specs.Settings.{labels_of, points_of}
use Rattle.ctw_place.specs.Walks.{sited_body}

abbrev pub uses_in : Setting → Around → Code Label → ℕ → List (TypeUse Label)
uses_in s a code n = map (use_to (labels_of s)) (code_uses (sited_body (points_of s) a code n))
