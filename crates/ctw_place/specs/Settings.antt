-- What a module's sites and types are under labels.
use Rattle.std.specs.Prelude.{ℕ, List, [], ◌∷◌, ◌+◌}
use Rattle.ctw_ops.specs.declared.types.Label.{Label}
use Rattle.ctw_ops.specs.declared.types.Trust.{Trust}
use Rattle.ctw_ops.specs.Types.{FunctionType}
use Rattle.ctw_ops.specs.TagMaps.{function_type_to}
use Rattle.ctw_ops.specs.Tree.{Module, type_named}
use Rattle.ctw_module.specs.Trees.{view_module}
use Rattle.ctw_labels.specs.declared.tag.Tag.{Tag}
use Rattle.ctw_labels.specs.Fits.{label_at}
use Rattle.ctw_labels.specs.Links.{at_tag}
use Rattle.ctw_labels.specs.Numbering.{type_from}
use Rattle.ctw_labels.specs.Points.{Points, trust_at}
use Rattle.ctw_labels.specs.Placed.{TypeUse, use_of, with_trust, use_to}
use Rattle.ctw_labels.specs.SitedModule.{site_count}
use Rattle.ctw_place.specs.declared.setting.Setting.{Setting}

abbrev pub module_of : Setting → Module Label
module_of s = view_module s.whole.now

abbrev pub labels_of : Setting → Tag → Label
labels_of s = at_tag (label_at s.labels)

abbrev pub points_of : Setting → Points
points_of s = s.points.now

-- a use of a type entry whose sites begin at `first`
abbrev pub use_at : Setting → ℕ → ℕ → Trust → TypeUse Label
use_at s y first trust = use_to (labels_of s) (use_of y (with_trust trust (type_from first (type_named (module_of s) y))))

-- the indices of the types of functions from number `k` on, whose sites begin at `q`
abbrev pub names_from : (Tag → Label) → (ℕ → FunctionType Label → ℕ) → Module Label → Points → ℕ → ℕ → List ℕ → List ℕ
names_from L name m p k q [] = []
names_from L name m p k q (y ∷ ys) =
    name y (function_type_to L (with_trust (trust_at p k) (type_from q (type_named m y))))
    ∷ names_from L name m p (k + 1) (q + site_count (type_named m y)) ys
