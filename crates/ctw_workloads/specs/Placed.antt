-- A workload's module under a profile, and the set of its placed module.
use Rattle.std.specs.Prelude.{ℕ, [], ◌∷◌, codes}
use Rattle.ctw_ops.specs.declared.numeric.Profile.{Profile}
use Rattle.ctw_ops.specs.declared.types.Label.{Label}
use Rattle.ctw_ops.specs.Tree.{Module, under}
use Rattle.ctw_labels.specs.declared.tag.Tag.{Tag}
use Rattle.ctw_labels.specs.Points.{Points}
use Rattle.ctw_labels.specs.Placed.{placed}
use Rattle.ctw_link.specs.Sets.{ModuleSet}
use Rattle.ctw_gen.specs.Workload.{workload_module}

abbrev pub workload_under : Profile → ℕ → ℕ → Module Label
workload_under q seed size = under q (workload_module seed size)

-- the one part has the name that the script gives it
abbrev pub placed_set : Profile → ℕ → ℕ → Points → (Tag → Label) → ModuleSet
placed_set q seed size p l = record { name = codes "m"; tree = placed l (workload_under q seed size) p } ∷ []
