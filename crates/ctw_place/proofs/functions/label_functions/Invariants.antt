use Rattle.std.specs.Prelude.{List}
use Rattle.ctw_ops.specs.declared.types.Label.{Label}
use Rattle.ctw_labels.specs.Placed.{TypeUse}
use Rattle.ctw_place.specs.Variants.{Holds}
use Rattle.ctw_place.proofs.FunctionLaws.{FunctionsLeft}
use Rattle.ctw_place.proofs.functions.label_functions.Given as goal

-- the functions from this one on are left
abbrev pub invariant-functions : goal.invariant-functions
invariant-functions l = (before : List (TypeUse Label)) → Holds l.fn.variants before → FunctionsLeft l.setting before l.f l.site l.types.items l.heads.items l.variants
