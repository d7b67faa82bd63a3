use Rattle.std.proofs.Common.{◌≡◌, map, take}
use Rattle.ctw_text.specs.declared.fields.Variable.{Variable}
use Rattle.ctw_names.proofs.types.types_of.Given as goal

abbrev pub invariant-variables : goal.invariant-variables
invariant-variables l = l.types.items ≡ map (λ (v : Variable). v.ty) (take l.i l.variables)
