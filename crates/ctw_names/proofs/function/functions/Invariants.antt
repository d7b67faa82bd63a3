use Rattle.std.proofs.Common.{◌≡◌, ◌++◌, length, map}
use Rattle.std.specs.List.{flat_map}
use Rattle.ctw_ops.specs.declared.types.ExternTag.TheVariants.{Func}
use Rattle.ctw_text.specs.Names.{defined, field_faults, function_of}
use Rattle.ctw_names.specs.Noted.{noted}
use Rattle.ctw_names.specs.Spaces.{space_in}
use Rattle.ctw_names.proofs.function.functions.Given as goal

abbrev pub invariant-fields : goal.invariant-fields
invariant-fields l =
    (l.functions.items ++ map (function_of (space_in l.space)) (defined Func l.fields) ≡ map (function_of (space_in l.space)) (defined Func l.initial.fields))
    × (noted l.faults (flat_map (field_faults (space_in l.space)) l.fields) ≡ noted l.initial.faults (flat_map (field_faults (space_in l.space)) l.initial.fields))

abbrev pub decreases-fields : goal.decreases-fields
decreases-fields l = length l.fields
