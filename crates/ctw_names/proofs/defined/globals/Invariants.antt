use Rattle.std.proofs.Common.{◌≡◌, map, take}
use Rattle.ctw_ops.specs.declared.types.ExternTag.TheVariants.{Global}
use Rattle.ctw_text.specs.Names.{defined, global_of}
use Rattle.ctw_names.specs.Spaces.{space_in}
use Rattle.ctw_names.proofs.defined.globals.Given as goal

abbrev pub invariant-fields : goal.invariant-fields
invariant-fields l = l.globals.items ≡ map (global_of (space_in l.space)) (defined Global (take l.i l.fields))
