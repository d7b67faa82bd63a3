use Rattle.std.proofs.Common.{◌≡◌, drop}
use Rattle.ctw_ops.specs.declared.types.ExternTag.TheVariants.{Func}
use Rattle.ctw_text.specs.Names.{defined, is_empty}
use Rattle.ctw_names.proofs.whole.defines_no_function.Given as goal

abbrev pub invariant-fields : goal.invariant-fields
invariant-fields l = is_empty (defined Func (drop l.i l.fields)) ≡ is_empty (defined Func l.fields)
