use Rattle.std.proofs.Common.{◌≡◌, map, take}
use Rattle.ctw_ops.specs.declared.types.ExternTag.TheVariants.{Table}
use Rattle.ctw_text.specs.declared.fields.Field.{Field}
use Rattle.ctw_text.specs.Names.{defined, table_limits}
use Rattle.ctw_names.proofs.defined.tables.Given as goal

abbrev pub invariant-fields : goal.invariant-fields
invariant-fields l = l.tables.items ≡ map (λ (f : Field). table_limits f.draft) (defined Table (take l.i l.fields))
