use Rattle.std.proofs.Common.{◌≡◌, map}
use Rattle.std.specs.Prelude.{filter}
use Rattle.ctw_text.specs.declared.pieces.FieldKind.TheVariants.{CustomField}
use Rattle.ctw_text.specs.Names.{by_place, custom_of, is_kind}
use Rattle.ctw_names.proofs.customs.customs.Given as goal

abbrev pub invariant-places : goal.invariant-places
invariant-places l = l.customs.items ≡ by_place l.place (map (custom_of l.has) (filter (is_kind CustomField) l.fields))
