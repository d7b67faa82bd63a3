use Rattle.std.proofs.Common.{◌≡◌, ◌++◌, map, take}
use Rattle.std.specs.Prelude.{◌==◌, filter}
use Rattle.ctw_ops.specs.Tree.{Custom}
use Rattle.ctw_text.specs.declared.pieces.FieldKind.TheVariants.{CustomField}
use Rattle.ctw_text.specs.Names.{custom_of, is_kind}
use Rattle.ctw_names.proofs.customs.add_at.Given as goal

abbrev pub invariant-fields : goal.invariant-fields
invariant-fields l =
    l.customs.items ≡ l.initial.customs.items ++ filter (λ (c : Custom). c.place == l.place) (map (custom_of l.has) (filter (is_kind CustomField) (take l.i l.fields)))
