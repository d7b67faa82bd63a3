use Rattle.std.proofs.Common.{◌≡◌, ◌++◌, drop}
use Rattle.ctw_text.specs.Names.{segments_in, in_order, none_yet}
use Rattle.ctw_names.specs.Spaces.{space_in}
use Rattle.ctw_names.proofs.segments.segments.Given as goal

abbrev pub invariant-fields : goal.invariant-fields
invariant-fields l =
    l.segments.items ++ in_order (segments_in (space_in l.space)) l.before (drop l.i l.fields) ≡ in_order (segments_in (space_in l.space)) none_yet l.fields
