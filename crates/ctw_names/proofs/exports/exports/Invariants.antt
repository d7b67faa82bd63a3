use Rattle.std.proofs.Common.{◌≡◌, ◌++◌, drop}
use Rattle.ctw_text.specs.Names.{exports_in, in_order, none_yet}
use Rattle.ctw_names.specs.Spaces.{space_in}
use Rattle.ctw_names.proofs.exports.exports.Given as goal

abbrev pub invariant-fields : goal.invariant-fields
invariant-fields l =
    l.exports.items ++ in_order (exports_in (space_in l.space)) l.before (drop l.i l.fields) ≡ in_order (exports_in (space_in l.space)) none_yet l.fields
