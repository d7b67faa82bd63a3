use Rattle.std.proofs.Common.{◌≡◌, ◌++◌, map, take}
use Rattle.ctw_names.specs.Wides.{export_of}
use Rattle.ctw_names.proofs.exports.add_names.Given as goal

abbrev pub invariant-names : goal.invariant-names
invariant-names l =
    l.exports.items ≡ l.initial.exports.items ++ map (export_of l.kind l.index) (take l.i l.names)
