use Rattle.std.proofs.Common.{◌≡◌, ◌++◌, drop, map}
use Rattle.ctw_text.specs.Names.{plain_entry}
use Rattle.ctw_names.proofs.entries.add_rest.Given as goal

abbrev pub invariant-entries : goal.invariant-entries
invariant-entries l =
    l.types.items ++ map plain_entry (drop l.n l.entries) ≡ l.initial.types.items ++ map plain_entry (drop l.from l.entries)
