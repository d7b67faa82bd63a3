use Rattle.std.proofs.Common.{◌≡◌, flat_map, drop}
use Rattle.ctw_text.specs.Limits.{first, entry_excess}
use Rattle.ctw_parse.proofs.excess.types_excess.Given as goal

-- none of the first ones has an excess
abbrev pub invariant-loop-entry : goal.invariant-loop-entry
invariant-loop-entry l = first (flat_map entry_excess l.entries) ≡ first (flat_map entry_excess (drop l.entry-index l.entries))
