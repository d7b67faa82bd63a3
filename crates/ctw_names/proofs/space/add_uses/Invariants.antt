use Rattle.std.proofs.Common.{◌≡◌, take}
use Rattle.std.specs.Prelude.{fold}
use Rattle.std.specs.List.{filter_map}
use Rattle.ctw_text.specs.Names.{added, use_in}
use Rattle.ctw_names.proofs.space.add_uses.Given as goal

abbrev pub invariant-items : goal.invariant-items
invariant-items l = l.entries ≡ fold added l.initial.entries (filter_map use_in (take l.i l.field.draft.code))
