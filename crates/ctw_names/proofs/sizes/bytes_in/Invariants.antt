use Rattle.std.proofs.Common.{◌≡◌, ℕ, List, take}
use Rattle.std.specs.List.{flat_map}
use Rattle.ctw_names.proofs.sizes.bytes_in.Given as goal

abbrev pub invariant-strings : goal.invariant-strings
invariant-strings l = l.bytes.items ≡ flat_map (λ (b : List ℕ). b) (take l.i l.draft.strings)
