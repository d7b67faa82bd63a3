-- What the checks of linking answer.
use Rattle.std.specs.Prelude.{◌≡◌, ℕ, List}
use Rattle.std.specs.Borrow.{Bor}
use Rattle.std.specs.List.{position_from}
use Rattle.std.specs.Ordering.{nat_cmp}
use Rattle.std.specs.Cmp.Lexicographic.{slice_cmp}
use Rattle.std.specs.BTreeMap.{BTreeMap, get_by}
use Rattle.ctw_link.specs.declared.set.Part.{Part}
use Rattle.ctw_link.specs.Sets.{set_of}
use Rattle.ctw_link.specs.Externals.{has_name}

-- for each name the index of its first part
abbrev pub TellsParts : List Part → BTreeMap (Bor (List ℕ)) ℕ → Type 0
TellsParts parts names =
    (name : List ℕ)
    → get_by (λ key. slice_cmp nat_cmp name key.now) names ≡ position_from (has_name name) 0 (set_of parts)
