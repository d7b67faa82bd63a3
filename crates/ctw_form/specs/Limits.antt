-- Room under a limit.
use Rattle.std.specs.Prelude.{ℕ, ◌+◌, Bool, nat_le}

-- whether there is room for so many more behind those before
abbrev pub room_for : ℕ → ℕ → ℕ → Bool
room_for limit before more = nat_le (before + more) limit
