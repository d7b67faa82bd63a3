-- The numbers that a workload is made of.
use Rattle.std.specs.Prelude.{ℕ, zero, suc, ◌+◌, ◌*◌, ◌/◌, ◌%◌, ◌^◌}

-- one step of the generator's state
abbrev pub stepped : ℕ → ℕ
stepped x = (x * 1103515245 + 12345) % 2 ^ 31

-- the state after so many steps; it begins as the seed
unfoldable pub state : ℕ → ℕ → ℕ
state seed zero = seed
state seed (suc steps) = stepped (state seed steps)

-- each draw steps first, and is then what the state gives divided by 65,536; they are counted from 0
unfoldable pub draw : ℕ → ℕ → ℕ
draw seed i = state seed (suc i) / 65536
