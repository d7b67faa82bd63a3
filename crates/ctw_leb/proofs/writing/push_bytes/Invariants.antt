use Rattle.std.proofs.Common.{◌≡◌, ◌++◌, ◌<◌, ℕ, List, suc}
use Rattle.ctw_leb.specs.Spelling.{shortest}
use Rattle.ctw_leb.proofs.Spelling.{room}
use Rattle.ctw_leb.proofs.writing.push_bytes.Given as goal

-- what was pushed begins the number's bytes, and what is left completes them
abbrev pub invariant-loop-rest : goal.invariant-loop-rest
invariant-loop-rest l = (k : ℕ) × (pushed : List ℕ) × (l.rest < room l.limit k) × (l.out.items ≡ l.fn.out.items ++ pushed) × (l.out.items ++ shortest l.limit l.below (suc k) l.rest ≡ l.fn.out.items ++ shortest l.limit l.below 10 l.n)

abbrev pub decreases-loop-rest : goal.decreases-loop-rest
decreases-loop-rest l = l.rest
