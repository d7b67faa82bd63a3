use Rattle.std.proofs.Common.{◌≡◌, ◌<◌, ◌≤◌, ◌-◌, ℕ, Ok, length}
use Rattle.ctw_flat.specs.Instructions.{op_of, IsExactly}
use Rattle.ctw_flat.specs.Places.{instr_in}
use Rattle.ctw_step.specs.Stepping.{FreeBy}
use Rattle.ctw_step.proofs.free.next_counted.Given as goal

-- changes of a label stand up to the place, and this instruction at it
abbrev pub invariant-free : goal.invariant-free
invariant-free l = (n : ℕ) × FreeBy l.body n l.start l.at × (instr_in l.body l.at ≡ Ok (op_of l.instr, l.next)) × IsExactly l.instr × (l.at < l.next) × (l.next ≤ length l.body)

abbrev pub decreases-free : goal.decreases-free
decreases-free l = length l.body - l.at
