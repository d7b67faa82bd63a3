use Rattle.std.specs.Prelude.{◌≡◌, ◌<◌, length}
use Rattle.ctw_sites.specs.Rows.{rests}
use Rattle.ctw_sites.specs.Stacks.{on_innermost}
use Rattle.ctw_sites.proofs.row.take.Given as goal

-- the operands taken so far are off
abbrev pub invariant-taken : goal.invariant-taken
invariant-taken l = record {
  some : 0 < length l.stack;
  taken : l.stack ≡ on_innermost (rests l._i) l.initial.stack;
}
