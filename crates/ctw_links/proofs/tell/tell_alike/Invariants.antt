use Rattle.std.specs.Prelude.{◌≡◌, ◌<◌, ◌++◌, length}
use Rattle.ctw_sites.specs.Rows.{rests}
use Rattle.ctw_sites.specs.Stacks.{on_innermost}
use Rattle.ctw_links.specs.Asks.{asked_on, alike_asks}
use Rattle.ctw_links.proofs.tell.tell_alike.Given as goal

-- what is told, with what is asked of the operands that are left, is all
abbrev pub invariant-operands : goal.invariant-operands
invariant-operands l = record {
  some : 0 < length l.stack;
  told : l.told.items ++ asked_on (alike_asks l.each l.left) l.stack ≡ l.initial.told.items ++ asked_on (alike_asks l.each l.initial.left) l.initial.stack;
  taken : on_innermost (rests l.left) l.stack ≡ on_innermost (rests l.initial.left) l.initial.stack;
}

abbrev pub decreases-operands : goal.decreases-operands
decreases-operands l = l.left
