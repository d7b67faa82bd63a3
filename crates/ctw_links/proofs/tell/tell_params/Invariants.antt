use Rattle.std.specs.Prelude.{◌≡◌, ◌≤◌, ◌<◌, ◌++◌, length}
use Rattle.ctw_sites.specs.Rows.{rests}
use Rattle.ctw_sites.specs.Stacks.{on_innermost}
use Rattle.ctw_links.specs.Asks.{asked_on, param_asks}
use Rattle.ctw_links.proofs.tell.tell_params.Given as goal

-- what is told, with what is asked of the arguments that are left, is all
abbrev pub invariant-params : goal.invariant-params
invariant-params l = record {
  some : 0 < length l.stack;
  few : l.left ≤ l.initial.left;
  told : l.told.items ++ asked_on (param_asks l.first l.left) l.stack ≡ l.initial.told.items ++ asked_on (param_asks l.first l.initial.left) l.initial.stack;
  taken : on_innermost (rests l.left) l.stack ≡ on_innermost (rests l.initial.left) l.initial.stack;
}

abbrev pub decreases-params : goal.decreases-params
decreases-params l = l.left
