use Rattle.std.proofs.Common.{◌≡◌, ◌≤◌, drop}
use Rattle.ctw_text.specs.Limits.{first, nesting_excess}
use Rattle.ctw_parse.proofs.excess.nesting_excess.Given as goal

-- the first ones open no more than may be open
abbrev pub invariant-loop-op : goal.invariant-loop-op
invariant-loop-op l = (first (nesting_excess 0 l.ops) ≡ first (nesting_excess l.depth (drop l.op-index l.ops))) × (l.depth ≤ 4096)
