use Rattle.std.proofs.Common.{◌≡◌, ◌≤◌}
use Rattle.ctw_module.specs.Trees.{tree}
use Rattle.ctw_strip.proofs.Mapped.{kept_of}
use Rattle.ctw_strip.proofs.section.kept_count.Given as goal

-- those that are kept among the first ones are counted
abbrev pub invariant-loop-i : goal.invariant-loop-i
invariant-loop-i l = record { counted : l.count ≡ kept_of (tree l.m).types l.i; few : l.count ≤ l.i }
