use Rattle.std.proofs.Common.{◌≡◌, ◌++◌}
use Rattle.ctw_write.specs.Canon.{all_texts, leaf_text}
use Rattle.ctw_gen.specs.Workload.{calls}
use Rattle.ctw_gen.proofs.code.put_calls.Given as goal

-- the first calls are written
abbrev pub invariant-loop-k : goal.invariant-loop-k
invariant-loop-k l = l.out.items ≡ l.initial.out.items ++ all_texts leaf_text (calls l.k)
