use Rattle.std.proofs.Common.{◌≡◌, ◌*◌, ◌++◌, map}
use Rattle.std.specs.List.{range_with_len}
use Rattle.ctw_write.specs.Canon.{all_texts, code_text}
use Rattle.ctw_gen.specs.Draws.{state}
use Rattle.ctw_gen.specs.Workload.{numbered}
use Rattle.ctw_gen.proofs.code.put_numbered.Given as goal

-- the first functions are written, and three draws were made for each
abbrev pub invariant-loop : goal.invariant-loop
invariant-loop l = record {
  written : l.out.items ≡ l.initial.out.items ++ all_texts code_text (map (numbered l.initial.draws) (range_with_len 0 l.counter));
  drawn : l.draws ≡ state l.initial.draws (3 * l.counter);
}
