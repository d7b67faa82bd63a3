use Rattle.std.proofs.Common.{◌≡◌, ◌≤◌, ◌-◌, length, take}
use Rattle.ctw_io.specs.Taken.{grown}
use Rattle.ctw_io.proofs.send.Given as goal

abbrev pub invariant-loop-at : goal.invariant-loop-at
invariant-loop-at g l = record {
  within : l.at ≤ length l.bytes;
  taken : g.K.Sink.taken l.out ≡ grown (g.K.Sink.taken l.fn.out) (take l.at l.bytes);
  kept : g.K.Sink.faults l.fn.out ≤ g.K.Sink.faults l.out;
  untouched : l.at ≡ 0 → (g.K.Sink.taken l.out ≡ g.K.Sink.taken l.fn.out) × (g.K.Sink.faults l.out ≡ g.K.Sink.faults l.fn.out);
}

abbrev pub decreases-loop-at : goal.decreases-loop-at
decreases-loop-at g l = length l.bytes - l.at
