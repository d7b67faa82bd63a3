use Rattle.std.proofs.Common.{arith}
use Rattle.ctw_io.proofs.Taking.{piece_taken, piece_within, piece_moves}
use Rattle.ctw_io.proofs.send.Goals as goal

pub loop-at-preserved : goal.loop-at-preserved
loop-at-preserved g c = record {
  within = piece_within c.loop-at.at c.in-Ok.count c.args.bytes.now c.loop-at.invariant.within c.in-Ok.ensures.within;
  taken = piece_taken (g.K.Sink.taken c.args.out.now) (g.K.Sink.taken c.loop-at.out) (g.K.Sink.taken c.write.new.self) c.loop-at.at c.in-Ok.count c.args.bytes.now c.loop-at.invariant.taken c.in-Ok.ensures.taken;
  kept = omega (arith, c.loop-at.invariant.kept, c.write.ensures.cause.kept);
  untouched = λ e. absurd (let h = piece_moves c.loop-at.at c.in-Ok.count c.args.bytes.now c.loop-at-test.true c.in-Ok.ensures.some in omega arith);
}
