use Rattle.std.proofs.Common.{arith}
use Rattle.ctw_io.proofs.Places.{past_place}
use Rattle.ctw_io.proofs.kept.place_of.Goals as goal

pub loop-place-preserved : goal.loop-place-preserved
loop-place-preserved c = record {
  within = omega (arith, c.loop-place-test.true);
  before = past_place c.args.files.now c.args.name.now c.as_str.result.now c.loop-place.place c.index-files-place.result c.loop-place-test.true c.as_str.ensures.value c.if-eq.ensures c.loop-place.invariant.before;
}
