use Rattle.std.proofs.Common.{◌<◌, length, arith}
use Rattle.std.proofs.lemmas.Option.{slice_get-get_or}
use Rattle.ctw_marks.proofs.PushLaws.{starts_on, body_on}
use Rattle.ctw_marks.proofs.pushes.gather_pushes.Goals as goal

pub bodies-preserved : goal.bodies-preserved
bodies-preserved c =
    let lt : c.bodies.i < length c.args.starts.now = omega (arith, c.bodies-test.true) in
    let e = slice_get-get_or c.args.starts.now c.bodies.i 0 lt in
    record {
      rising = starts_on (length c.args.words.now) c.bodies.i _ c.args.starts.now e c.bodies.invariant.rising;
      added = λ f k. body_on c.args.words.now c.args.starts.now c.args.imported c.bodies.i f k _ c.end_of-to.result _ _ _ e c.end_of-to.ensures (c.in_ok-add_pushes.ensures f k) (c.bodies.invariant.added f k);
    }
