use Rattle.std.proofs.Common.{arith, sym}
use Rattle.std.proofs.lemmas.Result.{err_from_is_err_and}
use Rattle.ctw_module.specs.Trees.{tree}
use Rattle.ctw_modcheck.specs.Faults.{segment_fault}
use Rattle.ctw_modcheck.proofs.Loops.{reached_none, reached_more, reached_fault, reached_all, at_item}
use Rattle.ctw_modcheck.proofs.segments.check_segments.Goals as goal

pub segments-init : goal.segments-init
segments-init c = reached_none _ _ 0

pub segments-preserved : goal.segments-preserved
segments-preserved c =
    let m = tree c.args.m.now in
    let here = at_item (segment_fault m) m.segments c.segments.i c.in-Some.segment _ (sym c.in-Some.ensures) c.in_ok-check_segment.ensures in
    reached_more (segment_fault m) m.segments 0 c.segments.i here c.segments.invariant

pub returns-in_err-check_segment : goal.returns-in_err-check_segment
returns-in_err-check_segment c =
    let m = tree c.args.m.now in
    let here = at_item (segment_fault m) m.segments c.segments.i c.in-Some.segment _ (sym c.in-Some.ensures) c.in_err-check_segment.ensures in
    let p = err_from_is_err_and c.from_residual.result c.from_residual.ensures.1 in
    rw (p.1, p.2) (reached_fault (segment_fault m) m.segments 0 c.segments.i _ here c.segments.invariant)

pub returns : goal.returns
returns c = reached_all _ _ 0 _ (omega (arith, c.segment_count-i-end.ensures, c.segments-test.false)) c.segments.invariant
