use Rattle.std.proofs.Common.{◌∙◌}
use Rattle.std.proofs.lemmas.Result.{err_from_is_err_and}
use Rattle.ctw_flat.proofs.Built.{not_bad, is_body, found_blocks, found_rise, found_tell}
use Rattle.ctw_flat.proofs.blocks.BlockBuilder.build.Goals as goal

pub returns-in_err-mark-clause-complete : goal.returns-in_err-mark-clause-complete
returns-in_err-mark-clause-complete c code m =
    let p = err_from_is_err_and c.from_residual.result c.from_residual.ensures.1 in
    let h = rw c.code.ensures.bytes at c.in_err-mark.ensures.checks in
    rw p.1 (p.2 ∙ not_bad c.args.body.now code c.in_err-mark.field-0.0 m h)

pub invariant_of-result : goal.invariant_of-result
invariant_of-result c = found_rise c.code.result.now c.as_slice.result.now c.in_ok-found.found.items (rw c.as_slice.ensures.value c.in_ok-mark.ensures.marks) c.in_ok-found.ensures

pub returns-clause-found : goal.returns-clause-found
returns-clause-found c =
    let h = rw c.code.ensures.bytes at c.in_ok-mark.ensures.checks in
    is_body c.args.body.now h

pub returns-clause-ends : goal.returns-clause-ends
returns-clause-ends c =
    rw (← c.code.ensures.bytes) (found_tell c.code.result.now c.as_slice.result.now c.in_ok-found.found.items c.in_ok-mark.ensures.checks (rw c.as_slice.ensures.value c.in_ok-mark.ensures.marks) c.in_ok-found.ensures)

pub returns-clause-blocks : goal.returns-clause-blocks
returns-clause-blocks c =
    rw (← c.code.ensures.bytes) (found_blocks c.code.result.now c.as_slice.result.now c.in_ok-found.found.items (rw c.as_slice.ensures.value c.in_ok-mark.ensures.marks) c.in_ok-found.ensures)
