use Rattle.std.proofs.Common.{Err, sym, ap, ◌∙◌}
use Rattle.std.proofs.lemmas.Result.{err_from_is_err_and}
use Rattle.ctw_leb.proofs.Loops.{left_step}
use Rattle.ctw_flat.specs.Read.{index_at}
use Rattle.ctw_flat.proofs.TargetBytes.{all_taken, targets_fault}
use Rattle.ctw_flat.proofs.reading.targets.Goals as goal

pub targets-preserved : goal.targets-preserved
targets-preserved c = left_step index_at c.args.count c.args.cursor.now c.targets.counter c.targets.cursor c.index.new.cursor _ c.targets-test.true c.targets.invariant c.in_ok-index.ensures

pub returns-in_err-index-clause-targets : goal.returns-in_err-index-clause-targets
returns-in_err-index-clause-targets c =
    let p = err_from_is_err_and c.from_residual.result c.from_residual.ensures.1 in
    let h = targets_fault c.args.count c.args.cursor.now c.targets.counter c.targets.cursor c.in_err-index.field-0.0 c.targets-test.true c.targets.invariant c.in_err-index.ensures in
    rw p.1 (h ∙ ap (λ f. Err f) (sym p.2))

pub overflow_sub-length : goal.overflow_sub-length
overflow_sub-length c =
    let t = all_taken c.args.count c.args.cursor.now c.targets.counter c.targets.cursor c.targets-test.false c.targets.invariant in
    rw (c.rest.ensures, c.rest-front.ensures) t.shorter

pub returns-clause-targets : goal.returns-clause-targets
returns-clause-targets c =
    let t = all_taken c.args.count c.args.cursor.now c.targets.counter c.targets.cursor c.targets-test.false c.targets.invariant in
    rw (c.rest.ensures, c.rest-front.ensures, t.same) t.read

pub returns-clause-exactly : goal.returns-clause-exactly
returns-clause-exactly c =
    let t = all_taken c.args.count c.args.cursor.now c.targets.counter c.targets.cursor c.targets-test.false c.targets.invariant in
    rw (c.rest.ensures, c.rest-front.ensures, t.same) t.spelled
