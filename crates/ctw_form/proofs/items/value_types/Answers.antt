use Rattle.std.proofs.Common.{Err, sym, ap, ◌∙◌}
use Rattle.std.proofs.lemmas.Result.{err_from_is_err_and}
use Rattle.ctw_leb.proofs.Loops.{left_step}
use Rattle.ctw_form.specs.Read.{value_type_at}
use Rattle.ctw_form.proofs.LentTypes.{all_lent, types_fault}
use Rattle.ctw_form.proofs.items.value_types.Goals as goal

pub types-preserved : goal.types-preserved
types-preserved c = left_step (value_type_at c.args.ct) c.args.count c.args.cursor.now c.types.counter c.types.cursor c.value_type.new.cursor _ c.types-test.true c.types.invariant c.in_ok-value_type.ensures

pub returns-in_err-value_type-clause-types : goal.returns-in_err-value_type-clause-types
returns-in_err-value_type-clause-types c =
    let p = err_from_is_err_and c.from_residual.result c.from_residual.ensures.1 in
    let h = types_fault c.args.ct c.args.count c.args.cursor.now c.types.counter c.types.cursor c.in_err-value_type.field-0.0 c.types-test.true c.types.invariant c.in_err-value_type.ensures in
    rw p.1 (h ∙ ap (λ f. Err f) (sym p.2))

pub slice_bounds-result-end : goal.slice_bounds-result-end
slice_bounds-result-end c =
    let t = all_lent c.args.ct c.args.count c.args.cursor.now c.types.counter c.types.cursor c.types-test.false c.types.invariant in
    rw c.rest-bytes.ensures t.within

pub returns-clause-types : goal.returns-clause-types
returns-clause-types c =
    let t = all_lent c.args.ct c.args.count c.args.cursor.now c.types.counter c.types.cursor c.types-test.false c.types.invariant in
    rw (c.rest-bytes.ensures, t.same) t.read

pub returns-clause-bytes : goal.returns-clause-bytes
returns-clause-bytes c =
    let t = all_lent c.args.ct c.args.count c.args.cursor.now c.types.counter c.types.cursor c.types-test.false c.types.invariant in
    rw c.rest-bytes.ensures t.all
