use Rattle.std.proofs.Common.{sym, subst}
use Rattle.std.proofs.lemmas.Result.{err_from_is_err_and}
use Rattle.ctw_form.specs.declared.lists.ListFault.{ListFault}
use Rattle.ctw_form.specs.Read.{codes_at}
use Rattle.ctw_form.specs.Gathered.{FailsToo}
use Rattle.ctw_form.proofs.Gathering.{codes_no_count, codes_fail, codes_step, codes_done}
use Rattle.ctw_form.proofs.lists.codes.Goals as goal

pub returns-in_err-count : goal.returns-in_err-count
returns-in_err-count c =
    let p = err_from_is_err_and c.from_residual.result c.from_residual.ensures.1 in
    rw (p.1, p.2) (λ owed. codes_no_count c.args.ct owed c.args.cursor.now c.in_err-count.field-0.0 c.in_err-count.ensures)

pub returns-in_err-slot : goal.returns-in_err-slot
returns-in_err-slot c =
    let p = err_from_is_err_and c.from_residual-in_err-slot.result c.from_residual-in_err-slot.ensures.1 in
    rw p.1
    (λ owed. subst (λ (e : ListFault). FailsToo e (codes_at c.args.ct owed c.args.cursor.now)) (sym p.2)
    (codes_fail c.args.ct owed c.in_ok-count.count c.args.cursor.now c.number.new.cursor c.entries.counter c.entries.all c.entries.cursor c.entries.slots.items c.entries.runs.items c.in_err-slot.field-0.0 c.in_ok-count.ensures c.entries-test.true c.entries.invariant c.in_err-slot.ensures.entry))

pub entries-preserved : goal.entries-preserved
entries-preserved c =
    codes_step c.args.ct c.in_ok-count.count c.number.new.cursor c.entries.counter c.entries.all c.in_ok-slot.more c.entries.cursor c.code.new.cursor c.entries.slots.items c.push.new.self.items c.entries.runs.items c.code.new.runs.items c.in_ok-slot.slot
    c.entries-test.true c.entries.invariant c.in_ok-slot.ensures.entry c.in_ok-slot.ensures.within c.in_ok-push.ensures.items

pub returns : goal.returns
returns c =
    λ owed. codes_done c.args.ct owed c.in_ok-count.count c.args.cursor.now c.number.new.cursor c.entries.counter c.entries.all c.entries.cursor c.entries.slots.items c.entries.runs.items c.in_ok-count.ensures c.entries-test.false c.entries.invariant
