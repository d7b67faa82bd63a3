use Rattle.std.proofs.Common.{◌≡◌, length, sym, subst, arith}
use Rattle.std.proofs.lemmas.Result.{err_from_is_err_and}
use Rattle.ctw_form.specs.declared.lists.ListFault.{ListFault}
use Rattle.ctw_form.specs.declared.slots.ElementSlot.{ElementSlot}
use Rattle.ctw_form.specs.Read.{vector_at, element_at}
use Rattle.ctw_form.specs.Gathered.{FailsAs}
use Rattle.ctw_form.proofs.Gathering.{elements_fail, elements_step, head_is}
use Rattle.ctw_form.proofs.lists.elements.Goals as goal

pub returns-in_err-table : goal.returns-in_err-table
returns-in_err-table c =
    let p = err_from_is_err_and c.from_residual-in_err-table.result c.from_residual-in_err-table.ensures.1 in
    rw p.1
    (subst (λ (e : ListFault). FailsAs e (vector_at (element_at c.args.ct) c.args.cursor.now)) (sym p.2)
    (elements_fail c.args.ct c.in_ok-count.count c.args.cursor.now c.number.new.cursor c.elements.counter c.elements.cursor c.elements.slots.items c.elements.functions.items c.in_err-table.field-0.0 c.in_ok-count.ensures c.elements-test.true c.elements.invariant c.in_err-table.ensures))

pub elements-preserved : goal.elements-preserved
elements-preserved c =
    let s = c.in_ok-table.ensures in
    let size : c.len.result ≡ length c.element.new.all.items = omega (arith, c.len.ensures) in
    let slot : ElementSlot = record { table = c.in_ok-table.table; offset = c.in_ok-table.offset; functions = c.len.result } in
    elements_step c.args.ct c.in_ok-count.count c.number.new.cursor c.elements.counter c.elements.cursor c.element.new.cursor c.elements.slots.items c.push.new.self.items c.elements.functions.items c.element.new.all.items slot s.0 c.elements-test.true c.elements.invariant s.1
    (head_is slot s.0 (length c.element.new.all.items) s.2.0 s.2.1 size) s.2.2 c.in_ok-push.ensures.items
