use Rattle.std.proofs.Common.{◌+◌, refl}
use Rattle.std.proofs.lemmas.Result.{err_from_is_err_and}
use Rattle.ctw_form.specs.Spelled.{group_of}
use Rattle.ctw_form.proofs.Gathering.{groups_step, groups_fault, groups_done}
use Rattle.ctw_form.proofs.lists.groups.Goals as goal

pub returns-in_err-group-clause-locals : goal.returns-in_err-group-clause-locals
returns-in_err-group-clause-locals c =
    let p = err_from_is_err_and c.from_residual-in_err-group.result c.from_residual-in_err-group.ensures.1 in
    rw (p.1, p.2) (groups_fault c.args.ct c.in_ok-count.count c.args.all c.args.cursor.now c.number.new.cursor c.groups.counter c.groups.own c.groups.all c.groups.cursor c.args.runs.now.items c.groups.runs.items c.in_err-group.field-0.0 c.in_ok-count.ensures c.groups-test.true c.groups.invariant c.in_err-group.ensures.group)

pub groups-preserved : goal.groups-preserved
groups-preserved c =
    let g = c.in_ok-group.group in
    groups_step c.args.ct c.in_ok-count.count c.args.all c.number.new.cursor c.groups.counter c.groups.own c.groups.all (c.groups.own + g.count) (c.groups.all + g.count) c.groups.cursor c.group.new.cursor c.args.runs.now.items c.groups.runs.items c.push.new.self.items
    (group_of g.count g.ty) (record { end = c.groups.own + g.count; ty = g.ty }) c.groups-test.true c.groups.invariant c.in_ok-group.ensures.group refl c.in_ok-push.ensures.items refl refl c.in_ok-group.ensures.within.0 c.in_ok-group.ensures.within.1

pub returns-clause-locals : goal.returns-clause-locals
returns-clause-locals c =
    groups_done c.args.ct c.in_ok-count.count c.args.all c.args.cursor.now c.number.new.cursor c.groups.counter c.groups.own c.groups.all c.groups.cursor c.args.runs.now.items c.groups.runs.items c.in_ok-count.ensures c.groups-test.false c.groups.invariant
