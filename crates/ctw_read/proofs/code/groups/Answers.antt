use Rattle.ctw_leb.proofs.Loops.{left_from_step}
use Rattle.ctw_form.specs.Spelled.{group_of, count_after}
use Rattle.ctw_form.specs.Read.{group_at}
use Rattle.ctw_read.proofs.CodeLoops.{groups_done}
use Rattle.ctw_read.proofs.code.groups.Goals as goal

pub groups-preserved : goal.groups-preserved
groups-preserved c =
    let g = c.in_ok-group.group in
    record {
      left = left_from_step (group_at c.args.ct) count_after c.in_ok-count.count (record { own = 0; all = c.args.all }) c.number.new.cursor c.groups.counter (record { own = c.groups.own; all = c.groups.all }) c.groups.cursor c.group.new.cursor (group_of g.count g.ty) c.groups-test.true c.groups.invariant.left c.in_ok-group.ensures.group;
      own = c.in_ok-group.ensures.within.0;
      all = c.in_ok-group.ensures.within.1;
    }

pub returns-clause-locals : goal.returns-clause-locals
returns-clause-locals c =
    groups_done c.args.ct c.args.all c.args.cursor.now c.number.new.cursor c.in_ok-count.count c.groups.counter c.groups.own c.groups.all c.groups.cursor c.in_ok-count.ensures c.groups-test.false c.groups.invariant.left
