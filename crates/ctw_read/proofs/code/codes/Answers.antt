use Rattle.ctw_read.proofs.CodeLoops.{entries_go, codes_done}
use Rattle.ctw_read.proofs.code.codes.Goals as goal

pub entries-preserved : goal.entries-preserved
entries-preserved c =
    let e = c.in_ok-all.ensures.entry in
    record {
      left = entries_go c.args.ct c.in_ok-count.count c.number.new.cursor c.entries.counter c.entries.all c.in_ok-all.all c.entries.cursor c.entry.new.cursor e.0 c.entries-test.true c.entries.invariant.left e.1 e.2;
      all = c.in_ok-all.ensures.within;
    }

pub returns : goal.returns
returns c =
    codes_done c.args.ct c.args.owed c.args.cursor.now c.number.new.cursor c.in_ok-count.count c.entries.counter c.entries.all c.entries.cursor c.in_ok-count.ensures c.if-count-owed.false c.entries-test.false c.entries.invariant.left
