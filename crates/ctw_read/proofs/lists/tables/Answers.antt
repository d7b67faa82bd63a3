use Rattle.ctw_ops.specs.declared.fault.What.TheVariants.{Tables}
use Rattle.ctw_form.specs.Read.{table_at}
use Rattle.ctw_read.proofs.ItemLists.{only_one}
use Rattle.ctw_read.proofs.lists.tables.Goals as goal

pub returns-in_ok-table : goal.returns-in_ok-table
returns-in_ok-table c = (
  _,
  only_one table_at c.args.imported Tables c.args.cursor.now c.upto.new.cursor c.table.new.cursor c.in_ok-count.count c.in_ok-table.field-0
      (rw c.room_for_one.ensures at c.in_ok-count.ensures.count) (rw c.room_for_one.ensures at c.in_ok-count.ensures.within) c.if-count-gt0.true c.in_ok-table.ensures,
)
