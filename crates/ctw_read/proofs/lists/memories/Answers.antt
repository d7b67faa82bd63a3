use Rattle.ctw_ops.specs.declared.fault.What.TheVariants.{Memories}
use Rattle.ctw_form.specs.Read.{memory_at}
use Rattle.ctw_read.proofs.ItemLists.{only_one}
use Rattle.ctw_read.proofs.lists.memories.Goals as goal

pub returns-in_ok-memory : goal.returns-in_ok-memory
returns-in_ok-memory c = (
  _,
  only_one (memory_at c.args.ct) c.args.imported Memories c.args.cursor.now c.upto.new.cursor c.memory.new.cursor c.in_ok-count.count c.in_ok-memory.field-0
      (rw c.room_for_one.ensures at c.in_ok-count.ensures.count) (rw c.room_for_one.ensures at c.in_ok-count.ensures.within) c.if-count-gt0.true c.in_ok-memory.ensures,
)
