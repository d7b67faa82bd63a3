-- Neither branch adds a slot.
use Rattle.std.proofs.Common.{ap, arith}
use Rattle.ctw_stack.specs.Opens.{slot_count}
use Rattle.ctw_stack.proofs.Counts.{slot_count-after_kill}
use Rattle.ctw_sites.proofs.StackLaws.{take_short}
use Rattle.ctw_sites.proofs.row.apply.Goals as goal
use Rattle.ctw_sites.proofs.row.apply.Goals.{then-row, else-row}

pub push-requires-clause-few : goal.push-requires-clause-few
push-requires-clause-few c = elim c.if-row.branch [
  | then-row w ↦
      let h = slot_count-after_kill c.args.stack.now in
      let e = ap slot_count w.stack-is in
      let k = ap slot_count w.kill.ensures in
      omega (arith, h, e, k, c.requires.few)
  | else-row w ↦
      let h = take_short c.row.inside.takes c.args.stack.now in
      let e = ap slot_count w.stack-is in
      let k = ap slot_count w.take.ensures in
      omega (arith, h, e, k, c.requires.few)
]
