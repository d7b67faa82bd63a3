use Rattle.std.proofs.Common.{Ok, refl, subst}
use Rattle.ctw_flat.specs.declared.instr.Instr.TheVariants as instr
use Rattle.ctw_flat.specs.Instructions.{IsExactly}
use Rattle.ctw_step.specs.Shown.{shown}
use Rattle.ctw_step.specs.Told.{Nothing}
use Rattle.ctw_step.proofs.Dispatch.{runs_as, done_as, runs_alone, done_alone, moved, moved_back}
use Rattle.ctw_step.proofs.Settling.{all_settled}
use Rattle.ctw_step.proofs.reduce.reduce.Goals as goal

pub nop-requires : goal.nop-requires
nop-requires c = runs_alone c.args.set.now c.args.part c.args.body.now (shown c.args.act.now) c.args.instr.now instr.Nop c.args.next c.args.store.now.storage c.in-Nop.is c.requires.runs

pub returns-in-Nop-clause-does : goal.returns-in-Nop-clause-does
returns-in-Nop-clause-does c = done_alone c.args.set.now c.args.part c.args.body.now (shown c.args.act.now) c.args.instr.now instr.Nop c.args.next c.args.store.now.storage c.in-Nop.is (Ok c.nop.result) (shown c.nop.new.act) c.nop.ensures

pub trap-requires : goal.trap-requires
trap-requires c = runs_alone c.args.set.now c.args.part c.args.body.now (shown c.args.act.now) c.args.instr.now instr.Unreachable c.args.next c.args.store.now.storage c.in-Unreachable.is c.requires.runs

pub returns-in-Unreachable-clause-does : goal.returns-in-Unreachable-clause-does
returns-in-Unreachable-clause-does c = done_alone c.args.set.now c.args.part c.args.body.now (shown c.args.act.now) c.args.instr.now instr.Unreachable c.args.next c.args.store.now.storage c.in-Unreachable.is (Ok c.trap.result) (shown c.args.act.now) c.trap.ensures

pub enter_block-requires-clause-runs : goal.enter_block-requires-clause-runs
enter_block-requires-clause-runs c = (c.args.store.now.storage, runs_as c.args.set.now c.args.part c.args.body.now (shown c.args.act.now) c.args.instr.now (instr.Block c.in-Block.result) c.args.next c.args.store.now.storage c.in-Block.is Nothing c.requires.runs tt)

pub returns-in-Block-clause-does : goal.returns-in-Block-clause-does
returns-in-Block-clause-does c = done_as c.args.set.now c.args.part c.args.body.now (shown c.args.act.now) c.args.instr.now (instr.Block c.in-Block.result) c.args.next c.args.store.now.storage c.in-Block.is Nothing c.enter_block.result (shown c.enter_block.new.act) c.args.store.now.storage (λ fn h code vs p m. tt) (c.enter_block.ensures.does c.args.store.now.storage)

pub enter_loop-requires-clause-runs : goal.enter_loop-requires-clause-runs
enter_loop-requires-clause-runs c = (c.args.store.now.storage, runs_as c.args.set.now c.args.part c.args.body.now (shown c.args.act.now) c.args.instr.now (instr.Loop c.in-Loop.result) c.args.next c.args.store.now.storage c.in-Loop.is Nothing c.requires.runs tt)

pub returns-in-Loop-clause-does : goal.returns-in-Loop-clause-does
returns-in-Loop-clause-does c = done_as c.args.set.now c.args.part c.args.body.now (shown c.args.act.now) c.args.instr.now (instr.Loop c.in-Loop.result) c.args.next c.args.store.now.storage c.in-Loop.is Nothing c.enter_loop.result (shown c.enter_loop.new.act) c.args.store.now.storage (λ fn h code vs p m. tt) (c.enter_loop.ensures.does c.args.store.now.storage)

pub enter_if-requires-clause-runs : goal.enter_if-requires-clause-runs
enter_if-requires-clause-runs c = (c.args.store.now.storage, runs_as c.args.set.now c.args.part c.args.body.now (shown c.args.act.now) c.args.instr.now (instr.If c.in-If.result) c.args.next c.args.store.now.storage c.in-If.is Nothing c.requires.runs tt)

pub returns-in-If-clause-does : goal.returns-in-If-clause-does
returns-in-If-clause-does c = done_as c.args.set.now c.args.part c.args.body.now (shown c.args.act.now) c.args.instr.now (instr.If c.in-If.result) c.args.next c.args.store.now.storage c.in-If.is Nothing c.enter_if.result (shown c.enter_if.new.act) c.args.store.now.storage (λ fn h code vs p m. tt) (c.enter_if.ensures.does c.args.store.now.storage)

pub end_arm-requires : goal.end_arm-requires
end_arm-requires c = runs_alone c.args.set.now c.args.part c.args.body.now (shown c.args.act.now) c.args.instr.now instr.Else c.args.next c.args.store.now.storage c.in-Else.is c.requires.runs

pub returns-in-Else-clause-does : goal.returns-in-Else-clause-does
returns-in-Else-clause-does c = done_alone c.args.set.now c.args.part c.args.body.now (shown c.args.act.now) c.args.instr.now instr.Else c.args.next c.args.store.now.storage c.in-Else.is (Ok c.end_arm.result) (shown c.end_arm.new.act) c.end_arm.ensures

pub end_label-requires : goal.end_label-requires
end_label-requires c = runs_alone c.args.set.now c.args.part c.args.body.now (shown c.args.act.now) c.args.instr.now instr.End c.args.next c.args.store.now.storage c.in-End.is c.requires.runs

pub returns-in-End-clause-does : goal.returns-in-End-clause-does
returns-in-End-clause-does c = done_alone c.args.set.now c.args.part c.args.body.now (shown c.args.act.now) c.args.instr.now instr.End c.args.next c.args.store.now.storage c.in-End.is (Ok c.end_label.result) (shown c.end_label.new.act) c.end_label.ensures

pub branch_always-requires : goal.branch_always-requires
branch_always-requires c = runs_alone c.args.set.now c.args.part c.args.body.now (shown c.args.act.now) c.args.instr.now (instr.Br c.in-Br.depth) c.args.next c.args.store.now.storage c.in-Br.is c.requires.runs

pub returns-in-Br-clause-does : goal.returns-in-Br-clause-does
returns-in-Br-clause-does c = done_alone c.args.set.now c.args.part c.args.body.now (shown c.args.act.now) c.args.instr.now (instr.Br c.in-Br.depth) c.args.next c.args.store.now.storage c.in-Br.is (Ok c.branch_always.result) (shown c.branch_always.new.act) c.branch_always.ensures

pub branch_if-requires : goal.branch_if-requires
branch_if-requires c = runs_alone c.args.set.now c.args.part c.args.body.now (shown c.args.act.now) c.args.instr.now (instr.BrIf c.in-BrIf.depth) c.args.next c.args.store.now.storage c.in-BrIf.is c.requires.runs

pub returns-in-BrIf-clause-does : goal.returns-in-BrIf-clause-does
returns-in-BrIf-clause-does c = done_alone c.args.set.now c.args.part c.args.body.now (shown c.args.act.now) c.args.instr.now (instr.BrIf c.in-BrIf.depth) c.args.next c.args.store.now.storage c.in-BrIf.is (Ok c.branch_if.result) (shown c.branch_if.new.act) c.branch_if.ensures

pub branch_table-requires-clause-exactly : goal.branch_table-requires-clause-exactly
branch_table-requires-clause-exactly c = subst IsExactly c.in-BrTable.is c.requires.exactly

pub branch_table-requires-clause-runs : goal.branch_table-requires-clause-runs
branch_table-requires-clause-runs c = runs_alone c.args.set.now c.args.part c.args.body.now (shown c.args.act.now) c.args.instr.now (instr.BrTable c.in-BrTable.targets c.in-BrTable.count c.in-BrTable.otherwise) c.args.next c.args.store.now.storage c.in-BrTable.is c.requires.runs

pub returns-in-BrTable-clause-does : goal.returns-in-BrTable-clause-does
returns-in-BrTable-clause-does c = done_alone c.args.set.now c.args.part c.args.body.now (shown c.args.act.now) c.args.instr.now (instr.BrTable c.in-BrTable.targets c.in-BrTable.count c.in-BrTable.otherwise) c.args.next c.args.store.now.storage c.in-BrTable.is (Ok c.branch_table.result) (shown c.branch_table.new.act) c.branch_table.ensures

pub return_now-requires : goal.return_now-requires
return_now-requires c = runs_alone c.args.set.now c.args.part c.args.body.now (shown c.args.act.now) c.args.instr.now instr.Return c.args.next c.args.store.now.storage c.in-Return.is c.requires.runs

pub returns-in-Return-clause-does : goal.returns-in-Return-clause-does
returns-in-Return-clause-does c = done_alone c.args.set.now c.args.part c.args.body.now (shown c.args.act.now) c.args.instr.now instr.Return c.args.next c.args.store.now.storage c.in-Return.is (Ok c.return_now.result) (shown c.return_now.new.act) c.return_now.ensures

pub call_in-requires : goal.call_in-requires
call_in-requires c = record { runs = (c.args.body.now, c.args.store.now.storage, moved c.args.set.now c.args.part c.args.body.now (shown c.args.act.now) c.args.instr.now (instr.Call c.in-Call.index) c.args.next c.args.store.now.storage c.in-Call.is c.requires.runs) }

pub returns-in-Call-clause-does : goal.returns-in-Call-clause-does
returns-in-Call-clause-does c = moved_back c.args.set.now c.args.part c.args.body.now (shown c.args.act.now) c.args.instr.now (instr.Call c.in-Call.index) c.args.next c.args.store.now.storage c.in-Call.is c.call_in.result (shown c.call_in.new.act) c.args.store.now.storage (c.call_in.ensures.does c.args.body.now c.args.store.now.storage)

pub call_indirect-requires : goal.call_indirect-requires
call_indirect-requires c = (c.args.body.now, moved c.args.set.now c.args.part c.args.body.now (shown c.args.act.now) c.args.instr.now (instr.CallIndirect c.in-CallIndirect.index) c.args.next c.args.store.now.storage c.in-CallIndirect.is c.requires.runs)

pub returns-in-CallIndirect-clause-does : goal.returns-in-CallIndirect-clause-does
returns-in-CallIndirect-clause-does c = moved_back c.args.set.now c.args.part c.args.body.now (shown c.args.act.now) c.args.instr.now (instr.CallIndirect c.in-CallIndirect.index) c.args.next c.args.store.now.storage c.in-CallIndirect.is c.call_indirect.result (shown c.call_indirect.new.act) c.args.store.now.storage (c.call_indirect.ensures.does c.args.body.now)

pub discard-requires : goal.discard-requires
discard-requires c = runs_alone c.args.set.now c.args.part c.args.body.now (shown c.args.act.now) c.args.instr.now instr.Drop c.args.next c.args.store.now.storage c.in-Drop.is c.requires.runs

pub returns-in-Drop-clause-does : goal.returns-in-Drop-clause-does
returns-in-Drop-clause-does c = done_alone c.args.set.now c.args.part c.args.body.now (shown c.args.act.now) c.args.instr.now instr.Drop c.args.next c.args.store.now.storage c.in-Drop.is (Ok c.discard.result) (shown c.discard.new.act) c.discard.ensures

pub select-requires : goal.select-requires
select-requires c = (c.in-Select.label, runs_alone c.args.set.now c.args.part c.args.body.now (shown c.args.act.now) c.args.instr.now (instr.Select c.in-Select.label) c.args.next c.args.store.now.storage c.in-Select.is c.requires.runs)

pub returns-in-Select-clause-does : goal.returns-in-Select-clause-does
returns-in-Select-clause-does c = done_alone c.args.set.now c.args.part c.args.body.now (shown c.args.act.now) c.args.instr.now (instr.Select c.in-Select.label) c.args.next c.args.store.now.storage c.in-Select.is (Ok c.select.result) (shown c.select.new.act) (c.select.ensures c.in-Select.label)

pub local_get-requires : goal.local_get-requires
local_get-requires c = runs_alone c.args.set.now c.args.part c.args.body.now (shown c.args.act.now) c.args.instr.now (instr.LocalGet c.in-LocalGet.index) c.args.next c.args.store.now.storage c.in-LocalGet.is c.requires.runs

pub returns-in-LocalGet-clause-does : goal.returns-in-LocalGet-clause-does
returns-in-LocalGet-clause-does c = done_alone c.args.set.now c.args.part c.args.body.now (shown c.args.act.now) c.args.instr.now (instr.LocalGet c.in-LocalGet.index) c.args.next c.args.store.now.storage c.in-LocalGet.is c.local_get.result (shown c.local_get.new.act) c.local_get.ensures.does

pub local_set-requires : goal.local_set-requires
local_set-requires c = runs_alone c.args.set.now c.args.part c.args.body.now (shown c.args.act.now) c.args.instr.now (instr.LocalSet c.in-LocalSet.index) c.args.next c.args.store.now.storage c.in-LocalSet.is c.requires.runs

pub returns-in-LocalSet-clause-does : goal.returns-in-LocalSet-clause-does
returns-in-LocalSet-clause-does c = done_alone c.args.set.now c.args.part c.args.body.now (shown c.args.act.now) c.args.instr.now (instr.LocalSet c.in-LocalSet.index) c.args.next c.args.store.now.storage c.in-LocalSet.is (Ok c.local_set.result) (shown c.local_set.new.act) c.local_set.ensures

pub local_tee-requires : goal.local_tee-requires
local_tee-requires c = runs_alone c.args.set.now c.args.part c.args.body.now (shown c.args.act.now) c.args.instr.now (instr.LocalTee c.in-LocalTee.index) c.args.next c.args.store.now.storage c.in-LocalTee.is c.requires.runs

pub returns-in-LocalTee-clause-does : goal.returns-in-LocalTee-clause-does
returns-in-LocalTee-clause-does c = done_alone c.args.set.now c.args.part c.args.body.now (shown c.args.act.now) c.args.instr.now (instr.LocalTee c.in-LocalTee.index) c.args.next c.args.store.now.storage c.in-LocalTee.is (Ok c.local_tee.result) (shown c.local_tee.new.act) c.local_tee.ensures

pub get_in-requires : goal.get_in-requires
get_in-requires c = record { runs = (c.args.body.now, moved c.args.set.now c.args.part c.args.body.now (shown c.args.act.now) c.args.instr.now (instr.GlobalGet c.in-GlobalGet.index) c.args.next c.args.store.now.storage c.in-GlobalGet.is c.requires.runs) }

pub returns-in-GlobalGet-clause-does : goal.returns-in-GlobalGet-clause-does
returns-in-GlobalGet-clause-does c = moved_back c.args.set.now c.args.part c.args.body.now (shown c.args.act.now) c.args.instr.now (instr.GlobalGet c.in-GlobalGet.index) c.args.next c.args.store.now.storage c.in-GlobalGet.is c.get_in.result (shown c.get_in.new.act) c.args.store.now.storage (c.get_in.ensures.does c.args.body.now)

pub set_in-requires : goal.set_in-requires
set_in-requires c = record { runs = (c.args.body.now, moved c.args.set.now c.args.part c.args.body.now (shown c.args.act.now) c.args.instr.now (instr.GlobalSet c.in-GlobalSet.index) c.args.next c.args.store.now.storage c.in-GlobalSet.is c.requires.runs) }

pub returns-in-GlobalSet-clause-does : goal.returns-in-GlobalSet-clause-does
returns-in-GlobalSet-clause-does c = moved_back c.args.set.now c.args.part c.args.body.now (shown c.args.act.now) c.args.instr.now (instr.GlobalSet c.in-GlobalSet.index) c.args.next c.args.store.now.storage c.in-GlobalSet.is (Ok c.set_in.result) (shown c.set_in.new.act) c.set_in.new.store.storage (c.set_in.ensures.does c.args.body.now)

pub load_in-requires-clause-form : goal.load_in-requires-clause-form
load_in-requires-clause-form c = subst IsExactly c.in-Load.is c.requires.exactly

pub load_in-requires-clause-small : goal.load_in-requires-clause-small
load_in-requires-clause-small c = c.requires.small

pub load_in-requires-clause-runs : goal.load_in-requires-clause-runs
load_in-requires-clause-runs c = (c.in-Load.label, c.in-Load.align, c.args.body.now, moved c.args.set.now c.args.part c.args.body.now (shown c.args.act.now) c.args.instr.now (instr.Load c.in-Load.width c.in-Load.label c.in-Load.bytes c.in-Load.signed c.in-Load.align c.in-Load.offset) c.args.next c.args.store.now.storage c.in-Load.is c.requires.runs)

pub returns-in-Load-clause-does : goal.returns-in-Load-clause-does
returns-in-Load-clause-does c = moved_back c.args.set.now c.args.part c.args.body.now (shown c.args.act.now) c.args.instr.now (instr.Load c.in-Load.width c.in-Load.label c.in-Load.bytes c.in-Load.signed c.in-Load.align c.in-Load.offset) c.args.next c.args.store.now.storage c.in-Load.is (Ok c.load_in.result) (shown c.load_in.new.act) c.args.store.now.storage (c.load_in.ensures c.in-Load.label c.in-Load.align c.args.body.now)

pub store_in-requires-clause-form : goal.store_in-requires-clause-form
store_in-requires-clause-form c = (subst IsExactly c.in-Store.is c.requires.exactly).1

pub store_in-requires-clause-runs : goal.store_in-requires-clause-runs
store_in-requires-clause-runs c = (c.in-Store.label, c.in-Store.signed, c.in-Store.align, c.args.body.now, moved c.args.set.now c.args.part c.args.body.now (shown c.args.act.now) c.args.instr.now (instr.Store c.in-Store.width c.in-Store.label c.in-Store.bytes c.in-Store.signed c.in-Store.align c.in-Store.offset) c.args.next c.args.store.now.storage c.in-Store.is c.requires.runs)

pub returns-in-Store-clause-does : goal.returns-in-Store-clause-does
returns-in-Store-clause-does c = moved_back c.args.set.now c.args.part c.args.body.now (shown c.args.act.now) c.args.instr.now (instr.Store c.in-Store.width c.in-Store.label c.in-Store.bytes c.in-Store.signed c.in-Store.align c.in-Store.offset) c.args.next c.args.store.now.storage c.in-Store.is c.store_in.result (shown c.store_in.new.act) c.store_in.new.store.storage (c.store_in.ensures.does c.in-Store.label c.in-Store.signed c.in-Store.align c.args.body.now)

pub size_in-requires : goal.size_in-requires
size_in-requires c = record { runs = (c.args.body.now, moved c.args.set.now c.args.part c.args.body.now (shown c.args.act.now) c.args.instr.now instr.MemorySize c.args.next c.args.store.now.storage c.in-MemorySize.is c.requires.runs) }

pub returns-in-MemorySize-clause-does : goal.returns-in-MemorySize-clause-does
returns-in-MemorySize-clause-does c = moved_back c.args.set.now c.args.part c.args.body.now (shown c.args.act.now) c.args.instr.now instr.MemorySize c.args.next c.args.store.now.storage c.in-MemorySize.is c.size_in.result (shown c.size_in.new.act) c.args.store.now.storage (c.size_in.ensures.does c.args.body.now)

pub grow_in-requires : goal.grow_in-requires
grow_in-requires c = record { runs = (c.args.body.now, moved c.args.set.now c.args.part c.args.body.now (shown c.args.act.now) c.args.instr.now instr.MemoryGrow c.args.next c.args.store.now.storage c.in-MemoryGrow.is c.requires.runs) }

pub returns-in-MemoryGrow-clause-does : goal.returns-in-MemoryGrow-clause-does
returns-in-MemoryGrow-clause-does c = moved_back c.args.set.now c.args.part c.args.body.now (shown c.args.act.now) c.args.instr.now instr.MemoryGrow c.args.next c.args.store.now.storage c.in-MemoryGrow.is c.grow_in.result (shown c.grow_in.new.act) c.grow_in.new.store.storage (c.grow_in.ensures.does c.args.body.now)

pub returns-in-Const-clause-does : goal.returns-in-Const-clause-does
returns-in-Const-clause-does c = done_alone c.args.set.now c.args.part c.args.body.now (shown c.args.act.now) c.args.instr.now (instr.Const c.in-Const.width c.in-Const.label c.in-Const.bits) c.args.next c.args.store.now.storage c.in-Const.is c.constant.result (shown c.constant.new.act) (c.constant.ensures.does c.in-Const.width c.in-Const.label)

pub numeric_in-requires : goal.numeric_in-requires
numeric_in-requires c = record { runs = (c.in-Numeric.label, c.args.body.now, c.args.store.now.storage, moved c.args.set.now c.args.part c.args.body.now (shown c.args.act.now) c.args.instr.now (instr.Numeric c.in-Numeric.op c.in-Numeric.label) c.args.next c.args.store.now.storage c.in-Numeric.is c.requires.runs) }

pub returns-in-Numeric-clause-does : goal.returns-in-Numeric-clause-does
returns-in-Numeric-clause-does c = moved_back c.args.set.now c.args.part c.args.body.now (shown c.args.act.now) c.args.instr.now (instr.Numeric c.in-Numeric.op c.in-Numeric.label) c.args.next c.args.store.now.storage c.in-Numeric.is (Ok c.numeric_in.result) (shown c.numeric_in.new.act) c.args.store.now.storage (c.numeric_in.ensures c.in-Numeric.label c.args.body.now c.args.store.now.storage)

pub returns-in-Nop-clause-settles : goal.returns-in-Nop-clause-settles
returns-in-Nop-clause-settles c = all_settled c.args.store.now.storage c.args.store.now.storage (shown c.args.act.now) (shown c.nop.new.act) (Ok c.nop.result) refl

pub returns-in-Unreachable-clause-settles : goal.returns-in-Unreachable-clause-settles
returns-in-Unreachable-clause-settles c = all_settled c.args.store.now.storage c.args.store.now.storage (shown c.args.act.now) (shown c.args.act.now) (Ok c.trap.result) refl

pub returns-in-Block-clause-settles : goal.returns-in-Block-clause-settles
returns-in-Block-clause-settles c = all_settled c.args.store.now.storage c.args.store.now.storage (shown c.args.act.now) (shown c.enter_block.new.act) c.enter_block.result refl

pub returns-in-Loop-clause-settles : goal.returns-in-Loop-clause-settles
returns-in-Loop-clause-settles c = all_settled c.args.store.now.storage c.args.store.now.storage (shown c.args.act.now) (shown c.enter_loop.new.act) c.enter_loop.result refl

pub returns-in-If-clause-settles : goal.returns-in-If-clause-settles
returns-in-If-clause-settles c = all_settled c.args.store.now.storage c.args.store.now.storage (shown c.args.act.now) (shown c.enter_if.new.act) c.enter_if.result refl

pub returns-in-Else-clause-settles : goal.returns-in-Else-clause-settles
returns-in-Else-clause-settles c = all_settled c.args.store.now.storage c.args.store.now.storage (shown c.args.act.now) (shown c.end_arm.new.act) (Ok c.end_arm.result) refl

pub returns-in-End-clause-settles : goal.returns-in-End-clause-settles
returns-in-End-clause-settles c = all_settled c.args.store.now.storage c.args.store.now.storage (shown c.args.act.now) (shown c.end_label.new.act) (Ok c.end_label.result) refl

pub returns-in-Br-clause-settles : goal.returns-in-Br-clause-settles
returns-in-Br-clause-settles c = all_settled c.args.store.now.storage c.args.store.now.storage (shown c.args.act.now) (shown c.branch_always.new.act) (Ok c.branch_always.result) refl

pub returns-in-BrIf-clause-settles : goal.returns-in-BrIf-clause-settles
returns-in-BrIf-clause-settles c = all_settled c.args.store.now.storage c.args.store.now.storage (shown c.args.act.now) (shown c.branch_if.new.act) (Ok c.branch_if.result) refl

pub returns-in-BrTable-clause-settles : goal.returns-in-BrTable-clause-settles
returns-in-BrTable-clause-settles c = all_settled c.args.store.now.storage c.args.store.now.storage (shown c.args.act.now) (shown c.branch_table.new.act) (Ok c.branch_table.result) refl

pub returns-in-Return-clause-settles : goal.returns-in-Return-clause-settles
returns-in-Return-clause-settles c = all_settled c.args.store.now.storage c.args.store.now.storage (shown c.args.act.now) (shown c.return_now.new.act) (Ok c.return_now.result) refl

pub returns-in-Call-clause-settles : goal.returns-in-Call-clause-settles
returns-in-Call-clause-settles c = all_settled c.args.store.now.storage c.args.store.now.storage (shown c.args.act.now) (shown c.call_in.new.act) c.call_in.result refl

pub returns-in-CallIndirect-clause-settles : goal.returns-in-CallIndirect-clause-settles
returns-in-CallIndirect-clause-settles c = all_settled c.args.store.now.storage c.args.store.now.storage (shown c.args.act.now) (shown c.call_indirect.new.act) c.call_indirect.result refl

pub returns-in-Drop-clause-settles : goal.returns-in-Drop-clause-settles
returns-in-Drop-clause-settles c = all_settled c.args.store.now.storage c.args.store.now.storage (shown c.args.act.now) (shown c.discard.new.act) (Ok c.discard.result) refl

pub returns-in-Select-clause-settles : goal.returns-in-Select-clause-settles
returns-in-Select-clause-settles c = all_settled c.args.store.now.storage c.args.store.now.storage (shown c.args.act.now) (shown c.select.new.act) (Ok c.select.result) refl

pub returns-in-LocalGet-clause-settles : goal.returns-in-LocalGet-clause-settles
returns-in-LocalGet-clause-settles c = all_settled c.args.store.now.storage c.args.store.now.storage (shown c.args.act.now) (shown c.local_get.new.act) c.local_get.result refl

pub returns-in-LocalSet-clause-settles : goal.returns-in-LocalSet-clause-settles
returns-in-LocalSet-clause-settles c = all_settled c.args.store.now.storage c.args.store.now.storage (shown c.args.act.now) (shown c.local_set.new.act) (Ok c.local_set.result) refl

pub returns-in-LocalTee-clause-settles : goal.returns-in-LocalTee-clause-settles
returns-in-LocalTee-clause-settles c = all_settled c.args.store.now.storage c.args.store.now.storage (shown c.args.act.now) (shown c.local_tee.new.act) (Ok c.local_tee.result) refl

pub returns-in-GlobalGet-clause-settles : goal.returns-in-GlobalGet-clause-settles
returns-in-GlobalGet-clause-settles c = all_settled c.args.store.now.storage c.args.store.now.storage (shown c.args.act.now) (shown c.get_in.new.act) c.get_in.result refl

pub returns-in-Load-clause-settles : goal.returns-in-Load-clause-settles
returns-in-Load-clause-settles c = all_settled c.args.store.now.storage c.args.store.now.storage (shown c.args.act.now) (shown c.load_in.new.act) (Ok c.load_in.result) refl

pub returns-in-MemorySize-clause-settles : goal.returns-in-MemorySize-clause-settles
returns-in-MemorySize-clause-settles c = all_settled c.args.store.now.storage c.args.store.now.storage (shown c.args.act.now) (shown c.size_in.new.act) c.size_in.result refl

pub returns-in-Const-clause-settles : goal.returns-in-Const-clause-settles
returns-in-Const-clause-settles c = all_settled c.args.store.now.storage c.args.store.now.storage (shown c.args.act.now) (shown c.constant.new.act) c.constant.result refl

pub returns-in-Numeric-clause-settles : goal.returns-in-Numeric-clause-settles
returns-in-Numeric-clause-settles c = all_settled c.args.store.now.storage c.args.store.now.storage (shown c.args.act.now) (shown c.numeric_in.new.act) (Ok c.numeric_in.result) refl
