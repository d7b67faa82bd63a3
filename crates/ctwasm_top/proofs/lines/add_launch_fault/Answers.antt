use Rattle.std.proofs.Common.{subst}
use Rattle.ctw_link.specs.Sets.{set_of}
use Rattle.ctw_session.specs.declared.fault.LaunchFault.{LaunchFault}
use Rattle.ctw_session.specs.Launches.{TellsFault}
use Rattle.ctwasm_top.proofs.LaunchTold.{segment_line, trap_line, unfinished_line}
use Rattle.ctwasm_top.proofs.lines.add_launch_fault.Goals as goal

pub returns-in_ok-add_space-in-SegmentOutside : goal.returns-in_ok-add_space-in-SegmentOutside
returns-in_ok-add_space-in-SegmentOutside c = λ set f named full told.
    segment_line c.add_number_word.result set c.in-SegmentOutside.part f c.part_name.result.now c.args.line.now.items c.add_number_word.new.line.items (c.part_name.ensures (set_of set) named)
    c.in-SegmentOutside.space c.in-SegmentOutside.index c.add_part.new.line.items c.add_space.new.line.items (subst (λ (x : LaunchFault). TellsFault set x f) c.in-SegmentOutside.is told)
    c.in_ok-add_part-in-SegmentOutside.ensures c.in_ok-add_space-in-SegmentOutside.ensures c.add_number_word.ensures

pub returns-in_ok-add_part-in-StartTrapped : goal.returns-in_ok-add_part-in-StartTrapped
returns-in_ok-add_part-in-StartTrapped c = λ set f named full told.
    trap_line c.add_word.result set c.in-StartTrapped.part f c.part_name-in-StartTrapped.result.now c.args.line.now.items c.add_word.new.line.items (c.part_name-in-StartTrapped.ensures (set_of set) named)
    c.in-StartTrapped.code c.trap_word.result.now c.add_part-in-StartTrapped.new.line.items (subst (λ (x : LaunchFault). TellsFault set x f) c.in-StartTrapped.is told)
    c.trap_word.ensures c.in_ok-add_part-in-StartTrapped.ensures c.add_word.ensures

pub returns-in-StartUnfinished : goal.returns-in-StartUnfinished
returns-in-StartUnfinished c = λ set f named full told.
    unfinished_line c.add_part-in-StartUnfinished.result set c.in-StartUnfinished.part f c.part_name-in-StartUnfinished.result.now c.args.line.now.items c.add_part-in-StartUnfinished.new.line.items
    (c.part_name-in-StartUnfinished.ensures (set_of set) named) (subst (λ (x : LaunchFault). TellsFault set x f) c.in-StartUnfinished.is told) c.add_part-in-StartUnfinished.ensures
