use Rattle.std.proofs.Common.{◌≡◌, take, flat_map}
use Rattle.ctw_script.specs.Lines.{event_line}
use Rattle.ctwasm_top.proofs.lines.move_text.Given as goal

abbrev pub invariant-events : goal.invariant-events
invariant-events l = l.text.items ≡ flat_map event_line (take l.event-index l.events)
