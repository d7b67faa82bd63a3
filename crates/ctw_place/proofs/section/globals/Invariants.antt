use Rattle.ctw_write.specs.Canon.{global_text}
use Rattle.ctw_write.proofs.Listed.{Listed}
use Rattle.ctw_place.specs.Bodies.{placed_of}
use Rattle.ctw_place.proofs.section.globals.Given as goal

-- the first ones are written
abbrev pub invariant-loop-i : goal.invariant-loop-i
invariant-loop-i l = Listed global_text (placed_of l.setting).globals l.i l.initial.out.items l.out.items
