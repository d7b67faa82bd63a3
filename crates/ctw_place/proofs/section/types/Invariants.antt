use Rattle.ctw_write.specs.Canon.{type_entry_text}
use Rattle.ctw_write.proofs.Listed.{Listed}
use Rattle.ctw_place.specs.Settings.{module_of}
use Rattle.ctw_place.proofs.section.types.Given as goal

-- the first ones are written
abbrev pub invariant-loop-i : goal.invariant-loop-i
invariant-loop-i l = Listed type_entry_text (module_of l.setting).types l.i l.initial.out.items l.out.items
