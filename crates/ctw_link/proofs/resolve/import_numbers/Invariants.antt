use Rattle.ctw_link.specs.Sets.{set_of}
use Rattle.ctw_link.proofs.ImportLoop.{Met}
use Rattle.ctw_link.proofs.resolve.import_numbers.Given as goal

abbrev pub invariant-imports : goal.invariant-imports
invariant-imports l = Met (set_of l.parts) l.part l.import l.numbers
