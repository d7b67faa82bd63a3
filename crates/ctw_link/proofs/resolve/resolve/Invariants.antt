use Rattle.ctw_link.specs.Sets.{set_of}
use Rattle.ctw_link.proofs.PartLoop.{Linked}
use Rattle.ctw_link.proofs.resolve.resolve.Given as goal

abbrev pub invariant-parts : goal.invariant-parts
invariant-parts l = Linked (set_of l.parts) l.part l.numbering
