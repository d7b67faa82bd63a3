use Rattle.ctw_link.specs.Sets.{set_of}
use Rattle.ctw_inputs.proofs.PartsRead.{AreRead, GoesOn}
use Rattle.ctw_inputs.proofs.sets.read_parts.Given as goal

abbrev pub invariant-parts : goal.invariant-parts
invariant-parts l = record {
  read : AreRead l.profile l.parts l.modules.items l.part-index;
  told : GoesOn l.profile l.parts (set_of l.modules.items) l.part-index;
}
