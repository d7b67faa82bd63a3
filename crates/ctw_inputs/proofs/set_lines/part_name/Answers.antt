use Rattle.ctw_inputs.proofs.PartNames.{name_there, name_absent}
use Rattle.ctw_inputs.proofs.set_lines.part_name.Goals as goal

pub returns-in-Some : goal.returns-in-Some
returns-in-Some c = λ set named. let h = c.in-Some.ensures.lookup in name_there set c.args.parts.now c.args.index c.in-Some.part.now h.0 h.1 named

pub returns-in-None : goal.returns-in-None
returns-in-None c = λ set named. let h = c.in-None.ensures.lookup in name_absent set c.args.parts.now c.args.index h.3 named
