use Rattle.ctw_ops.proofs.TagMaps.{opcodes_to}
use Rattle.ctw_ops.proofs.laws.opcodes_under_an_action.Goals as goal

pub returns : goal.returns
returns g c f act code = opcodes_to f act code
