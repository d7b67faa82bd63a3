use Rattle.ctw_launch.proofs.FirstValues.{globals_begin}
use Rattle.ctw_launch.proofs.laws.globals_begin_as_declared.Goals as goal

pub returns : goal.returns
returns c = globals_begin
