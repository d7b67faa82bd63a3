use Rattle.ctw_session.proofs.Exporting.{function_has}
use Rattle.ctw_session.proofs.exports.exported_function.Goals as goal

pub function_at-requires : goal.function_at-requires
function_at-requires c = function_has c.args.set.now c.args.part.now c.args.name.now c.in_ok-export.export c.in-Func.is c.in_ok-export.ensures
