use Rattle.std.proofs.Common.{Result, subst}
use Rattle.ctw_valid.specs.declared.row.Row.{Row}
use Rattle.ctw_valid.specs.declared.fault.BodyFault.{BodyFault}
use Rattle.ctw_valid.specs.Rows.{LooksUpOp}
use Rattle.ctw_valid.proofs.LeafLaws.{leaf_barred}
use Rattle.ctw_valid.proofs.pass.follow.Goals as goal

pub returns-in-Err-clause-step : goal.returns-in-Err-clause-step
returns-in-Err-clause-step c = λ C op l. leaf_barred C op c.args.at c.in-Err.fault c.args.stack.now c.args.stack.now (subst (λ (r : Result Row BodyFault). LooksUpOp C op c.args.at r) c.in-Err.is l)
