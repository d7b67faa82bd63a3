use Rattle.ctw_ops.proofs.Tables.{covered}
use Rattle.ctw_ops.proofs.laws.signatures_cover_the_operations.Goals as goal

pub returns : goal.returns
returns c = covered
