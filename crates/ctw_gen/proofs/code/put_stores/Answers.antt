use Rattle.std.proofs.Common.{refl}
use Rattle.ctw_ops.specs.Numeric.{is_numeric}
use Rattle.ctw_gen.proofs.code.put_stores.Goals as goal

pub operation-requires : goal.operation-requires
unfolding is_numeric
operation-requires c = refl
