use Rattle.std.proofs.Common.{◌<◌, ◌%◌, refl, arith}
use Rattle.ctw_ops.specs.Numeric.{is_numeric}
use Rattle.ctw_gen.proofs.Texts.{operation_numeric}
use Rattle.ctw_gen.proofs.code.put_computes.Goals as goal

pub operation-requires : goal.operation-requires
operation-requires c =
    let few : c.args.a % 8 < 8 = omega arith in
    operation_numeric (c.args.a % 8) few

pub operation-requires-2 : goal.operation-requires-2
unfolding is_numeric
operation-requires-2 c = refl
