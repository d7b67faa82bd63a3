use Rattle.std.proofs.Common.{length, ap, arith}
use Rattle.ctw_module.proofs.Known.{view_few}
use Rattle.ctw_module.proofs.module.Module.custom_count.Goals as goal

pub overflow_cast-result : goal.overflow_cast-result
overflow_cast-result c = omega (arith, c.len.ensures, ap length c.self.invariant.customs, (view_few c.self.inside c.self.invariant).customs)
