use Rattle.std.proofs.Common.{arith}
use Rattle.ctw_module.specs.Trees.{tree}
use Rattle.ctw_module.proofs.Functions.{view_at}
use Rattle.ctw_module.proofs.Known.{few, heft_length}
use Rattle.ctw_module.proofs.Readers.{elements_size}
use Rattle.ctw_module.proofs.module.Module.element_count.Goals as goal

pub overflow_cast-result : goal.overflow_cast-result
overflow_cast-result c =
    let h = view_at c.self.inside c.args.self.now c.self.invariant c.self.view_is in
    record { fits = omega (arith, c.len.ensures, elements_size c.self.inside c.args.self.now h, heft_length (tree c.args.self.now).elements, (few c.args.self.now h.short h.spelled).elements) }

pub returns : goal.returns
returns c = omega (arith, c.len.ensures, elements_size c.self.inside c.args.self.now (view_at c.self.inside c.args.self.now c.self.invariant c.self.view_is))
