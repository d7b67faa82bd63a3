use Rattle.std.proofs.Common.{arith, ap, sym, ◌∙◌}
use Rattle.ctw_ops.specs.declared.types.Label.{Label}
use Rattle.ctw_ops.specs.Types.{MemoryType}
use Rattle.ctw_link.proofs.SizeSums.{few_pages}
use Rattle.ctw_link.proofs.sizes.pages_in.Goals as goal

pub returns-in-Some-clause-few : goal.returns-in-Some-clause-few
returns-in-Some-clause-few c =
    let few = few_pages _ c.in-Some.memory c.requires.around.memory (sym c.defined_memory.ensures ∙ c.in-Some.is) in
    omega (arith, few, ap (λ (t : MemoryType Label). t.limits.min) c.memory.view_is)
