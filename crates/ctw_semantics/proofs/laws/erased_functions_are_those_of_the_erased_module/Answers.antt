use Rattle.ctw_ops.proofs.Variants.{variants_fit}
use Rattle.ctw_semantics.proofs.Modules.{instance_erased, body_erased}
use Rattle.ctw_semantics.proofs.laws.erased_functions_are_those_of_the_erased_module.Goals as goal

pub returns-clause-instances : goal.returns-clause-instances
returns-clause-instances c part m f types = instance_erased part m f (variants_fit m.types types)

pub returns-clause-bodies : goal.returns-clause-bodies
returns-clause-bodies c m f types = body_erased m f (variants_fit m.types types)
