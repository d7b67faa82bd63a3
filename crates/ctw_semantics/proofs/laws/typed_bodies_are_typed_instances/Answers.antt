use Rattle.ctw_semantics.proofs.Modules.{typed_as_instance}
use Rattle.ctw_semantics.proofs.laws.typed_bodies_are_typed_instances.Goals as goal

pub returns : goal.returns
returns c = typed_as_instance
