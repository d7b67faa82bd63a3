use Rattle.ctw_valid.proofs.Named.{typed_around}
use Rattle.ctw_module_tests.proofs.bodies.body_passes.Goals as goal

pub check_body-requires-clause-typed : goal.check_body-requires-clause-typed
check_body-requires-clause-typed g c = typed_around _ c.requires.around
