use Rattle.ctw_module.specs.Trees.{view_module}
use Rattle.ctw_modcheck.proofs.BodyChecks.{function_none}
use Rattle.ctw_modcheck.proofs.bodies.check_function_body.Goals as goal

pub returns-in-Ok : goal.returns-in-Ok
returns-in-Ok c = λ function named. (function_none (view_module c.args.m.now) c.args.f function).1 (c.in-Ok.ensures.sound function named)
