use Rattle.std.proofs.Common.{refl}
use Rattle.ctw_leb.proofs.FrontNumbers.{front_spelled, front_is, front_missing}
use Rattle.ctw_leb.proofs.number.front_u32.Goals as goal

pub returns-in-Ok-clause-spelled : goal.returns-in-Ok-clause-spelled
returns-in-Ok-clause-spelled c = front_spelled c.args.bytes.now c.in-Ok.n c.in-Ok.rest.now c.in-Ok.ensures.value

pub returns-in-Ok-clause-found : goal.returns-in-Ok-clause-found
returns-in-Ok-clause-found c text after n m e = (refl, front_is c.args.bytes.now text after c.in-Ok.rest.now n c.in-Ok.n c.in-Ok.ensures.value m e)

pub returns-in-Err-clause-found : goal.returns-in-Err-clause-found
returns-in-Err-clause-found c text after n m e = absurd (front_missing c.args.bytes.now text after n c.in-Err.field-0 c.in-Err.ensures.value m e)
