use Rattle.ctw_leb.proofs.Combinators.{placed_ok, placed_bad}
use Rattle.ctw_form.specs.declared.fault.FormKind.TheVariants.{Truncated}
use Rattle.ctw_form.specs.Read.{fault}
use Rattle.ctw_form.proofs.bytes.byte_by.Goals as goal

pub returns-in-Ok-clause-read : goal.returns-in-Ok-clause-read
returns-in-Ok-clause-read g c rows t = placed_ok fault Truncated rows _ _ _ (c.in-Ok.ensures.read rows t)

pub returns-in-Err-clause-read : goal.returns-in-Err-clause-read
returns-in-Err-clause-read g c rows t = placed_bad fault Truncated rows _ _ _ (c.in-Err.ensures.read rows t)
