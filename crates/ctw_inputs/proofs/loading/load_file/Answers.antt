use Rattle.std.proofs.Common.{◌≡◌}
use Rattle.ctw_inputs.specs.declared.said.Stop.TheVariants as stop
use Rattle.ctw_inputs.proofs.loading.load_file.Goals as goal

pub returns-in-Ok-More-clause-cause : goal.returns-in-Ok-More-clause-cause
returns-in-Ok-More-clause-cause g c = record { kept = c.load.ensures.cause.kept; failed = λ e. let same : c.refuse.result ≡ stop.ReadFault = cc in absurd (c.refuse.ensures.quiet same) }

pub returns-in-Ok-Missing-clause-cause : goal.returns-in-Ok-Missing-clause-cause
returns-in-Ok-Missing-clause-cause g c = record { kept = c.load.ensures.cause.kept; failed = λ e. let same : c.refuse-in-Ok-Missing.result ≡ stop.ReadFault = cc in absurd (c.refuse-in-Ok-Missing.ensures.quiet same) }
