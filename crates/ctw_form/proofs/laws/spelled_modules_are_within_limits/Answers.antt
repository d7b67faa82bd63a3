use Rattle.ctw_form.proofs.WithinLimits.{within_limits}
use Rattle.ctw_form.proofs.laws.spelled_modules_are_within_limits.Goals as goal

pub returns : goal.returns
returns c bytes m h s = within_limits bytes m h s
