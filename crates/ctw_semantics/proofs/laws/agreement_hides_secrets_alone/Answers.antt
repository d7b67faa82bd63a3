use Rattle.ctw_semantics.proofs.Agreeing.{values_agree, memories_agree}
use Rattle.ctw_semantics.proofs.laws.agreement_hides_secrets_alone.Goals as goal

pub returns-clause-values : goal.returns-clause-values
returns-clause-values c = values_agree

pub returns-clause-memories : goal.returns-clause-memories
returns-clause-memories c = memories_agree
