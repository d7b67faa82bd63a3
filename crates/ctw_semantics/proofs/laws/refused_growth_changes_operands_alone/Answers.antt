use Rattle.ctw_semantics.proofs.Growth.{refused_growth}
use Rattle.ctw_semantics.proofs.laws.refused_growth_changes_operands_alone.Goals as goal

pub returns : goal.returns
returns c fns s h rest fn i count m below found has at refused light = refused_growth fns s h rest fn i m count below found has at refused light
