use Rattle.std.proofs.Common.{◌≡◌, length, ap, ◌∙◌, arith}
use Rattle.ctw_session.proofs.Exporting.{linkable_valid}
use Rattle.ctw_session.proofs.Allocating.{all_parts}
use Rattle.ctw_session.proofs.allocation.make_store.Goals as goal

pub returns-clause-set : goal.returns-clause-set
returns-clause-set c = record { matching = c.parts-2.ensures.matching; valid = linkable_valid c.args.set.now c.parts-2.ensures.linked; limits = c.parts-2.ensures.limits }

pub returns-clause-store : goal.returns-clause-store
returns-clause-store c = c.parts.invariant ∙ all_parts c.args.set.now c.parts.part (omega (arith, c.parts-test.false, ap length c.parts-2.ensures.value))

pub returns-in_err-add_part-clause-set : goal.returns-in_err-add_part-clause-set
returns-in_err-add_part-clause-set c = record { matching = c.parts-2.ensures.matching; valid = linkable_valid c.args.set.now c.parts-2.ensures.linked; limits = c.parts-2.ensures.limits }
