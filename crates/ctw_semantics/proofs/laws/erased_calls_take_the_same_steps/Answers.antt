use Rattle.std.proofs.Common.{sym}
use Rattle.ctw_semantics.proofs.ErasedSteps.{weight-erased, red_erased, step_erased, turn_erased}
use Rattle.ctw_semantics.proofs.Modules.{erased_untrusted}
use Rattle.ctw_semantics.proofs.Begun.{begun_erased}
use Rattle.ctw_semantics.proofs.laws.erased_calls_take_the_same_steps.Goals as goal

pub returns-clause-reductions : goal.returns-clause-reductions
returns-clause-reductions c fns shape last s a set ss h z = sym (red_erased fns shape last set s a ss h z)

pub returns-clause-steps : goal.returns-clause-steps
returns-clause-steps c fns shape last s a set ss h = sym (step_erased fns shape last set s a ss h)

pub returns-clause-turns : goal.returns-clause-turns
returns-clause-turns c n fns shape last s a set ss h = sym (turn_erased fns shape last set n s a ss h)

pub returns-clause-weights : goal.returns-clause-weights
returns-clause-weights c = weight-erased

pub returns-clause-begun_calls : goal.returns-clause-begun_calls
returns-clause-begun_calls c = begun_erased

pub returns-clause-untrusted : goal.returns-clause-untrusted
returns-clause-untrusted c = erased_untrusted
