use Rattle.ctw_semantics.proofs.Silent.{turn_silent}
use Rattle.ctw_semantics.proofs.laws.untrusted_sets_release_nothing.Goals as goal

pub returns : goal.returns
returns c n fns shape last s a un set ss h = turn_silent fns un shape last set n s a ss h
