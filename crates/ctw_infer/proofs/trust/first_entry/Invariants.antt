use Rattle.ctw_module.specs.Trees.{view_module}
use Rattle.ctw_infer.specs.Misuse.{trusted_among}
use Rattle.ctw_infer.proofs.Firsts.{FirstLeft}
use Rattle.ctw_infer.proofs.trust.first_entry.Given as goal

abbrev pub invariant-elements : goal.invariant-elements
invariant-elements l = FirstLeft (λ e. trusted_among l.p e.functions) (view_module l.m).elements l.i
