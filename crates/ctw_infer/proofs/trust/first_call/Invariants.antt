use Rattle.ctw_module.specs.Trees.{view_module}
use Rattle.ctw_infer.proofs.Walks.{FunctionsLeft}
use Rattle.ctw_infer.proofs.trust.first_call.Given as goal

abbrev pub invariant-functions : goal.invariant-functions
invariant-functions l = FunctionsLeft (view_module l.m) l.p l.f
