use Rattle.std.specs.Prelude.{length}
use Rattle.ctw_ops.specs.declared.types.Label.TheVariants.{Public}
use Rattle.ctw_least.specs.Flows.{IsMarked}
use Rattle.ctw_least.specs.Marked.{marks_on}
use Rattle.ctw_infer.proofs.Ends.{EndsTaken}
use Rattle.ctw_infer.proofs.marked.ends.Given as goal

abbrev pub invariant-sites : goal.invariant-sites
invariant-sites l = EndsTaken l.links.musts (length l.s) (λ n. IsMarked (marks_on l.s l.marks.labels) n Public) l.found.items l.site
