use Rattle.ctw_link.specs.Matching.{pages_of}
use Rattle.ctw_link.proofs.SizeSums.{Summed}
use Rattle.ctw_link.proofs.sizes.pages_of_all.Given as goal

abbrev pub invariant-parts : goal.invariant-parts
invariant-parts l = Summed (λ p. pages_of p.tree.memory) 65536 l.parts l.part-index l.sum
