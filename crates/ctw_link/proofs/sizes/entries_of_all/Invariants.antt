use Rattle.ctw_link.specs.Matching.{entries_of}
use Rattle.ctw_link.proofs.SizeSums.{Summed}
use Rattle.ctw_link.proofs.sizes.entries_of_all.Given as goal

abbrev pub invariant-parts : goal.invariant-parts
invariant-parts l = Summed (λ p. entries_of p.tree.table) 4294967296 l.parts l.part-index l.sum
