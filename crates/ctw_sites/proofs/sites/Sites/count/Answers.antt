use Rattle.std.proofs.Common.{length, ap, arith}
use Rattle.ctw_sites.specs.Held.{table}
use Rattle.ctw_sites.proofs.UnpackedLaws.{unpacked_length}
use Rattle.ctw_sites.proofs.sites.Sites.count.Goals as goal

pub overflow_cast-result : goal.overflow_cast-result
overflow_cast-result c = omega (arith, c.len.ensures, unpacked_length (table c.self.inside) 0 c.self.inside.words.items, c.self.invariant.sites.few)

pub returns-clause-count : goal.returns-clause-count
returns-clause-count c = omega (arith, c.len.ensures, unpacked_length (table c.self.inside) 0 c.self.inside.words.items, ap length c.self.view_is)

pub returns-clause-few : goal.returns-clause-few
returns-clause-few c = omega (arith, c.len.ensures, unpacked_length (table c.self.inside) 0 c.self.inside.words.items, c.self.invariant.sites.few)
