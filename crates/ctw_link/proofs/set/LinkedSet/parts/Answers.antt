use Rattle.ctw_link.proofs.Readers.{seen_linked}
use Rattle.ctw_link.proofs.set.LinkedSet.parts.Goals as goal

pub returns-clause-limits : goal.returns-clause-limits
returns-clause-limits c = (seen_linked _ c.args.self.now _ _ _ c.self.view_is c.self.invariant).limits
