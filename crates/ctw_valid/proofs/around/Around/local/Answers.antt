use Rattle.ctw_valid.proofs.Scope.{local_none, local_some}
use Rattle.ctw_valid.proofs.around.Around.local.Goals as goal

pub returns-then-index-self : goal.returns-then-index-self
returns-then-index-self c = local_none c.args.self.now c.args.index c.args.self.now.locals c.args.self.now.counted c.if-index-self.true

pub returns : goal.returns
returns c = local_some c.args.self.now c.args.index c.local.result c.local.ensures
