use Rattle.ctw_valid.proofs.Scope.{global_none, global_some}
use Rattle.ctw_valid.proofs.around.Around.global.Goals as goal

pub returns-then-index-global_count : goal.returns-then-index-global_count
returns-then-index-global_count c = global_none c.args.self.now c.args.index c.global_count.result c.global_count.ensures c.if-index-global_count.true

pub returns : goal.returns
returns c = global_some c.args.self.now c.args.index c.global.result.ty c.global.ensures.typed
