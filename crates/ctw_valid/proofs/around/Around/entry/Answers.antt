use Rattle.std.proofs.Common.{arith}
use Rattle.ctw_valid.proofs.Scope.{entry_none, entry_some}
use Rattle.ctw_valid.proofs.around.Around.entry.Goals as goal

pub returns-then-index-type_count : goal.returns-then-index-type_count
returns-then-index-type_count c = entry_none c.args.self.now c.args.index c.type_count.result c.type_count.ensures c.if-index-type_count.true

pub returns : goal.returns
returns c = entry_some c.args.self.now c.args.index c.func_type.result (omega (arith, c.type_count.ensures, c.if-index-type_count.false)) c.func_type.ensures
