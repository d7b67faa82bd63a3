use Rattle.std.proofs.Common.{arith}
use Rattle.std.proofs.lemmas.Result.{err_from_is_err_and}
use Rattle.ctw_link.proofs.PassedUsers.{entries_more, entries_stop}
use Rattle.ctw_link.proofs.tables.pass_entries.Goals as goal

pub returns-in_err-pass_user : goal.returns-in_err-pass_user
returns-in_err-pass_user c = λ before told.
    let p = err_from_is_err_and c.from_residual.result c.from_residual.ensures.1 in
    rw (p.1, p.2) (entries_stop c.args.parts.now c.args.part c.args.entries.now c.args.firsts.now c.entries.firsts c.pass_user.new.firsts c.entries.entry-index c.args.table _ (omega arith) c.in_err-pass_user.ensures c.entries.invariant before told)

pub entries-preserved : goal.entries-preserved
entries-preserved c = entries_more c.args.parts.now c.args.part c.args.entries.now c.args.firsts.now c.entries.firsts c.pass_user.new.firsts c.entries.entry-index c.args.table (omega arith) c.in_ok-pass_user.ensures c.entries.invariant
