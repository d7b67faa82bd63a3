use Rattle.std.proofs.Common.{◌≡◌, ◌-◌, suc, length, arith}
use Rattle.std.proofs.lemmas.Grind.{common_steps}
use Rattle.ctw_write.proofs.Walked.{on_ok}
use Rattle.ctw_parse.proofs.Branches.{labels_written}
use Rattle.ctw_parse.proofs.code.put_branches.Goals as goal

pub returns-clause-written : goal.returns-clause-written
returns-clause-written c =
    let some : length c.args.labels.now ≡ suc (length c.args.labels.now - 1) = grind (arith, common_steps) in
    on_ok c.put_numbers.result
    (labels_written c.args.labels.now c.args.out.now.items c.put_form.new.out.items c.put_count.new.out.items c.put_numbers.new.out.items (length c.args.labels.now - 1) some c.in_ok-put_form.ensures c.in_ok-put_count.ensures) c.put_numbers.ensures.written
