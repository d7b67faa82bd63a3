use Rattle.std.proofs.Common.{◌∙◌, ap, sym, subst, Option}
use Rattle.ctw_ops.specs.declared.fault.Space.TheVariants as space
use Rattle.ctw_modcheck.specs.declared.fault.Invalid.{Invalid}
use Rattle.ctw_modcheck.specs.Answers.{Answers}
use Rattle.ctw_modcheck.specs.Faults.{of_some, table_fault}
use Rattle.ctw_modcheck.proofs.Once.{table_apart}
use Rattle.ctw_modcheck.proofs.around.check_table.Goals as goal

pub returns-in-Some : goal.returns-in-Some
returns-in-Some c =
    let apart = table_apart c.args.m.now c.bytes-bytes.ensures.spelled c.requires in
    let e = ap (of_some (table_fault space.Tables)) (sym c.in-Some.is ∙ c.table.ensures) ∙ apart in
    subst (λ (o : Option Invalid). Answers c.check_table_limits.result o) e c.check_table_limits.ensures

pub returns-in-None : goal.returns-in-None
returns-in-None c =
    let apart = table_apart c.args.m.now c.bytes-bytes.ensures.spelled c.requires in
    sym (ap (of_some (table_fault space.Tables)) (sym c.in-None.is ∙ c.table.ensures) ∙ apart)
