use Rattle.std.proofs.Common.{◌≢◌, sym, subst, rules, arith}
use Rattle.std.proofs.lemmas.Result.{err_from_is_err_and}
use Rattle.std.proofs.lemmas.Grind.{common_steps}
use Rattle.ctw_module.specs.Trees.{view_module}
use Rattle.ctw_modcheck.specs.declared.fault.Invalid.TheVariants.{NoMemory}
use Rattle.ctw_modcheck.proofs.Validity.{valid_is_none}
use Rattle.ctw_lines.specs.Lines.{check_line}
use Rattle.ctw_inputs.specs.Settling.{IsStop}
use Rattle.ctw_inputs.proofs.ModulesRead.{unread, is_valid, is_invalid, spelled_under}
use Rattle.ctw_inputs.proofs.modules.read_valid.Goals as goal

pub returns-in_err-read_module-clause-told : goal.returns-in_err-read_module-clause-told
returns-in_err-read_module-clause-told c =
    let p = err_from_is_err_and c.from_residual.result c.from_residual.ensures.1 in
    rw (p.1, p.2) (λ go. unread c.args.name.now c.args.bytes.now c.args.profile c.in_err-read_module.field-0.0 go c.in_err-read_module.ensures.told)

pub returns-in-Ok-clause-told : goal.returns-in-Ok-clause-told
returns-in-Ok-clause-told c = λ go.
    is_valid c.args.name.now c.args.bytes.now c.args.profile c.in_ok-read_module.field-0 c.with_profile-module.result c.in_ok-read_module.ensures.told c.with_profile-module.ensures go
    (valid_is_none (view_module c.with_profile-module.result) c.in-Ok.ensures.sound)

pub returns-in-Ok-clause-spelled : goal.returns-in-Ok-clause-spelled
returns-in-Ok-clause-spelled c =
    spelled_under c.args.bytes.now c.in_ok-read_module.field-0 c.with_profile-module.result c.args.profile c.with_profile-module.ensures c.in_ok-read_module.ensures.spelled

pub returns-clause-told : goal.returns-clause-told
returns-clause-told c =
    let some : c.in-Err.fault ≢ NoMemory = first_of (search rules, grind (arith, common_steps)) in λ go.
    subst (IsStop c.refuse.result)
    (sym (is_invalid c.args.name.now c.args.bytes.now c.args.profile c.in_ok-read_module.field-0 c.with_profile-module.result c.in_ok-read_module.ensures.told c.with_profile-module.ensures c.in-Err.fault go (c.in-Err.ensures.fault some)))
    (c.refuse.ensures.told (check_line c.args.name.now c.in-Err.fault) c.check_line.ensures)
