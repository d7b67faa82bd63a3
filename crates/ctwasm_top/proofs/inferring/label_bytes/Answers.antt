use Rattle.std.proofs.Common.{ap}
use Rattle.std.proofs.lemmas.Result.{err_from_is_err_and}
use Rattle.ctw_ops.specs.declared.numeric.Profile.{Profile}
use Rattle.ctw_ops.specs.Tree.{under}
use Rattle.ctw_module.specs.Trees.{tree, view_module}
use Rattle.ctwasm_top.proofs.Labelling.{bytes_not_text, bytes_not_valid, bytes_labelled}
use Rattle.ctwasm_top.proofs.inferring.label_bytes.Goals as goal

pub returns-in_err-text-clause-told : goal.returns-in_err-text-clause-told
returns-in_err-text-clause-told c =
    let p = err_from_is_err_and c.from_residual.result c.from_residual.ensures.1 in
    rw (p.1, p.2) (bytes_not_text c.args.profile c.args.file.now c.args.marks_file.now c.args.bytes.now c.args.marks.now c.in_err-text.field-0.0 c.in_err-text.ensures.told)

pub returns-in_err-module-clause-told : goal.returns-in_err-module-clause-told
returns-in_err-module-clause-told c =
    let p = err_from_is_err_and c.from_residual-in_err-module.result c.from_residual-in_err-module.ensures.1 in
    rw (p.1, p.2) (bytes_not_valid c.args.profile c.args.file.now c.args.marks_file.now c.args.bytes.now c.args.marks.now c.in_err-module.field-0.0 c.in_ok-text.text.now c.in_ok-text.ensures.told c.in_err-module.ensures.told)

pub returns-clause-told : goal.returns-clause-told
returns-clause-told c =
    let m = c.in_ok-module.module in
    bytes_labelled c.args.profile c.args.file.now c.args.marks_file.now c.args.bytes.now c.args.marks.now c.label_module.result c.in_ok-text.text.now (tree m) (view_module m) c.in_ok-text.ensures.told c.in_ok-text.ensures.same c.in_ok-module.ensures.told
    c.in_ok-module.ensures.spelled (ap (λ (p : Profile). under p (tree m)) c.in_ok-module.ensures.profile) c.label_module.ensures.told
