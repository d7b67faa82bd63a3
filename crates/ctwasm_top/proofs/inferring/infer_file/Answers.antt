use Rattle.std.proofs.lemmas.Result.{err_from_is_err_and}
use Rattle.std.proofs.Common.{◌∙◌, ℕ, List, subst}
use Rattle.ctw_inputs.specs.Inputs.{module_limit, marks_limit}
use Rattle.ctwasm_top.specs.Findings.{OnSaid, SaysBytes}
use Rattle.ctwasm_top.proofs.Labelling.{files_no_module, files_no_marks, files_labelled}
use Rattle.ctwasm_top.proofs.inferring.infer_file.Goals as goal

pub returns-in_err-bytes-clause-told : goal.returns-in_err-bytes-clause-told
unfolding module_limit
returns-in_err-bytes-clause-told g c = λ files told.
    let p = err_from_is_err_and c.from_residual.result c.from_residual.ensures.1 in
    rw (p.1, p.2) (files_no_module files c.args.profile c.args.file.now c.args.marks_file.now c.in_err-bytes.field-0.0 (c.in_err-bytes.ensures.told files told))

pub returns-in_err-marks-clause-told : goal.returns-in_err-marks-clause-told
unfolding module_limit marks_limit
returns-in_err-marks-clause-told g c = λ files told.
    let p = err_from_is_err_and c.from_residual-in_err-marks.result c.from_residual-in_err-marks.ensures.1 in
    rw (p.1, p.2)
    (files_no_marks files c.args.profile c.args.file.now c.args.marks_file.now c.in_err-marks.field-0.0 c.in_ok-bytes.bytes.items (c.in_ok-bytes.ensures.told files told) (c.in_err-marks.ensures.told files (c.in_ok-bytes.ensures.unchanged ∙ told)))

pub returns-clause-told : goal.returns-clause-told
unfolding module_limit marks_limit
returns-clause-told g c = λ files told.
    files_labelled files c.args.profile c.args.file.now c.args.marks_file.now c.label_bytes.result c.in_ok-bytes.bytes.items c.in_ok-marks.marks.items (c.in_ok-bytes.ensures.told files told) (c.in_ok-marks.ensures.told files (c.in_ok-bytes.ensures.unchanged ∙ told))
    (subst (λ (b : List ℕ). OnSaid c.label_bytes.result (SaysBytes c.args.profile c.args.file.now c.args.marks_file.now b c.in_ok-marks.marks.items)) c.deref.ensures.value
    (subst (λ (b : List ℕ). OnSaid c.label_bytes.result (SaysBytes c.args.profile c.args.file.now c.args.marks_file.now c.deref.result.now b)) c.deref-2.ensures.value c.label_bytes.ensures.told))
