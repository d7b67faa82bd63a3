use Rattle.std.proofs.lemmas.Result.{err_from_is_err_and}
use Rattle.std.proofs.Common.{◌∙◌, ℕ, List, subst}
use Rattle.std.specs.FinMap.{get}
use Rattle.ctw_inputs.specs.Inputs.{load}
use Rattle.ctwasm_top.specs.Texts.{IsReadBack, text_limit, text_answer}
use Rattle.ctwasm_top.proofs.ReadBack.{WhereDone, loaded_are, stopped_back}
use Rattle.ctwasm_top.proofs.Settled.{goes_on}
use Rattle.ctwasm_top.proofs.texts.assemble_file.Goals as goal

pub returns-clause-told : goal.returns-clause-told
unfolding text_limit
returns-clause-told g c = λ files told.
    goes_on (load files c.args.file.now text_limit) (text_answer c.args.file.now) c.in_ok-bytes.bytes.items c.deref.result.now c.assembled.result (c.in_ok-bytes.ensures.told files told) c.deref.ensures.value c.assembled.ensures.told

pub returns-in_err-bytes-clause-back : goal.returns-in_err-bytes-clause-back
unfolding text_limit
returns-in_err-bytes-clause-back g c = λ files text told there.
    let p = err_from_is_err_and c.from_residual.result c.from_residual.ensures.1 in
    rw (p.1, p.2) (stopped_back c.args.file.now text_limit (get files c.args.file.now) text there c.in_err-bytes.field-0.0 (IsReadBack text) (c.in_err-bytes.ensures.told files told))

pub returns-clause-back : goal.returns-clause-back
unfolding text_limit
returns-clause-back g c = λ files text told there.
    let same = loaded_are c.args.file.now text_limit (get files c.args.file.now) text there c.in_ok-bytes.bytes.items (c.in_ok-bytes.ensures.told files told) in
    subst (λ (b : List ℕ). WhereDone c.assembled.result (IsReadBack b)) (c.deref.ensures.value ∙ same) c.assembled.ensures.back

pub returns-clause-cause : goal.returns-clause-cause
returns-clause-cause g c = record { kept = c.load_file.ensures.cause.kept; failed = λ e. absurd (c.assembled.ensures.quiet e) }
