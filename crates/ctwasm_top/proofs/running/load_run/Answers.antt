use Rattle.std.proofs.Common.{◌≡◌, ◌≤◌, Some, length, map, option_map, sym, ap, ◌∙◌, subst}
use Rattle.std.proofs.lemmas.Result.{err_from_is_err_and}
use Rattle.std.specs.FinMap.{get}
use Rattle.ctw_inputs.specs.Inputs.{script_limit, vault_limit}
use Rattle.ctw_inputs.specs.Parts.{part_named, contents}
use Rattle.ctw_words.specs.SessionWords.{RunWords}
use Rattle.ctwasm_top.specs.Sessions.{ArePartsOf}
use Rattle.ctwasm_top.proofs.Ending.{run_stops_script, run_stops_vault, run_stops_parts, run_goes, are_parts, found_within}
use Rattle.ctwasm_top.proofs.running.load_run.Goals as goal

pub returns-in_err-script-clause-told : goal.returns-in_err-script-clause-told
unfolding script_limit vault_limit
returns-in_err-script-clause-told g c = λ files told.
    let p = err_from_is_err_and c.from_residual-in_err-script.result c.from_residual-in_err-script.ensures.1 in
    rw (p.1, p.2) (run_stops_script files _ c.args.words.now c.words.view_is (sym c.same_file.ensures ∙ ap (option_map _) c.in_default.is) c.in_err-script.field-0.0 (c.in_err-script.ensures.told files told))

pub returns-in_err-vault-clause-told : goal.returns-in_err-vault-clause-told
unfolding script_limit vault_limit
returns-in_err-vault-clause-told g c = λ files told.
    let p = err_from_is_err_and c.from_residual-in_err-vault.result c.from_residual-in_err-vault.ensures.1 in
    rw (p.1, p.2)
    (run_stops_vault files _ c.args.words.now c.words.view_is (sym c.same_file.ensures ∙ ap (option_map _) c.in_default.is) c.in_ok-script.script.items (c.in_ok-script.ensures.told files told) c.in_err-vault.field-0.0
    (c.in_err-vault.ensures.told files (c.load_file.ensures.unchanged ∙ told)))

pub returns-in_err-parts-2-clause-told : goal.returns-in_err-parts-2-clause-told
unfolding script_limit vault_limit
returns-in_err-parts-2-clause-told g c = λ files told.
    let p = err_from_is_err_and c.from_residual-in_err-parts-2.result c.from_residual-in_err-parts-2.ensures.1 in
    rw (p.1, p.2)
    (run_stops_parts files _ c.args.words.now c.words.view_is (sym c.same_file.ensures ∙ ap (option_map _) c.in_default.is) c.in_ok-script.script.items (c.in_ok-script.ensures.told files told) c.in_ok-vault.vault.items
    (c.in_ok-vault.ensures.told files (c.load_file.ensures.unchanged ∙ told)) (map part_named c.deref.result.now) (ap (map part_named) c.deref.ensures.value ∙ c.in_ok-parts.ensures.named) c.in_err-parts-2.field-0.0
    (c.in_err-parts-2.ensures.told files (c.load_file-2.ensures.unchanged ∙ c.load_file.ensures.unchanged ∙ told)))

pub returns-clause-told : goal.returns-clause-told
unfolding script_limit vault_limit
returns-clause-told g c = λ files told.
    run_goes files _ c.args.words.now c.words.view_is (sym c.same_file.ensures ∙ ap (option_map _) c.in_default.is) c.in_ok-script.script.items (c.in_ok-script.ensures.told files told) c.in_ok-vault.vault.items
    (c.in_ok-vault.ensures.told files (c.load_file.ensures.unchanged ∙ told)) (map part_named c.deref.result.now) (ap (map part_named) c.deref.ensures.value ∙ c.in_ok-parts.ensures.named) (contents c.in_ok-parts-2.parts.items)
    (c.in_ok-parts-2.ensures.told files (c.load_file-2.ensures.unchanged ∙ c.load_file.ensures.unchanged ∙ told))

pub returns-clause-parts : goal.returns-clause-parts
returns-clause-parts g c =
    subst (λ (x : RunWords). ArePartsOf c.in_ok-parts-2.parts.items x.parts) c.words.view_is
    (are_parts c.in_ok-parts-2.parts.items c.deref.result.now c.words.inside.parts c.in_ok-parts-2.ensures.parts (ap (map part_named) c.deref.ensures.value ∙ c.in_ok-parts.ensures.named) c.in_ok-parts.ensures.some
    c.in_ok-parts.ensures.few c.in_ok-parts-2.ensures.within)

pub returns-clause-script : goal.returns-clause-script
unfolding script_limit
returns-clause-script g c = λ files told.
    subst (λ (x : RunWords). (get files x.script ≡ Some c.in_ok-script.script.items) × (length c.in_ok-script.script.items ≤ script_limit)) c.words.view_is
    (found_within c.words.inside.script.now script_limit (get files c.words.inside.script.now) c.in_ok-script.script.items (c.in_ok-script.ensures.told files told))

pub returns-clause-short : goal.returns-clause-short
returns-clause-short g c = c.in_ok-script.ensures.within
