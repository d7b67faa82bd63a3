use Rattle.std.proofs.Common.{◌≤◌, arith, [], ◌∷◌, option_map, refl, sym, ap, ◌∙◌, subst}
use Rattle.std.proofs.lemmas.Result.{err_from_is_err_and}
use Rattle.ctw_inputs.specs.Inputs.{vault_limit}
use Rattle.ctw_inputs.specs.Parts.{contents}
use Rattle.ctw_words.specs.SessionWords.{OnceWords}
use Rattle.ctwasm_top.specs.Answer.{once_part}
use Rattle.ctwasm_top.specs.Sessions.{ArePartsOf}
use Rattle.ctwasm_top.proofs.Ending.{once_stops_vault, once_goes, are_parts}
use Rattle.ctwasm_top.proofs.running.load_once.Goals as goal

pub returns-in_err-vault-clause-told : goal.returns-in_err-vault-clause-told
unfolding vault_limit
returns-in_err-vault-clause-told g c = λ files told.
    let p = err_from_is_err_and c.from_residual-in_err-vault.result c.from_residual-in_err-vault.ensures.1 in
    rw (p.1, p.2)
    (once_stops_vault files _ c.args.words.now c.words.view_is (sym c.same_file.ensures ∙ ap (option_map _) c.in_default.is) (contents c.in_ok-parts.parts.items) (c.in_ok-parts.ensures.told files told)
    c.in_err-vault.field-0.0 (c.in_err-vault.ensures.told files (c.load_parts.ensures.unchanged ∙ told)))

pub returns-clause-told : goal.returns-clause-told
unfolding vault_limit
returns-clause-told g c = λ files told.
    once_goes files _ c.args.words.now c.words.view_is (sym c.same_file.ensures ∙ ap (option_map _) c.in_default.is) (contents c.in_ok-parts.parts.items) (c.in_ok-parts.ensures.told files told) c.in_ok-vault.vault.items
    (c.in_ok-vault.ensures.told files (c.load_parts.ensures.unchanged ∙ told))

pub returns-clause-parts : goal.returns-clause-parts
returns-clause-parts g c =
    let some : 1 ≤ 1 = omega arith in
    let few : 1 ≤ 64 = omega arith in
    subst (λ (x : OnceWords). ArePartsOf c.in_ok-parts.parts.items (once_part x ∷ [])) c.words.view_is
    (are_parts c.in_ok-parts.parts.items _ (once_part (record { module_file = c.words.inside.module_file.now; vault = c.words.inside.vault.now; sealed = c.words.inside.sealed.now; export = c.words.inside.export.now; arguments = c.words.inside.arguments }) ∷ []) c.in_ok-parts.ensures.parts refl some few c.in_ok-parts.ensures.within)
