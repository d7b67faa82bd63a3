use Rattle.std.proofs.Common.{◌≡◌, ◌∙◌, ap, subst, codes}
use Rattle.ctw_ops.specs.Tree.{Module, under}
use Rattle.ctw_ops.specs.declared.types.Label.{Label}
use Rattle.ctw_module.specs.Trees.{tree, view_module}
use Rattle.ctw_form.specs.Read.{module_at}
use Rattle.ctw_form.proofs.FileForms.{module_complete}
use Rattle.ctw_modcheck.proofs.Validity.{valid_is_none}
use Rattle.ctwasm_top.specs.WorkSteps.{PlacesWork, SaysOtherWork}
use Rattle.ctwasm_top.proofs.Profiles.{under_ok, module_read_valid}
use Rattle.ctwasm_top.proofs.Labelling.{ok_same, on_stops, stops_or_goes}
use Rattle.ctwasm_top.proofs.working.place_work.Goals as goal

pub returns-in-Ok-clause-told : goal.returns-in-Ok-clause-told
returns-in-Ok-clause-told c = λ m spelled plain valid.
    let bytes = c.args.bytes.now in
    let same : tree c.in-Ok.module ≡ m = ok_same (tree c.in-Ok.module) m (module_at bytes) (module_complete bytes (tree c.in-Ok.module) c.in-Ok.ensures.spelled) (module_complete bytes m spelled) in
    let own : view_module c.in-Ok.module ≡ under c.args.profile m = ap (λ p. under p (tree c.in-Ok.module)) c.in-Ok.ensures.profile ∙ ap (under c.args.profile) same in
    subst (λ (x : Module Label). PlacesWork x c.args.text.now c.place_module.result) own (c.place_module.ensures.told (ap (λ (x : Module Label). x.ct) own ∙ plain))

pub returns-in-Err-clause-told : goal.returns-in-Err-clause-told
returns-in-Err-clause-told c = λ m spelled plain valid.
    let bytes = c.args.bytes.now in
    let profile = c.args.profile in
    on_stops (SaysOtherWork (under profile m) c.args.text.now) c.in-Err.stop _ (λ said s. absurd (stops_or_goes _ (under profile m) said (λ go. module_read_valid profile (codes "m") bytes (under profile m) go (under_ok profile bytes m (module_complete bytes m spelled)) (valid_is_none (under profile m) valid)) s)) c.in-Err.ensures.told
