use Rattle.std.proofs.Common.{◌≡◌, ◌≤◌, ◌∙◌, ℕ, List, length, Err, refl, sym, ap, subst, arith}
use Rattle.ctw_ops.specs.Limits.{most_plain_bytes}
use Rattle.ctw_ops.specs.Tree.{under}
use Rattle.ctw_form.specs.Spelled.{Spells}
use Rattle.ctw_write.specs.Canon.{canon}
use Rattle.ctw_write.proofs.KeptModules.{module_limited}
use Rattle.ctw_gen.specs.Workload.{workload_module, vault}
use Rattle.ctw_gen.proofs.Kept.{module_spelled}
use Rattle.ctw_gen.proofs.Typed.{module_valid}
use Rattle.ctw_workloads.specs.Placed.{workload_under}
use Rattle.ctw_workloads.proofs.UnderProfiles.{valid_under}
use Rattle.ctwasm_top.specs.Findings.{OnSaid}
use Rattle.ctwasm_top.specs.Works.{worked}
use Rattle.ctwasm_top.specs.WorkSteps.{IsPlacedWork, SaysOtherWork, TellsLine}
use Rattle.ctwasm_top.proofs.WorkFacts.{placed_plain, placed_spelled, placed_valid, placed_matches, placed_answers, other_answers}
use Rattle.ctwasm_top.proofs.working.work_text.Goals as goal

pub place_work-requires-clause-bytes : goal.place_work-requires-clause-bytes
unfolding most_plain_bytes
place_work-requires-clause-bytes c =
    let own = workload_module c.args.seed c.args.size in
    let few : length (canon own) ≤ most_plain_bytes = (module_limited (canon own) own (module_spelled c.args.seed c.args.size c.requires.size)).plain_bytes refl in
    omega (arith, few, ap length (c.as_slice.ensures ∙ c.in_ok-module.ensures.module))

pub returns-in-Err-clause-told : goal.returns-in-Err-clause-told
returns-in-Err-clause-told c =
    let own = workload_module c.args.seed c.args.size in
    let spelled = subst (λ (b : List ℕ). Spells b own) (sym c.as_slice.ensures) c.in_ok-module.ensures.spelled in
    let told = c.in-Err.ensures.told own spelled refl (valid_under c.args.profile own refl (module_valid c.args.seed c.args.size c.requires.size)) in
    other_answers c.args.profile c.args.seed c.args.size c.in-Err.stop
    (subst (λ (text : List ℕ). OnSaid (Err c.in-Err.stop) (SaysOtherWork (workload_under c.args.profile c.args.seed c.args.size) text)) (c.as_str.ensures ∙ c.in_ok-module.ensures.marks) told)

pub returns-clause-told : goal.returns-clause-told
returns-clause-told c =
    let seed = c.args.seed in
    let size = c.args.size in
    let profile = c.args.profile in
    let own = workload_module seed size in
    let spelled = subst (λ (b : List ℕ). Spells b own) (sym c.as_slice.ensures) c.in_ok-module.ensures.spelled in
    let told = c.in-Ok.ensures.told own spelled refl (valid_under profile own refl (module_valid seed size c.requires.size)) in
    let is = subst (λ (text : List ℕ). IsPlacedWork (workload_under profile seed size) text c.in-Ok.placed) (c.as_str.ensures ∙ c.in_ok-module.ensures.marks) told in
    let vaults : c.in_ok-vault.vault.items ≡ vault seed size = c.in_ok-vault.ensures.items ∙ c.as_slice-2.ensures ∙ c.in_ok-module.ensures.vault in
    let line = c.run_work.ensures.told is.labels (placed_plain profile seed size c.requires.size is.marks is.labels) (placed_spelled profile seed size c.requires.size is.marks is.labels is.found c.in-Ok.placed.bytes.items is.bytes)
    (placed_valid profile seed size c.requires.size is.marks is.labels is.found) (placed_matches profile seed size c.requires.size is.marks is.labels is.found) is.sites is.secret in
    placed_answers profile seed size c.requires.size is.marks is.labels is.found c.run_work.result
    (subst (λ (v : List ℕ). TellsLine c.run_work.result (worked v is.labels (under profile (placed_plain profile seed size c.requires.size is.marks is.labels)))) vaults line)
