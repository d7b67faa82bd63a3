use Rattle.std.proofs.Common.{[], ◌∷◌, refl, arith}
use Rattle.std.specs.Prelude.{slice_get}
use Rattle.ctw_module.specs.Trees.{view_module}
use Rattle.ctw_labels.specs.Links.{after}
use Rattle.ctw_labels.specs.ModuleLinks.{entry_users}
use Rattle.ctw_labels.specs.SitedModule.{sited_functions}
use Rattle.ctw_links.proofs.Lists.{one_told, all_told}
use Rattle.ctw_links.proofs.users.note_entries.Goals as goal

pub entries-preserved : goal.entries-preserved
entries-preserved c =
    let F = sited_functions (view_module c.args.m.now) in
    one_told (λ k. after (slice_get F k) (λ g. g ∷ [])) (entry_users F) (λ x xs. refl) c.args.element.now.functions c.entries.i c.func.result _ _ _ c.func.ensures c.in_ok-note_entry.ensures c.entries.invariant

pub returns : goal.returns
returns c =
    let F = sited_functions (view_module c.args.m.now) in
    all_told (λ k. after (slice_get F k) (λ g. g ∷ [])) (entry_users F) (λ x xs. refl) refl c.args.element.now.functions c.entries.i _ _ (omega (arith, c.entries-test.false, c.count-i-end.ensures)) c.entries.invariant
