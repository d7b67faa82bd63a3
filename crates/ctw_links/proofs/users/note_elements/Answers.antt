use Rattle.std.proofs.Common.{refl, sym, ◌∙◌, arith}
use Rattle.ctw_module.specs.Trees.{view_module}
use Rattle.ctw_labels.specs.ModuleLinks.{entry_users, element_users}
use Rattle.ctw_labels.specs.SitedModule.{sited_functions}
use Rattle.ctw_links.proofs.Lists.{one_told, all_told}
use Rattle.ctw_links.proofs.UserNotes.{none_there}
use Rattle.ctw_links.proofs.users.note_elements.Goals as goal

pub returns-in-None : goal.returns-in-None
returns-in-None c = absurd (none_there (view_module c.args.m.now).elements c.elements.i (omega (arith, c.elements-test.true, c.element_count-i-end.ensures)) (sym c.in-None.is ∙ c.element.ensures))

pub elements-preserved : goal.elements-preserved
elements-preserved c =
    let F = sited_functions (view_module c.args.m.now) in
    one_told (λ e. entry_users F e.functions) (element_users F) (λ x xs. refl) (view_module c.args.m.now).elements c.elements.i c.in-Some.element _ _ _ (sym c.in-Some.ensures) c.in_ok-note_entries.ensures c.elements.invariant

pub returns : goal.returns
returns c =
    let F = sited_functions (view_module c.args.m.now) in
    all_told (λ e. entry_users F e.functions) (element_users F) (λ x xs. refl) refl (view_module c.args.m.now).elements c.elements.i _ _ (omega (arith, c.elements-test.false, c.element_count-i-end.ensures)) c.elements.invariant
