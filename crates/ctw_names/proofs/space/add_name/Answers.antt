use Rattle.std.proofs.Common.{[], ◌∷◌, ap, sym, ◌∙◌}
use Rattle.std.specs.List.{list_any}
use Rattle.ctw_text.specs.Written.{Name}
use Rattle.ctw_text.specs.Names.{NameFault, is_named}
use Rattle.ctw_names.specs.Noted.{noted}
use Rattle.ctw_names.proofs.DoubleLaws.{new_name, stood_before}
use Rattle.ctw_names.proofs.space.add_name.Goals as goal

pub returns-then-branch-clause-faults : goal.returns-then-branch-clause-faults
returns-then-branch-clause-faults c =
    c.note.ensures ∙ ap (λ (f : NameFault). noted c.args.faults.now (f ∷ [])) c.at.ensures
    ∙ stood_before c.args.name.now c.in-Some.word c.args.table.now c.args.faults.now c.in-Some.is (ap (λ (w : Name). list_any (is_named w) c.args.table.now) (sym c.again.ensures) ∙ sym c.in_ok-add-2.ensures.stood ∙ c.if-branch.true)

pub returns-clause-faults : goal.returns-clause-faults
returns-clause-faults c =
    new_name c.args.name.now c.in-Some.word c.args.table.now c.args.faults.now c.in-Some.is (ap (λ (w : Name). list_any (is_named w) c.args.table.now) (sym c.again.ensures) ∙ sym c.in_ok-add-2.ensures.stood ∙ c.if-branch.false)
