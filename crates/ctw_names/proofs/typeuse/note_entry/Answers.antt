use Rattle.std.proofs.Common.{ap, sym, ◌∙◌}
use Rattle.std.specs.Prelude.{Option}
use Rattle.ctw_text.specs.declared.fields.NamedEntry.{NamedEntry}
use Rattle.ctw_text.specs.Names.{entry_faults}
use Rattle.ctw_names.specs.Noted.{noted}
use Rattle.ctw_names.specs.Spaces.{space_in}
use Rattle.ctw_names.proofs.UseLaws.{agreed, differs, unknown_faults}
use Rattle.ctw_names.proofs.typeuse.note_entry.Goals as goal

pub returns-in_default-known : goal.returns-in_default-known
returns-in_default-known c =
    let S = space_in c.args.space.now in
    let u = c.args.u.now in
    c.note.ensures ∙ ap (noted c.args.faults.now) (unknown_faults S c.in-Some.named u (sym c.known.ensures ∙ c.in_default-known.is))
    ∙ ap (λ (e : Option NamedEntry). noted c.args.faults.now (entry_faults S e u)) (sym c.in-Some.is)

pub returns-then-branch : goal.returns-then-branch
returns-then-branch c =
    let S = space_in c.args.space.now in
    let u = c.args.u.now in
    agreed S c.in-Some.named u c.in-Some-known.n c.args.faults.now (sym c.known.ensures ∙ c.in-Some-known.is) (sym c.in_ok-is_in_accord.ensures ∙ c.if-branch.true)
    ∙ ap (λ (e : Option NamedEntry). noted c.args.faults.now (entry_faults S e u)) (sym c.in-Some.is)

pub returns : goal.returns
returns c =
    let S = space_in c.args.space.now in
    let u = c.args.u.now in
    c.note-2.ensures
    ∙ differs S c.in-Some.named u c.in-Some-known.n c.args.faults.now (sym c.known.ensures ∙ c.in-Some-known.is) (sym c.in_ok-is_in_accord.ensures ∙ c.if-branch.false)
    ∙ ap (λ (e : Option NamedEntry). noted c.args.faults.now (entry_faults S e u)) (sym c.in-Some.is)
