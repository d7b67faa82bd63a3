use Rattle.std.proofs.Common.{◌∙◌, ap, sym, arith}
use Rattle.ctw_module.specs.Trees.{view_module}
use Rattle.ctw_script.proofs.Facts.{if_ok, if_err}
use Rattle.ctw_marks.specs.Taken.{trusts_in}
use Rattle.ctw_marks.proofs.EntryLaws.{entries_few}
use Rattle.ctw_marks.proofs.TakenLaws.{entries_read, entries_fault, reading_releases}
use Rattle.ctw_marks.proofs.read.read_marks.Goals as goal

pub read_entries-requires-clause-few : goal.read_entries-requires-clause-few
read_entries-requires-clause-few c =
    let f = entries_few c.deref-2.result.now c.in-Ok.list (c.deref-2.ensures.value ∙ c.in_ok-lines.ensures) in
    omega (arith, f, c.count.ensures, c.count.type_inv)

pub returns-clause-reading : goal.returns-clause-reading
returns-clause-reading c =
    if_ok _ _ c.read_entries.result
    (λ marks h. entries_read (view_module c.args.m.now) c.args.text.now c.in-Ok.list c.deref-2.result.now c.in_ok-points.points c.in-Ok.ensures.tokens (c.deref-2.ensures.value ∙ c.in_ok-lines.ensures) (λ g. c.in_ok-points.ensures.trusted g ∙ ap (λ z. trusts_in (view_module c.args.m.now) z g) (c.deref.ensures.value ∙ sym c.deref-2.ensures.value)) marks c.in_ok-points.ensures.releases h)
    c.read_entries.ensures.taken

pub returns-clause-releases : goal.returns-clause-releases
returns-clause-releases c =
    if_ok _ _ c.read_entries.result
    (λ marks h. reading_releases (view_module c.args.m.now) c.args.text.now marks (entries_read (view_module c.args.m.now) c.args.text.now c.in-Ok.list c.deref-2.result.now c.in_ok-points.points c.in-Ok.ensures.tokens (c.deref-2.ensures.value ∙ c.in_ok-lines.ensures) (λ g. c.in_ok-points.ensures.trusted g ∙ ap (λ z. trusts_in (view_module c.args.m.now) z g) (c.deref.ensures.value ∙ sym c.deref-2.ensures.value)) marks c.in_ok-points.ensures.releases h).reading)
    c.read_entries.ensures.taken

pub returns-clause-fault : goal.returns-clause-fault
returns-clause-fault c =
    if_err _ _ c.read_entries.result
    (λ why s. entries_fault (view_module c.args.m.now) c.args.text.now c.in-Ok.list c.deref-2.result.now c.in_ok-points.points c.in-Ok.ensures.tokens (c.deref-2.ensures.value ∙ c.in_ok-lines.ensures) (λ g. c.in_ok-points.ensures.trusted g ∙ ap (λ z. trusts_in (view_module c.args.m.now) z g) (c.deref.ensures.value ∙ sym c.deref-2.ensures.value)) why s)
    c.read_entries.ensures.fault
