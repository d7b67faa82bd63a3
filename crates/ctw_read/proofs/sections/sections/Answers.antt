use Rattle.std.proofs.Common.{arith, sym, subst}
use Rattle.std.proofs.lemmas.Result.{err_from_is_err_and}
use Rattle.ctw_form.proofs.SectionForms.{section_shorter}
use Rattle.ctw_read.specs.declared.fault.ReadFault.{ReadFault}
use Rattle.ctw_read.specs.Calls.{FailsWith}
use Rattle.ctw_read.proofs.FileLoops.{all_sections, sections_begin, sections_go, sections_fail, sections_done}
use Rattle.ctw_read.proofs.sections.sections.Goals as goal

pub sections-init : goal.sections-init
sections-init c = sections_begin c.args.ct c.args.cursor.now

pub sections-smaller : goal.sections-smaller
sections-smaller c =
    let s = c.in_ok-seen.ensures in
    section_shorter c.args.ct c.sections.seen c.sections.cursor c.section.new.cursor s.0 s.1

pub sections-preserved : goal.sections-preserved
sections-preserved c =
    let s = c.in_ok-seen.ensures in
    sections_go c.args.ct c.args.cursor.now c.sections.seen c.in_ok-seen.seen c.sections.cursor c.section.new.cursor s.0 c.sections.invariant s.1 s.2

pub returns-in_err-seen : goal.returns-in_err-seen
returns-in_err-seen c =
    let p = err_from_is_err_and c.from_residual.result c.from_residual.ensures.1 in
    let h = sections_fail c.args.ct c.args.cursor.now c.sections.seen c.sections.cursor c.in_err-seen.field-0.0 (omega (arith, c.left.ensures.count)) c.sections.invariant c.in_err-seen.ensures in
    rw p.1 (subst (λ (e : ReadFault). FailsWith e (all_sections c.args.ct c.args.cursor.now)) (sym p.2) h)

pub returns : goal.returns
returns c = sections_done c.args.ct c.args.cursor.now c.sections.seen c.sections.cursor (omega (arith, c.left.ensures.count)) c.sections.invariant
