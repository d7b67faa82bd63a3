use Rattle.std.proofs.Common.{length, ap, subst, arith}
use Rattle.ctw_leb.specs.Input.{Input}
use Rattle.ctw_module.specs.Gathers.{IsMemory}
use Rattle.ctw_form.proofs.SectionForms.{section_shorter}
use Rattle.ctw_module.proofs.Filling.{going_start, going_next, going_step, going_end}
use Rattle.ctw_module.proofs.gather.gather.Goals as goal

pub sections-init : goal.sections-init
sections-init c = going_start c.args.ct c.args.cursor.now c.new-found.result c.requires c.new-found.ensures

pub sections-smaller : goal.sections-smaller
sections-smaller c =
    let h = c.sections.invariant in
    let n = going_next c.args.ct c.args.cursor.now c.sections.cursor c.sections.found (omega (arith, c.left.ensures.count, c.sections-test.true)) h in
    let t = c.in-Ok.ensures h.seen n.section n.behind h.brought n.read h.gathers in
    omega (arith, section_shorter c.args.ct h.seen c.sections.cursor n.behind n.section n.read, ap (λ (i : Input). length i.rest) t.0)

pub sections-preserved : goal.sections-preserved
sections-preserved c =
    let h = c.sections.invariant in
    let n = going_next c.args.ct c.args.cursor.now c.sections.cursor c.sections.found (omega (arith, c.left.ensures.count, c.sections-test.true)) h in
    going_step c.args.ct c.args.cursor.now c.sections.cursor c.section.new.cursor c.sections.found c.section.new.found h n (c.in-Ok.ensures h.seen n.section n.behind h.brought n.read h.gathers)

pub unreachable-requires : goal.unreachable-requires
unreachable-requires c =
    let h = c.sections.invariant in
    let n = going_next c.args.ct c.args.cursor.now c.sections.cursor c.sections.found (omega (arith, c.left.ensures.count, c.sections-test.true)) h in
    subst IsMemory c.in-Err-Bad.field-0-is (c.in-Err-Bad.ensures h.seen n.section n.behind h.brought n.read h.gathers)

pub returns : goal.returns
returns c = going_end c.args.ct c.args.cursor.now c.sections.cursor c.sections.found (omega (arith, c.left.ensures.count, c.sections-test.false)) c.sections.invariant
