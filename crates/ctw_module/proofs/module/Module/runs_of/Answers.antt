use Rattle.std.proofs.Common.{◌≡◌, ◌-◌, ◌<◌, List, ℕ, length, take, drop, get_or, ap, ◌∙◌, arith}
use Rattle.ctw_form.specs.declared.slots.LocalRun.{LocalRun}
use Rattle.ctw_form.specs.Slots.{runs_of}
use Rattle.ctw_module.specs.Trees.{tree, parts}
use Rattle.ctw_module.proofs.Functions.{view_at, named_low, named_high, defined}
use Rattle.ctw_form.proofs.Parts.{runs_in}
use Rattle.ctw_module.proofs.Readers.{runs_at, runs_are}
use Rattle.ctw_module.proofs.module.Module.runs_of.Goals as goal

pub runs_before-start-requires : goal.runs_before-start-requires
runs_before-start-requires c =
    let h = view_at c.self.inside c.args.self.now c.self.invariant c.self.view_is in
    let low = named_low (tree c.args.self.now) c.args.f c.requires.0 c.requires.1 in
    let d = defined c.args.self.now c.args.f h.spelled low (named_high c.args.self.now c.args.f c.requires.0 h.spelled c.requires.1) in
    omega (arith, d.some, h.imported)

pub runs_before-end-requires : goal.runs_before-end-requires
runs_before-end-requires c =
    let h = view_at c.self.inside c.args.self.now c.self.invariant c.self.view_is in
    let low = named_low (tree c.args.self.now) c.args.f c.requires.0 c.requires.1 in
    let d = defined c.args.self.now c.args.f h.spelled low (named_high c.args.self.now c.args.f c.requires.0 h.spelled c.requires.1) in
    omega (arith, d.some, h.imported)

pub part-requires-clause-from : goal.part-requires-clause-from
part-requires-clause-from c =
    let h = view_at c.self.inside c.args.self.now c.self.invariant c.self.view_is in
    let low = named_low (tree c.args.self.now) c.args.f c.requires.0 c.requires.1 in
    let d = defined c.args.self.now c.args.f h.spelled low (named_high c.args.self.now c.args.f c.requires.0 h.spelled c.requires.1) in
    let lt : c.args.f - c.self.inside.imported < length (parts c.args.self.now).entries = omega (arith, d.some, h.imported) in
    (runs_at (parts c.args.self.now).entries (c.args.f - c.self.inside.imported) c.runs_before-start.result c.runs_before-end.result d.entry lt c.runs_before-start.ensures c.runs_before-end.ensures).below

pub part-requires-clause-to : goal.part-requires-clause-to
part-requires-clause-to c =
    let h = view_at c.self.inside c.args.self.now c.self.invariant c.self.view_is in
    let low = named_low (tree c.args.self.now) c.args.f c.requires.0 c.requires.1 in
    let d = defined c.args.self.now c.args.f h.spelled low (named_high c.args.self.now c.args.f c.requires.0 h.spelled c.requires.1) in
    let lt : c.args.f - c.self.inside.imported < length (parts c.args.self.now).entries = omega (arith, d.some, h.imported) in
    let r = runs_at (parts c.args.self.now).entries (c.args.f - c.self.inside.imported) c.runs_before-start.result c.runs_before-end.result d.entry lt c.runs_before-start.ensures c.runs_before-end.ensures in
    omega (arith, r.within, ap length (c.deref.ensures.value ∙ h.runs))

pub returns : goal.returns
returns c =
    let h = view_at c.self.inside c.args.self.now c.self.invariant c.self.view_is in
    let low = named_low (tree c.args.self.now) c.args.f c.requires.0 c.requires.1 in
    let d = defined c.args.self.now c.args.f h.spelled low (named_high c.args.self.now c.args.f c.requires.0 h.spelled c.requires.1) in
    let lt : c.args.f - c.self.inside.imported < length (parts c.args.self.now).entries = omega (arith, d.some, h.imported) in
    let r = runs_at (parts c.args.self.now).entries (c.args.f - c.self.inside.imported) c.runs_before-start.result c.runs_before-end.result d.entry lt c.runs_before-start.ensures c.runs_before-end.ensures in
    let all : c.deref.result.now ≡ runs_of (parts c.args.self.now).entries = c.deref.ensures.value ∙ h.runs in
    runs_are c.args.self.now c.args.f d c.part.result.now
    (c.part.ensures ∙ ap (λ (l : List LocalRun). take (c.runs_before-end.result - c.runs_before-start.result) (drop c.runs_before-start.result l)) all ∙ r.are
    ∙ ap runs_in (ap (λ (n : ℕ). get_or (parts c.args.self.now).entries (c.args.f - n) d.entry) h.imported ∙ d.stands d.entry))
