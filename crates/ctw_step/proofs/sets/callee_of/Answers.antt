use Rattle.std.proofs.Common.{◌≡◌, ◌<◌, ◌≤◌, List, length, Some, get_or, sym, ap, ◌∙◌, subst}
use Rattle.std.proofs.lemmas.Option.{slice_get_within, get_or_from_slice_get}
use Rattle.ctw_link.specs.declared.set.Part.{Part}
use Rattle.ctw_ops.specs.Tree.{Function, function_entries, type_named}
use Rattle.ctw_ops.specs.declared.types.Label.{Label}
use Rattle.ctw_module.specs.Trees.{tree}
use Rattle.ctw_module.specs.Lookup.{imported_count, function_named}
use Rattle.ctw_link.specs.Linked.{code_at, IsValidPart}
use Rattle.ctw_ops.proofs.Lists.{all_get}
use Rattle.ctw_step.specs.Calls.{Knows}
use Rattle.ctw_link.proofs.Owners.{owner_defines}
use Rattle.ctw_step.proofs.Homes.{home, callee_is}
use Rattle.ctw_step.proofs.sets.callee_of.Goals as goal

pub bounds-parts-part : goal.bounds-parts-part
bounds-parts-part c =
    let o = owner_defines c.args.set.now c.args.func c.owner-part.result.0 c.owner-part.result.1 c.owner-part.ensures.owner in
    subst (λ (l : List Part). c.owner-part.result.0 < length l) (sym c.parts.ensures.value) (slice_get_within c.args.set.now c.owner-part.result.0 o.part o.is)

pub callee_in-requires-clause-valid : goal.callee_in-requires-clause-valid
callee_in-requires-clause-valid c =
    let o = owner_defines c.args.set.now c.args.func c.owner-part.result.0 c.owner-part.result.1 c.owner-part.ensures.owner in
    let x = get_or_from_slice_get c.args.set.now c.owner-part.result.0 o.part c.index-parts-part.result o.is in
    let same : get_or c.parts.result.now c.owner-part.result.0 c.index-parts-part.result ≡ o.part = ap (λ (l : List Part). get_or l c.owner-part.result.0 c.index-parts-part.result) c.parts.ensures.value ∙ x in
    subst IsValidPart (sym same) (all_get IsValidPart c.args.set.now c.owner-part.result.0 o.part c.parts.ensures.linked.valid o.is)

pub callee_in-requires-clause-low : goal.callee_in-requires-clause-low
callee_in-requires-clause-low c =
    let o = owner_defines c.args.set.now c.args.func c.owner-part.result.0 c.owner-part.result.1 c.owner-part.ensures.owner in
    let x = get_or_from_slice_get c.args.set.now c.owner-part.result.0 o.part c.index-parts-part.result o.is in
    let same : get_or c.parts.result.now c.owner-part.result.0 c.index-parts-part.result ≡ o.part = ap (λ (l : List Part). get_or l c.owner-part.result.0 c.index-parts-part.result) c.parts.ensures.value ∙ x in
    subst (λ (p : Part). imported_count (tree p.«module») ≤ c.owner-part.result.1) (sym same) o.defined

pub callee_in-requires-clause-high : goal.callee_in-requires-clause-high
callee_in-requires-clause-high c =
    let o = owner_defines c.args.set.now c.args.func c.owner-part.result.0 c.owner-part.result.1 c.owner-part.ensures.owner in
    let x = get_or_from_slice_get c.args.set.now c.owner-part.result.0 o.part c.index-parts-part.result o.is in
    let same : get_or c.parts.result.now c.owner-part.result.0 c.index-parts-part.result ≡ o.part = ap (λ (l : List Part). get_or l c.owner-part.result.0 c.index-parts-part.result) c.parts.ensures.value ∙ x in
    subst (λ (p : Part). c.owner-part.result.1 < length (function_entries (tree p.«module»))) (sym same) o.there

pub returns-clause-known : goal.returns-clause-known
returns-clause-known c = λ fn ef.
    let h = home c.args.set.now c.args.func c.owner-part.result.0 c.owner-part.result.1 fn c.owner-part.ensures.owner ef in
    let x = get_or_from_slice_get c.args.set.now c.owner-part.result.0 h.p c.index-parts-part.result h.is in
    let same : get_or c.parts.result.now c.owner-part.result.0 c.index-parts-part.result ≡ h.p = ap (λ (l : List Part). get_or l c.owner-part.result.0 c.index-parts-part.result) c.parts.ensures.value ∙ x in
    callee_is c.args.set.now c.args.func c.owner-part.result.0 c.owner-part.result.1 fn h c.callee_in.result c.callee_in.ensures.number ef
    (subst (λ (p : Part). (f : Function Label) → function_named (tree p.«module») c.owner-part.result.1 ≡ Some f → Knows (code_at p.«module» c.owner-part.result.1) (type_named (tree p.«module») f.type) f c.callee_in.result) same c.callee_in.ensures.known)
