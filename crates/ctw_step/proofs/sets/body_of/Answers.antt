use Rattle.std.proofs.Common.{◌≡◌, ◌<◌, List, length, get_or, refl, sym, ap, ◌∙◌, subst, arith}
use Rattle.std.proofs.lemmas.Option.{slice_get_within, get_or_from_slice_get}
use Rattle.ctw_link.specs.declared.set.Part.{Part}
use Rattle.ctw_ops.specs.Tree.{function_entries}
use Rattle.ctw_module.specs.Trees.{tree}
use Rattle.ctw_module.specs.Lookup.{imported_count}
use Rattle.ctw_link.specs.Linked.{code_at, code_of_owner, code_of_part}
use Rattle.ctw_link.proofs.Owners.{owner_defines}
use Rattle.ctw_step.proofs.sets.body_of.Goals as goal

pub bounds-parts-part : goal.bounds-parts-part
bounds-parts-part c =
    let o = owner_defines c.args.set.now c.args.func c.owner-part.result.0 c.owner-part.result.1 c.owner-part.ensures.owner in
    subst (λ (l : List Part). c.owner-part.result.0 < length l) (sym c.parts.ensures.value) (slice_get_within c.args.set.now c.owner-part.result.0 o.part o.is)

pub body-requires : goal.body-requires
body-requires c =
    let o = owner_defines c.args.set.now c.args.func c.owner-part.result.0 c.owner-part.result.1 c.owner-part.ensures.owner in
    let e = get_or_from_slice_get c.args.set.now c.owner-part.result.0 o.part c.index-parts-part.result o.is in
    let same : get_or c.parts.result.now c.owner-part.result.0 c.index-parts-part.result ≡ o.part = ap (λ (l : List Part). get_or l c.owner-part.result.0 c.index-parts-part.result) c.parts.ensures.value ∙ e in
    subst (λ (p : Part). c.owner-part.result.1 < length (function_entries (tree p.«module»))) (sym same) o.there

pub unreachable-requires : goal.unreachable-requires
unreachable-requires c =
    let o = owner_defines c.args.set.now c.args.func c.owner-part.result.0 c.owner-part.result.1 c.owner-part.ensures.owner in
    let e = get_or_from_slice_get c.args.set.now c.owner-part.result.0 o.part c.index-parts-part.result o.is in
    let same : get_or c.parts.result.now c.owner-part.result.0 c.index-parts-part.result ≡ o.part = ap (λ (l : List Part). get_or l c.owner-part.result.0 c.index-parts-part.result) c.parts.ensures.value ∙ e in
    let x : c.owner-part.result.1 < imported_count (tree o.part.«module») = subst (λ (p : Part). c.owner-part.result.1 < imported_count (tree p.«module»)) same (c.in_default.ensures.imported.0 refl) in
    let d = o.defined in
    omega arith

pub returns : goal.returns
returns c =
    let o = owner_defines c.args.set.now c.args.func c.owner-part.result.0 c.owner-part.result.1 c.owner-part.ensures.owner in
    let e = get_or_from_slice_get c.args.set.now c.owner-part.result.0 o.part c.index-parts-part.result o.is in
    let same : get_or c.parts.result.now c.owner-part.result.0 c.index-parts-part.result ≡ o.part = ap (λ (l : List Part). get_or l c.owner-part.result.0 c.index-parts-part.result) c.parts.ensures.value ∙ e in
    c.in-Some.ensures.bytes ∙ ap (λ (p : Part). code_at p.«module» c.owner-part.result.1) same
    ∙ sym (ap (code_of_owner c.args.set.now) c.owner-part.ensures.owner ∙ ap (code_of_part c.owner-part.result.1) o.is)
