use Rattle.std.proofs.Common.{◌≡◌, ◌<◌, List, length, get_or, slice_get, sym, ap, ◌∙◌, subst}
use Rattle.std.proofs.lemmas.Option.{slice_get_within, get_or_from_slice_get}
use Rattle.ctw_semantics.specs.Instances.{FunctionInstance}
use Rattle.ctw_ops.specs.Tree.{type_named}
use Rattle.ctw_module.specs.Trees.{tree}
use Rattle.ctw_link.specs.declared.set.Part.{Part}
use Rattle.ctw_step.proofs.Homes.{type_at}
use Rattle.ctw_step.proofs.Dispatch.{at_home}
use Rattle.ctw_step.proofs.sets.entry_in.Goals as goal

pub bounds-parts-part : goal.bounds-parts-part
bounds-parts-part c =
    let q = c.requires in
    let h = at_home c.args.set.now c.args.part q.0 q.1 q.2 in
    subst (λ (l : List Part). c.args.part < length l) (sym c.parts.ensures.value) (slice_get_within c.args.set.now c.args.part h.p h.is)

pub func_type-requires : goal.func_type-requires
func_type-requires c =
    let q = c.requires in
    let h = at_home c.args.set.now c.args.part q.0 q.1 q.2 in
    let x = get_or_from_slice_get c.args.set.now c.args.part h.p c.index-parts-part.result h.is in
    let same : get_or c.parts.result.now c.args.part c.index-parts-part.result ≡ h.p = ap (λ (l : List Part). get_or l c.args.part c.index-parts-part.result) c.parts.ensures.value ∙ x in
    subst (λ (p : Part). c.args.entry < length (tree p.«module»).types) (sym same) (subst (λ (fn : FunctionInstance). c.args.entry < length fn.part.types) h.fn_is q.3)

pub returns : goal.returns
returns c = λ func fn t p e.
    let h = at_home c.args.set.now c.args.part func fn p in
    let x = get_or_from_slice_get c.args.set.now c.args.part h.p c.index-parts-part.result h.is in
    let same : get_or c.parts.result.now c.args.part c.index-parts-part.result ≡ h.p = ap (λ (l : List Part). get_or l c.args.part c.index-parts-part.result) c.parts.ensures.value ∙ x in
    c.func_type.ensures ∙ ap (λ (p : Part). type_named (tree p.«module») c.args.entry) same
    ∙ type_at (tree h.p.«module») c.args.entry t (ap (λ (fn : FunctionInstance). slice_get fn.part.types c.args.entry) (sym h.fn_is) ∙ e)
