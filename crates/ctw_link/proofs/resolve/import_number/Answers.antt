use Rattle.std.proofs.Common.{◌≡◌, ◌∙◌, get_or, slice_get, Some, None, ap, take, inr}
use Rattle.std.proofs.lemmas.Option.{slice_get_within, get_or_from_slice_get}
use Rattle.ctw_module.specs.Given.{import_given}
use Rattle.ctw_link.specs.declared.fault.LinkFault.TheVariants.{ImportType}
use Rattle.ctw_link.specs.Sets.{part_in, set_of}
use Rattle.ctw_link.specs.Numbers.{numbers_of, tag_of, linked, import_number}
use Rattle.ctw_link.specs.Faults.{import_fault}
use Rattle.ctw_link.proofs.Totals.{part_at, within_set}
use Rattle.ctw_link.proofs.Resolved.{for_import, fault_offered, same_kind, stands}
use Rattle.ctw_link.proofs.resolve.import_number.Goals as goal

pub returns-then-not-meets-clause-fault : goal.returns-then-not-meets-clause-fault
returns-then-not-meets-clause-fault c = λ q j h.
    let set = set_of c.args.parts.now in
    let p = part_in (get_or c.args.parts.now c.args.part c.index-parts-part.result) in
    let w = c.import-wanted.result in
    let at = part_at c.args.parts.now c.args.part c.index-parts-part.result (within_set c.args.parts.now c.args.part q h.0) in
    let fault = fault_offered set c.args.part c.args.import p w c.in-Some.offer.ty _ at c.import-wanted.ensures.typed c.in-Some.ensures.ty c.if-not-meets.ensures in
    inr (for_import set c.args.part c.args.import p q (import_given w) j (λ p i. import_fault (take c.args.part set) p.tree c.args.import i ≡ Some (ImportType c.args.part c.args.import w.kind c.in-Some.offer.ty)) (at, c.import-wanted.ensures.import) fault h)

pub bounds-before-offer : goal.bounds-before-offer
bounds-before-offer c = (stands (take c.args.part (set_of c.args.parts.now)) c.args.before.now c.in-Some.offer.tag c.in-Some.offer.part c.in-Some.offer.index _ c.requires.before c.in-Some.ensures.offer.number).part_there

pub bounds-numbers-offer : goal.bounds-numbers-offer
bounds-numbers-offer c =
    let s = stands (take c.args.part (set_of c.args.parts.now)) c.args.before.now c.in-Some.offer.tag c.in-Some.offer.part c.in-Some.offer.index _ c.requires.before c.in-Some.ensures.offer.number in
    let held = ap (λ l. slice_get l c.in-Some.offer.index) c.of-numbers.ensures ∙ ap (λ n. slice_get (numbers_of c.in-Some.offer.tag n) c.in-Some.offer.index) c.index-before-offer.is ∙ s.held c.index-before-offer.result in
    slice_get_within c.of-numbers.result.now c.in-Some.offer.index _ held

pub returns-clause-fault : goal.returns-clause-fault
returns-clause-fault c = λ q j h.
    let set = set_of c.args.parts.now in
    let p = part_in (get_or c.args.parts.now c.args.part c.index-parts-part.result) in
    let w = c.import-wanted.result in
    let at = part_at c.args.parts.now c.args.part c.index-parts-part.result (within_set c.args.parts.now c.args.part q h.0) in
    let fault = fault_offered set c.args.part c.args.import p w c.in-Some.offer.ty _ at c.import-wanted.ensures.typed c.in-Some.ensures.ty c.if-not-meets.ensures in
    for_import set c.args.part c.args.import p q (import_given w) j (λ p i. import_fault (take c.args.part set) p.tree c.args.import i ≡ None) (at, c.import-wanted.ensures.import) fault h

pub returns-clause-number : goal.returns-clause-number
returns-clause-number c = λ q j h.
    let set = set_of c.args.parts.now in
    let p = part_in (get_or c.args.parts.now c.args.part c.index-parts-part.result) in
    let w = c.import-wanted.result in
    let at = part_at c.args.parts.now c.args.part c.index-parts-part.result (within_set c.args.parts.now c.args.part q h.0) in
    let s = stands (take c.args.part set) c.args.before.now c.in-Some.offer.tag c.in-Some.offer.part c.in-Some.offer.index _ c.requires.before c.in-Some.ensures.offer.number in
    let held = ap (λ l. slice_get l c.in-Some.offer.index) c.of-numbers.ensures ∙ ap (λ n. slice_get (numbers_of c.in-Some.offer.tag n) c.in-Some.offer.index) c.index-before-offer.is ∙ s.held c.index-before-offer.result in
    let number = get_or_from_slice_get c.of-numbers.result.now c.in-Some.offer.index _ 0 held in
    let tag = c.in-Some.ensures.offer.tag ∙ same_kind c.in-Some.offer.ty w.kind c.if-not-meets.ensures in
    for_import set c.args.part c.args.import p q (import_given w) j (λ p i. (c.in-Some.offer.tag ≡ tag_of i.kind) × (get_or c.of-numbers.result.now c.in-Some.offer.index 0 ≡ import_number (linked (take c.args.part set)) i)) (at, c.import-wanted.ensures.import) (tag, number) h
