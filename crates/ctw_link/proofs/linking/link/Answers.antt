use Rattle.std.proofs.lemmas.Result.{err_from_is_err_and}
use Rattle.ctw_link.proofs.LinkedSets.{seen_matching, seen_short, are_linked}
use Rattle.ctw_link.proofs.linking.link.Goals as goal

pub returns-in_err-numbering-clause-complete : goal.returns-in_err-numbering-clause-complete
returns-in_err-numbering-clause-complete c =
    let p = err_from_is_err_and c.from_residual.result c.from_residual.ensures.1 in
    rw (p.1, p.2) (seen_short c.args.parts.items c.deref.result.now _ c.deref.ensures.value c.in_err-numbering.ensures.fault)

pub invariant_of-result : goal.invariant_of-result
invariant_of-result c =
    are_linked c.args.parts.items c.deref.result.now c.deref-2.result.now c.deref-3.result.now c.in_ok-numbering.numbering.parts.items c.in_ok-owners.owners.items c.in_ok-blocks.blocks.items
    c.requires c.deref.ensures.value c.deref-2.ensures.value c.deref-3.ensures.value c.in_ok-numbering.ensures.fault c.in_ok-numbering.ensures.numbers c.in_ok-owners.ensures.owners c.in_ok-blocks.ensures c.in_ok-owners.ensures.limits

pub returns-clause-sound : goal.returns-clause-sound
returns-clause-sound c = seen_matching c.args.parts.items c.deref.result.now c.deref.ensures.value c.in_ok-numbering.ensures.fault
