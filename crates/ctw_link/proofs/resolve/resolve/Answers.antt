use Rattle.std.proofs.Common.{◌∙◌, arith}
use Rattle.std.proofs.lemmas.List.{length-map}
use Rattle.std.proofs.lemmas.Result.{err_from_is_err_and}
use Rattle.ctw_link.specs.Sets.{part_in, set_of}
use Rattle.ctw_link.proofs.Totals.{part_behind}
use Rattle.ctw_link.proofs.PartLoop.{linked_none, linked_next, linked_fault, linked_all}
use Rattle.ctw_link.proofs.resolve.resolve.Goals as goal

pub parts-init : goal.parts-init
parts-init c = linked_none (set_of c.args.parts.now) c.new-numbering.result c.new-numbering.ensures

pub import_numbers-requires-clause-before : goal.import_numbers-requires-clause-before
import_numbers-requires-clause-before c = c.deref.ensures.value ∙ c.parts.invariant.numbered.parts

pub returns-in_err-numbers-clause-fault : goal.returns-in_err-numbers-clause-fault
returns-in_err-numbers-clause-fault c =
    let set = set_of c.args.parts.now in
    let at = part_behind c.args.parts.now c.parts.part c.parts-test.true in
    let p = err_from_is_err_and c.from_residual.result c.from_residual.ensures.1 in
    rw (p.1, p.2) (linked_fault set c.parts.part at.0 c.parts.numbering c.in_err-numbers.field-0.0 at.1 (c.in_err-numbers.ensures.fault at.0 at.1) c.parts.invariant)

pub add-requires-clause-before : goal.add-requires-clause-before
add-requires-clause-before c = c.parts.invariant.numbered

pub parts-preserved : goal.parts-preserved
parts-preserved c =
    let set = set_of c.args.parts.now in
    let at = part_behind c.args.parts.now c.parts.part c.parts-test.true in
    linked_next set c.parts.part at.0 c.parts.numbering c.add.new.self at.1 (c.in_ok-numbers.ensures.fault at.0 at.1) c.in_ok-add.ensures c.parts.invariant

pub returns-clause-fault : goal.returns-clause-fault
returns-clause-fault c = (linked_all (set_of c.args.parts.now) c.parts.part c.parts.numbering (omega (arith, length-map c.args.parts.now part_in)) c.parts.invariant).fault

pub returns-clause-numbers : goal.returns-clause-numbers
returns-clause-numbers c = (linked_all (set_of c.args.parts.now) c.parts.part c.parts.numbering (omega (arith, length-map c.args.parts.now part_in)) c.parts.invariant).numbers

pub returns-clause-tables : goal.returns-clause-tables
returns-clause-tables c = (linked_all (set_of c.args.parts.now) c.parts.part c.parts.numbering (omega (arith, length-map c.args.parts.now part_in)) c.parts.invariant).tables
