use Rattle.std.proofs.Common.{length, sym, ap, ◌∙◌, arith}
use Rattle.std.proofs.lemmas.List.{length-map}
use Rattle.std.proofs.lemmas.Result.{err_from_is_err_and}
use Rattle.ctw_link.specs.Sets.{set_of}
use Rattle.ctw_link.specs.Numbers.{linked}
use Rattle.ctw_link.proofs.TablePasses.{linked_length, linked_at, parts_skip, parts_more, parts_stop, parts_all}
use Rattle.ctw_link.proofs.tables.check_table.Goals as goal

pub bounds-numbers-part : goal.bounds-numbers-part
bounds-numbers-part c = omega (arith, ap length c.requires.numbers, length-map (linked (set_of c.args.parts.now)) (λ p. p.numbers), linked_length c.args.parts.now)

pub parts-preserved-then-not-is_of_table : goal.parts-preserved-then-not-is_of_table
parts-preserved-then-not-is_of_table c =
    let at = linked_at c.args.parts.now c.args.numbers.now c.parts.part c.index-numbers-part.result c.requires.numbers (omega arith) in
    let e = c.is_of_table.ensures at.linked_as (at.same_numbers ∙ sym c.index-numbers-part.is) in
    parts_skip c.args.parts.now c.args.table c.parts.firsts c.parts.part _ at (sym e ∙ c.if-not-is_of_table.true) c.parts.invariant

pub returns-in_err-pass_part : goal.returns-in_err-pass_part
returns-in_err-pass_part c =
    let at = linked_at c.args.parts.now c.args.numbers.now c.parts.part c.index-numbers-part.result c.requires.numbers (omega arith) in
    let e = c.is_of_table.ensures at.linked_as (at.same_numbers ∙ sym c.index-numbers-part.is) in
    let p = err_from_is_err_and c.from_residual.result c.from_residual.ensures.1 in
    rw (p.1, p.2) (parts_stop c.args.parts.now c.args.table c.parts.firsts c.pass_part.new.firsts c.parts.part _ _ at (sym e ∙ c.if-not-is_of_table.false) c.in_err-pass_part.ensures c.parts.invariant)

pub parts-preserved : goal.parts-preserved
parts-preserved c =
    let at = linked_at c.args.parts.now c.args.numbers.now c.parts.part c.index-numbers-part.result c.requires.numbers (omega arith) in
    let e = c.is_of_table.ensures at.linked_as (at.same_numbers ∙ sym c.index-numbers-part.is) in
    parts_more c.args.parts.now c.args.table c.parts.firsts c.pass_part.new.firsts c.parts.part _ at (sym e ∙ c.if-not-is_of_table.false) c.in_ok-pass_part.ensures c.parts.invariant

pub returns : goal.returns
returns c = parts_all c.args.parts.now c.args.table c.parts.firsts c.parts.part (omega arith) c.parts.invariant
