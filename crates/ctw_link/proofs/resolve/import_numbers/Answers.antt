use Rattle.std.proofs.Common.{get_or, length, sym, ap, subst, arith}
use Rattle.std.proofs.lemmas.Result.{err_from_is_err_and}
use Rattle.ctw_link.specs.Numbers.{StoreNumbers}
use Rattle.ctw_link.specs.Sets.{NamedModule, part_in, set_of}
use Rattle.ctw_link.proofs.Totals.{part_at, only_part}
use Rattle.ctw_link.proofs.ImportLoop.{Met, import_at, met_none, met_more, met_fault, met_all, met_numbers}
use Rattle.ctw_link.proofs.resolve.import_numbers.Goals as goal

pub imports-init : goal.imports-init
imports-init c = subst (λ (n : StoreNumbers). Met (set_of c.args.parts.now) c.args.part 0 n) (sym c.new-numbers.ensures) (met_none (set_of c.args.parts.now) c.args.part)

pub import_number-requires-clause-there : goal.import_number-requires-clause-there
import_number-requires-clause-there c =
    let p = part_in (get_or c.args.parts.now c.args.part c.index-parts-part.result) in
    let at = part_at c.args.parts.now c.args.part c.index-parts-part.result c.requires.there in
    let item = import_at p.tree.imports c.imports.import (omega (arith, c.import_count-count.ensures)) in
    (p, item.0, (at, item.1))

pub returns-in_err-tag-clause-fault : goal.returns-in_err-tag-clause-fault
returns-in_err-tag-clause-fault c = λ q is.
    let p = err_from_is_err_and c.from_residual.result c.from_residual.ensures.1 in
    rw (p.1, p.2)
    (met_fault (set_of c.args.parts.now) c.args.part c.imports.import c.imports.numbers c.in_err-tag.field-0.0 c.in_err-tag.ensures.fault
    (λ q is. let e = ap (λ (p : NamedModule). length p.tree.imports) (only_part c.args.parts.now c.args.part c.index-parts-part.result q is) in omega (arith, e, c.import_count-count.ensures)) c.imports.invariant q is)

pub imports-preserved : goal.imports-preserved
imports-preserved c =
    let set = set_of c.args.parts.now in
    met_more set c.args.part c.imports.import c.imports.numbers c.push.new.self c.in_ok-tag.tag c.in_ok-tag.number c.in_ok-tag.ensures.fault c.in_ok-tag.ensures.number c.in_ok-push.ensures
    (λ q is. let e = ap (λ (p : NamedModule). length p.tree.imports) (only_part c.args.parts.now c.args.part c.index-parts-part.result q is) in omega (arith, e, c.import_count-count.ensures)) c.imports.invariant

pub returns-clause-fault : goal.returns-clause-fault
returns-clause-fault c = λ q is.
    let e = ap (λ (p : NamedModule). length p.tree.imports) (only_part c.args.parts.now c.args.part c.index-parts-part.result q is) in
    met_all (set_of c.args.parts.now) c.args.part c.imports.import c.imports.numbers q is (omega (arith, e, c.import_count-count.ensures)) c.imports.invariant

pub returns-clause-numbers : goal.returns-clause-numbers
returns-clause-numbers c =
    met_numbers (set_of c.args.parts.now) c.args.part c.imports.import c.imports.numbers
    (λ q is. let e = ap (λ (p : NamedModule). length p.tree.imports) (only_part c.args.parts.now c.args.part c.index-parts-part.result q is) in omega (arith, e, c.import_count-count.ensures)) c.imports.invariant
