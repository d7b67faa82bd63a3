use Rattle.std.proofs.Common.{ap, sym, ◌∙◌, get_or, arith}
use Rattle.std.specs.Str.{bytes_eq}
use Rattle.std.proofs.lemmas.Option.{slice_get-get_or}
use Rattle.ctw_session.proofs.Exporting.{first_named, none_more, none_named}
use Rattle.ctw_session.proofs.exports.part_named.Goals as goal

pub returns-then-eq : goal.returns-then-eq
returns-then-eq c =
    let p = get_or c.args.parts.now c.parts.i c.index-parts-i.result in
    let at = slice_get-get_or c.args.parts.now c.parts.i c.index-parts-i.result (omega arith) in
    let same = ap (λ n. bytes_eq n c.args.name.now) (sym c.as_str.ensures) ∙ (sym c.eq.ensures ∙ c.if-eq.true) in
    sym (first_named c.args.parts.now c.args.name.now c.parts.i p at c.parts.invariant same)

pub parts-preserved : goal.parts-preserved
parts-preserved c =
    let p = get_or c.args.parts.now c.parts.i c.index-parts-i.result in
    let at = slice_get-get_or c.args.parts.now c.parts.i c.index-parts-i.result (omega arith) in
    let other = ap (λ n. bytes_eq n c.args.name.now) (sym c.as_str.ensures) ∙ (sym c.eq.ensures ∙ c.if-eq.false) in
    none_more c.args.parts.now c.args.name.now c.parts.i p at c.parts.invariant other

pub returns : goal.returns
returns c = sym (none_named c.args.parts.now c.args.name.now c.parts.i (omega arith) c.parts.invariant)
