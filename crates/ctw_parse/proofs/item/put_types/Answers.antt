use Rattle.std.proofs.Common.{◌<◌, ◌++◌, ◌∷◌, [], ℕ, length, sym, ap, ◌∙◌, arith, Some}
use Rattle.std.proofs.lemmas.Option.{slice_get-get_or}
use Rattle.ctw_ops.specs.ValueType.{ValueType}
use Rattle.ctw_ops.specs.declared.types.Label.{Label}
use Rattle.ctw_write.specs.Canon.{type_text}
use Rattle.ctw_write.proofs.Listed.{listed_next}
use Rattle.ctw_parse.proofs.item.put_types.Goals as goal

pub types-preserved : goal.types-preserved
types-preserved c =
    let lt : c.types.t-index < length c.args.types.now = omega arith in
    let there = slice_get-get_or c.args.types.now c.types.t-index c.t-item.result lt ∙ ap (λ (x : ValueType Label). Some x) (sym c.t-item.is) in
    listed_next type_text c.args.types.now c.types.t-index c.t-item.result c.put_count.new.out.items c.types.out.items c.push.new.self.items there
    (c.in_ok-push.ensures.items ∙ ap (λ (b : ℕ). c.types.out.items ++ b ∷ []) c.byte_of_type.ensures) c.types.invariant
