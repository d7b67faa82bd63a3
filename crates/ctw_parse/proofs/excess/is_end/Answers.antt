use Rattle.std.proofs.Common.{◌≡◌, suc, ◌+◌, ℕ, not, get_or, sym, ap, ap₂, ◌∙◌, arith}
use Rattle.std.specs.Prelude.{nat_eq}
use Rattle.ctw_ops.specs.ValueType.{ValueType}
use Rattle.ctw_ops.specs.declared.types.Label.{Label}
use Rattle.ctw_ops.specs.Equal.{same_type}
use Rattle.ctw_parse.proofs.LocalEnds.{end_last, end_within, differ}
use Rattle.ctw_parse.proofs.excess.is_end.Goals as goal

pub returns-then-i-types : goal.returns-then-i-types
returns-then-i-types c = sym (end_last c.args.types.now c.args.i c.if-i-types.true)

pub returns : goal.returns
returns c =
    let e = end_within c.args.types.now c.args.i c.index-types-i.result c.index-types-i-2.result (omega (arith, c.requires, c.if-i-types.false)) in
    let n : suc c.args.i ≡ c.args.i + 1 = omega arith in
    let at : c.index-types-i-2.result ≡ get_or c.args.types.now (suc c.args.i) c.index-types-i-2.result = c.index-types-i-2.is ∙ ap (λ (k : ℕ). get_or c.args.types.now k c.index-types-i-2.result) (sym n) in
    ap₂ (λ (a b : ℕ). not (nat_eq a b)) c.byte_of_type.ensures c.byte_of_type-2.ensures ∙ differ c.index-types-i.result c.index-types-i-2.result
    ∙ ap₂ (λ (t u : ValueType Label). not (same_type t u)) c.index-types-i.is at ∙ sym e
