use Rattle.std.proofs.Common.{◌≡◌, true, Some, slice_get, ap, sym, ◌∙◌, arith}
use Rattle.ctw_ops.specs.declared.types.Label.{Label}
use Rattle.ctw_ops.specs.Types.{FunctionType}
use Rattle.ctw_stack.specs.Steps.{may_call}
use Rattle.ctw_valid.specs.Scope.{table_of, types_of}
use Rattle.ctw_valid.specs.Tables.{labels_in}
use Rattle.ctw_valid.proofs.RowLaws.{indirect_row}
use Rattle.ctw_valid.proofs.control.call_indirect.Goals as goal

pub returns-else-not-may_call : goal.returns-else-not-may_call
returns-else-not-may_call c =
    let t : table_of c.args.around.now ≡ true = grind arith in
    let e : Some c.in-Some.callee ≡ slice_get (types_of c.args.around.now) c.args.index = cc in
    let m : may_call c.args.around.now.trust c.callee.inside.trust ≡ true = grind arith in
    let v = c.callee.view_is in
    indirect_row c.args.around.now (labels_in c.args.stack.now) c.args.index c.in-Some.callee _ _ t e
    (ap (λ (z : FunctionType Label). may_call c.args.around.now.trust z.trust) (sym v) ∙ m) (ap (λ (z : FunctionType Label). z.params) v) (ap (λ (z : FunctionType Label). z.result) v)
