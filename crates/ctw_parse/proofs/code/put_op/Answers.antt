use Rattle.std.proofs.Common.{List, ℕ, ap, sym, subst, ◌∙◌}
use Rattle.std.specs.List.{All}
use Rattle.ctw_names.specs.declared.op.OpKind.{OpKind}
use Rattle.ctw_names.specs.Ops.{op_in}
use Rattle.ctw_write.specs.KeepsLimits.{Is32, IsLimitedOp}
use Rattle.ctw_parse.proofs.Branches.{labels_limited}
use Rattle.ctw_parse.proofs.Sections.{always_ok}
use Rattle.ctw_parse.proofs.code.put_op.Goals as goal

pub returns-in-Targets-clause-numbers : goal.returns-in-Targets-clause-numbers
returns-in-Targets-clause-numbers c =
    let labels : All Is32 c.in-Targets.labels.items = subst (λ (l : List ℕ). All Is32 l) c.as_slice.ensures.value c.put_branches.ensures.numbers in
    always_ok c.put_branches.result (subst IsLimitedOp (ap (λ (k : OpKind). op_in k) (sym c.in-Targets.is) ∙ c.op.view_is) (labels_limited c.in-Targets.labels.items labels))
