use Rattle.std.proofs.Common.{◌∙◌}
use Rattle.ctw_module.specs.Trees.{tree, view_module}
use Rattle.ctw_ops.specs.Erasure.{erase_module}
use Rattle.ctw_write.specs.Canon.{canon}
use Rattle.ctw_inputs.specs.declared.said.Status.TheVariants.{Done}
use Rattle.ctw_inputs.specs.Outcome.{ends}
use Rattle.ctwasm_top.specs.Answer.{stripped}
use Rattle.ctwasm_top.proofs.Settled.{says_done, erased_under}
use Rattle.ctwasm_top.proofs.commands.stripped.Goals as goal

pub returns-clause-told : goal.returns-clause-told
returns-clause-told c =
    let m = c.in_ok-module.module in
    says_done c.done.result (stripped c.args.profile c.args.file.now c.args.bytes.now) c.in_ok-strip.field-0.items (canon (erase_module (view_module m))) c.done.ensures
    (c.in_ok-strip.ensures.bytes ∙ erased_under m.profile (tree m)) (c.in_ok-module.ensures.told (λ t. ends Done (canon (erase_module t))))
