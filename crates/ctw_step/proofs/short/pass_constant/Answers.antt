use Rattle.std.proofs.Common.{◌++◌, ◌∷◌, [], length-append, arith}
use Rattle.ctw_ops.specs.declared.types.Label.TheVariants.{Public}
use Rattle.ctw_ops.specs.declared.types.Width.TheVariants.{W32}
use Rattle.ctw_flat.specs.declared.instr.Instr.TheVariants as instr
use Rattle.ctw_step.specs.Shown.{shown}
use Rattle.ctw_step.proofs.OperandLaws.{constant_put}
use Rattle.ctw_step.proofs.ShortForms.{passes_with}
use Rattle.ctw_step.proofs.short.pass_constant.Goals as goal

pub returns-in-Ok-clause-passes : goal.returns-in-Ok-clause-passes
returns-in-Ok-clause-passes c = λ e.
    passes_with (shown c.args.act.now) (shown c.push.new.act) (instr.Const W32 Public c.args.bits) c.args.next (c.args.act.now.operands.items ++ c.args.bits ∷ []) c.in-Ok.ensures (omega (arith, length-append c.args.act.now.operands.items (c.args.bits ∷ [])))
    (λ bytes s codes fns fn h code vs k m. constant_put codes bytes (shown c.args.act.now) c.args.next fns fn s h code vs W32 Public c.args.bits m (shown c.push.new.act) c.in-Ok.ensures)
