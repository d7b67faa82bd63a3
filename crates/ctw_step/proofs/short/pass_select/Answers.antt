use Rattle.std.proofs.Common.{arith}
use Rattle.ctw_ops.specs.declared.types.Label.TheVariants.{Public}
use Rattle.ctw_flat.specs.declared.instr.Instr.TheVariants as instr
use Rattle.ctw_step.specs.Shown.{shown}
use Rattle.ctw_step.proofs.OperandLaws.{select_there, selected}
use Rattle.ctw_step.proofs.ShortForms.{passes_with}
use Rattle.ctw_step.proofs.short.pass_select.Goals as goal

pub pick-requires : goal.pick-requires
pick-requires c = let r = c.requires.2 in select_there r.codes c.requires.0 (shown c.args.act.now) c.args.next r.fns r.fn c.requires.1 r.place r.code r.values Public r.meets

pub returns : goal.returns
returns c =
    passes_with (shown c.args.act.now) (shown c.pick.new.act) (instr.Select Public) c.args.next c.pick.new.act.operands.items c.pick.ensures.alone (let f = c.pick.ensures.fewer in omega (arith, f))
    (λ bytes s codes fns fn h code vs k m. selected codes bytes (shown c.args.act.now) c.args.next fns fn s h code vs Public m (shown c.pick.new.act) c.pick.ensures.picked)
