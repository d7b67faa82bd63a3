use Rattle.std.proofs.Common.{arith}
use Rattle.ctw_flat.specs.declared.instr.Instr.TheVariants as instr
use Rattle.ctw_step.specs.Shown.{shown}
use Rattle.ctw_step.proofs.OperandLaws.{drop_there, dropped}
use Rattle.ctw_step.proofs.ShortForms.{passes_with}
use Rattle.ctw_step.proofs.short.pass_drop.Goals as goal

pub shrink-requires : goal.shrink-requires
shrink-requires c = let r = c.requires.2 in drop_there r.codes c.requires.0 (shown c.args.act.now) c.args.next r.fns r.fn c.requires.1 r.place r.code r.values r.meets

pub returns : goal.returns
returns c =
    passes_with (shown c.args.act.now) (shown c.shrink.new.act) instr.Drop c.args.next c.shrink.new.act.operands.items c.shrink.ensures.alone (let f = c.shrink.ensures.fewer in omega (arith, f))
    (λ bytes s codes fns fn h code vs k m. dropped codes bytes (shown c.args.act.now) c.args.next fns fn s h code vs m (shown c.shrink.new.act) c.shrink.ensures.cut)
