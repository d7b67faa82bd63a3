use Rattle.std.proofs.Common.{ap, length, arith}
use Rattle.ctw_flat.specs.declared.instr.Instr.TheVariants as instr
use Rattle.ctw_step.specs.Shown.{shown}
use Rattle.ctw_step.proofs.Moves.{some_frame}
use Rattle.ctw_step.proofs.OperandLaws.{set_there, local_written}
use Rattle.ctw_step.proofs.ShortForms.{passes_locals}
use Rattle.ctw_step.proofs.short.pass_set.Goals as goal

pub write_local-requires-clause-operand : goal.write_local-requires-clause-operand
write_local-requires-clause-operand c = let r = c.requires.2 in (set_there r.codes c.requires.0 (shown c.args.act.now) c.args.next r.fns r.fn c.requires.1 r.place r.code r.values c.args.index r.meets).0

pub write_local-requires-clause-some : goal.write_local-requires-clause-some
write_local-requires-clause-some c = let r = c.requires.2 in some_frame r.codes (shown c.args.act.now) r.place r.code r.values r.meets.stands

pub write_local-requires-clause-there : goal.write_local-requires-clause-there
write_local-requires-clause-there c = let r = c.requires.2 in (set_there r.codes c.requires.0 (shown c.args.act.now) c.args.next r.fns r.fn c.requires.1 r.place r.code r.values c.args.index r.meets).1

pub shrink-requires : goal.shrink-requires
shrink-requires c = let r = c.requires.2 in omega (arith, ap length c.write_local.ensures.kept, (set_there r.codes c.requires.0 (shown c.args.act.now) c.args.next r.fns r.fn c.requires.1 r.place r.code r.values c.args.index r.meets).0)

pub returns : goal.returns
returns c =
    passes_locals (shown c.args.act.now) (shown c.write_local.new.act) (shown c.shrink.new.act) (instr.LocalSet c.args.index) c.args.next c.shrink.new.act.operands.items c.write_local.ensures.alone c.write_local.ensures.as_many c.shrink.ensures.alone
    (let f = c.shrink.ensures.fewer in let k = ap length c.write_local.ensures.kept in omega (arith, f, k))
    (λ bytes s codes fns fn h code vs k m. local_written codes bytes (shown c.args.act.now) c.args.next fns fn s h code vs c.args.index m (shown c.write_local.new.act) (shown c.shrink.new.act) c.write_local.ensures.written c.shrink.ensures.cut)
