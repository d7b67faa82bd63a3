use Rattle.std.proofs.Common.{◌≡◌, ℕ, ◌+◌, ◌-◌, length, refl, arith}
use Rattle.ctw_ops.specs.Code.{ByEnd}
use Rattle.ctw_flat.specs.declared.instr.Instr.TheVariants as instr
use Rattle.ctw_step.specs.Shown.{shown}
use Rattle.ctw_step.proofs.Moves.{some_frame}
use Rattle.ctw_step.proofs.Branches.{ended, ended_there, some_label}
use Rattle.ctw_step.proofs.control.end_label.Goals as goal

pub leave_innermost-requires-clause-some : goal.leave_innermost-requires-clause-some
leave_innermost-requires-clause-some c = let r = c.requires.2 in some_label r.codes (shown c.args.act.now) r.place r.code r.values r.meets.stands

pub leave_innermost-requires-clause-there : goal.leave_innermost-requires-clause-there
leave_innermost-requires-clause-there c = λ index e. let r = c.requires.2 in ended_there r.codes c.requires.0 (shown c.args.act.now) c.args.next r.fns r.fn c.requires.1 r.place r.code r.values instr.End ByEnd refl r.meets index e

pub leave_innermost-requires-clause-frames : goal.leave_innermost-requires-clause-frames
leave_innermost-requires-clause-frames c = let r = c.requires.2 in some_frame r.codes (shown c.args.act.now) r.place r.code r.values r.meets.stands

pub returns : goal.returns
returns c = λ bytes s codes fns fn h code vs k m.
    let l = some_label codes (shown c.args.act.now) h code vs m.stands in
    let index : ℕ = length c.args.act.now.labels.items - 1 in
    let e : index + 1 ≡ length c.args.act.now.labels.items = omega (arith, l) in
    ended codes bytes (shown c.args.act.now) c.args.next fns fn s h code vs instr.End ByEnd refl m index e c.leave_innermost.result (shown c.leave_innermost.new.act) (c.leave_innermost.ensures index e)
