use Rattle.ctw_step.specs.Shown.{shown}
use Rattle.ctw_step.proofs.Moves.{some_frame}
use Rattle.ctw_step.proofs.Room.{last_of}
use Rattle.ctw_step.proofs.BranchLaws.{return_ready, return_done}
use Rattle.ctw_step.proofs.control.return_now.Goals as goal

pub leave_function-requires-clause-some : goal.leave_function-requires-clause-some
leave_function-requires-clause-some c = let r = c.requires.2 in some_frame r.codes (shown c.args.act.now) r.place r.code r.values r.meets.stands

pub leave_function-requires-clause-there : goal.leave_function-requires-clause-there
leave_function-requires-clause-there c = let r = c.requires.2 in return_ready r.codes c.requires.0 (shown c.args.act.now) c.args.next r.fns r.fn c.requires.1 r.place r.code r.values r.meets

pub returns : goal.returns
returns c = λ bytes s codes fns fn h code vs k m.
    let f = last_of c.args.act.now.frames.items (some_frame codes (shown c.args.act.now) h code vs m.stands) in
    return_done codes bytes (shown c.args.act.now) c.args.next fns fn s h code vs m f.0 f.1 f.2 c.leave_function.result (shown c.leave_function.new.act) (c.leave_function.ensures f.0 f.1 f.2)
