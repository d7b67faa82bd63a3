use Rattle.std.proofs.Common.{None}
use Rattle.ctw_step.specs.Shown.{shown}
use Rattle.ctw_step.proofs.Moves.{some_frame}
use Rattle.ctw_step.proofs.BranchLaws.{br_way, way_ready, way_done}
use Rattle.ctw_step.proofs.control.branch_always.Goals as goal

pub branch_out-requires-clause-some : goal.branch_out-requires-clause-some
branch_out-requires-clause-some c =
    let r = c.requires.2 in
    let w = br_way r.codes c.requires.0 (shown c.args.act.now) c.args.next r.fns r.fn c.requires.1 r.place r.code r.values c.args.depth r.meets (shown c.go_to.new.act) c.go_to.ensures in
    (way_ready r.codes c.requires.0 (shown c.args.act.now) c.args.next r.fns r.fn c.requires.1 r.place r.code r.values (shown c.go_to.new.act) c.args.depth None w).0

pub branch_out-requires-clause-there : goal.branch_out-requires-clause-there
branch_out-requires-clause-there c =
    let r = c.requires.2 in
    let w = br_way r.codes c.requires.0 (shown c.args.act.now) c.args.next r.fns r.fn c.requires.1 r.place r.code r.values c.args.depth r.meets (shown c.go_to.new.act) c.go_to.ensures in
    (way_ready r.codes c.requires.0 (shown c.args.act.now) c.args.next r.fns r.fn c.requires.1 r.place r.code r.values (shown c.go_to.new.act) c.args.depth None w).1

pub branch_out-requires-clause-frames : goal.branch_out-requires-clause-frames
branch_out-requires-clause-frames c =
    let r = c.requires.2 in
    let w = br_way r.codes c.requires.0 (shown c.args.act.now) c.args.next r.fns r.fn c.requires.1 r.place r.code r.values c.args.depth r.meets (shown c.go_to.new.act) c.go_to.ensures in
    some_frame r.codes (shown c.go_to.new.act) r.place w.rest w.ws w.stands

pub returns : goal.returns
returns c = λ bytes s codes fns fn h code vs k m.
    let w = br_way codes bytes (shown c.args.act.now) c.args.next fns fn s h code vs c.args.depth m (shown c.go_to.new.act) c.go_to.ensures in
    way_done codes bytes (shown c.args.act.now) c.args.next fns fn s h code vs (shown c.go_to.new.act) c.args.depth None w c.branch_out.result (shown c.branch_out.new.act) c.branch_out.ensures
