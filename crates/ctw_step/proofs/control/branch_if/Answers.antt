use Rattle.std.proofs.Common.{ℕ, ◌++◌, ◌∷◌, [], List, refl, Some, true}
use Rattle.ctw_script.specs.declared.event.Event.TheVariants as Events
use Rattle.ctw_ops.specs.Code as ops
use Rattle.ctw_step.specs.Shown.{shown}
use Rattle.ctw_step.specs.Stands.{numbers}
use Rattle.ctw_step.proofs.Moves.{some_frame}
use Rattle.ctw_step.proofs.Inside.{under}
use Rattle.ctw_step.proofs.Numbers.{not_zero, is_zero}
use Rattle.ctw_step.proofs.BranchLaws.{took_there, br_if_way, way_ready, way_done}
use Rattle.ctw_step.proofs.control.branch_if.Goals as goal

pub top-number-requires : goal.top-number-requires
top-number-requires c = let r = c.requires.2 in took_there r.codes c.requires.0 (shown c.args.act.now) c.args.next r.fns r.fn c.requires.1 r.place r.code r.values (ops.BrIf c.args.depth) (br_if_way r.codes c.requires.0 (shown c.args.act.now) c.args.next r.fns r.fn c.requires.1 r.place r.code r.values c.args.depth r.meets).0

pub shrink-requires : goal.shrink-requires
shrink-requires c = let r = c.requires.2 in took_there r.codes c.requires.0 (shown c.args.act.now) c.args.next r.fns r.fn c.requires.1 r.place r.code r.values (ops.BrIf c.args.depth) (br_if_way r.codes c.requires.0 (shown c.args.act.now) c.args.next r.fns r.fn c.requires.1 r.place r.code r.values c.args.depth r.meets).0

pub branch_out-requires-clause-some : goal.branch_out-requires-clause-some
branch_out-requires-clause-some c =
    let r = c.requires.2 in
    let x = br_if_way r.codes c.requires.0 (shown c.args.act.now) c.args.next r.fns r.fn c.requires.1 r.place r.code r.values c.args.depth r.meets in
    let front : List ℕ = under r.place ++ numbers x.0.below in
    let e = c.shrink.ensures.cut front (x.0.v.number ∷ []) x.0.operands refl in
    let n = c.top-number.ensures front x.0.v.number x.0.operands in
    let w = x.1.takes (shown c.shrink.new.act) e (not_zero c.top-number.result x.0.v.number n c.if-number-eq0.false) in
    (way_ready r.codes c.requires.0 (shown c.args.act.now) c.args.next r.fns r.fn c.requires.1 r.place r.code r.values (shown c.shrink.new.act) c.args.depth (Some (Events.Branch true)) w).0

pub branch_out-requires-clause-there : goal.branch_out-requires-clause-there
branch_out-requires-clause-there c =
    let r = c.requires.2 in
    let x = br_if_way r.codes c.requires.0 (shown c.args.act.now) c.args.next r.fns r.fn c.requires.1 r.place r.code r.values c.args.depth r.meets in
    let front : List ℕ = under r.place ++ numbers x.0.below in
    let e = c.shrink.ensures.cut front (x.0.v.number ∷ []) x.0.operands refl in
    let n = c.top-number.ensures front x.0.v.number x.0.operands in
    let w = x.1.takes (shown c.shrink.new.act) e (not_zero c.top-number.result x.0.v.number n c.if-number-eq0.false) in
    (way_ready r.codes c.requires.0 (shown c.args.act.now) c.args.next r.fns r.fn c.requires.1 r.place r.code r.values (shown c.shrink.new.act) c.args.depth (Some (Events.Branch true)) w).1

pub branch_out-requires-clause-frames : goal.branch_out-requires-clause-frames
branch_out-requires-clause-frames c =
    let r = c.requires.2 in
    let x = br_if_way r.codes c.requires.0 (shown c.args.act.now) c.args.next r.fns r.fn c.requires.1 r.place r.code r.values c.args.depth r.meets in
    let front : List ℕ = under r.place ++ numbers x.0.below in
    let e = c.shrink.ensures.cut front (x.0.v.number ∷ []) x.0.operands refl in
    let n = c.top-number.ensures front x.0.v.number x.0.operands in
    let w = x.1.takes (shown c.shrink.new.act) e (not_zero c.top-number.result x.0.v.number n c.if-number-eq0.false) in
    some_frame r.codes (shown c.shrink.new.act) r.place w.rest w.ws w.stands

pub returns-then-number-eq0 : goal.returns-then-number-eq0
returns-then-number-eq0 c = λ bytes s codes fns fn h code vs k m.
    let x = br_if_way codes bytes (shown c.args.act.now) c.args.next fns fn s h code vs c.args.depth m in
    let front : List ℕ = under h ++ numbers x.0.below in
    let e = c.shrink.ensures.cut front (x.0.v.number ∷ []) x.0.operands refl in
    let n = c.top-number.ensures front x.0.v.number x.0.operands in
    x.1.passes (shown c.shrink.new.act) e (is_zero c.top-number.result x.0.v.number n c.if-number-eq0.true)

pub returns : goal.returns
returns c = λ bytes s codes fns fn h code vs k m.
    let x = br_if_way codes bytes (shown c.args.act.now) c.args.next fns fn s h code vs c.args.depth m in
    let front : List ℕ = under h ++ numbers x.0.below in
    let e = c.shrink.ensures.cut front (x.0.v.number ∷ []) x.0.operands refl in
    let n = c.top-number.ensures front x.0.v.number x.0.operands in
    let w = x.1.takes (shown c.shrink.new.act) e (not_zero c.top-number.result x.0.v.number n c.if-number-eq0.false) in
    way_done codes bytes (shown c.args.act.now) c.args.next fns fn s h code vs (shown c.shrink.new.act) c.args.depth (Some (Events.Branch true)) w c.branch_out.result (shown c.branch_out.new.act) c.branch_out.ensures
