use Rattle.std.proofs.Common.{◌≡◌, ℕ, ◌++◌, List, ap, ◌∙◌, sym, refl, subst}
use Rattle.std.specs.Prelude.{false, is_some}
use Rattle.ctw_step.specs.Shown.{Shown, shown}
use Rattle.ctw_step.specs.Told.{with_operands, with_label, opened, IsBehind, OtherArm}
use Rattle.ctw_step.proofs.Inside.{under}
use Rattle.ctw_step.specs.Stands.{numbers}
use Rattle.ctw_step.proofs.BlockLaws.{if_here, if_behind, if_begins, if_there, if_done}
use Rattle.ctw_step.proofs.control.enter_if.Goals as goal

pub ends_of-end-requires : goal.ends_of-end-requires
ends_of-end-requires c =
    let r = c.requires.runs.1 in
    let i = (if_here r.codes c.args.body.now (shown c.args.act.now) c.args.next r.fns r.fn c.requires.runs.0 r.place r.code r.values c.args.blocks.now c.requires.ends c.args.yields r.meets).0 in
    (i.end, i.parting, i.ends)

pub behind-after-requires : goal.behind-after-requires
behind-after-requires c =
    let r = c.requires.runs.1 in
    let i = (if_here r.codes c.args.body.now (shown c.args.act.now) c.args.next r.fns r.fn c.requires.runs.0 r.place r.code r.values c.args.blocks.now c.requires.ends c.args.yields r.meets).0 in (
      i.after,
      subst (λ e. IsBehind c.args.body.now e i.after) (sym (c.ends_of-end.ensures i.end i.parting i.ends).0)
          (if_behind r.codes c.args.body.now (shown c.args.act.now) c.args.next r.fns r.fn c.requires.runs.0 r.place r.code r.values c.args.blocks.now c.requires.ends c.args.yields r.meets i),
    )

pub top-number-requires : goal.top-number-requires
top-number-requires c =
    let r = c.requires.runs.1 in
    let i = (if_here r.codes c.args.body.now (shown c.args.act.now) c.args.next r.fns r.fn c.requires.runs.0 r.place r.code r.values c.args.blocks.now c.requires.ends c.args.yields r.meets).0 in
    if_there r.codes c.args.body.now (shown c.args.act.now) c.args.next r.fns r.fn c.requires.runs.0 r.place r.code r.values c.args.blocks.now i

pub arm_at-start-requires : goal.arm_at-start-requires
arm_at-start-requires c =
    let r = c.requires.runs.1 in
    let i = (if_here r.codes c.args.body.now (shown c.args.act.now) c.args.next r.fns r.fn c.requires.runs.0 r.place r.code r.values c.args.blocks.now c.requires.ends c.args.yields r.meets).0 in
    let e = c.ends_of-end.ensures i.end i.parting i.ends in (
      i.at,
      subst (λ e. OtherArm c.args.body.now e c.ends_of-end.result.1 i.at) (sym e.0) (subst (λ p. OtherArm c.args.body.now i.end p i.at) (sym e.1)
          (if_begins r.codes c.args.body.now (shown c.args.act.now) c.args.next r.fns r.fn c.requires.runs.0 r.place r.code r.values c.args.blocks.now c.requires.ends c.args.yields r.meets i)),
    )

pub open_under-requires : goal.open_under-requires
open_under-requires c =
    let r = c.requires.runs.1 in
    let i = (if_here r.codes c.args.body.now (shown c.args.act.now) c.args.next r.fns r.fn c.requires.runs.0 r.place r.code r.values c.args.blocks.now c.requires.ends c.args.yields r.meets).0 in
    if_there r.codes c.args.body.now (shown c.args.act.now) c.args.next r.fns r.fn c.requires.runs.0 r.place r.code r.values c.args.blocks.now i

pub returns-clause-does : goal.returns-clause-does
returns-clause-does c = λ s codes fns fn h code vs k m.
    let d : Shown = shown c.args.act.now in
    let x = if_here codes c.args.body.now d c.args.next fns fn s h code vs c.args.blocks.now c.requires.ends c.args.yields m in
    let i = x.0 in
    let e = c.ends_of-end.ensures i.end i.parting i.ends in
    let front : List ℕ = under h ++ numbers i.below in
    let n : c.top-number.result ≡ i.v.number = c.top-number.ensures front i.v.number i.are in
    let after : c.behind-after.result ≡ i.after = c.behind-after.ensures i.after (subst (λ e. IsBehind c.args.body.now e i.after) (sym e.0)
    (if_behind codes c.args.body.now d c.args.next fns fn s h code vs c.args.blocks.now c.requires.ends c.args.yields m i)) in
    let at = c.arm_at-start.ensures i.at (subst (λ e. OtherArm c.args.body.now e c.ends_of-end.result.1 i.at) (sym e.0) (subst (λ p. OtherArm c.args.body.now i.end p i.at) (sym e.1)
    (if_begins codes c.args.body.now d c.args.next fns fn s h code vs c.args.blocks.now c.requires.ends c.args.yields m i))) in
    let b : Shown = with_operands d front d.at in
    if_done codes c.args.body.now d c.args.next fns fn s h code vs c.args.yields c.args.blocks.now m i x.1 b (shown c.open_under.new.act) c.top-number.result c.arm_at-start.result n at refl
    (c.in_ok-open_under.ensures front i.v.number i.are ∙ ap (λ a. with_label b (opened b (is_some c.args.yields) a false) c.arm_at-start.result) after)
