use Rattle.std.proofs.Common.{◌≡◌, [], length, refl, sym, ap, ◌∙◌, arith, append-nil}
use Rattle.ctw_semantics.proofs.Begun.{begun_sound}
use Rattle.ctw_step.specs.Shown.{Shown, shown}
use Rattle.ctw_link.specs.Linked.{code_in}
use Rattle.ctw_step.specs.SetInstances.{instances}
use Rattle.ctw_step.specs.Calls.{with_frame, nothing}
use Rattle.ctw_step.proofs.Homes.{some_instance}
use Rattle.ctw_step.proofs.Entering.{begun_stands}
use Rattle.ctw_step.proofs.activation.enter.Goals as goal

pub enter_frame-requires : goal.enter_frame-requires
enter_frame-requires c =
    let f = some_instance c.args.set.now c.args.func c.requires.func in
    let k = c.callee_of-callee.ensures.known f.0 f.1 in
    let a = c.requires.args f.0 f.1 in
    let p = k.params in
    let w = c.in_ok-running.ensures in
    omega (arith, a, p, ap (λ (d : Shown). length d.operands) w)

pub returns-clause-begins : goal.returns-clause-begins
returns-clause-begins c = λ fn vs ef ev.
    let k = c.callee_of-callee.ensures.known fn ef in
    let w = c.in_ok-running.ensures in
    let count : length c.args.args.now ≡ c.callee_of-callee.result.params = c.requires.args fn ef ∙ sym k.params in
    let e = c.in_ok-enter_frame.ensures [] c.args.args.now [] (ap (λ (d : Shown). d.operands) w ∙ sym (append-nil c.args.args.now)) count refl in
    let e' : shown c.enter_frame.new.act ≡ with_frame (nothing c.args.args.now) [] c.args.args.now c.callee_of-callee.result 0 = e ∙ ap (λ (d : Shown). with_frame d [] c.args.args.now c.callee_of-callee.result 0) w in
    let st = begun_stands (code_in c.args.set.now) (instances c.args.set.now) c.callee_of-callee.result fn c.args.args.now vs c.args.func c.callee_of-callee.ensures.number k ev (shown c.enter_frame.new.act) e' in
    st

pub returns-clause-sound : goal.returns-clause-sound
returns-clause-sound c = λ shape s fn vs set ss ef ht ev light.
    let k = c.callee_of-callee.ensures.known fn ef in
    let w = c.in_ok-running.ensures in
    let count : length c.args.args.now ≡ c.callee_of-callee.result.params = c.requires.args fn ef ∙ sym k.params in
    let e = c.in_ok-enter_frame.ensures [] c.args.args.now [] (ap (λ (d : Shown). d.operands) w ∙ sym (append-nil c.args.args.now)) count refl in
    let e' : shown c.enter_frame.new.act ≡ with_frame (nothing c.args.args.now) [] c.args.args.now c.callee_of-callee.result 0 = e ∙ ap (λ (d : Shown). with_frame d [] c.args.args.now c.callee_of-callee.result 0) w in
    let st = begun_stands (code_in c.args.set.now) (instances c.args.set.now) c.callee_of-callee.result fn c.args.args.now vs c.args.func c.callee_of-callee.ensures.number k ev (shown c.enter_frame.new.act) e' in
    record { functions = set; storage = ss; call = begun_sound (instances c.args.set.now) shape set c.args.func fn vs ef ht light; stands = st }
