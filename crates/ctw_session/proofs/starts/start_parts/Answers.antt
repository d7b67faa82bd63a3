use Rattle.std.proofs.Common.{◌<◌, ◌+◌, ℕ, length, drop, slice_get, option_and_then, sym, ap, ◌∙◌, arith}
use Rattle.ctw_ops.specs.Limits.{most_steps}
use Rattle.ctw_link.specs.Sets.{set_of}
use Rattle.ctw_link.specs.Numbers.{linked}
use Rattle.ctw_link.specs.SetInstances.{set_instances}
use Rattle.ctw_launch.specs.Launched.{started, start_number}
use Rattle.ctw_session.proofs.StartsOf.{some_linked, started_next, failed, all_started}
use Rattle.ctw_session.proofs.starts.start_parts.Goals as goal

pub returns-in-Err : goal.returns-in-Err
returns-in-Err c = λ shape h.
    let set = c.args.set.now in
    let fns = set_instances (set_of set) in
    let k = c.parts.part in
    let lt : k < length set = omega (arith, c.parts-test.true, ap length c.parts-2.ensures.value) in
    let p = some_linked set k lt in
    let i = c.parts.invariant shape h in
    let go = started most_steps fns (drop (k + 1) (linked (set_of set))) in
    let same = i.1 ∙ started_next set most_steps k p.0 c.parts.store.storage p.1 ∙ ap (λ (n : ℕ). start_number n fns p.0.name c.parts.store.storage (option_and_then (slice_get p.0.numbers.functions) p.0.tree.start) go) (sym c.most_steps-steps.ensures) in
    failed set shape k c.most_steps-steps.result p.0 c.parts.store.storage c.start_part.new.store.storage _ go same c.in-Err.fault (c.in-Err.ensures shape p.0 i.0 p.1)

pub parts-preserved : goal.parts-preserved
parts-preserved c = λ shape h.
    let set = c.args.set.now in
    let fns = set_instances (set_of set) in
    let k = c.parts.part in
    let lt : k < length set = omega (arith, c.parts-test.true, ap length c.parts-2.ensures.value) in
    let p = some_linked set k lt in
    let i = c.parts.invariant shape h in
    let go = started most_steps fns (drop (k + 1) (linked (set_of set))) in
    let same = i.1 ∙ started_next set most_steps k p.0 c.parts.store.storage p.1 ∙ ap (λ (n : ℕ). start_number n fns p.0.name c.parts.store.storage (option_and_then (slice_get p.0.numbers.functions) p.0.tree.start) go) (sym c.most_steps-steps.ensures) in
    let r = c.in-Ok.ensures shape p.0 i.0 p.1 in
    (r.0, same ∙ r.1 go)

pub returns : goal.returns
returns c = λ shape h.
    let i = c.parts.invariant shape h in
    (i.1 ∙ all_started c.args.set.now most_steps c.parts.part c.parts.store.storage (omega (arith, c.parts-test.false, ap length c.parts-2.ensures.value)), i.0)
