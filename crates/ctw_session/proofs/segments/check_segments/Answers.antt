use Rattle.std.proofs.Common.{◌<◌, ◌+◌, length, drop, ap, ◌∙◌, refl, arith}
use Rattle.ctw_link.specs.Sets.{set_of}
use Rattle.ctw_link.specs.Numbers.{linked}
use Rattle.ctw_session.proofs.StartsOf.{some_linked}
use Rattle.ctw_session.proofs.Checking.{from_part, all_inside}
use Rattle.ctw_session.proofs.segments.check_segments.Goals as goal

pub parts-init : goal.parts-init
parts-init c = refl

pub returns-in-Err : goal.returns-in-Err
returns-in-Err c =
    let set = c.args.set.now in
    let k = c.parts.part in
    let lt : k < length set = omega (arith, c.parts-test.true, ap length c.parts-2.ensures.value) in
    let p = some_linked set k lt in
    let r = c.in-Err.ensures p.0 (drop (k + 1) (linked (set_of set))) p.1 in
    (r.0, from_part set c.args.store.now.storage k p.0 p.1 c.parts.invariant ∙ r.1, r.2)

pub parts-preserved : goal.parts-preserved
parts-preserved c =
    let set = c.args.set.now in
    let k = c.parts.part in
    let lt : k < length set = omega (arith, c.parts-test.true, ap length c.parts-2.ensures.value) in
    let p = some_linked set k lt in
    from_part set c.args.store.now.storage k p.0 p.1 c.parts.invariant ∙ c.in-Ok.ensures p.0 (drop (k + 1) (linked (set_of set))) p.1

pub returns : goal.returns
returns c = all_inside c.args.set.now c.args.store.now.storage c.parts.part (omega (arith, c.parts-test.false, ap length c.parts-2.ensures.value)) c.parts.invariant
