use Rattle.std.proofs.Common.{◌≡◌, Some, sym, ◌∙◌}
use Rattle.ctw_module.specs.Trees.{view_module}
use Rattle.ctw_marks.specs.Meaning.{spot_name}
use Rattle.ctw_marks.proofs.PlaceTests.{placed, unplaced}
use Rattle.ctw_marks.proofs.place.site_of.Goals as goal

pub returns-then-is_there : goal.returns-then-is_there
returns-then-is_there c =
    let e : spot_name (view_module c.args.m.now) c.args.spot.now ≡ Some c.in_ok-name.name = sym c.in_ok-name.ensures in
    placed (view_module c.args.m.now) c.args.spot.now c.in_ok-name.name e (c.is_there.ensures.0 c.if-is_there.true)

pub returns-else-is_there : goal.returns-else-is_there
returns-else-is_there c =
    let e : spot_name (view_module c.args.m.now) c.args.spot.now ≡ Some c.in_ok-name.name = sym c.in_ok-name.ensures in
    unplaced (view_module c.args.m.now) c.args.spot.now c.in_ok-name.name e (λ h. let t = c.is_there.ensures.1 h in let f = c.if-is_there.false in absurd cc)
