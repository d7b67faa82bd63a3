use Rattle.std.proofs.Common.{◌∙◌, ◌++◌, ◌∷◌, ◌<◌, ◌≤◌, [], length, sym, ap, subst, arith}
use Rattle.std.specs.Prelude.{get_or}
use Rattle.ctw_module.specs.Trees.{view_module}
use Rattle.ctw_ops.specs.Tree.{function_entries}
use Rattle.ctw_labels.specs.Points.{no_points}
use Rattle.ctw_labels.specs.SitedModule.{body_from, body_sites}
use Rattle.ctw_sites.specs.Bodies.{IsReadyBody}
use Rattle.ctw_sites.specs.Packed.{after}
use Rattle.ctw_sites.specs.Starts.{starts_from}
use Rattle.ctw_sites.proofs.BodiesLaws.{is_defined, ready_at, one_more_start, all_bodies, memory_room, body_joined}
use Rattle.ctw_sites.proofs.bodies.add_bodies.Goals as goal

pub add_body-requires-clause-memory : goal.add_body-requires-clause-memory
add_body-requires-clause-memory c = memory_room (view_module c.args.m.now) c.requires.room

lt : (c : goal.After-add_body-arg-1) → c.functions.f < length (function_entries (view_module c.args.m.now))
lt c = omega (arith, c.functions-test.true, c.func_count-f-end.ensures)

pub add_body-requires-clause-ready : goal.add_body-requires-clause-ready
add_body-requires-clause-ready c = λ F e.
    let m = view_module c.args.m.now in
    let k = ap (λ z. z.count) c.functions.invariant.sites in
    let r = ready_at m c.requires.plain c.requires.valid c.requires.room c.functions.f c.functions.packer.count F c.functions.invariant.from (lt c) (omega (arith, k, c.requires.behind)) e in
    subst (λ z. IsReadyBody m (get_or z c.functions.f 0) c.functions.f c.functions.packer.count F) (sym c.requires.heads) r

pub functions-preserved : goal.functions-preserved
functions-preserved c =
    let m = view_module c.args.m.now in
    let f = c.functions.f in
    let le = c.functions.invariant.from in
    let within : f < length (function_entries m) = omega (arith, c.functions-test.true, c.func_count-f-end.ensures) in
    let d = is_defined m f le within in
    let k = ap (λ z. z.count) c.packer.view_is ∙ ap (λ z. z.count) c.functions.invariant.sites in
    record {
      from = omega (arith, le);
      sites = c.in_ok-add_body.ensures d.0 d.1
          ∙ (λ j. after c.functions.packer (body_from m no_points (get_or (c.requires.heads j) f 0) f c.functions.packer.count d.0).sites)
          ∙ body_joined m f d.0 c.functions.packer c.args.packer.now le d.1 c.requires.behind c.functions.invariant.sites;
      starts = c.in_ok-push.ensures.items ∙ (λ j. c.functions.invariant.starts j ++ k j ∷ []) ∙ sym (one_more_start m c.args.packer.now.count f le within);
    }

pub returns-clause-sites : goal.returns-clause-sites
returns-clause-sites c =
    let m = view_module c.args.m.now in
    let le : length (function_entries m) ≤ c.functions.f = omega (arith, c.functions-test.false, c.func_count-f-end.ensures) in
    c.functions.invariant.sites ∙ ap (λ z. after c.args.packer.now (body_sites z)) (all_bodies m c.functions.f le)

pub returns-clause-starts : goal.returns-clause-starts
returns-clause-starts c =
    let m = view_module c.args.m.now in
    let le : length (function_entries m) ≤ c.functions.f = omega (arith, c.functions-test.false, c.func_count-f-end.ensures) in
    c.functions.invariant.starts ∙ ap (starts_from c.args.packer.now.count) (all_bodies m c.functions.f le)
