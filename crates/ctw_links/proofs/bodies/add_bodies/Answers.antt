use Rattle.std.proofs.Common.{◌≡◌, ◌∙◌, ◌++◌, ◌+◌, ◌-◌, ◌<◌, ◌≤◌, length, sym, ap, subst, arith, append_assoc}
use Rattle.std.specs.Prelude.{get_or, take}
use Rattle.std.proofs.lemmas.List.{append-nil}
use Rattle.ctw_module.specs.Lookup.{imported_count}
use Rattle.ctw_module.specs.Trees.{view_module}
use Rattle.ctw_ops.specs.Tree.{function_entries, function_types}
use Rattle.ctw_labels.specs.Points.{no_points}
use Rattle.ctw_labels.specs.ModuleLinks.{uses, body_uses, body_facts, facts_within}
use Rattle.ctw_labels.specs.SitedModule.{bodies, body_from, body_sites}
use Rattle.ctw_sites.specs.Bodies.{IsReadyBody}
use Rattle.ctw_sites.specs.Packed.{after}
use Rattle.ctw_sites.proofs.BodiesLaws.{before, is_defined, ready_at, all_bodies, memory_room, body_joined}
use Rattle.ctw_sites.proofs.PackedLaws.{after_none}
use Rattle.ctw_links.specs.Uses.{types_of_users}
use Rattle.ctw_links.proofs.BodiesFacts.{facts_more, uses_more}
use Rattle.ctw_links.proofs.bodies.add_bodies.Goals as goal

pub functions-init : goal.functions-init
functions-init c =
    let m = view_module c.args.m.now in
    let none : c.imported_count-f.result - imported_count m ≡ 0 = omega (arith, c.imported_count-f.ensures) in
    record {
      from = omega (arith, c.imported_count-f.ensures);
      sites = sym (after_none c.args.packer.now) ∙ ap (λ z. after c.args.packer.now (body_sites (take z (bodies m no_points)))) (sym none);
      told = sym (append-nil c.args.told.now.items) ∙ ap (λ z. c.args.told.now.items ++ facts_within m no_points (take z (bodies m no_points))) (sym none);
      users = sym (append-nil (types_of_users (function_types m) c.args.users.now.items)) ∙ ap (λ z. types_of_users (function_types m) c.args.users.now.items ++ body_uses (take z (bodies m no_points))) (sym none);
    }

pub add_body-requires-clause-memory : goal.add_body-requires-clause-memory
add_body-requires-clause-memory c = memory_room (view_module c.args.m.now) c.requires.room

pub add_body-requires-clause-ready : goal.add_body-requires-clause-ready
add_body-requires-clause-ready c = λ F e.
    let m = view_module c.args.m.now in
    let k = ap (λ z. z.count) c.functions.invariant.sites in
    let lt : c.functions.f < length (function_entries m) = omega (arith, c.functions-test.true, c.func_count-f-end.ensures) in
    let r = ready_at m c.requires.plain c.requires.valid c.requires.room c.functions.f c.functions.packer.count F c.functions.invariant.from lt (omega (arith, k, c.requires.behind)) e in
    subst (λ z. IsReadyBody m (get_or z c.functions.f 0) c.functions.f c.functions.packer.count F) (sym c.requires.heads) r

pub functions-preserved : goal.functions-preserved
functions-preserved c =
    let m = view_module c.args.m.now in
    let f = c.functions.f in
    let T = function_types m in
    let le = c.functions.invariant.from in
    let within : f < length (function_entries m) = omega (arith, c.functions-test.true, c.func_count-f-end.ensures) in
    let d = is_defined m f le within in
    let k = ap (λ z. z.count) c.functions.invariant.sites in
    let n : c.functions.packer.count ≡ before m f = omega (arith, k, c.requires.behind) in
    record {
      from = omega (arith, le);
      sites = c.in_ok-add_body.ensures.sites d.0 d.1
          ∙ (λ j. after c.functions.packer (body_from m no_points (get_or (c.requires.heads j) f 0) f c.functions.packer.count d.0).sites)
          ∙ body_joined m f d.0 c.functions.packer c.args.packer.now le d.1 c.requires.behind c.functions.invariant.sites;
      told = c.in_ok-add_body.ensures.told d.0 d.1
          ∙ (λ j. c.functions.invariant.told j ++ body_facts m no_points (body_from m no_points (get_or (c.requires.heads j) f 0) f c.functions.packer.count d.0))
          ∙ append_assoc c.args.told.now.items (facts_within m no_points (take (f - imported_count m) (bodies m no_points))) _
          ∙ ap (λ z. c.args.told.now.items ++ z) (sym (facts_more m f c.functions.packer.count d.0 le d.1 n));
      users = c.in_ok-add_body.ensures.users d.0 d.1
          ∙ (λ j. c.functions.invariant.users j ++ uses (body_from m no_points (get_or (c.requires.heads j) f 0) f c.functions.packer.count d.0).code)
          ∙ append_assoc (types_of_users T c.args.users.now.items) (body_uses (take (f - imported_count m) (bodies m no_points))) _
          ∙ ap (λ z. types_of_users T c.args.users.now.items ++ z) (sym (uses_more m f c.functions.packer.count d.0 le d.1 n));
    }

pub returns : goal.returns
returns c =
    let m = view_module c.args.m.now in
    let le : length (function_entries m) ≤ c.functions.f = omega (arith, c.functions-test.false, c.func_count-f-end.ensures) in
    record {
      told = c.functions.invariant.told ∙ ap (λ z. c.args.told.now.items ++ facts_within m no_points z) (all_bodies m c.functions.f le);
      users = c.functions.invariant.users ∙ ap (λ z. types_of_users (function_types m) c.args.users.now.items ++ body_uses z) (all_bodies m c.functions.f le);
    }
