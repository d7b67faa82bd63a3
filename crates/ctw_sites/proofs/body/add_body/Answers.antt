use Rattle.std.proofs.Common.{◌≡◌, ◌∙◌, ◌-◌, refl, sym, ap, subst, arith}
use Rattle.ctw_module.specs.Trees.{view_module}
use Rattle.ctw_labels.specs.declared.name.SiteName.TheVariants.{Local}
use Rattle.std.specs.Prelude.{get_or}
use Rattle.ctw_ops.specs.declared.types.Trust.TheVariants.{Untrusted}
use Rattle.ctw_ops.specs.Tree.{type_named}
use Rattle.std.proofs.lemmas.Option.{get_or_from_slice_get}
use Rattle.ctw_labels.specs.Points.{no_points}
use Rattle.ctw_labels.specs.Numbering.{type_from, params_from}
use Rattle.ctw_labels.specs.SitedModule.{site_context, place_of}
use Rattle.ctw_flat.specs.Spelled.{IsBody}
use Rattle.ctw_sites.specs.Packed.{after}
use Rattle.ctw_sites.proofs.Answered.{ok_then}
use Rattle.ctw_sites.specs.Bodies.{code_sites, IsReady}
use Rattle.ctw_sites.specs.Scope.{scope}
use Rattle.ctw_sites.proofs.PackedLaws.{named_length}
use Rattle.ctw_sites.proofs.BodyLaws.{declared_are, body_length, ready_here, scope_here, body_added}
use Rattle.ctw_sites.proofs.body.add_body.Goals as goal

pub add_locals-requires-clause-room : goal.add_locals-requires-clause-room
add_locals-requires-clause-room c =
    let m = view_module c.args.m.now in
    let s = c.in-Some.ensures.spelled in
    let d = declared_are m c.args.f c.type_of_func.result c.signature-params.result.0 c.local_count.result s.0 c.requires.defined c.type_of_func.ensures c.signature-params.ensures.params c.local_count.ensures s.1 in
    let r = c.requires.ready s.0 s.1 in
    let l = body_length m (get_or c.args.heads.now c.args.f 0) c.args.f c.args.packer.now.count s.0 in
    omega (arith, d.left, l, r.room)

pub new-around-requires-clause-room : goal.new-around-requires-clause-room
new-around-requires-clause-room c =
    let m = view_module c.args.m.now in
    let s = c.in-Some.ensures.spelled in
    let d = declared_are m c.args.f c.type_of_func.result c.signature-params.result.0 c.local_count.result s.0 c.requires.defined c.type_of_func.ensures c.signature-params.ensures.params c.local_count.ensures s.1 in
    let r = c.requires.ready s.0 s.1 in
    let l = body_length m (get_or c.args.heads.now c.args.f 0) c.args.f c.args.packer.now.count s.0 in
    let k = ap (λ z. z.count) c.packer.view_is in
    omega (arith, d.declares, l, k, r.room)

pub add_code-requires : goal.add_code-requires
add_code-requires c =
    let m = view_module c.args.m.now in
    let s = c.in-Some.ensures.spelled in
    let F = s.0 in
    let d = declared_are m c.args.f c.type_of_func.result c.signature-params.result.0 c.local_count.result F c.requires.defined c.type_of_func.ensures c.signature-params.ensures.params c.local_count.ensures s.1 in
    let q = get_or c.args.heads.now c.args.f 0 in
    let S = site_context m Untrusted (type_from q (type_named m F.type)) (params_from c.args.packer.now.count F.locals) in
    let t = ap (λ z. z.count) c.in_ok-add_locals.ensures in
    let l = named_length (Local c.args.f) c.signature-params.result.0 (c.local_count.result - c.signature-params.result.0) in
    let r = ready_here m (scope c.new-around.result) S q c.args.f c.args.packer.now.count c.add_locals.new.packer.count F (scope_here c.new-around.result c.args.m.now c.args.f q c.args.packer.now.count F c.new-around.ensures.whole c.new-around.ensures.f (sym (get_or_from_slice_get c.args.heads.now c.args.f c.new-around.result.head 0 c.new-around.ensures.head)) (c.new-around.ensures.locals ∙ ap (λ z. z.count) c.packer.view_is) s.1) refl (omega (arith, t, l, d.left)) (c.requires.ready F s.1) in
    (F.body, s.2.0, subst (λ z. IsReady z (scope c.new-around.result) F.body c.add_locals.new.packer.count) (λ i. place_of (view_module (sym c.new-around.ensures.whole i)) no_points (sym c.new-around.ensures.f i)) r)

pub returns : goal.returns
returns c = λ F e.
    let m = view_module c.args.m.now in
    let s = c.in-Some.ensures.spelled in
    let both = sym s.1 ∙ e in
    let k : s.0 ≡ F = cc both in
    let d = declared_are m c.args.f c.type_of_func.result c.signature-params.result.0 c.local_count.result F c.requires.defined c.type_of_func.ensures c.signature-params.ensures.params c.local_count.ensures e in
    let q = get_or c.args.heads.now c.args.f 0 in
    let S = site_context m Untrusted (type_from q (type_named m F.type)) (params_from c.args.packer.now.count F.locals) in
    let t = ap (λ z. z.count) c.in_ok-add_locals.ensures in
    let l = named_length (Local c.args.f) c.signature-params.result.0 (c.local_count.result - c.signature-params.result.0) in
    let h = (scope_here c.new-around.result c.args.m.now c.args.f q c.args.packer.now.count F c.new-around.ensures.whole c.new-around.ensures.f (sym (get_or_from_slice_get c.args.heads.now c.args.f c.new-around.result.head 0 c.new-around.ensures.head)) (c.new-around.ensures.locals ∙ ap (λ z. z.count) c.packer.view_is) e) in
    let r = ready_here m (scope c.new-around.result) S q c.args.f c.args.packer.now.count c.add_locals.new.packer.count F h refl (omega (arith, t, l, d.left)) (c.requires.ready F e) in
    let b = subst (λ z. IsBody c.in-Some.body z.body) k s.2.0 in
    let w = subst (λ z. IsReady z (scope c.new-around.result) F.body c.add_locals.new.packer.count) (λ i. place_of (view_module (sym c.new-around.ensures.whole i)) no_points (sym c.new-around.ensures.f i)) r in
    ok_then c.add_code.result (c.add_code.ensures F.body b w) (λ x.
    x ∙ (λ i. after (c.in_ok-add_locals.ensures i) (code_sites (place_of (view_module (c.new-around.ensures.whole i)) no_points (c.new-around.ensures.f i)) (scope c.new-around.result) F.body (c.in_ok-add_locals.ensures i).count))
    ∙ body_added m (scope c.new-around.result) q c.args.f c.signature-params.result.0 (c.local_count.result - c.signature-params.result.0) F c.args.packer.now h d.left d.first)
