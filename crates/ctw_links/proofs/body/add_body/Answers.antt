use Rattle.std.proofs.Common.{◌≡◌, ◌+◌, ◌-◌, ◌∙◌, ◌++◌, length, refl, sym, ap, subst, arith}
use Rattle.std.specs.Prelude.{get_or}
use Rattle.std.proofs.lemmas.List.{map-append}
use Rattle.std.proofs.lemmas.Option.{get_or_from_slice_get}
use Rattle.ctw_module.specs.Trees.{view_module}
use Rattle.ctw_labels.specs.declared.name.SiteName.TheVariants.{Local}
use Rattle.ctw_ops.specs.declared.types.Trust.TheVariants.{Untrusted}
use Rattle.ctw_ops.specs.Code.{opcodes}
use Rattle.ctw_ops.specs.Tree.{function_types, type_named}
use Rattle.ctw_labels.specs.Points.{no_points}
use Rattle.ctw_labels.specs.FlatSites.{flat_facts}
use Rattle.ctw_labels.specs.Numbering.{type_from, params_from}
use Rattle.ctw_labels.specs.SitedModule.{site_context, place_of}
use Rattle.ctw_flat.specs.Spelled.{IsBody}
use Rattle.ctw_sites.specs.Packed.{after}
use Rattle.ctw_sites.proofs.Answered.{ok_then}
use Rattle.ctw_sites.specs.Bodies.{code_sites, outermost, IsReady}
use Rattle.ctw_sites.specs.Scope.{scope}
use Rattle.ctw_sites.proofs.PackedLaws.{named_length}
use Rattle.ctw_sites.proofs.BodyLaws.{declared_are, body_length, ready_here, scope_here, body_added}
use Rattle.ctw_links.specs.Uses.{flat_users, type_of_user, types_of_users}
use Rattle.ctw_links.proofs.BodyFacts.{facts_added, users_added}
use Rattle.ctw_links.proofs.body.add_body.Goals as goal

pub add_locals-requires-clause-room : goal.add_locals-requires-clause-room
add_locals-requires-clause-room c =
    let m = view_module c.args.m.now in
    let s = c.in-Some.ensures.spelled in
    let d = declared_are m c.args.f c.type_of_func.result c.signature-params.result.0 c.local_count.result s.0 c.requires.defined c.type_of_func.ensures c.signature-params.ensures.params c.local_count.ensures s.1 in
    let r = c.requires.ready s.0 s.1 in
    let l = body_length m (get_or c.args.heads.now c.args.f 0) c.args.f c.args.packer.now.count s.0 in
    omega (arith, d.left, l, r.room)

pub new-around-requires-clause-room : goal.new-around-requires-clause-room
new-around-requires-clause-room c =
    let m = view_module c.args.m.now in
    let s = c.in-Some.ensures.spelled in
    let d = declared_are m c.args.f c.type_of_func.result c.signature-params.result.0 c.local_count.result s.0 c.requires.defined c.type_of_func.ensures c.signature-params.ensures.params c.local_count.ensures s.1 in
    let r = c.requires.ready s.0 s.1 in
    let l = body_length m (get_or c.args.heads.now c.args.f 0) c.args.f c.args.packer.now.count s.0 in
    let k = ap (λ z. z.count) c.packer.view_is in
    omega (arith, d.declares, l, k, r.room)

pub add_code-requires : goal.add_code-requires
add_code-requires c =
    let m = view_module c.args.m.now in
    let s = c.in-Some.ensures.spelled in
    let F = s.0 in
    let d = declared_are m c.args.f c.type_of_func.result c.signature-params.result.0 c.local_count.result F c.requires.defined c.type_of_func.ensures c.signature-params.ensures.params c.local_count.ensures s.1 in
    let q = get_or c.args.heads.now c.args.f 0 in
    let S = site_context m Untrusted (type_from q (type_named m F.type)) (params_from c.args.packer.now.count F.locals) in
    let t = ap (λ z. z.count) c.in_ok-add_locals.ensures in
    let l = named_length (Local c.args.f) c.signature-params.result.0 (c.local_count.result - c.signature-params.result.0) in
    let r = ready_here m (scope c.new-around.result) S q c.args.f c.args.packer.now.count c.add_locals.new.packer.count F (scope_here c.new-around.result c.args.m.now c.args.f q c.args.packer.now.count F c.new-around.ensures.whole c.new-around.ensures.f (sym (get_or_from_slice_get c.args.heads.now c.args.f c.new-around.result.head 0 c.new-around.ensures.head)) (c.new-around.ensures.locals ∙ ap (λ z. z.count) c.packer.view_is) s.1) refl (omega (arith, t, l, d.left)) (c.requires.ready F s.1) in
    (F.body, s.2.0, subst (λ z. IsReady z (scope c.new-around.result) F.body c.add_locals.new.packer.count) (λ i. place_of (view_module (sym c.new-around.ensures.whole i)) no_points (sym c.new-around.ensures.f i)) r)

pub returns-clause-told : goal.returns-clause-told
returns-clause-told c = λ F e.
    let m = view_module c.args.m.now in
    let s = c.in-Some.ensures.spelled in
    let both = sym s.1 ∙ e in
    let k : s.0 ≡ F = cc both in
    let d = declared_are m c.args.f c.type_of_func.result c.signature-params.result.0 c.local_count.result F c.requires.defined c.type_of_func.ensures c.signature-params.ensures.params c.local_count.ensures e in
    let q = get_or c.args.heads.now c.args.f 0 in
    let n = c.args.packer.now.count in
    let S = site_context m Untrusted (type_from q (type_named m F.type)) (params_from n F.locals) in
    let t = ap (λ z. z.count) c.in_ok-add_locals.ensures in
    let l = named_length (Local c.args.f) c.signature-params.result.0 (c.local_count.result - c.signature-params.result.0) in
    let h = scope_here c.new-around.result c.args.m.now c.args.f q n F c.new-around.ensures.whole c.new-around.ensures.f (sym (get_or_from_slice_get c.args.heads.now c.args.f c.new-around.result.head 0 c.new-around.ensures.head)) (c.new-around.ensures.locals ∙ ap (λ z. z.count) c.packer.view_is) e in
    let all : c.add_locals.new.packer.count ≡ n + length F.locals = omega (arith, t, l, d.left) in
    let r = ready_here m (scope c.new-around.result) S q c.args.f n c.add_locals.new.packer.count F h refl all (c.requires.ready F e) in
    let b = subst (λ z. IsBody c.in-Some.body z.body) k s.2.0 in
    let w = subst (λ z. IsReady z (scope c.new-around.result) F.body c.add_locals.new.packer.count) (λ i. place_of (view_module (sym c.new-around.ensures.whole i)) no_points (sym c.new-around.ensures.f i)) r in
    ok_then c.add_code.result (c.add_code.ensures.told F.body b w) (λ x.
    x ∙ (λ i. c.args.told.now.items ++ flat_facts (place_of (view_module (c.new-around.ensures.whole i)) no_points (c.new-around.ensures.f i)) (scope c.new-around.result) (opcodes F.body) (outermost (scope c.new-around.result)) c.add_locals.new.packer.count 0)
    ∙ ap (λ z. c.args.told.now.items ++ z) (facts_added m q c.args.f n F (scope c.new-around.result) c.add_locals.new.packer.count h all))

pub returns-clause-users : goal.returns-clause-users
returns-clause-users c = λ F e.
    let m = view_module c.args.m.now in
    let s = c.in-Some.ensures.spelled in
    let both = sym s.1 ∙ e in
    let k : s.0 ≡ F = cc both in
    let d = declared_are m c.args.f c.type_of_func.result c.signature-params.result.0 c.local_count.result F c.requires.defined c.type_of_func.ensures c.signature-params.ensures.params c.local_count.ensures e in
    let q = get_or c.args.heads.now c.args.f 0 in
    let n = c.args.packer.now.count in
    let S = site_context m Untrusted (type_from q (type_named m F.type)) (params_from n F.locals) in
    let t = ap (λ z. z.count) c.in_ok-add_locals.ensures in
    let l = named_length (Local c.args.f) c.signature-params.result.0 (c.local_count.result - c.signature-params.result.0) in
    let h = scope_here c.new-around.result c.args.m.now c.args.f q n F c.new-around.ensures.whole c.new-around.ensures.f (sym (get_or_from_slice_get c.args.heads.now c.args.f c.new-around.result.head 0 c.new-around.ensures.head)) (c.new-around.ensures.locals ∙ ap (λ z. z.count) c.packer.view_is) e in
    let all : c.add_locals.new.packer.count ≡ n + length F.locals = omega (arith, t, l, d.left) in
    let r = ready_here m (scope c.new-around.result) S q c.args.f n c.add_locals.new.packer.count F h refl all (c.requires.ready F e) in
    let b = subst (λ z. IsBody c.in-Some.body z.body) k s.2.0 in
    let w = subst (λ z. IsReady z (scope c.new-around.result) F.body c.add_locals.new.packer.count) (λ i. place_of (view_module (sym c.new-around.ensures.whole i)) no_points (sym c.new-around.ensures.f i)) r in
    let T = function_types m in
    let U = flat_users (place_of m no_points c.args.f) (scope c.new-around.result) (opcodes F.body) (outermost (scope c.new-around.result)) c.add_locals.new.packer.count 0 in
    ok_then c.add_code.result (c.add_code.ensures.users F.body b w) (λ x.
    ap (types_of_users T) (x ∙ (λ i. c.args.users.now.items ++ flat_users (place_of (view_module (c.new-around.ensures.whole i)) no_points (c.new-around.ensures.f i)) (scope c.new-around.result) (opcodes F.body) (outermost (scope c.new-around.result)) c.add_locals.new.packer.count 0))
    ∙ map-append (type_of_user T) c.args.users.now.items U
    ∙ ap (λ z. types_of_users T c.args.users.now.items ++ z) (users_added m q c.args.f n F (scope c.new-around.result) c.add_locals.new.packer.count h all))

pub returns-clause-sites : goal.returns-clause-sites
returns-clause-sites c = λ F e.
    let m = view_module c.args.m.now in
    let s = c.in-Some.ensures.spelled in
    let both = sym s.1 ∙ e in
    let k : s.0 ≡ F = cc both in
    let d = declared_are m c.args.f c.type_of_func.result c.signature-params.result.0 c.local_count.result F c.requires.defined c.type_of_func.ensures c.signature-params.ensures.params c.local_count.ensures e in
    let q = get_or c.args.heads.now c.args.f 0 in
    let n = c.args.packer.now.count in
    let S = site_context m Untrusted (type_from q (type_named m F.type)) (params_from n F.locals) in
    let t = ap (λ z. z.count) c.in_ok-add_locals.ensures in
    let l = named_length (Local c.args.f) c.signature-params.result.0 (c.local_count.result - c.signature-params.result.0) in
    let h = scope_here c.new-around.result c.args.m.now c.args.f q n F c.new-around.ensures.whole c.new-around.ensures.f (sym (get_or_from_slice_get c.args.heads.now c.args.f c.new-around.result.head 0 c.new-around.ensures.head)) (c.new-around.ensures.locals ∙ ap (λ z. z.count) c.packer.view_is) e in
    let all : c.add_locals.new.packer.count ≡ n + length F.locals = omega (arith, t, l, d.left) in
    let r = ready_here m (scope c.new-around.result) S q c.args.f n c.add_locals.new.packer.count F h refl all (c.requires.ready F e) in
    let b = subst (λ z. IsBody c.in-Some.body z.body) k s.2.0 in
    let w = subst (λ z. IsReady z (scope c.new-around.result) F.body c.add_locals.new.packer.count) (λ i. place_of (view_module (sym c.new-around.ensures.whole i)) no_points (sym c.new-around.ensures.f i)) r in
    ok_then c.add_code.result (c.add_code.ensures.sites F.body b w) (λ x.
    x ∙ (λ i. after (c.in_ok-add_locals.ensures i) (code_sites (place_of (view_module (c.new-around.ensures.whole i)) no_points (c.new-around.ensures.f i)) (scope c.new-around.result) F.body (c.in_ok-add_locals.ensures i).count))
    ∙ body_added m (scope c.new-around.result) q c.args.f c.signature-params.result.0 (c.local_count.result - c.signature-params.result.0) F c.args.packer.now h d.left d.first)
