-- What the walk over a defined function's body adds, by the numbering of its tree.
use Rattle.std.proofs.Common.{◌≡◌, ℕ, ◌+◌, ◌-◌, ◌≤◌, List, length, Some, refl, sym, ◌∙◌, ap, subst, arith, length-append}
use Rattle.std.specs.Prelude.{slice_get}
use Rattle.ctw_ops.specs.declared.types.Label.{Label}
use Rattle.ctw_ops.specs.declared.types.Trust.TheVariants.{Untrusted}
use Rattle.ctw_ops.specs.Tree.{Module, Function, function_entries, type_named}
use Rattle.ctw_ops.specs.Typing.{Context}
use Rattle.ctw_module.specs.Trees.{Lent, view_module}
use Rattle.ctw_module.specs.Lookup.{imported_count, function_named, locals_named}
use Rattle.ctw_stack.specs.Operands.{fresh}
use Rattle.ctw_labels.specs.Numbering.{BodyPlace, params_from, type_from, sites_for, number}
use Rattle.ctw_labels.specs.SitedModule.{site_context, place_of, body_from, numbered_body}
use Rattle.ctw_labels.specs.Points.{no_points}
use Rattle.ctw_labels.specs.Names.{Site}
use Rattle.ctw_labels.specs.declared.tag.Tag.{Tag}
use Rattle.ctw_labels.specs.declared.name.SiteName.TheVariants.{Local}
use Rattle.ctw_labels.proofs.Contexts.{names_length}
use Rattle.ctw_labels.proofs.BodyOps.{body_sites_flat}
use Rattle.ctw_sites.specs.declared.around.Around.{Around}
use Rattle.ctw_sites.specs.Bodies.{code_sites, IsReady, IsReadyBody}
use Rattle.ctw_sites.specs.Leaves.{named_from}
use Rattle.ctw_sites.specs.Packed.{Kept, after}
use Rattle.ctw_sites.proofs.PackedLaws.{sites_named, after_both}
use Rattle.ctw_sites.specs.Heads.{type_of_some, declared, declared_of_some}
use Rattle.ctw_sites.proofs.ScopeLaws.{own_entry, locals_number}
use Rattle.ctw_sites.specs.Scope.{functions_of, globals_of, locals_of, memory_of, place, scope}

-- the scope of a body is the context of its function under sites
pub scope_is : (a : Around) (f : Function Label) → function_named (view_module a.whole.now) a.f ≡ Some f
    → scope a ≡ site_context (view_module a.whole.now) Untrusted (type_from a.head (type_named (view_module a.whole.now) f.type)) (params_from a.locals f.locals)
unfolding functions_of globals_of locals_of memory_of
scope_is a f e = λ i.
    site_context (view_module a.whole.now) Untrusted (type_from a.head (type_of_some (view_module a.whole.now) (e i))) (params_from a.locals (declared_of_some (e i)))

-- the sites over opcodes are those of the tree
pub code_sites_are : (a : Around) (f : Function Label) (n : ℕ) → code_sites (place a) (scope a) f.body n ≡ (number (place a) (scope a) f.body n 0 fresh).sites
code_sites_are a f n = body_sites_flat (place a) (scope a) refl f.body n

-- how many locals are declared
pub record Declared (m : Module Label) (f p c : ℕ) (F : Function Label) : Type 0 where
  pub left : c - p ≡ length F.locals
  pub first : p ≡ length (type_named m F.type).params
  pub declares : length (declared m f) ≡ length F.locals

pub declared_are : (m : Module Label) (f y p c : ℕ) (F : Function Label) → imported_count m ≤ f → slice_get (function_entries m) f ≡ Some y → p ≡ length (type_named m y).params → c ≡ length (locals_named m f) → function_named m f ≡ Some F → Declared m f p c F
declared_are m f y p c F le e q r n =
    let o = ap (λ z. length z.params) (own_entry m f y le e) in
    let t = ap (λ z. length (type_of_some m z).params) n in
    let d = ap (λ z. length (declared_of_some z)) n in
    let l = locals_number m f c r in
    record { left = omega (arith, o, d, l, q); first = omega (arith, o, t, q); declares = d }

pub body_length : (m : Module Label) (q k n : ℕ) (F : Function Label) → length (body_from m no_points q k n F).sites ≡ length F.locals + length (numbered_body m no_points (type_from q (type_named m F.type)) k n F).sites
body_length m q k n F =
    let L : List Site = sites_for (Local k) (length (type_named m F.type).params) F.locals in
    let a = length-append L (numbered_body m no_points (type_from q (type_named m F.type)) k n F).sites in
    let b = names_length (Local k) (length (type_named m F.type).params) F.locals in
    omega (arith, a, b)

-- a body is ready under a scope where it is so under its function's context
pub ready_here : (m : Module Label) (C D : Context Tag) (q f n t : ℕ) (F : Function Label) → C ≡ D → D ≡ site_context m Untrusted (type_from q (type_named m F.type)) (params_from n F.locals) → t ≡ n + length F.locals → IsReadyBody m q f n F → IsReady (place_of m no_points f) C F.body t
ready_here m C D q f n t F e g k r =
    let P : BodyPlace Label = place_of m no_points f in
    let S : Context Tag = site_context m Untrusted (type_from q (type_named m F.type)) (params_from n F.locals) in
    let flat = ap length (body_sites_flat P S refl F.body (n + length F.locals)) in
    let l = body_length m q f n F in
    let here : IsReady P S F.body (n + length F.locals) = record { goes = r.goes; room = omega (arith, flat, l, r.room); small = r.small } in
    subst (λ z. IsReady P z F.body t) (sym (e ∙ g)) (subst (λ z. IsReady P S F.body z) (sym k) here)

pub scope_here : (a : Around) (w : Lent) (f q n : ℕ) (F : Function Label) → a.whole.now ≡ w → a.f ≡ f → a.head ≡ q → a.locals ≡ n → function_named (view_module w) f ≡ Some F
    → scope a ≡ site_context (view_module w) Untrusted (type_from q (type_named (view_module w) F.type)) (params_from n F.locals)
scope_here a w f q n F ew ef eq en e =
    let here : function_named (view_module a.whole.now) a.f ≡ Some F = (λ i. function_named (view_module (ew i)) (ef i)) ∙ e in
    scope_is a F here ∙ (λ i. site_context (view_module (ew i)) Untrusted (type_from (eq i) (type_named (view_module (ew i)) F.type)) (params_from (en i) F.locals))

pub body_added : (m : Module Label) (C : Context Tag) (q f p c : ℕ) (F : Function Label) (k : Kept) → C ≡ site_context m Untrusted (type_from q (type_named m F.type)) (params_from k.count F.locals) → c ≡ length F.locals → p ≡ length (type_named m F.type).params
    → after (after k (named_from (Local f) p c)) (code_sites (place_of m no_points f) C F.body (k.count + length (named_from (Local f) p c))) ≡ after k (body_from m no_points q f k.count F).sites
body_added m C q f p c F k e ec ep =
    let P : BodyPlace Label = place_of m no_points f in
    let S : Context Tag = site_context m Untrusted (type_from q (type_named m F.type)) (params_from k.count F.locals) in
    let L : List Site = sites_for (Local f) (length (type_named m F.type).params) F.locals in
    let own : named_from (Local f) p c ≡ L = (λ i. named_from (Local f) (ep i) (ec i)) ∙ sym (sites_named (Local f) (length (type_named m F.type).params) F.locals) in
    let n : k.count + length L ≡ k.count + length F.locals = ap (λ z. k.count + z) (names_length (Local f) (length (type_named m F.type).params) F.locals) in
    ap (λ z. after (after k z) (code_sites P C F.body (k.count + length z))) own
    ∙ (λ i. after (after k L) (code_sites P (e i) F.body (n i)))
    ∙ ap (after (after k L)) (body_sites_flat P S refl F.body (k.count + length F.locals))
    ∙ after_both k L (number P S F.body (k.count + length F.locals) 0 fresh).sites
