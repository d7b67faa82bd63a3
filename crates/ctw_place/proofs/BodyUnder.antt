-- The body of a defined function under points.
use Rattle.std.proofs.Common.{◌≡◌, ◌<◌, ◌^◌, ℕ, ◌+◌, List, [], ◌++◌, Some, length, map, refl, sym, ◌∙◌, ap, subst, arith, length-append}
use Rattle.ctw_ops.specs.declared.types.Label.{Label}
use Rattle.ctw_ops.specs.Tree.{Module, Function, type_named}
use Rattle.ctw_ops.specs.TagMaps.{type_to}
use Rattle.ctw_ops.specs.Typing.{Context}
use Rattle.ctw_stack.specs.Operands.{fresh}
use Rattle.ctw_module.specs.Lookup.{function_named}
use Rattle.ctw_module.specs.Trees.{Lent, view_module}
use Rattle.ctw_labels.specs.declared.tag.Tag.{Tag}
use Rattle.ctw_labels.specs.declared.name.SiteName.TheVariants.{Local}
use Rattle.ctw_labels.specs.Numbering.{params_from, type_from, sites_for, number}
use Rattle.ctw_labels.specs.Points.{Points, trust_at}
use Rattle.ctw_labels.specs.SitedModule.{site_context, place_of, numbered_body, body_from}
use Rattle.ctw_labels.proofs.BodyOps.{body_sites_flat}
use Rattle.ctw_labels.proofs.Contexts.{names_length}
use Rattle.ctw_sites.specs.declared.around.Around.{Around}
use Rattle.ctw_sites.specs.Bodies.{code_sites, IsReady}
use Rattle.ctw_sites.proofs.BodyLaws.{scope_here}
use Rattle.ctw_leb.specs.Spelling.{u32_text}
use Rattle.ctw_labels.specs.Placed.{TypeUse, code_uses, use_to, with_uses}
use Rattle.ctw_labels.specs.Sited.{Sited, placed_code}
use Rattle.ctw_write.specs.Canon.{vector_text, groups_of, group_text, sized_text, body_text, code_text}
use Rattle.ctw_place.specs.declared.setting.Setting.{Setting}
use Rattle.ctw_place.specs.Bodies.{IsReadyUnder, body_of, body_uses, placed_body}
use Rattle.ctw_place.specs.Settings.{module_of, labels_of}
use Rattle.ctw_place.specs.Variants.{name_in}
use Rattle.ctw_place.specs.Walks.{place_under, scope_under, sited_body}

module _ (m : Module Label) (p : Points) (q f n : ℕ) (F : Function Label) where
  abbrev S : Context Tag
  S = site_context m (trust_at p f) (type_from q (type_named m F.type)) (params_from n F.locals)

  pub sites_length : length (body_from m p q f n F).sites ≡ length F.locals + length (numbered_body m p (type_from q (type_named m F.type)) f n F).sites
  sites_length =
      let a = length-append (sites_for (Local f) (length (type_named m F.type).params) F.locals) (numbered_body m p (type_from q (type_named m F.type)) f n F).sites in
      let b = names_length (Local f) (length (type_named m F.type).params) F.locals in
      omega (arith, a, b)

  flat_length : length (code_sites (place_of m p f) S F.body (n + length F.locals)) ≡ length (numbered_body m p (type_from q (type_named m F.type)) f n F).sites
  flat_length = ap length (body_sites_flat (place_of m p f) S refl F.body (n + length F.locals))

  ready : IsReadyUnder m p q f n F → IsReady (place_of m p f) S F.body (n + length F.locals)
  ready r = record { goes = r.goes; room = let a = flat_length in let b = sites_length in omega (arith, a, b, r.room); small = r.small }

module _ (a : Around) (w : Lent) (p : Points) (f q n : ℕ) (F : Function Label) (ew : a.whole.now ≡ w) (ef : a.f ≡ f) (eq : a.head ≡ q) (en : a.locals ≡ n) (e : function_named (view_module w) f ≡ Some F) where
  context : scope_under p a ≡ site_context (view_module w) (trust_at p f) (type_from q (type_named (view_module w) F.type)) (params_from n F.locals)
  context = λ i. record (scope_here a w f q n F ew ef eq en e i) { trust = trust_at p (ef i) }

  spot : place_under p a ≡ place_of (view_module w) p f
  spot = λ i. place_of (view_module (ew i)) p (ef i)

  module _ (t : ℕ) (et : t ≡ n + length F.locals) where
    pub ready_under : IsReadyUnder (view_module w) p q f n F → IsReady (place_under p a) (scope_under p a) F.body t
    ready_under r =
        subst (λ z. IsReady z (scope_under p a) F.body t) (sym spot)
        (subst (λ z. IsReady (place_of (view_module w) p f) z F.body t) (sym context)
        (subst (λ z. IsReady (place_of (view_module w) p f) (site_context (view_module w) (trust_at p f) (type_from q (type_named (view_module w) F.type)) (params_from n F.locals)) F.body z) (sym et) (ready (view_module w) p q f n F r)))

    pub code_under : sited_body p a F.body t ≡ (body_from (view_module w) p q f n F).code
    code_under = λ i. (number (spot i) (context i) F.body (et i) 0 fresh).code

    pub next_under : t + length (code_sites (place_under p a) (scope_under p a) F.body t) ≡ n + length (body_from (view_module w) p q f n F).sites
    next_under =
        let c : length (code_sites (place_under p a) (scope_under p a) F.body t) ≡ length (code_sites (place_of (view_module w) p f) (site_context (view_module w) (trust_at p f) (type_from q (type_named (view_module w) F.type)) (params_from n F.locals)) F.body (n + length F.locals)) =
        λ i. length (code_sites (spot i) (context i) F.body (et i)) in
        let b = flat_length (view_module w) p q f n F in
        let d = sites_length (view_module w) p q f n F in
        omega (arith, b, c, d, et)

-- a body's text from those of its locals and its code
pub entry_text : (s : Setting) (vs later : List (TypeUse Label)) (q f n : ℕ) (F : Function Label) (start one two : List ℕ) (z : Sited Tag) → start ≡ [] → one ≡ start ++ vector_text group_text (groups_of (map (type_to (labels_of s)) (params_from n F.locals)))
    → two ≡ one ++ body_text (placed_code (labels_of s) (name_in (length (module_of s).types) (with_uses (with_uses vs (map (use_to (labels_of s)) (code_uses z))) later)) z) → z ≡ (body_of s q f n F).code
    → sized_text two ≡ code_text (placed_body s (with_uses (with_uses vs (body_uses s q f n F)) later) q f n F)
entry_text s vs later q f n F start one two z es eo et ez =
    let V : List ℕ = vector_text group_text (groups_of (map (type_to (labels_of s)) (params_from n F.locals))) in
    ap sized_text (et
    ∙ ap (λ (l : List ℕ). l ++ body_text (placed_code (labels_of s) (name_in (length (module_of s).types) (with_uses (with_uses vs (map (use_to (labels_of s)) (code_uses z))) later)) z)) (eo ∙ ap (λ (l : List ℕ). l ++ V) es)
    ∙ ap (λ y. V ++ body_text (placed_code (labels_of s) (name_in (length (module_of s).types) (with_uses (with_uses vs (map (use_to (labels_of s)) (code_uses y))) later)) y)) ez)

pub sized_longer : (xs ys : List ℕ) → sized_text xs ≡ ys → length ys < 2 ^ 32 → length xs < 2 ^ 32
sized_longer xs ys e lt = let a = ap length e in let b = length-append (u32_text (length xs)) xs in omega (arith, a, b, lt)
