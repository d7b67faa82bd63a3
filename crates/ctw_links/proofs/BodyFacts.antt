-- The facts and the users of a defined function's body, and of all of them.
use Rattle.std.proofs.Common.{◌≡◌, ◌≤◌, ℕ, zero, suc, ◌+◌, ◌-◌, List, [], ◌∷◌, ◌++◌, length, map, take, Some, refl, sym, ◌∙◌, ap, arith, length-append, append_assoc}
use Rattle.std.specs.Prelude.{get_or, slice_get}
use Rattle.std.specs.List.{AllByRecursion}
use Rattle.std.proofs.lemmas.List.{append-nil}
use Rattle.std.proofs.lemmas.List.Elements.{recursion_from_All}
use Rattle.ctw_ops.specs.declared.types.Label.{Label}
use Rattle.ctw_ops.specs.declared.types.Trust.TheVariants.{Untrusted}
use Rattle.ctw_ops.specs.Types.{FunctionType}
use Rattle.ctw_ops.specs.Code.{opcodes}
use Rattle.ctw_ops.specs.Plain.{IsPlainFunction, IsPlainModule}
use Rattle.ctw_ops.specs.Tree.{Module, Function, imported_functions, function_types, type_named}
use Rattle.ctw_ops.specs.Typing.{Context}
use Rattle.ctw_stack.specs.Operands.{fresh}
use Rattle.ctw_labels.specs.declared.tag.Tag.{Tag}
use Rattle.ctw_labels.specs.Links.{Fact}
use Rattle.ctw_labels.specs.Points.{Points, no_points, trust_at, is_released}
use Rattle.ctw_labels.specs.Numbering.{BodyPlace, params_from, type_from, sites_for, number}
use Rattle.ctw_labels.specs.declared.name.SiteName.TheVariants.{Local}
use Rattle.ctw_labels.specs.FlatSites.{flat_facts}
use Rattle.ctw_labels.specs.ModuleLinks.{uses, body_uses, body_facts, facts_within}
use Rattle.ctw_labels.specs.SitedModule.{SitedBody, site_count, site_context, place_of, first_defined, head_sites, body_from, bodies_from, bodies}
use Rattle.ctw_labels.proofs.BodyOps.{body_facts_flat}
use Rattle.ctw_labels.proofs.PlainLaws.{plain_body}
use Rattle.ctw_labels.proofs.SiteLaws.{number_same, sited_untrusted}
use Rattle.ctw_sites.specs.Bodies.{outermost}
use Rattle.ctw_links.specs.Uses.{flat_users, types_of_users}
use Rattle.ctw_links.proofs.SameFacts.{plain_opcodes, flat_same, users_same}
use Rattle.ctw_links.proofs.UseOps.{body_users_flat}

module _ (m : Module Label) (q f n : ℕ) (F : Function Label) where
  abbrev own : FunctionType Tag
  own = type_from q (type_named m F.type)

  abbrev plain_context : Context Tag
  plain_context = site_context m Untrusted own (params_from n F.locals)

  pub facts_added : (C : Context Tag) (t : ℕ) → C ≡ site_context m Untrusted (type_from q (type_named m F.type)) (params_from n F.locals) → t ≡ n + length F.locals
      → flat_facts (place_of m no_points f) C (opcodes F.body) (outermost C) t 0 ≡ body_facts m no_points (body_from m no_points q f n F)
  facts_added C t e k =
      (λ i. flat_facts (place_of m no_points f) (e i) (opcodes F.body) (outermost (e i)) (k i) 0)
      ∙ body_facts_flat (place_of m no_points f) plain_context refl F.body (n + length F.locals)

  pub users_added : (C : Context Tag) (t : ℕ) → C ≡ site_context m Untrusted (type_from q (type_named m F.type)) (params_from n F.locals) → t ≡ n + length F.locals
      → types_of_users (function_types m) (flat_users (place_of m no_points f) C (opcodes F.body) (outermost C) t 0) ≡ uses (body_from m no_points q f n F).code
  users_added C t e k =
      (λ i. types_of_users (function_types m) (flat_users (place_of m no_points f) (e i) (opcodes F.body) (outermost (e i)) (k i) 0))
      ∙ body_users_flat (place_of m no_points f) plain_context refl F.body (n + length F.locals)

  -- the same for other points
  module _ (p : Points) (h : IsPlainFunction F) where
    pub points_facts : body_facts m no_points (body_from m no_points q f n F) ≡ body_facts m p (body_from m p q f n F)
    points_facts =
        sym (body_facts_flat (place_of m no_points f) plain_context refl F.body (n + length F.locals))
        ∙ flat_same (place_of m no_points f) (is_released p f) (trust_at p f) plain_context (sited_untrusted m) (opcodes F.body) (plain_opcodes F.body (plain_body F h).1) (outermost plain_context) (n + length F.locals) 0
        ∙ body_facts_flat (place_of m p f) (site_context m (trust_at p f) own (params_from n F.locals)) refl F.body (n + length F.locals)

    pub points_users : uses (body_from m no_points q f n F).code ≡ uses (body_from m p q f n F).code
    points_users =
        sym (body_users_flat (place_of m no_points f) plain_context refl F.body (n + length F.locals))
        ∙ ap (types_of_users (function_types m)) (users_same (place_of m no_points f) (is_released p f) (trust_at p f) plain_context (sited_untrusted m) (opcodes F.body) (plain_opcodes F.body (plain_body F h).1) (outermost plain_context) (n + length F.locals) 0)
        ∙ body_users_flat (place_of m p f) (site_context m (trust_at p f) own (params_from n F.locals)) refl F.body (n + length F.locals)

    pub points_sites : (body_from m no_points q f n F).sites ≡ (body_from m p q f n F).sites
    points_sites =
        ap (λ z. sites_for (Local f) (length (type_named m F.type).params) F.locals ++ z)
        (number_same (place_of m no_points f) (is_released p f) (trust_at p f) plain_context (sited_untrusted m) F.body (plain_body F h).1 (n + length F.locals) 0 fresh).0

-- ---- one function after another

facts_from : (m : Module Label) (p : Points) (q k n : ℕ) (fs : List (Function Label)) → AllByRecursion IsPlainFunction fs → facts_within m no_points (bodies_from m no_points q k n fs) ≡ facts_within m p (bodies_from m p q k n fs)
facts_from m p q k n [] h = refl
facts_from m p q k n (f ∷ fs) h =
    let s = points_sites m q k n f p h.0 in
    (λ i. points_facts m q k n f p h.0 i ++ facts_within m no_points (bodies_from m no_points (q + site_count (type_named m f.type)) (k + 1) (n + length (s i)) fs))
    ∙ ap (λ z. body_facts m p (body_from m p q k n f) ++ z) (facts_from m p (q + site_count (type_named m f.type)) (k + 1) (n + length (body_from m p q k n f).sites) fs h.1)

users_from : (m : Module Label) (p : Points) (q k n : ℕ) (fs : List (Function Label)) → AllByRecursion IsPlainFunction fs → body_uses (bodies_from m no_points q k n fs) ≡ body_uses (bodies_from m p q k n fs)
users_from m p q k n [] h = refl
users_from m p q k n (f ∷ fs) h =
    let s = points_sites m q k n f p h.0 in
    (λ i. points_users m q k n f p h.0 i ++ body_uses (bodies_from m no_points (q + site_count (type_named m f.type)) (k + 1) (n + length (s i)) fs))
    ∙ ap (λ z. uses (body_from m p q k n f).code ++ z) (users_from m p (q + site_count (type_named m f.type)) (k + 1) (n + length (body_from m p q k n f).sites) fs h.1)

-- whatever the points, the facts and the indirect calls of bodies are the same
pub all_facts : (m : Module Label) → IsPlainModule m → (p : Points) → facts_within m no_points (bodies m no_points) ≡ facts_within m p (bodies m p)
all_facts m pl p = facts_from m p (first_defined m) (length (imported_functions m.imports)) (length (head_sites m)) m.functions (recursion_from_All IsPlainFunction m.functions pl.functions)

pub all_users : (m : Module Label) → IsPlainModule m → (p : Points) → body_uses (bodies m no_points) ≡ body_uses (bodies m p)
all_users m pl p = users_from m p (first_defined m) (length (imported_functions m.imports)) (length (head_sites m)) m.functions (recursion_from_All IsPlainFunction m.functions pl.functions)

pub facts_append : (m : Module Label) (p : Points) (xs ys : List SitedBody) → facts_within m p (xs ++ ys) ≡ facts_within m p xs ++ facts_within m p ys
facts_append m p [] ys = refl
facts_append m p (x ∷ xs) ys = ap (λ z. body_facts m p x ++ z) (facts_append m p xs ys) ∙ sym (append_assoc (body_facts m p x) (facts_within m p xs) (facts_within m p ys))

pub uses_append : (xs ys : List SitedBody) → body_uses (xs ++ ys) ≡ body_uses xs ++ body_uses ys
uses_append [] ys = refl
uses_append (x ∷ xs) ys = ap (λ z. uses x.code ++ z) (uses_append xs ys) ∙ sym (append_assoc (uses x.code) (body_uses xs) (body_uses ys))
