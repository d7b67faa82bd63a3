-- What is collected of a module: its links, and its public sites.
use Rattle.std.proofs.Common.{◌≡◌, ◌≤◌, ◌<◌, ℕ, ◌+◌, Bool, true, false, List, [], ◌∷◌, ◌++◌, length, map, replicate, Option, Some, None, if◌then◌else◌, refl, sym, ◌∙◌, ap, subst, arith, length-append}
use Rattle.std.specs.Prelude.{All}
use Rattle.std.specs.List.{AllByRecursion}
use Rattle.std.proofs.lemmas.List.{map-append}
use Rattle.std.proofs.lemmas.List.Elements.{All-from_recursion}
use Rattle.ctw_ops.specs.declared.types.Label.{Label}
use Rattle.ctw_ops.specs.Plain.{IsPlainModule}
use Rattle.ctw_ops.specs.Valid.{IsValid}
use Rattle.ctw_ops.specs.Tree.{Module}
use Rattle.ctw_labels.specs.declared.tag.Tag.{Tag}
use Rattle.ctw_labels.specs.declared.tag.Tag.TheVariants.{At, Fixed}
use Rattle.ctw_labels.specs.declared.name.SiteName.{SiteName}
use Rattle.ctw_labels.specs.declared.name.SiteName.TheVariants.{Push as PushOf}
use Rattle.ctw_labels.specs.Names.{Site}
use Rattle.ctw_labels.specs.Points.{Points, no_points, is_released}
use Rattle.ctw_labels.specs.Links.{Fact, Link, Must, fact_links, fact_musts, links_of, musts_of, links_up}
use Rattle.ctw_labels.specs.Fits.{must_of}
use Rattle.ctw_labels.specs.ModuleLinks.{element_users, users, user_facts, init_facts, offset_facts, offsets, lifts_within, module_facts, links, musts, yield_link, yield_links}
use Rattle.ctw_labels.specs.SitedModule.{first_defined_global, sited_functions, sited_globals, bodies, sites}
use Rattle.ctw_labels.proofs.NumberLaws.{all_append_to}
use Rattle.ctw_labels.proofs.SiteLaws.{sites_yield}
use Rattle.ctw_links.specs.Collected.{triple, triples, must_at, with_musts, TagIn, FactIn}
use Rattle.ctw_links.proofs.BodyFacts.{all_facts, all_users}
use Rattle.ctw_links.proofs.MustLaws.{MustIn, musts_law}
use Rattle.ctw_links.proofs.ModuleWithin.{all_facts_in, all_yields}
use Rattle.ctw_links.proofs.Within.{FactsIn, YieldIn, YieldsIn}

module _ (N : ℕ) where
  abbrev LinkIn : Link → Type 0
  LinkIn k = (k.from < N) × (k.to < N)

  fact_in : (q : Fact Tag) → FactIn N q → AllByRecursion LinkIn (fact_links q.rule q.left q.right)
  fact_in q h = by_tags q.left q.right h.0 h.1
    where
      by_tags : (a b : Tag) → TagIn N a → TagIn N b → AllByRecursion LinkIn (fact_links q.rule a b)
      by_tags (At a) (At b) h k = ((h, k), ((k, h), tt))
      by_tags (At a) Fixed h k = tt
      by_tags Fixed b h k = tt

  facts_in : (qs : List (Fact Tag)) → FactsIn N qs → AllByRecursion LinkIn (links_of qs)
  facts_in [] h = tt
  facts_in (q ∷ qs) h = all_append_to LinkIn (fact_links q.rule q.left q.right) (links_of qs) (fact_in q h.0) (facts_in qs h.1)

  must_in : (q : Fact Tag) → FactIn N q → AllByRecursion (MustIn N) (fact_musts q.rule q.left q.right)
  must_in q h = by_tags q.left q.right h.0 h.1
    where
      by_tags : (a b : Tag) → TagIn N a → TagIn N b → AllByRecursion (MustIn N) (fact_musts q.rule a b)
      by_tags (At a) (At b) i k = tt
      by_tags (At a) Fixed i k = ((i, h.2), tt)
      by_tags Fixed (At b) i k = ((k, h.2), tt)
      by_tags Fixed Fixed i k = tt

  pub musts_in : (qs : List (Fact Tag)) → FactsIn N qs → AllByRecursion (MustIn N) (musts_of qs)
  musts_in [] h = tt
  musts_in (q ∷ qs) h = all_append_to (MustIn N) (fact_musts q.rule q.left q.right) (musts_of qs) (must_in q h.0) (musts_in qs h.1)

  one_yield : (p : Points) (n : ℕ) (s : Site) → n < N → YieldIn N s → AllByRecursion LinkIn (yield_link p n s.name s.yields)
  one_yield p n s lt h = by_name s.name s.yields h
    where
      by_test : (b : Bool) (y : ℕ) → y < N → AllByRecursion LinkIn (if b then [] else record { from = y; to = n; rule = 1 } ∷ [])
      by_test true y k = tt
      by_test false y k = ((k, lt), tt)

      by_name : (name : SiteName) (y : Option ℕ) → YieldIn N (record { name = name; yields = y }) → AllByRecursion LinkIn (yield_link p n name y)
      by_name (PushOf f at) (Some y) k = by_test (is_released p f at) y k
      by_name (PushOf f at) None k = tt
      by_name _ y k = tt

  yields_in : (p : Points) (n : ℕ) (ss : List Site) → n + length ss ≤ N → YieldsIn N ss → AllByRecursion LinkIn (yield_links p n ss)
  yields_in p n [] le h = tt
  yields_in p n (s ∷ ss) le h =
      all_append_to LinkIn (yield_link p n s.name s.yields) (yield_links p (n + 1) ss) (one_yield p n s (omega (arith, le)) h.0) (yields_in p (n + 1) ss (omega (arith, le)) h.1)

  triples_in : (ks : List Link) → AllByRecursion LinkIn ks → AllByRecursion (λ l. (l.0 < N) × (l.1 < N)) (triples ks)
  triples_in [] h = tt
  triples_in (k ∷ ks) h = (h.0, triples_in ks h.1)

module _ (m : Module Label) (pl : IsPlainModule m) (p : Points) where
  pub facts_are : module_facts m no_points ≡ module_facts m p
  facts_are =
      let E = element_users (sited_functions m) m.elements in
      λ i. all_facts m pl p i
      ++ (user_facts (E ++ all_users m pl p i) (E ++ all_users m pl p i)
      ++ (init_facts (sited_globals m) (first_defined_global m) m.globals ++ offset_facts (sited_globals m) (offsets m)))

  pub links_are : (items ys : List (ℕ × ℕ × ℕ)) (facts : List (Fact Tag)) → items ≡ ys ++ triples (links_of facts) → ys ≡ [] ++ triples (yield_links p 0 (sites m)) → facts ≡ module_facts m no_points → items ≡ triples (links m p)
  links_are items ys facts e f g =
      e ∙ (λ i. f i ++ triples (links_of ((g ∙ facts_are) i)))
      ∙ (λ i. triples (sites_yield m pl p i) ++ triples (links_of (module_facts m p)))
      ∙ sym (map-append triple (links_up (lifts_within (bodies m p))) (links_of (module_facts m p)))

  -- the same of what is kept one after another
  pub links_kept : (ss : List Site) (none ys items : List (ℕ × ℕ × ℕ)) (facts : List (Fact Tag)) → ss ≡ sites m → none ≡ [] → ys ≡ none ++ triples (yield_links p 0 ss) → items ≡ ys ++ triples (links_of facts) → facts ≡ module_facts m no_points
      → items ≡ triples (links m p)
  links_kept ss none ys items facts s n f e g = links_are items ys facts e (f ∙ (λ i. n i ++ triples (yield_links p 0 (s i)))) g

  pub musts_are : (facts : List (Fact Tag)) → facts ≡ module_facts m no_points → musts_of facts ≡ musts m p
  musts_are facts g = ap musts_of (g ∙ facts_are)

  module _ (v : IsValid m) where
    all_links_in : AllByRecursion (LinkIn (length (sites m))) (yield_links p 0 (sites m) ++ links_of (module_facts m no_points))
    all_links_in =
        all_append_to (LinkIn (length (sites m))) (yield_links p 0 (sites m)) (links_of (module_facts m no_points))
        (yields_in (length (sites m)) p 0 (sites m) (omega arith) (all_yields m (length (sites m)) (omega arith) pl v))
        (facts_in (length (sites m)) (module_facts m no_points) (all_facts_in m (length (sites m)) (omega arith) pl v))

    -- all ends are sites
    pub links_within : (items : List (ℕ × ℕ × ℕ)) → items ≡ triples (links m p) → All (λ l. (l.0 < length (sites m)) × (l.1 < length (sites m))) items
    links_within items e =
        let same : triples (yield_links p 0 (sites m) ++ links_of (module_facts m no_points)) ≡ items =
        (λ i. triples (sites_yield m pl p i ++ links_of (facts_are i))) ∙ sym e in
        All-from_recursion (λ l. (l.0 < length (sites m)) × (l.1 < length (sites m))) items
        (subst (AllByRecursion (λ l. (l.0 < length (sites m)) × (l.1 < length (sites m)))) same (triples_in (length (sites m)) (yield_links p 0 (sites m) ++ links_of (module_facts m no_points)) all_links_in))

    -- the bytes tell the least rule of each site
    pub musts_kept : (count : ℕ) (facts : List (Fact Tag)) (items : List ℕ) → count ≡ length (sites m) → facts ≡ module_facts m no_points → items ≡ with_musts (replicate count 0) (musts_of facts)
        → (n : ℕ) → must_at items n ≡ must_of n (musts m p)
    musts_kept count facts items k g e n =
        let N : ℕ = length (sites m) in
        let inside : AllByRecursion (MustIn N) (musts m p) = subst (AllByRecursion (MustIn N)) (musts_are (module_facts m no_points) refl) (musts_in N (module_facts m no_points) (all_facts_in m N (omega arith) pl v)) in
        ap (λ z. must_at z n) (e ∙ (λ i. with_musts (replicate (k i) 0) (musts_are facts g i))) ∙ musts_law N (musts m p) inside n
