-- A labelling is orderly just where each push that isn't released is secret where its yield is.
use Rattle.std.proofs.Common.{◌≡◌, ℕ, ◌+◌, List, [], ◌∷◌, length, sym, subst}
use Rattle.std.specs.Prelude.{◌↔◌}
use Rattle.std.specs.List.{AllByRecursion}
use Rattle.ctw_ops.specs.declared.types.Label.{Label}
use Rattle.ctw_ops.specs.declared.types.Label.TheVariants.{Secret}
use Rattle.ctw_ops.specs.Tree.{Module, Function, imported_functions, type_named}
use Rattle.ctw_stack.specs.Operands.{fresh}
use Rattle.ctw_labels.specs.Points.{Points, trust_at}
use Rattle.ctw_labels.specs.Numbering.{type_from, params_from}
use Rattle.ctw_labels.specs.Links.{Link, lifts, at_tag}
use Rattle.ctw_ops.specs.Plain.{IsPlainModule}
use Rattle.ctw_labels.specs.SitedModule.{site_count, site_context, place_of, body_from, bodies_from, bodies, first_defined, head_sites, sites}
use Rattle.ctw_labels.specs.ModuleLinks.{lifts_within, yield_links}
use Rattle.ctw_labels.specs.Placed.{IsOrderly}
use Rattle.ctw_labels.proofs.NumberLaws.{GoToSites, IsSite, number_goes, all_append_to}
use Rattle.ctw_labels.proofs.ObeyLaws.{lifts_to, lifts_from}
use Rattle.ctw_labels.proofs.BodyLaws.{lifts_rise, orderly_bodies}
use Rattle.ctw_labels.proofs.SiteLaws.{sites_yield}

abbrev pub Runs : (ℕ → Label) → List Link → Type 0
Runs l ks = AllByRecursion (λ k. l k.from ≡ Secret → l k.to ≡ Secret) ks

go_from : (m : Module Label) (p : Points) (q k n : ℕ) (fs : List (Function Label)) → GoToSites (lifts_within (bodies_from m p q k n fs))
go_from m p q k n [] = tt
go_from m p q k n (f ∷ fs) =
    all_append_to (λ l. IsSite l.target) (lifts (body_from m p q k n f).code) _ (number_goes (place_of m p k) (site_context m (trust_at p k) (type_from q (type_named m f.type)) (params_from n f.locals)) f.body (n + length f.locals) 0 fresh)
    (go_from m p (q + site_count (type_named m f.type)) (k + 1) (n + length (body_from m p q k n f).sites) fs)

pub orderly_by_yields : (m : Module Label) → IsPlainModule m → (p : Points) (l : ℕ → Label) → IsOrderly (at_tag l) m p ↔ Runs l (yield_links p 0 (sites m))
orderly_by_yields m pl p l = (
  (λ o. subst (Runs l) (sym (sites_yield m pl p)) (lifts_to l (lifts_within (bodies m p)) (lifts_rise l (bodies m p) o))),
  (λ h. orderly_bodies l (bodies m p) (lifts_from l (lifts_within (bodies m p)) (go_from m p (first_defined m) (length (imported_functions m.imports)) (length (head_sites m)) m.functions) (subst (Runs l) (sites_yield m pl p) h))),
)
