-- The sites and the facts of a whole body over its opcodes.
use Rattle.std.proofs.Common.{◌≡◌, ℕ, false, [], ◌∷◌, ◌++◌, sym, ◌∙◌, ap}
use Rattle.std.proofs.lemmas.List.{append-nil}
use Rattle.ctw_ops.specs.Code.{Code, Closes, ByEnd, opcodes}
use Rattle.ctw_ops.specs.Typing.{Context}
use Rattle.ctw_stack.specs.Operands.{fresh}
use Rattle.ctw_labels.specs.Names.{Tag}
use Rattle.ctw_labels.specs.Numbering.{BodyPlace, number}
use Rattle.ctw_labels.specs.Links.{facts, facts_of_end, ending}
use Rattle.ctw_stack.specs.Opens.{opened}
use Rattle.ctw_labels.specs.FlatSites.{among, flat_sites, flat_facts}
use Rattle.ctw_labels.proofs.FlatSiteLaws as site_laws
use Rattle.ctw_labels.proofs.FlatFactLaws as fact_laws

own_labels : (C : Context Tag) → C.labels ≡ C.result ∷ [] → among C (opened false C.result ∷ []) ≡ C
own_labels C e = λ i. record C { labels = sym e i }

module _ {A : Type 0} (P : BodyPlace A) (C : Context Tag) (own : C.labels ≡ C.result ∷ []) (code : Code A) (n : ℕ) where
  pub body_sites_flat : flat_sites P C (opcodes code) (opened false C.result ∷ []) n 0 ≡ (number P C code n 0 fresh).sites
  body_sites_flat =
      site_laws.flat_law P C code (Closes ByEnd ∷ []) (opened false C.result) [] n 0
      ∙ append-nil (number P (among C (opened false C.result ∷ [])) code n 0 fresh).sites
      ∙ ap (λ z. (number P z code n 0 fresh).sites) (own_labels C own)

  pub body_facts_flat : flat_facts P C (opcodes code) (opened false C.result ∷ []) n 0 ≡ facts C (number P C code n 0 fresh).code fresh ++ facts_of_end C.result (ending C (number P C code n 0 fresh).code fresh)
  body_facts_flat =
      let D : Context Tag = among C (opened false C.result ∷ []) in
      fact_laws.flat_law P C code (Closes ByEnd ∷ []) (opened false C.result) [] n 0
      ∙ ap (λ z. facts D (number P D code n 0 fresh).code fresh ++ z) (append-nil (facts_of_end C.result (number P D code n 0 fresh).last))
      ∙ ap (λ z. facts D (number P D code n 0 fresh).code fresh ++ facts_of_end C.result z) (sym (fact_laws.number_ending P D code n 0 fresh))
      ∙ ap (λ z. facts z (number P z code n 0 fresh).code fresh ++ facts_of_end C.result (ending z (number P z code n 0 fresh).code fresh)) (own_labels C own)
