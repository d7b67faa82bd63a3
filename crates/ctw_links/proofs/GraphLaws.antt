-- The graph that links make has just these, each with its least rule.
use Rattle.std.proofs.Common.{◌≡◌, ℕ, ◌≤◌, List, [], ◌∷◌, ◌⊎◌, inl, inr, refl, ap, subst}
use Rattle.std.specs.Prelude.{◌↔◌, Contains}
use Rattle.ctw_flow.specs.declared.graph.Edge.{Edge}
use Rattle.ctw_flow.specs.Graph.{row, HasLink, IsLeastRule}
use Rattle.ctw_flow.proofs.Added.{least_rule}
use Rattle.ctw_flow.proofs.Queue.{has_cons, has_here, has_there, has_nil}
use Rattle.ctw_labels.specs.Links.{Link}
use Rattle.ctw_least.specs.Flows.{Linked, IsGraphOf}
use Rattle.ctw_links.specs.Collected.{triple, triples}

has_triple : (ks : List Link) (k : Link) → Contains ks k → Contains (triples ks) (triple k)
has_triple [] k c = absurd (has_nil k c)
has_triple (x ∷ ks) k c = go (λ d. has_triple ks k d) (has_cons x ks k c)
  where
    go : (Contains ks k → Contains (triples ks) (triple k)) → (x ≡ k) ⊎ Contains ks k → Contains (triples (x ∷ ks)) (triple k)
    go h (inl e) = subst (λ z. Contains (triples (x ∷ ks)) (triple z)) e (has_here (triple x) (triples ks))
    go h (inr d) = has_there (triple x) (triples ks) (triple k) (h d)

has_link : (ks : List Link) (a b r : ℕ) → Contains (triples ks) (a, b, r) → Contains ks (record { from = a; to = b; rule = r })
has_link [] a b r c = absurd (has_nil (a, b, r) c)
has_link (x ∷ ks) a b r c = go (λ d. has_link ks a b r d) (has_cons (triple x) (triples ks) (a, b, r) c)
  where
    here : triple x ≡ (a, b, r) → x ≡ record { from = a; to = b; rule = r }
    here e = λ i. record { from = ap (λ (z : ℕ × ℕ × ℕ). z.0) e i; to = ap (λ (z : ℕ × ℕ × ℕ). z.1) e i; rule = ap (λ (z : ℕ × ℕ × ℕ). z.2) e i }

    go : (Contains (triples ks) (a, b, r) → Contains ks (record { from = a; to = b; rule = r })) → (triple x ≡ (a, b, r)) ⊎ Contains (triples ks) (a, b, r) → Contains (x ∷ ks) (record { from = a; to = b; rule = r })
    go h (inl e) = subst (Contains (x ∷ ks)) (here e) (has_here x ks)
    go h (inr d) = has_there x ks (record { from = a; to = b; rule = r }) (h d)

pub graph_law : (ks : List Link) (g : List (List Edge)) → ((a b r : ℕ) → Contains (row g a) (record { to = b; rule = r }) ↔ IsLeastRule (triples ks) a b r) → IsGraphOf ks g
graph_law ks g h = record {
  linked = λ a b. (to_linked a b, from_linked a b);
  ruled = λ a b r c. has_link ks a b r ((h a b r).0 c).0;
  least = λ a b r q c d. ((h a b r).0 c).1 q (has_triple ks (record { from = a; to = b; rule = q }) d);
}
  where
    to_linked : (a b : ℕ) → HasLink g a b → Linked ks a b
    to_linked a b (e, c, q) = (e.rule, has_link ks a b e.rule ((h a b e.rule).0 (subst (λ z. Contains (row g a) (record { to = z; rule = e.rule })) q c)).0)

    from_linked : (a b : ℕ) → Linked ks a b → HasLink g a b
    from_linked a b (r, c) =
        let l = least_rule a b (triples ks) r (has_triple ks (record { from = a; to = b; rule = r }) c) in
        (record { to = b; rule = l.0 }, (h a b l.0).1 l.1, refl)
