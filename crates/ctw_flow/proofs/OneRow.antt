-- Two rising rows with the same links are one, so a graph is known by its links.
use Rattle.std.proofs.Common.{◌≡◌, ◌<◌, List, [], ◌∷◌, refl, sym, ◌∙◌, ap, ◌⊎◌, inl, inr, arith}
use Rattle.std.specs.Prelude.{◌↔◌, Contains}
use Rattle.std.proofs.lemmas.List.Elements.{All-contains}
use Rattle.ctw_flow.specs.declared.graph.Edge.{Edge}
use Rattle.ctw_flow.specs.Graph.{IsRising}
use Rattle.ctw_flow.proofs.Queue.{has_cons, has_here, has_there, has_nil}

pub one_row : (xs ys : List Edge) → IsRising xs → IsRising ys → ((e : Edge) → Contains xs e ↔ Contains ys e) → xs ≡ ys
one_row [] [] h k f = refl
one_row [] (y ∷ ys) h k f = absurd (has_nil y ((f y).1 (has_here y ys)))
one_row (x ∷ xs) [] h k f = absurd (has_nil x ((f x).0 (has_here x xs)))
one_row (x ∷ xs) (y ∷ ys) h k f = heads (λ g. one_row xs ys h.1 k.1 g)
  where
    above : (z : Edge) (zs : List Edge) → IsRising (z ∷ zs) → (e : Edge) → Contains zs e → z.to < e.to
    above z zs r e c = All-contains (λ w. z.to < w.to) zs e r.0 c

    head : (y ≡ x) ⊎ Contains ys x → (x ≡ y) ⊎ Contains xs y → x ≡ y
    head (inl e) d = sym e
    head (inr c) (inl e) = e
    head (inr c) (inr d) = let a = above y ys k x c in let b = above x xs h y d in absurd (omega arith)

    same : x ≡ y
    same = head (has_cons y ys x ((f x).0 (has_here x xs))) (has_cons x xs y ((f y).1 (has_here y ys)))

    to : (e : Edge) → Contains xs e → Contains ys e
    to e c = go (has_cons y ys e ((f e).0 (has_there x xs e c)))
      where
        go : (y ≡ e) ⊎ Contains ys e → Contains ys e
        go (inl q) = let a = above x xs h e c in let b = ap (λ z. z.to) (same ∙ q) in absurd (omega arith)
        go (inr d) = d

    from : (e : Edge) → Contains ys e → Contains xs e
    from e c = go (has_cons x xs e ((f e).1 (has_there y ys e c)))
      where
        go : (x ≡ e) ⊎ Contains xs e → Contains xs e
        go (inl q) = let a = above y ys k e c in let b = ap (λ z. z.to) (sym same ∙ q) in absurd (omega arith)
        go (inr d) = d

    heads : (((e : Edge) → Contains xs e ↔ Contains ys e) → xs ≡ ys) → x ∷ xs ≡ y ∷ ys
    heads g = λ i. same i ∷ g (λ e. (to e, from e)) i
