-- One visit, and the state that stays.
use Rattle.std.proofs.Common.{◌≡◌, ℕ, ◌+◌, ◌<◌, Bool, true, false, cond, List, [], ◌∷◌, ◌++◌, length, get_or, set, drop, sym, ◌∙◌, ap, add-one, drop-cons}
use Rattle.ctw_flow.specs.declared.graph.Edge.{Edge}
use Rattle.ctw_flow.specs.declared.search.Entry.{Entry}
use Rattle.ctw_flow.specs.Search.{State, found_from, visit, visit_all}

pub visit_seen : (head : ℕ) (e : Edge) (seen : List Bool) (q : List Entry) → get_or seen e.to false ≡ true → visit head e (record { seen = seen; queue = q }) ≡ record { seen = seen; queue = q }
visit_seen head e seen q h = ap (λ z. cond z (record { seen = seen; queue = q }) (record { seen = set seen e.to true; queue = q ++ found_from head e ∷ [] })) h

pub visit_new : (head : ℕ) (e : Edge) (seen : List Bool) (q : List Entry) → get_or seen e.to false ≡ false → visit head e (record { seen = seen; queue = q }) ≡ record { seen = set seen e.to true; queue = q ++ found_from head e ∷ [] }
visit_new head e seen q h = ap (λ z. cond z (record { seen = seen; queue = q }) (record { seen = set seen e.to true; queue = q ++ found_from head e ∷ [] })) h

-- the state after the link at i, where the links from i on lead to S
pub visit_step : (head : ℕ) (links : List Edge) (i : ℕ) (d : Edge) (S s t : State) → i < length links → visit_all head (drop i links) s ≡ S → visit head (get_or links i d) s ≡ t → visit_all head (drop (i + 1) links) t ≡ S
visit_step head links i d S s t h e v =
    let k : visit_all head (get_or links i d ∷ drop (i + 1) links) s ≡ S = rw add-one (ap (λ z. visit_all head z s) (sym (drop-cons links i d h)) ∙ e) in
    ap (λ z. visit_all head (drop (i + 1) links) z) (sym v) ∙ k
