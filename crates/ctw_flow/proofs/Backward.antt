-- Paths read from their end, as the search finds them, and their order.
use Rattle.std.proofs.Common.{◌≡◌, ℕ, suc, ◌<◌, ◌≤◌, List, [], ◌∷◌, ◌++◌, length, refl, sym, ◌∙◌, ap, subst, ◌⊎◌, inl, inr, arith, append_assoc}
use Rattle.std.specs.Prelude.{Contains, reverse}
use Rattle.std.proofs.lemmas.List.{reverse-append, length-reverse, reverse-reverse}
use Rattle.ctw_flow.specs.declared.graph.Edge.{Edge}
use Rattle.ctw_flow.specs.Graph.{row, HasLink}
use Rattle.ctw_flow.specs.Path.{IsPath, BeginsIn, EndsIn, Leads, AreRules, ComesBefore}
use Rattle.ctw_flow.proofs.Queue.{has_cons, has_nil, has_here}

-- nodes from the last to the first: each but the first has a link from the next, and the first is a start
abbrev pub IsTrail : List (List Edge) → List ℕ → List ℕ → Type 0
IsTrail g starts [] = ⊥
IsTrail g starts (x ∷ []) = Contains starts x
IsTrail g starts (x ∷ y ∷ t) = HasLink g y x × IsTrail g starts (y ∷ t)

-- of two trails, the one that is shorter, or whose first node is less, or next ones
abbrev pub Less : List ℕ → List ℕ → Type 0
Less xs [] = ⊥
Less [] (y ∷ ys) = Unit {0}
Less (x ∷ xs) (y ∷ ys) = Less xs ys ⊎ ((xs ≡ ys) × (x < y))

-- of two trails, the one isn't after the other
abbrev pub NotAfter : List ℕ → List ℕ → Type 0
NotAfter t u = (t ≡ u) ⊎ Less t u

-- each link of a trail has its rule
abbrev pub AreRulesBack : List (List Edge) → List ℕ → List ℕ → Type 0
AreRulesBack g (x ∷ y ∷ t) (r ∷ rs) = Contains (row g y) (record { to = x; rule = r }) × AreRulesBack g (y ∷ t) rs
AreRulesBack g (x ∷ []) [] = Unit {0}
AreRulesBack g _ _ = ⊥

pub turned : (x : ℕ) (t : List ℕ) → reverse (x ∷ t) ≡ reverse t ++ x ∷ []
turned x t = reverse-append (x ∷ []) t

-- a path with one node more at its end
path_push : (g : List (List Edge)) (x y : ℕ) (p : List ℕ) → IsPath g p → EndsIn (y ∷ []) p → HasLink g y x → IsPath g (p ++ x ∷ [])
path_push g x y [] h e l = absurd h
path_push g x y (a ∷ []) h e l = go (has_cons y [] a e)
  where
    go : (y ≡ a) ⊎ Contains [] a → HasLink g a x × Unit {0}
    go (inl w) = (subst (λ z. HasLink g z x) w l, tt)
    go (inr k) = absurd (has_nil a k)
path_push g x y (a ∷ b ∷ t) h e l = (h.0, path_push g x y (b ∷ t) h.1 e l)

begins_push : (starts : List ℕ) (p q : List ℕ) → BeginsIn starts p → BeginsIn starts (p ++ q)
begins_push starts [] q h = absurd h
begins_push starts (x ∷ t) q h = h

ends_push : (goals : List ℕ) (x : ℕ) (p : List ℕ) → Contains goals x → EndsIn goals (p ++ x ∷ [])
ends_push goals x [] h = h
ends_push goals x (a ∷ []) h = h
ends_push goals x (a ∷ b ∷ t) h = ends_push goals x (b ∷ t) h

-- a trail to a goal, read forward
pub path_of : (g : List (List Edge)) (starts goals : List ℕ) (x : ℕ) (t : List ℕ) → IsTrail g starts (x ∷ t) → Contains goals x → Leads g starts goals (reverse (x ∷ t))
path_of g starts goals x [] h c = (tt, h, c)
path_of g starts goals x (y ∷ t) h c =
    let r = path_of g starts (y ∷ []) y t h.1 (has_here y []) in
    subst (Leads g starts goals) (sym (turned x (y ∷ t)))
    (path_push g x y (reverse (y ∷ t)) r.0 r.2 h.0, begins_push starts (reverse (y ∷ t)) (x ∷ []) r.1, ends_push goals x (reverse (y ∷ t)) c)

-- a path that goes on from where a trail ends
trail_on : (g : List (List Edge)) (starts : List ℕ) (x : ℕ) (p t : List ℕ) → IsPath g (x ∷ p) → IsTrail g starts (x ∷ t) → IsTrail g starts (reverse p ++ x ∷ t)
trail_on g starts x [] t h k = k
trail_on g starts x (y ∷ p) t h k =
    subst (IsTrail g starts) (sym (ap (λ z. z ++ x ∷ t) (turned y p) ∙ append_assoc (reverse p) (y ∷ []) (x ∷ t)))
    (trail_on g starts y p (x ∷ t) h.1 (h.0, k))

-- the last node of a path that ends at a goal
last_of : (goals p : List ℕ) → EndsIn goals p → (x : ℕ) × (t : List ℕ) × (reverse p ≡ x ∷ t) × Contains goals x
last_of goals [] h = absurd h
last_of goals (a ∷ []) h = (a, [], refl, h)
last_of goals (a ∷ b ∷ t) h = let r = last_of goals (b ∷ t) h in (r.0, r.1 ++ a ∷ [], turned a (b ∷ t) ∙ ap (λ z. z ++ a ∷ []) r.2, r.3)

-- a path from a start to a goal, read from its end
pub trail_of : (g : List (List Edge)) (starts goals p : List ℕ) → Leads g starts goals p → (x : ℕ) × (t : List ℕ) × (reverse p ≡ x ∷ t) × IsTrail g starts (x ∷ t) × Contains goals x
trail_of g starts goals [] h = absurd h.0
trail_of g starts goals (a ∷ p) h =
    let r = last_of goals (a ∷ p) h.2 in
    (r.0, r.1, r.2, subst (IsTrail g starts) (sym (turned a p) ∙ r.2) (trail_on g starts a p [] h.0 h.1), r.3)

-- the rules of a path, read from their end
rules_push : (g : List (List Edge)) (x y r : ℕ) (p rs : List ℕ) → AreRules g p rs → EndsIn (y ∷ []) p → Contains (row g y) (record { to = x; rule = r }) → AreRules g (p ++ x ∷ []) (rs ++ r ∷ [])
rules_push g x y r [] rs h e l = absurd h
rules_push g x y r (a ∷ []) (k ∷ rs) h e l = absurd h
rules_push g x y r (a ∷ []) [] h e l = go (has_cons y [] a e)
  where
    go : (y ≡ a) ⊎ Contains [] a → Contains (row g a) (record { to = x; rule = r }) × Unit {0}
    go (inl w) = (subst (λ z. Contains (row g z) (record { to = x; rule = r })) w l, tt)
    go (inr k) = absurd (has_nil a k)
rules_push g x y r (a ∷ b ∷ t) [] h e l = absurd h
rules_push g x y r (a ∷ b ∷ t) (k ∷ rs) h e l = (h.0, rules_push g x y r (b ∷ t) rs h.1 e l)

rules_turned : (g : List (List Edge)) (t rs : List ℕ) → AreRulesBack g t rs → AreRules g (reverse t) (reverse rs)
rules_turned g [] rs h = absurd h
rules_turned g (x ∷ []) [] h = tt
rules_turned g (x ∷ []) (r ∷ rs) h = absurd h
rules_turned g (x ∷ y ∷ t) [] h = absurd h
rules_turned g (x ∷ y ∷ t) (r ∷ rs) h =
    subst (λ z. AreRules g z (reverse (r ∷ rs))) (sym (turned x (y ∷ t)))
    (subst (AreRules g (reverse (y ∷ t) ++ x ∷ [])) (sym (turned r rs))
    (rules_push g x y r (reverse (y ∷ t)) (reverse rs) (rules_turned g (y ∷ t) rs h.1) (subst (EndsIn (y ∷ [])) (sym (turned y t)) (ends_push (y ∷ []) y (reverse t) (has_here y []))) h.0))

pub rules_of : (g : List (List Edge)) (nodes rules : List ℕ) → AreRulesBack g (reverse nodes) (reverse rules) → AreRules g nodes rules
rules_of g nodes rules h =
    subst (λ z. AreRules g z rules) (reverse-reverse nodes)
    (subst (AreRules g (reverse (reverse nodes))) (reverse-reverse rules) (rules_turned g (reverse nodes) (reverse rules) h))

-- the order on trails is that on paths
before_longer : (a b : List ℕ) (x y : ℕ) → length a ≡ length b → ComesBefore a b → ComesBefore (a ++ x ∷ []) (b ++ y ∷ [])
before_longer a [] x y l h = absurd h
before_longer [] (q ∷ b) x y l h = absurd (omega arith)
before_longer (p ∷ a) (q ∷ b) x y l (inl h) = inl h
before_longer (p ∷ a) (q ∷ b) x y l (inr h) = inr (h.0, before_longer a b x y (omega arith) h.1)

before_last : (a : List ℕ) (x y : ℕ) → x < y → ComesBefore (a ++ x ∷ []) (a ++ y ∷ [])
before_last [] x y h = inl h
before_last (p ∷ a) x y h = inr (refl, before_last a x y h)

less_before : (t u : List ℕ) → Less t u → (length t < length u) ⊎ ((length t ≡ length u) × ComesBefore (reverse t) (reverse u))
less_before t [] h = absurd h
less_before [] (y ∷ u) h = inl (omega arith)
less_before (x ∷ t) (y ∷ u) (inl h) = go (less_before t u h)
  where
    go : (length t < length u) ⊎ ((length t ≡ length u) × ComesBefore (reverse t) (reverse u)) → (length (x ∷ t) < length (y ∷ u)) ⊎ ((length (x ∷ t) ≡ length (y ∷ u)) × ComesBefore (reverse (x ∷ t)) (reverse (y ∷ u)))
    go (inl k) = inl (omega arith)
    go (inr k) =
        let l : length (reverse t) ≡ length (reverse u) = length-reverse t ∙ k.0 ∙ sym (length-reverse u) in
        inr (ap suc k.0, subst (λ z. ComesBefore z (reverse (y ∷ u))) (sym (turned x t)) (subst (ComesBefore (reverse t ++ x ∷ [])) (sym (turned y u)) (before_longer (reverse t) (reverse u) x y l k.1)))
less_before (x ∷ t) (y ∷ u) (inr h) =
    inr (ap (λ z. suc (length z)) h.0, subst (λ z. ComesBefore z (reverse (y ∷ u))) (sym (turned x t)) (subst (ComesBefore (reverse t ++ x ∷ [])) (sym (turned y u)) (subst (λ z. ComesBefore (reverse t ++ x ∷ []) (reverse z ++ y ∷ [])) h.0 (before_last (reverse t) x y h.1))))

-- a path that isn't after another as a trail: it isn't longer
pub not_after_shorter : (p q : List ℕ) → NotAfter (reverse p) (reverse q) → length p ≤ length q
not_after_shorter p q n = go n
  where
    a : length (reverse p) ≡ length p
    a = length-reverse p

    b : length (reverse q) ≡ length q
    b = length-reverse q

    go : NotAfter (reverse p) (reverse q) → length p ≤ length q
    go (inl e) = let c = ap length e in let d = a in let f = b in omega arith
    go (inr h) = by_length (less_before (reverse p) (reverse q) h)
      where
        by_length : (length (reverse p) < length (reverse q)) ⊎ ((length (reverse p) ≡ length (reverse q)) × ComesBefore (reverse (reverse p)) (reverse (reverse q))) → length p ≤ length q
        by_length (inl k) = let d = a in let f = b in omega arith
        by_length (inr k) = let c = k.0 in let d = a in let f = b in omega arith

-- and of those of its length it comes first
pub not_after_least : (p q : List ℕ) → NotAfter (reverse p) (reverse q) → length q ≡ length p → (p ≡ q) ⊎ ComesBefore p q
not_after_least p q n l = go n
  where
    a : length (reverse p) ≡ length p
    a = length-reverse p

    b : length (reverse q) ≡ length q
    b = length-reverse q

    go : NotAfter (reverse p) (reverse q) → (p ≡ q) ⊎ ComesBefore p q
    go (inl e) = inl (sym (reverse-reverse p) ∙ ap reverse e ∙ reverse-reverse q)
    go (inr h) = by_length (less_before (reverse p) (reverse q) h)
      where
        by_length : (length (reverse p) < length (reverse q)) ⊎ ((length (reverse p) ≡ length (reverse q)) × ComesBefore (reverse (reverse p)) (reverse (reverse q))) → (p ≡ q) ⊎ ComesBefore p q
        by_length (inl k) = let d = a in let f = b in absurd (omega arith)
        by_length (inr k) = inr (subst (λ z. ComesBefore z q) (reverse-reverse p) (subst (ComesBefore (reverse (reverse p))) (reverse-reverse q) k.1))
