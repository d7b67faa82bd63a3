-- A graph to which links are added one after another has just these, each with its least rule.
use Rattle.std.proofs.Common.{◌≡◌, ℕ, zero, suc, ◌<◌, ◌≤◌, Bool, true, false, cond, List, [], ◌∷◌, length, set, replicate, refl, sym, ◌∙◌, ap, subst, ◌⊎◌, inl, inr, arith, ltb, get_or-set_other, get_or-set_same}
use Rattle.std.specs.Prelude.{◌↔◌, Contains, All, fold}
use Rattle.std.proofs.lemmas.Bool.{ltb-true, ltb-false, cases_lt}
use Rattle.std.proofs.lemmas.List.{length-set, length-replicate}
use Rattle.std.proofs.lemmas.List.Elements.{All-contains, All-head, All-tail}
use Rattle.ctw_flow.specs.declared.graph.Edge.{Edge}
use Rattle.ctw_flow.specs.Graph.{row, with_link, with_added, graph_of, IsLeastRule, IsRising, IsGraph}
use Rattle.ctw_flow.proofs.Queue.{has_cons, has_here, has_there, has_nil}
use Rattle.ctw_flow.proofs.Rows.{new, case_less, case_same, case_more, Place, less, same, more, place, graph_with}
use Rattle.ctw_flow.proofs.Packed.{none_graph}

abbrev Linked : List (ℕ × ℕ × ℕ) → ℕ → ℕ → ℕ → Type 0
Linked ls a b r = Contains ls (a, b, r)

-- the graph has just the links, each with its least rule
abbrev pub IsRuledBy : List (ℕ × ℕ × ℕ) → List (List Edge) → Type 0
IsRuledBy ls g = (a b r : ℕ) → Contains (row g a) (record { to = b; rule = r }) ↔ IsLeastRule ls a b r

same_or_not : (a b : ℕ) → (a ≡ b) ⊎ (a ≡ b → ⊥)
same_or_not a b = go (cases_lt a b) (cases_lt b a)
  where
    go : (a < b) ⊎ (b ≤ a) → (b < a) ⊎ (a ≤ b) → (a ≡ b) ⊎ (a ≡ b → ⊥)
    go (inl l) k = inr (λ e. omega arith)
    go (inr l) (inl k) = inr (λ e. omega arith)
    go (inr l) (inr k) = inl (omega arith)

module _ (a b : ℕ) where
  least_in : (ls : List (ℕ × ℕ × ℕ)) → ((r : ℕ) → Linked ls a b r → ⊥) ⊎ ((q : ℕ) × IsLeastRule ls a b q)
  least_in [] = inl (λ r c. has_nil ((a, b, r)) c)
  least_in (k ∷ ks) = go (same_or_not k.0 a) (same_or_not k.1 b) (least_in ks)
    where
      other : (k.0 ≡ a → ⊥) ⊎ (k.1 ≡ b → ⊥) → (r : ℕ) → Linked (k ∷ ks) a b r → Linked ks a b r
      other n r c = pick (has_cons k ks ((a, b, r)) c) n
        where
          pick : (k ≡ (a, b, r)) ⊎ Linked ks a b r → (k.0 ≡ a → ⊥) ⊎ (k.1 ≡ b → ⊥) → Linked ks a b r
          pick (inr d) n = d
          pick (inl e) (inl n) = absurd (n (ap (λ (z : ℕ × ℕ × ℕ). z.0) e))
          pick (inl e) (inr n) = absurd (n (ap (λ (z : ℕ × ℕ × ℕ). z.1) e))

      skip : (k.0 ≡ a → ⊥) ⊎ (k.1 ≡ b → ⊥) → ((r : ℕ) → Linked ks a b r → ⊥) ⊎ ((q : ℕ) × IsLeastRule ks a b q) → ((r : ℕ) → Linked (k ∷ ks) a b r → ⊥) ⊎ ((q : ℕ) × IsLeastRule (k ∷ ks) a b q)
      skip n (inl f) = inl (λ r c. f r (other n r c))
      skip n (inr f) = inr (f.0, (has_there k ks ((a, b, f.0)) f.1.0, (λ q c. f.1.1 q (other n q c))))

      here : k.0 ≡ a → k.1 ≡ b → Linked (k ∷ ks) a b k.2
      here e f = subst (Contains (k ∷ ks)) (λ i. (e i, f i, k.2)) (has_here k ks)

      rule_of : (q : ℕ) → Linked (k ∷ ks) a b q → (k.2 ≡ q) ⊎ Linked ks a b q
      rule_of q c = pick (has_cons k ks ((a, b, q)) c)
        where
          pick : (k ≡ (a, b, q)) ⊎ Linked ks a b q → (k.2 ≡ q) ⊎ Linked ks a b q
          pick (inl e) = inl (ap (λ (z : ℕ × ℕ × ℕ). z.2) e)
          pick (inr d) = inr d

      take_new : k.0 ≡ a → k.1 ≡ b → ((q : ℕ) → Linked ks a b q → k.2 ≤ q) → (q : ℕ) × IsLeastRule (k ∷ ks) a b q
      take_new e f h = (k.2, (here e f, (λ q c. pick q (rule_of q c))))
        where
          pick : (q : ℕ) → (k.2 ≡ q) ⊎ Linked ks a b q → k.2 ≤ q
          pick q (inl e) = omega arith
          pick q (inr d) = h q d

      take_old : (p : ℕ) → IsLeastRule ks a b p → p ≤ k.2 → (q : ℕ) × IsLeastRule (k ∷ ks) a b q
      take_old p l h = (p, (has_there k ks ((a, b, p)) l.0, (λ q c. pick q (rule_of q c))))
        where
          pick : (q : ℕ) → (k.2 ≡ q) ⊎ Linked ks a b q → p ≤ q
          pick q (inl e) = omega arith
          pick q (inr d) = l.1 q d

      go : (k.0 ≡ a) ⊎ (k.0 ≡ a → ⊥) → (k.1 ≡ b) ⊎ (k.1 ≡ b → ⊥) → ((r : ℕ) → Linked ks a b r → ⊥) ⊎ ((q : ℕ) × IsLeastRule ks a b q) → ((r : ℕ) → Linked (k ∷ ks) a b r → ⊥) ⊎ ((q : ℕ) × IsLeastRule (k ∷ ks) a b q)
      go (inr n) f r = skip (inl n) r
      go (inl e) (inr n) r = skip (inr n) r
      go (inl e) (inl f) (inl n) = inr (take_new e f (λ q c. absurd (n q c)))
      go (inl e) (inl f) (inr l) = by_size (cases_lt l.0 k.2)
        where
          by_size : (l.0 < k.2) ⊎ (k.2 ≤ l.0) → ((r : ℕ) → Linked (k ∷ ks) a b r → ⊥) ⊎ ((q : ℕ) × IsLeastRule (k ∷ ks) a b q)
          by_size (inl s) = inr (take_old l.0 l.1 (omega arith))
          by_size (inr s) = inr (take_new e f (λ q c. let d = l.1.1 q c in omega arith))

  pub least_rule : (ls : List (ℕ × ℕ × ℕ)) (r : ℕ) → Linked ls a b r → (q : ℕ) × IsLeastRule ls a b q
  least_rule ls r c = go (least_in ls)
    where
      go : ((r : ℕ) → Linked ls a b r → ⊥) ⊎ ((q : ℕ) × IsLeastRule ls a b q) → (q : ℕ) × IsLeastRule ls a b q
      go (inl n) = absurd (n r c)
      go (inr q) = q

-- targets of a rising row aren't below its first one
not_below : (e : Edge) (es : List Edge) → IsRising (e ∷ es) → (b q : ℕ) → Contains es (record { to = b; rule = q }) → e.to < b
not_below e es h b q c = All-contains (λ f. e.to < f.to) es (record { to = b; rule = q }) h.0 c

module _ (t r : ℕ) where
  abbrev IsIn : List Edge → ℕ → ℕ → Type 0
  IsIn xs b q = (Contains xs (record { to = b; rule = q }) × (b ≡ t → q ≤ r)) ⊎ ((b ≡ t) × (q ≡ r) × ((p : ℕ) → Contains xs (record { to = t; rule = p }) → r ≤ p))

  to_of : (e : Edge) (b q : ℕ) → e ≡ record { to = b; rule = q } → (e.to ≡ b) × (e.rule ≡ q)
  to_of e b q k = (ap (λ z. z.to) k, ap (λ z. z.rule) k)

  -- what a row with the link has
  has_from : (xs : List Edge) → IsRising xs → (b q : ℕ) → Contains (with_link t r xs) (record { to = b; rule = q }) → IsIn xs b q
  has_from [] h b q c = go (has_cons (new t r) [] (record { to = b; rule = q }) c)
    where
      go : (new t r ≡ record { to = b; rule = q }) ⊎ Contains {X = Edge} [] (record { to = b; rule = q }) → IsIn [] b q
      go (inl k) = inr (sym (ap (λ z. z.to) k), sym (ap (λ z. z.rule) k), (λ p d. absurd (has_nil (record { to = t; rule = p }) d)))
      go (inr d) = absurd (has_nil (record { to = b; rule = q }) d)
  has_from (e ∷ es) h b q c = by_place (place t e) c (has_from es h.1 b q)
    where
      tail_not : (p : ℕ) → t ≤ e.to → Contains es (record { to = t; rule = p }) → ⊥
      tail_not p l d = let m = not_below e es h t p d in omega arith

      head_or : (p : ℕ) → Contains (e ∷ es) (record { to = t; rule = p }) → t ≤ e.to → (e.to ≡ t) × (e.rule ≡ p)
      head_or p d l = go (has_cons e es (record { to = t; rule = p }) d)
        where
          go : (e ≡ record { to = t; rule = p }) ⊎ Contains es (record { to = t; rule = p }) → (e.to ≡ t) × (e.rule ≡ p)
          go (inl k) = to_of e t p k
          go (inr d) = absurd (tail_not p l d)

      at_new : (xs : List Edge) → new t r ≡ record { to = b; rule = q } → ((p : ℕ) → Contains (e ∷ es) (record { to = t; rule = p }) → r ≤ p) → IsIn (e ∷ es) b q
      at_new xs k f = inr (sym (ap (λ z. z.to) k), sym (ap (λ z. z.rule) k), f)

      on_less : t < e.to → Contains (new t r ∷ e ∷ es) (record { to = b; rule = q }) → IsIn (e ∷ es) b q
      on_less l c = go (has_cons (new t r) (e ∷ es) (record { to = b; rule = q }) c)
        where
          go : (new t r ≡ record { to = b; rule = q }) ⊎ Contains (e ∷ es) (record { to = b; rule = q }) → IsIn (e ∷ es) b q
          go (inl k) = at_new es k (λ p d. let m = (head_or p d (omega arith)).0 in absurd (omega arith))
          go (inr d) = inl (d, (λ k. let m = (head_or q (subst (λ z. Contains (e ∷ es) (record { to = z; rule = q })) k d) (omega arith)).0 in absurd (omega arith)))

      on_same : t ≡ e.to → (v : Bool) → ltb r e.rule ≡ v → Contains (cond v (new t r ∷ es) (e ∷ es)) (record { to = b; rule = q }) → IsIn (e ∷ es) b q
      on_same k true w c = go (has_cons (new t r) es (record { to = b; rule = q }) c)
        where
          go : (new t r ≡ record { to = b; rule = q }) ⊎ Contains es (record { to = b; rule = q }) → IsIn (e ∷ es) b q
          go (inl i) = at_new es i (λ p d. let m = (head_or p d (omega arith)).1 in let n = ltb-true r e.rule w in omega arith)
          go (inr d) = inl (has_there e es (record { to = b; rule = q }) d, (λ i. absurd (tail_not q (omega arith) (subst (λ z. Contains es (record { to = z; rule = q })) i d))))
      on_same k false w c = inl (c, (λ i. let m = (head_or q (subst (λ z. Contains (e ∷ es) (record { to = z; rule = q })) i c) (omega arith)).1 in let n = ltb-false r e.rule w in omega arith))

      on_more : e.to < t → Contains (e ∷ with_link t r es) (record { to = b; rule = q }) → (Contains (with_link t r es) (record { to = b; rule = q }) → IsIn es b q) → IsIn (e ∷ es) b q
      on_more l c f = go (has_cons e (with_link t r es) (record { to = b; rule = q }) c)
        where
          lift : IsIn es b q → IsIn (e ∷ es) b q
          lift (inl d) = inl (has_there e es (record { to = b; rule = q }) d.0, d.1)
          lift (inr d) = inr (d.0, d.1, (λ p c. pick p (has_cons e es (record { to = t; rule = p }) c)))
            where
              pick : (p : ℕ) → (e ≡ record { to = t; rule = p }) ⊎ Contains es (record { to = t; rule = p }) → r ≤ p
              pick p (inl k) = let m = (to_of e t p k).0 in absurd (omega arith)
              pick p (inr c) = d.2 p c

          go : (e ≡ record { to = b; rule = q }) ⊎ Contains (with_link t r es) (record { to = b; rule = q }) → IsIn (e ∷ es) b q
          go (inl k) = inl (subst (Contains (e ∷ es)) k (has_here e es), (λ i. let m = (to_of e b q k).0 in absurd (omega arith)))
          go (inr d) = lift (f d)

      by_place : Place t e → Contains (with_link t r (e ∷ es)) (record { to = b; rule = q }) → (Contains (with_link t r es) (record { to = b; rule = q }) → IsIn es b q) → IsIn (e ∷ es) b q
      by_place (less l) c f = on_less l (subst (λ z. Contains z (record { to = b; rule = q })) (case_less t r e es l) c)
      by_place (same k) c f = on_same k (ltb r e.rule) refl (subst (λ z. Contains z (record { to = b; rule = q })) (case_same t r e es k) c)
      by_place (more l) c f = on_more l (subst (λ z. Contains z (record { to = b; rule = q })) (case_more t r e es l) c) f

  has_old : (xs : List Edge) → IsRising xs → (b q : ℕ) → Contains xs (record { to = b; rule = q }) → (b ≡ t → q ≤ r) → Contains (with_link t r xs) (record { to = b; rule = q })
  has_old [] h b q c f = absurd (has_nil (record { to = b; rule = q }) c)
  has_old (e ∷ es) h b q c f = by_place (place t e) (λ d. has_old es h.1 b q d f)
    where
      on_same : t ≡ e.to → (v : Bool) → ltb r e.rule ≡ v → (e ≡ record { to = b; rule = q }) ⊎ Contains es (record { to = b; rule = q }) → Contains (cond v (new t r ∷ es) (e ∷ es)) (record { to = b; rule = q })
      on_same k true w (inl i) = let m = to_of e b q i in let a = m.0 in let d = m.1 in let n = ltb-true r e.rule w in let g : q ≤ r = f (omega arith) in absurd (omega arith)
      on_same k true w (inr d) = has_there (new t r) es (record { to = b; rule = q }) d
      on_same k false w i = c

      on_more : (e ≡ record { to = b; rule = q }) ⊎ Contains es (record { to = b; rule = q }) → (Contains es (record { to = b; rule = q }) → Contains (with_link t r es) (record { to = b; rule = q })) → Contains (e ∷ with_link t r es) (record { to = b; rule = q })
      on_more (inl k) g = subst (Contains (e ∷ with_link t r es)) k (has_here e (with_link t r es))
      on_more (inr d) g = has_there e (with_link t r es) (record { to = b; rule = q }) (g d)

      by_place : Place t e → (Contains es (record { to = b; rule = q }) → Contains (with_link t r es) (record { to = b; rule = q })) → Contains (with_link t r (e ∷ es)) (record { to = b; rule = q })
      by_place (less l) g = subst (λ z. Contains z (record { to = b; rule = q })) (sym (case_less t r e es l)) (has_there (new t r) (e ∷ es) (record { to = b; rule = q }) c)
      by_place (same k) g = subst (λ z. Contains z (record { to = b; rule = q })) (sym (case_same t r e es k)) (on_same k (ltb r e.rule) refl (has_cons e es (record { to = b; rule = q }) c))
      by_place (more l) g = subst (λ z. Contains z (record { to = b; rule = q })) (sym (case_more t r e es l)) (on_more (has_cons e es (record { to = b; rule = q }) c) g)

  has_new : (xs : List Edge) → ((p : ℕ) → Contains xs (record { to = t; rule = p }) → r ≤ p) → Contains (with_link t r xs) (record { to = t; rule = r })
  has_new [] f = has_here (new t r) []
  has_new (e ∷ es) f = by_place (place t e) (has_new es (λ p c. f p (has_there e es (record { to = t; rule = p }) c)))
    where
      on_same : t ≡ e.to → (v : Bool) → ltb r e.rule ≡ v → Contains (cond v (new t r ∷ es) (e ∷ es)) (record { to = t; rule = r })
      on_same k true w = has_here (new t r) es
      on_same k false w =
          let m : r ≤ e.rule = f e.rule (subst (λ z. Contains (e ∷ es) (record { to = z; rule = e.rule })) (sym k) (has_here e es)) in
          let n = ltb-false r e.rule w in
          let s : e.rule ≡ r = omega arith in
          subst (Contains (e ∷ es)) (λ i. record { to = sym k i; rule = s i }) (has_here e es)

      by_place : Place t e → Contains (with_link t r es) (record { to = t; rule = r }) → Contains (with_link t r (e ∷ es)) (record { to = t; rule = r })
      by_place (less l) g = subst (λ z. Contains z (record { to = t; rule = r })) (sym (case_less t r e es l)) (has_here (new t r) (e ∷ es))
      by_place (same k) g = subst (λ z. Contains z (record { to = t; rule = r })) (sym (case_same t r e es k)) (on_same k (ltb r e.rule) refl)
      by_place (more l) g = subst (λ z. Contains z (record { to = t; rule = r })) (sym (case_more t r e es l)) (has_there e (with_link t r es) (record { to = t; rule = r }) g)

-- a graph with one link more
pub add_law : (ls : List (ℕ × ℕ × ℕ)) (g : List (List Edge)) (k : ℕ × ℕ × ℕ) → IsGraph g → k.0 < length g → IsRuledBy ls g → IsRuledBy (k ∷ ls) (set g k.0 (with_link k.1 k.2 (row g k.0)))
add_law ls g k ok l h = λ a b q. by_row (same_or_not a k.0) b q
  where
    other : (a b q : ℕ) → (a ≡ k.0 → ⊥) → Linked (k ∷ ls) a b q → Linked ls a b q
    other a b q n c = pick (has_cons k ls (a, b, q) c)
      where
        pick : (k ≡ (a, b, q)) ⊎ Linked ls a b q → Linked ls a b q
        pick (inl e) = absurd (n (sym (ap (λ (z : ℕ × ℕ × ℕ). z.0) e)))
        pick (inr d) = d

    there : (a b q : ℕ) → Linked ls a b q → Linked (k ∷ ls) a b q
    there a b q c = has_there k ls (a, b, q) c

    elsewhere : (a b q : ℕ) → (a ≡ k.0 → ⊥) → Contains (row g a) (record { to = b; rule = q }) ↔ IsLeastRule (k ∷ ls) a b q
    elsewhere a b q n = (
      (λ c. let m = (h a b q).0 c in (there a b q m.0, (λ p d. m.1 p (other a b p n d)))),
      (λ m. (h a b q).1 (other a b q n m.0, (λ p d. m.1 p (there a b p d)))),
    )

    good : IsRising (row g k.0)
    good = (ok k.0 [] l).0

    pick_rule : (b p : ℕ) → Linked (k ∷ ls) k.0 b p → ((k.1 ≡ b) × (k.2 ≡ p)) ⊎ Linked ls k.0 b p
    pick_rule b p c = pick (has_cons k ls (k.0, b, p) c)
      where
        pick : (k ≡ (k.0, b, p)) ⊎ Linked ls k.0 b p → ((k.1 ≡ b) × (k.2 ≡ p)) ⊎ Linked ls k.0 b p
        pick (inl e) = inl (ap (λ (z : ℕ × ℕ × ℕ). z.1) e, ap (λ (z : ℕ × ℕ × ℕ). z.2) e)
        pick (inr d) = inr d

    at_least : (b q : ℕ) → IsIn k.1 k.2 (row g k.0) b q → IsLeastRule (k ∷ ls) k.0 b q
    at_least b q (inl c) =
        let m = (h k.0 b q).0 c.0 in
        (there k.0 b q m.0, (λ p d. go p (pick_rule b p d) m.1))
      where
        go : (p : ℕ) → ((k.1 ≡ b) × (k.2 ≡ p)) ⊎ Linked ls k.0 b p → ((s : ℕ) → Linked ls k.0 b s → q ≤ s) → q ≤ p
        go p (inl e) f = let n = c.1 (sym e.0) in let w = e.1 in omega arith
        go p (inr d) f = f p d
    at_least b q (inr c) = (subst (Contains (k ∷ ls)) (λ i. (k.0, sym c.0 i, sym c.1 i)) (has_here k ls), (λ p d. go p (pick_rule b p d)))
      where
        go : (p : ℕ) → ((k.1 ≡ b) × (k.2 ≡ p)) ⊎ Linked ls k.0 b p → q ≤ p
        go p (inl e) = let w = e.1 in let v = c.1 in omega arith
        go p (inr d) =
            let m = least_rule k.0 b ls p d in
            let n : m.0 ≤ p = m.1.1 p d in
            let v = c.1 in
            let w : k.2 ≤ m.0 = c.2 m.0 (subst (λ z. Contains (row g k.0) (record { to = z; rule = m.0 })) c.0 ((h k.0 b m.0).1 m.1)) in
            omega arith

    from_least : (b q : ℕ) → IsLeastRule (k ∷ ls) k.0 b q → Contains (with_link k.1 k.2 (row g k.0)) (record { to = b; rule = q })
    from_least b q m = go (pick_rule b q m.0)
      where
        go : ((k.1 ≡ b) × (k.2 ≡ q)) ⊎ Linked ls k.0 b q → Contains (with_link k.1 k.2 (row g k.0)) (record { to = b; rule = q })
        go (inl e) =
            subst (Contains (with_link k.1 k.2 (row g k.0))) (λ i. record { to = e.0 i; rule = e.1 i })
            (has_new k.1 k.2 (row g k.0) (λ p c. let n = (h k.0 k.1 p).0 c in let w : q ≤ p = m.1 p (there k.0 b p (subst (λ z. Linked ls k.0 z p) e.0 n.0)) in let v = e.1 in omega arith))
        go (inr d) =
            has_old k.1 k.2 (row g k.0) good b q ((h k.0 b q).1 (d, (λ p c. m.1 p (there k.0 b p c))))
            (λ e. m.1 k.2 (subst (λ z. Linked (k ∷ ls) k.0 z k.2) (sym e) (has_here k ls)))

    by_row : {a : ℕ} → (a ≡ k.0) ⊎ (a ≡ k.0 → ⊥) → (b q : ℕ) → Contains (row (set g k.0 (with_link k.1 k.2 (row g k.0))) a) (record { to = b; rule = q }) ↔ IsLeastRule (k ∷ ls) a b q
    by_row {a = a} (inr n) b q = subst (λ z. Contains z (record { to = b; rule = q }) ↔ IsLeastRule (k ∷ ls) a b q) (sym (row_other a n)) (elsewhere a b q n)
      where
        row_other : (a : ℕ) → (a ≡ k.0 → ⊥) → row (set g k.0 (with_link k.1 k.2 (row g k.0))) a ≡ row g a
        row_other a n = get_or-set_other g k.0 a (with_link k.1 k.2 (row g k.0)) [] n
    by_row {a = a} (inl e) b q = subst (λ z. Contains (row (set g k.0 (with_link k.1 k.2 (row g k.0))) z) (record { to = b; rule = q }) ↔ IsLeastRule (k ∷ ls) z b q) (sym e)
        (subst (λ z. Contains z (record { to = b; rule = q }) ↔ IsLeastRule (k ∷ ls) k.0 b q) (sym (get_or-set_same g k.0 (with_link k.1 k.2 (row g k.0)) [] l))
        ((λ c. at_least b q (has_from k.1 k.2 (row g k.0) good b q c)), (λ m. from_least b q m)))

-- ---- all links

abbrev pub Within : ℕ → ℕ × ℕ × ℕ → Type 0
Within n l = (l.0 < n) × (l.1 < n)

pub added_long : (ls : List (ℕ × ℕ × ℕ)) (g : List (List Edge)) → length (fold with_added g ls) ≡ length g
added_long [] g = refl
added_long (k ∷ ls) g = added_long ls (with_added g k) ∙ length-set g k.0 (with_link k.1 k.2 (row g k.0))

pub added_graph : (ls : List (ℕ × ℕ × ℕ)) (g : List (List Edge)) → IsGraph g → All (Within (length g)) ls → IsGraph (fold with_added g ls)
added_graph [] g ok h = ok
added_graph (k ∷ ls) g ok h =
    let b = All-head (Within (length g)) k ls h in
    added_graph ls (with_added g k) (graph_with g k.0 k.1 k.2 ok b.0 b.1)
    (subst (λ n. All (Within n) ls) (sym (length-set g k.0 (with_link k.1 k.2 (row g k.0)))) (All-tail (Within (length g)) k ls h))

-- the first links behind the others, the last one first
onto : List (ℕ × ℕ × ℕ) → List (ℕ × ℕ × ℕ) → List (ℕ × ℕ × ℕ)
onto [] done = done
onto (k ∷ ls) done = onto ls (k ∷ done)

added_onto : (ls done : List (ℕ × ℕ × ℕ)) (g : List (List Edge)) → IsGraph g → All (Within (length g)) ls → IsRuledBy done g → IsRuledBy (onto ls done) (fold with_added g ls)
unfolding onto
added_onto [] done g ok h r = r
added_onto (k ∷ ls) done g ok h r =
    let b = All-head (Within (length g)) k ls h in
    added_onto ls (k ∷ done) (with_added g k) (graph_with g k.0 k.1 k.2 ok b.0 b.1)
    (subst (λ n. All (Within n) ls) (sym (length-set g k.0 (with_link k.1 k.2 (row g k.0)))) (All-tail (Within (length g)) k ls h))
    (add_law done g k ok b.0 r)

in_onto : (ls done : List (ℕ × ℕ × ℕ)) (x : ℕ × ℕ × ℕ) → Contains ls x ⊎ Contains done x → Contains (onto ls done) x
unfolding onto
in_onto [] done x (inl c) = absurd (has_nil x c)
in_onto [] done x (inr c) = c
in_onto (k ∷ ls) done x (inl c) = in_onto ls (k ∷ done) x (first (has_cons k ls x c))
  where
    first : (k ≡ x) ⊎ Contains ls x → Contains ls x ⊎ Contains (k ∷ done) x
    first (inl e) = inr (subst (Contains (k ∷ done)) e (has_here k done))
    first (inr c) = inl c
in_onto (k ∷ ls) done x (inr c) = in_onto ls (k ∷ done) x (inr (has_there k done x c))

of_onto : (ls done : List (ℕ × ℕ × ℕ)) (x : ℕ × ℕ × ℕ) → Contains (onto ls done) x → Contains ls x ⊎ Contains done x
unfolding onto
of_onto [] done x c = inr c
of_onto (k ∷ ls) done x c = back (of_onto ls (k ∷ done) x c)
  where
    behind : (k ≡ x) ⊎ Contains done x → Contains (k ∷ ls) x ⊎ Contains done x
    behind (inl e) = inl (subst (Contains (k ∷ ls)) e (has_here k ls))
    behind (inr d) = inr d

    back : Contains ls x ⊎ Contains (k ∷ done) x → Contains (k ∷ ls) x ⊎ Contains done x
    back (inl c) = inl (has_there k ls x c)
    back (inr c) = behind (has_cons k done x c)

none_ruled : (n : ℕ) → IsRuledBy [] (replicate n [])
none_ruled n a b r = ((λ c. absurd (has_nil (record { to = b; rule = r }) (subst (λ (es : List Edge). Contains es (record { to = b; rule = r })) (empty n a) c))), (λ m. absurd (has_nil (a, b, r) m.0)))
  where
    empty : (n a : ℕ) → row (replicate n []) a ≡ []
    empty zero a = refl
    empty (suc n) zero = refl
    empty (suc n) (suc a) = empty n a

-- the graph that links make has them, each with its least rule
pub graph_ruled : (n : ℕ) (ls : List (ℕ × ℕ × ℕ)) → All (Within n) ls → IsRuledBy ls (graph_of n ls)
graph_ruled n ls h a b r =
    let e = length-replicate {A = List Edge} n [] in
    let k = added_onto ls [] (replicate n []) (none_graph n) (subst (λ m. All (Within m) ls) (sym e) h) (none_ruled n) a b r in (
      (λ c. let m = k.0 c in (off m.0, (λ q d. m.1 q (in_onto ls [] (a, b, q) (inl d))))),
      (λ m. k.1 (in_onto ls [] (a, b, r) (inl m.0), (λ q d. m.1 q (off d)))),
    )
  where
    off : {x : ℕ × ℕ × ℕ} → Contains (onto ls []) x → Contains ls x
    off {x = x} c = one (of_onto ls [] x c)
      where
        one : Contains ls x ⊎ Contains [] x → Contains ls x
        one (inl d) = d
        one (inr d) = absurd (has_nil x d)

pub graph_long : (n : ℕ) (ls : List (ℕ × ℕ × ℕ)) → length (graph_of n ls) ≡ n
graph_long n ls = added_long ls (replicate n []) ∙ length-replicate {A = List Edge} n []

pub graph_rises : (n : ℕ) (ls : List (ℕ × ℕ × ℕ)) → All (Within n) ls → IsGraph (graph_of n ls)
graph_rises n ls h = let e = length-replicate {A = List Edge} n [] in added_graph ls (replicate n []) (none_graph n) (subst (λ m. All (Within m) ls) (sym e) h)
