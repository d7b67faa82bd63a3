-- The entries of a search that is done have the least trails.
use Rattle.std.proofs.Common.{◌≡◌, ℕ, suc, zero, ◌<◌, ◌≤◌, Bool, List, [], ◌∷◌, length, refl, sym, ◌∙◌, ap, subst, ◌⊎◌, inl, inr, arith}
use Rattle.std.specs.Prelude.{Contains, ◌↔◌, reverse, ◌++◌}
use Rattle.std.proofs.Common.{append_assoc}
use Rattle.std.proofs.lemmas.List.{append-nil, reverse-reverse}
use Rattle.std.proofs.lemmas.Option.{slice_get_within}
use Rattle.std.proofs.lemmas.Bool.{cases_lt}
use Rattle.ctw_flow.specs.declared.graph.Edge.{Edge}
use Rattle.ctw_flow.specs.declared.search.Entry.{Entry}
use Rattle.ctw_flow.specs.Graph.{row}
use Rattle.ctw_flow.specs.Path.{Steps, Leads, Reached, IsLeastPath}
use Rattle.ctw_flow.specs.Search.{State, At, IsSeen, IsSearch, IsPos, IsRuled, NoneBelow}
use Rattle.ctw_flow.proofs.Queue.{one_at, lt_or_eq, has_here, has_cons, has_nil}
use Rattle.ctw_flow.proofs.Backward.{IsTrail, Less, NotAfter, AreRulesBack, path_of, trail_of, rules_of, not_after_shorter, not_after_least}

only : (n x : ℕ) → Contains (n ∷ []) x → x ≡ n
only n x c = go (has_cons n [] x c)
  where
    go : (n ≡ x) ⊎ Contains [] x → x ≡ n
    go (inl e) = sym e
    go (inr k) = absurd (has_nil x k)

less_trans : (a b c : List ℕ) → Less a b → Less b c → Less a c
less_trans a b [] p q = absurd q
less_trans [] b (z ∷ c) p q = tt
less_trans (x ∷ a) [] (z ∷ c) p q = absurd p
less_trans (x ∷ a) (y ∷ b) (z ∷ c) (inl p) (inl q) = inl (less_trans a b c p q)
less_trans (x ∷ a) (y ∷ b) (z ∷ c) (inl p) (inr q) = inl (subst (Less a) q.0 p)
less_trans (x ∷ a) (y ∷ b) (z ∷ c) (inr p) (inl q) = inl (subst (λ t. Less t c) (sym p.0) q)
less_trans (x ∷ a) (y ∷ b) (z ∷ c) (inr p) (inr q) = inr (p.0 ∙ q.0, let h = p.1 in let k = q.1 in omega arith)

less_after : (a b c : List ℕ) → Less a b → NotAfter b c → Less a c
less_after a b c p (inl e) = subst (Less a) e p
less_after a b c p (inr q) = less_trans a b c p q

module _ (q : List Entry) (roots : ℕ) where
  first_at : (i x : ℕ) (t : List ℕ) → IsPos q roots i (x ∷ t) → (e : Entry) × At q i e × (e.node ≡ x)
  first_at i x [] p = (p.0, p.1, p.2)
  first_at i x (y ∷ t) p = (p.0, p.1, p.2)

  same_place : (i j : ℕ) (t : List ℕ) → i ≡ j → IsPos q roots i t → IsPos q roots j t
  same_place i j t e p = subst (λ z. IsPos q roots z t) e p

  pub unique : (i : ℕ) (t u : List ℕ) → IsPos q roots i t → IsPos q roots i u → t ≡ u
  unique i [] u p r = absurd p
  unique i (x ∷ t) [] p r = absurd r
  unique i (x ∷ []) (y ∷ []) p r = let e : p.0 ≡ r.0 = one_at q i p.0 r.0 p.1 r.1 in ap (λ z. z ∷ []) (sym p.2 ∙ ap (λ z. z.node) e ∙ r.2)
  unique i (x ∷ []) (y ∷ z ∷ u) p r = let a = p.3 in let b = r.3 in absurd (omega arith)
  unique i (x ∷ z ∷ t) (y ∷ []) p r = let a = p.3 in let b = r.3 in absurd (omega arith)
  unique i (x ∷ w ∷ t) (y ∷ z ∷ u) p r =
      let e : p.0 ≡ r.0 = one_at q i p.0 r.0 p.1 r.1 in
      let k : w ∷ t ≡ z ∷ u = unique r.0.parent (w ∷ t) (z ∷ u) (same_place p.0.parent r.0.parent (w ∷ t) (ap (λ z. z.parent) e) p.4) r.4 in
      λ i. (sym p.2 ∙ ap (λ z. z.node) e ∙ r.2) i ∷ k i

module _ (g : List (List Edge)) (starts : List ℕ) (roots top : ℕ) (s : State) (b : IsSearch g starts roots top (length s.queue) s) where
  abbrev q : List Entry
  q = s.queue

  -- each entry has a trail
  trail_below : (n i : ℕ) → i < n → (e : Entry) → At s.queue i e → (t : List ℕ) × IsPos s.queue roots i (e.node ∷ t)
  trail_below zero i l e h = absurd (omega arith)
  trail_below (suc n) i l e h = by_root (cases_lt i roots) (λ p a k. trail_below n e.parent (omega arith) p a)
    where
      by_root : (i < roots) ⊎ (roots ≤ i) → ((p : Entry) → At s.queue e.parent p → e.parent < i → (t : List ℕ) × IsPos s.queue roots e.parent (p.node ∷ t)) → (t : List ℕ) × IsPos s.queue roots i (e.node ∷ t)
      by_root (inl r) f = ([], (e, h, refl, r))
      by_root (inr r) f =
          let p = b.linked i e h r in
          let t = f p.0 p.1 (b.earlier i e h r).0 in
          (p.0.node ∷ t.0, (e, h, refl, r, t.1))

  pub entry_trail : (i : ℕ) (e : Entry) → At s.queue i e → (t : List ℕ) × IsPos s.queue roots i (e.node ∷ t)
  entry_trail i e h = trail_below (suc i) i (omega arith) e h

  -- which is a trail of the graph
  pub sound : (i : ℕ) (t : List ℕ) → IsPos s.queue roots i t → IsTrail g starts t
  sound i [] p = absurd p
  sound i (x ∷ []) p = subst (Contains starts) p.2 (b.root i p.0 p.1 p.3)
  sound i (x ∷ y ∷ t) p =
      let l = b.linked i p.0 p.1 p.3 in
      let f = first_at s.queue roots p.0.parent y t p.4 in
      let e : l.0 ≡ f.0 = one_at s.queue p.0.parent l.0 f.0 l.1 f.1 in
      ((record { to = p.0.node; rule = p.0.rule }, subst (λ z. Contains (row g z) (record { to = p.0.node; rule = p.0.rule })) (ap (λ z. z.node) e ∙ f.2) l.2, p.2), sound p.0.parent (y ∷ t) p.4)

  -- later entries have later trails
  pub mono : (i j : ℕ) (t u : List ℕ) → i < j → IsPos s.queue roots i t → IsPos s.queue roots j u → Less t u
  mono i j [] u l p r = absurd p
  mono i j (x ∷ t) [] l p r = absurd r
  mono i j (x ∷ []) (y ∷ []) l p r = let k : p.0.node < r.0.node = b.rising i j p.0 r.0 p.1 r.1 l r.3 in let a = p.2 in let c = r.2 in inr (refl, omega arith)
  mono i j (x ∷ []) (y ∷ z ∷ u) l p r = inl tt
  mono i j (x ∷ w ∷ t) (y ∷ []) l p r = let a = p.3 in let c = r.3 in absurd (omega arith)
  mono i j (x ∷ w ∷ t) (y ∷ z ∷ u) l p r = by_order (b.ordered i j p.0 r.0 p.1 r.1 p.3 l) (λ k. mono p.0.parent r.0.parent (w ∷ t) (z ∷ u) k p.4 r.4)
    where
      by_order : (p.0.parent < r.0.parent) ⊎ ((p.0.parent ≡ r.0.parent) × (p.0.node < r.0.node)) → (p.0.parent < r.0.parent → Less (w ∷ t) (z ∷ u)) → Less (x ∷ w ∷ t) (y ∷ z ∷ u)
      by_order (inl k) f = inl (f k)
      by_order (inr k) f = let a = p.2 in let c = r.2 in let d = k.1 in inr (unique s.queue roots r.0.parent (w ∷ t) (z ∷ u) (same_place s.queue roots p.0.parent r.0.parent (w ∷ t) k.0 p.4) r.4, omega arith)

  -- each trail of the graph ends at an entry whose trail isn't after it
  abbrev Best : ℕ → List ℕ → Type 0
  Best x r = (i : ℕ) × (e : Entry) × At s.queue i e × (e.node ≡ x) × (u : List ℕ) × IsPos s.queue roots i (x ∷ u) × NotAfter (x ∷ u) (x ∷ r)

  at_root : (x y : ℕ) (r : List ℕ) (m : ℕ) (o : Entry) → At s.queue m o → o.node ≡ x → m < roots → Best x (y ∷ r)
  at_root x y r m o h e l = (m, o, h, e, [], (o, h, e, l), inr (inl tt))

  from_same : (x y : ℕ) (r u : List ℕ) (j m : ℕ) (o : Entry) → At s.queue m o → o.node ≡ x → roots ≤ m → o.parent ≡ j → IsPos s.queue roots j (y ∷ u) → NotAfter (y ∷ u) (y ∷ r) → Best x (y ∷ r)
  from_same x y r u j m o h e l k p n = (m, o, h, e, y ∷ u, (o, h, e, l, same_place s.queue roots j o.parent (y ∷ u) (sym k) p), go n)
    where
      go : NotAfter (y ∷ u) (y ∷ r) → NotAfter (x ∷ y ∷ u) (x ∷ y ∷ r)
      go (inl c) = inl (ap (λ z. x ∷ z) c)
      go (inr c) = inr (inl c)

  from_less : (x y : ℕ) (r u : List ℕ) (j m : ℕ) (o : Entry) → At s.queue m o → o.node ≡ x → roots ≤ m → o.parent < j → IsPos s.queue roots j (y ∷ u) → NotAfter (y ∷ u) (y ∷ r) → Best x (y ∷ r)
  from_less x y r u j m o h e l k p n =
      let d = b.linked m o h l in
      let t = entry_trail o.parent d.0 d.1 in
      (m, o, h, e, d.0.node ∷ t.0, (o, h, e, l, t.1), inr (inl (less_after (d.0.node ∷ t.0) (y ∷ u) (y ∷ r) (mono o.parent j (d.0.node ∷ t.0) (y ∷ u) k t.1 p) n)))

  pub complete : (x : ℕ) (r : List ℕ) → IsTrail g starts (x ∷ r) → Best x r
  complete x [] h = let a = b.began x h in (a.0, a.1, a.2, a.4, [], (a.1, a.2, a.4, a.3), inl refl)
  complete x (y ∷ r) h = extend (complete y r h.1)
    where
      extend : Best y r → Best x (y ∷ r)
      extend w =
          let k : Edge = h.0.0 in
          let c = b.closed w.0 w.1 w.2 (slice_get_within s.queue w.0 w.1 w.2) k (subst (λ z. Contains (row g z) k) (sym w.3) h.0.1) in
          place c.0 c.1 c.2 (c.3 ∙ h.0.2) (cases_lt c.0 roots) c.4
        where
          place : (m : ℕ) (o : Entry) → At s.queue m o → o.node ≡ x → (m < roots) ⊎ (roots ≤ m) → (m < roots) ⊎ (o.parent ≤ w.0) → Best x (y ∷ r)
          place m o a e (inl l) v = at_root x y r m o a e l
          place m o a e (inr l) (inl v) = at_root x y r m o a e v
          place m o a e (inr l) (inr v) = by_parent (lt_or_eq o.parent w.0 (omega arith))
            where
              by_parent : (o.parent < w.0) ⊎ (o.parent ≡ w.0) → Best x (y ∷ r)
              by_parent (inl z) = from_less x y r w.4 w.0 m o a e l z w.5 w.6
              by_parent (inr z) = from_same x y r w.4 w.0 m o a e l z w.5 w.6

  -- a node is seen just where a path leads to it
  pub seen_reached : (n : ℕ) → IsSeen s.seen n ↔ Reached g starts n
  seen_reached n = (to, from)
    where
      to : IsSeen s.seen n → Reached g starts n
      to h =
          let f = b.found n h in
          let t = entry_trail f.0 f.1 f.2 in
          let d : IsTrail g starts (n ∷ t.0) = subst (λ z. IsTrail g starts (z ∷ t.0)) f.3 (sound f.0 (f.1.node ∷ t.0) t.1) in
          (reverse (n ∷ t.0), path_of g starts (n ∷ []) n t.0 d (has_here n []))

      from : Reached g starts n → IsSeen s.seen n
      from r =
          let d = trail_of g starts (n ∷ []) r.0 r.1 in
          let w = complete d.0 d.1 d.3 in
          subst (IsSeen s.seen) (w.3 ∙ only n d.0 d.4) (b.marked w.0 w.1 w.2)

  -- the first entry at a goal has the least trail of all that end at goals
  pub first_least : (i : ℕ) (t : List ℕ) → IsPos s.queue roots i t → (goals : ℕ → Type 0) → ((k : ℕ) (e : Entry) → At s.queue k e → k < i → goals e.node → ⊥) →
      (x : ℕ) (r : List ℕ) → IsTrail g starts (x ∷ r) → goals x → NotAfter t (x ∷ r)
  first_least i t p goals first x r h w = by_place (complete x r h)
    where
      by_place : Best x r → NotAfter t (x ∷ r)
      by_place c = go (cases_lt c.0 i)
        where
          go : (c.0 < i) ⊎ (i ≤ c.0) → NotAfter t (x ∷ r)
          go (inl l) = absurd (first c.0 c.1 c.2 l (subst goals (sym c.3) w))
          go (inr l) = later (lt_or_eq i c.0 (omega arith))
            where
              later : (i < c.0) ⊎ (i ≡ c.0) → NotAfter t (x ∷ r)
              later (inl k) = inr (less_after t (x ∷ c.4) (x ∷ r) (mono i c.0 t (x ∷ c.4) k p c.5) c.6)
              later (inr k) = subst (λ z. NotAfter z (x ∷ r)) (unique s.queue roots c.0 (x ∷ c.4) t c.5 (same_place s.queue roots i c.0 t k p)) c.6

  -- the rules that are read off are those of the links
  pub ruled : (i : ℕ) (t rs : List ℕ) → IsPos s.queue roots i t → IsRuled s.queue roots i rs → AreRulesBack g t rs
  ruled i [] rs p r = absurd p
  ruled i (x ∷ []) [] p r = tt
  ruled i (x ∷ []) (k ∷ rs) p r = let a = p.3 in let c = r.2 in absurd (omega arith)
  ruled i (x ∷ y ∷ t) [] p r = let a = p.3 in absurd (omega arith)
  ruled i (x ∷ y ∷ t) (k ∷ rs) p r =
      let e : r.0 ≡ p.0 = one_at s.queue i r.0 p.0 r.1 p.1 in
      let l = b.linked i p.0 p.1 p.3 in
      let f = first_at s.queue roots p.0.parent y t p.4 in
      let d : l.0 ≡ f.0 = one_at s.queue p.0.parent l.0 f.0 l.1 f.1 in
      let n : l.0.node ≡ y = ap (λ z. z.node) d ∙ f.2 in
      let w : p.0.rule ≡ k = ap (λ z. z.rule) (sym e) ∙ r.3 in
      let h : Contains (row g y) (record { to = x; rule = k }) = subst (λ z. Contains (row g z) (record { to = x; rule = k })) n (subst (λ z. Contains (row g l.0.node) (record { to = x; rule = z })) w (subst (λ z. Contains (row g l.0.node) (record { to = z; rule = p.0.rule })) p.2 l.2)) in
      (h, ruled p.0.parent (y ∷ t) rs p.4 (subst (λ z. IsRuled s.queue roots z rs) (ap (λ z. z.parent) e) r.4))

  -- what is read off from the first wanted entry is the least path
  pub least_path : (goals : List ℕ) (wanted : List Bool) → ((n : ℕ) → IsSeen wanted n ↔ Contains goals n) → (i : ℕ) (e : Entry) → At s.queue i e → IsSeen wanted e.node → NoneBelow s.queue wanted i →
      (p : Steps) → IsPos s.queue roots i (reverse p.nodes) → IsRuled s.queue roots i (reverse p.rules) → IsLeastPath g starts goals p
  least_path goals wanted m i e h w none p a r = go (entry_trail i e h)
    where
      not_after : (nodes : List ℕ) → Leads g starts goals nodes → NotAfter (reverse p.nodes) (reverse nodes)
      not_after nodes l =
          let d = trail_of g starts goals nodes l in
          subst (NotAfter (reverse p.nodes)) (sym d.2)
          (first_least i (reverse p.nodes) a (λ n. Contains goals n) (λ k f q l z. none k f q l ((m f.node).1 z)) d.0 d.1 d.3 d.4)

      go : (t : List ℕ) × IsPos s.queue roots i (e.node ∷ t) → IsLeastPath g starts goals p
      go t =
          let same : e.node ∷ t.0 ≡ reverse p.nodes = unique s.queue roots i (e.node ∷ t.0) (reverse p.nodes) t.1 a in
          let turned : reverse (e.node ∷ t.0) ≡ p.nodes = ap reverse same ∙ reverse-reverse p.nodes in
          record {
            leads = subst (Leads g starts goals) turned (path_of g starts goals e.node t.0 (sound i (e.node ∷ t.0) t.1) ((m e.node).0 w));
            ruled = rules_of g p.nodes p.rules (ruled i (reverse p.nodes) (reverse p.rules) a r);
            shortest = λ nodes l. not_after_shorter p.nodes nodes (not_after nodes l);
            least = λ nodes l k. not_after_least p.nodes nodes (not_after nodes l) k;
          }

  -- where no entry is wanted, no goal is reached
  pub none_reached : (goals : List ℕ) (wanted : List Bool) → ((n : ℕ) → IsSeen wanted n ↔ Contains goals n) → NoneBelow s.queue wanted (length s.queue) → (nodes : List ℕ) → Leads g starts goals nodes → ⊥
  none_reached goals wanted m none nodes l =
      let d = trail_of g starts goals nodes l in
      let c = complete d.0 d.1 d.3 in
      none c.0 c.1 c.2 (slice_get_within s.queue c.0 c.1 c.2) (subst (IsSeen wanted) (sym c.3) ((m d.0).1 d.4))

-- one entry more is read off
module _ (q : List Entry) (roots i place : ℕ) (e : Entry) (h : At q i e) where
  pub read_node : (ns : List ℕ) → roots ≤ i → ((t : List ℕ) → IsPos q roots i t → IsPos q roots place (ns ++ t)) → (t : List ℕ) → IsPos q roots e.parent t → IsPos q roots place ((ns ++ e.node ∷ []) ++ t)
  read_node ns r f [] p = absurd p
  read_node ns r f (y ∷ t) p = subst (IsPos q roots place) (sym (append_assoc ns (e.node ∷ []) (y ∷ t))) (f (e.node ∷ y ∷ t) (e, h, refl, r, p))

  pub read_rule : (ns : List ℕ) → roots ≤ i → ((t : List ℕ) → IsRuled q roots i t → IsRuled q roots place (ns ++ t)) → (t : List ℕ) → IsRuled q roots e.parent t → IsRuled q roots place ((ns ++ e.rule ∷ []) ++ t)
  read_rule ns r f t p = subst (IsRuled q roots place) (sym (append_assoc ns (e.rule ∷ []) t)) (f (e.rule ∷ t) (e, h, r, refl, p))

  pub read_root : (ns : List ℕ) → i < roots → ((t : List ℕ) → IsPos q roots i t → IsPos q roots place (ns ++ t)) → (us : List ℕ) → us ≡ reverse (ns ++ e.node ∷ []) → IsPos q roots place (reverse us)
  read_root ns r f us w = subst (IsPos q roots place) (sym (ap reverse w ∙ reverse-reverse (ns ++ e.node ∷ []))) (f (e.node ∷ []) (e, h, refl, r))

  pub read_rules : (ns : List ℕ) → i < roots → ((t : List ℕ) → IsRuled q roots i t → IsRuled q roots place (ns ++ t)) → (us : List ℕ) → us ≡ reverse ns → IsRuled q roots place (reverse us)
  read_rules ns r f us w = subst (IsRuled q roots place) (append-nil ns ∙ sym (ap reverse w ∙ reverse-reverse ns)) (f [] r)
