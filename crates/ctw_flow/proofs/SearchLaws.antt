-- One entry's links are followed: the search goes on to keep what it keeps.
use Rattle.std.proofs.Common.{◌≡◌, ℕ, ◌+◌, ◌<◌, ◌≤◌, Bool, true, false, List, [], ◌∷◌, ◌++◌, length, get_or, set, Some, refl, sym, ◌∙◌, ap, subst, ◌⊎◌, inl, inr, arith, length-append}
use Rattle.std.specs.Prelude.{Contains}
use Rattle.std.proofs.lemmas.Option.{slice_get_within, slice_get-get_or}
use Rattle.std.proofs.lemmas.Bool.{cases_lt}
use Rattle.std.proofs.lemmas.List.{length-set}
use Rattle.std.proofs.lemmas.List.Elements.{All-contains}
use Rattle.ctw_flow.specs.declared.graph.Edge.{Edge}
use Rattle.ctw_flow.specs.declared.search.Entry.{Entry}
use Rattle.ctw_flow.specs.Graph.{row, IsRising, IsGraph}
use Rattle.ctw_flow.specs.Search.{State, found_from, visit, visit_all, At, IsSeen, IsSearch}
use Rattle.ctw_flow.proofs.Queue.{kept, at_end, last_or, one_at, set_here, set_or, set_keeps, has_cons, has_here, has_there, has_nil, lt_or_eq}
use Rattle.ctw_flow.proofs.Visits.{visit_seen, visit_new}

-- a link whose target is in the queue, found from `head` or before
abbrev pub Covered : ℕ → List Entry → ℕ → Edge → Type 0
Covered roots q head e = (j : ℕ) × (f : Entry) × At q j f × (f.node ≡ e.to) × ((j < roots) ⊎ (f.parent ≤ head))

-- while the links of the entry p at `head` are followed, of which `todo` are left
pub record IsMid (g : List (List Edge)) (starts : List ℕ) (roots head : ℕ) (p : Entry) (todo : List Edge) (seen : List Bool) (q : List Entry) : Type 0 where
  pub base : IsSearch g starts roots (head + 1) head (record { seen = seen; queue = q })
  pub here : At q head p
  pub covered : (e : Edge) → Contains (row g p.node) e → Contains todo e ⊎ Covered roots q head e
  pub within : (e : Edge) → Contains todo e → Contains (row g p.node) e × (e.to < length g)
  pub ahead : (i : ℕ) (f : Entry) → At q i f → roots ≤ i → f.parent ≡ head → (e : Edge) → Contains todo e → f.node < e.to
  pub rises : IsRising todo

module _ (g : List (List Edge)) (starts : List ℕ) (roots head : ℕ) (p : Entry) where
  rest_covered : (e : Edge) (es : List Edge) (q : List Entry) → ((f : Edge) → Contains (row g p.node) f → Contains (e ∷ es) f ⊎ Covered roots q head f) → Covered roots q head e →
      (f : Edge) → Contains (row g p.node) f → Contains es f ⊎ Covered roots q head f
  rest_covered e es q cov here f c = go (cov f c)
    where
      go : Contains (e ∷ es) f ⊎ Covered roots q head f → Contains es f ⊎ Covered roots q head f
      go (inr k) = inr k
      go (inl k) = at (has_cons e es f k)
        where
          at : (e ≡ f) ⊎ Contains es f → Contains es f ⊎ Covered roots q head f
          at (inl s) = inr (subst (Covered roots q head) s here)
          at (inr s) = inl s

  -- a parent of the state is at most head
  parent_le : (s : State) → IsSearch g starts roots (head + 1) head s → (j : ℕ) (f : Entry) → At s.queue j f → (j < roots) ⊎ (f.parent ≤ head)
  parent_le s b j f h = go (cases_lt j roots)
    where
      go : (j < roots) ⊎ (roots ≤ j) → (j < roots) ⊎ (f.parent ≤ head)
      go (inl l) = inl l
      go (inr l) = let k : f.parent < head + 1 = (b.earlier j f h l).1 in inr (omega arith)

  step_seen : (e : Edge) (es : List Edge) (seen : List Bool) (q : List Entry) → IsMid g starts roots head p (e ∷ es) seen q → get_or seen e.to false ≡ true → IsMid g starts roots head p es seen q
  step_seen e es seen q m h =
      let lt : e.to < length seen = let a : e.to < length g = (m.within e (has_here e es)).1 in let b : length seen ≡ length g = m.base.sized in omega arith in
      let f = m.base.found e.to (slice_get-get_or seen e.to false lt ∙ ap Some h) in
      record {
        base = m.base;
        here = m.here;
        covered = rest_covered e es q m.covered (f.0, f.1, f.2, f.3, parent_le (record { seen = seen; queue = q }) m.base f.0 f.1 f.2);
        within = λ k c. m.within k (has_there e es k c);
        ahead = λ i f a r w k c. m.ahead i f a r w k (has_there e es k c);
        rises = m.rises.1;
      }

  module _ (e : Edge) (es : List Edge) (seen : List Bool) (q : List Entry) (m : IsMid g starts roots head p (e ∷ es) seen q) where
    abbrev x : Entry
    x = found_from head e

    in_graph : e.to < length g
    in_graph = (m.within e (has_here e es)).1

    in_seen : e.to < length seen
    in_seen = let a = in_graph in let b : length seen ≡ length g = m.base.sized in omega arith

    in_queue : head < length q
    in_queue = slice_get_within q head p m.here

    longer : length (q ++ found_from head e ∷ []) ≡ length q + 1
    longer = length-append q (found_from head e ∷ [])

    abbrev S : State
    S = record { seen = set seen e.to true; queue = q ++ found_from head e ∷ [] }

    new_marked : (i : ℕ) (f : Entry) → At (q ++ found_from head e ∷ []) i f → IsSeen (set seen e.to true) f.node
    new_marked i f h = go (last_or q (found_from head e) i f h)
      where
        go : At q i f ⊎ ((i ≡ length q) × (found_from head e ≡ f)) → IsSeen (set seen e.to true) f.node
        go (inl a) = set_keeps seen e.to f.node (m.base.marked i f a)
        go (inr a) = subst (λ z. IsSeen (set seen e.to true) z) (ap (λ z. z.node) a.1) (set_here seen e.to true in_seen)

    new_found : (n : ℕ) → IsSeen (set seen e.to true) n → (i : ℕ) × (f : Entry) × At (q ++ found_from head e ∷ []) i f × (f.node ≡ n)
    new_found n h = go (set_or seen e.to n h)
      where
        go : IsSeen seen n ⊎ (n ≡ e.to) → (i : ℕ) × (f : Entry) × At (q ++ found_from head e ∷ []) i f × (f.node ≡ n)
        go (inl a) = let r = m.base.found n a in (r.0, r.1, kept q (found_from head e ∷ []) r.0 r.1 r.2, r.3)
        go (inr a) = (length q, found_from head e, at_end q (found_from head e), sym a)

    new_root : (i : ℕ) (f : Entry) → At (q ++ found_from head e ∷ []) i f → i < roots → Contains starts f.node
    new_root i f h l = go (last_or q (found_from head e) i f h)
      where
        go : At q i f ⊎ ((i ≡ length q) × (found_from head e ≡ f)) → Contains starts f.node
        go (inl a) = m.base.root i f a l
        go (inr a) = let b : roots ≤ length q = m.base.roots_in in let c = a.0 in absurd (omega arith)

    new_began : (n : ℕ) → Contains starts n → (i : ℕ) × (f : Entry) × At (q ++ found_from head e ∷ []) i f × (i < roots) × (f.node ≡ n)
    new_began n c = let r = m.base.began n c in (r.0, r.1, kept q (found_from head e ∷ []) r.0 r.1 r.2, r.3, r.4)

    old_at : (i : ℕ) (f : Entry) → At (q ++ found_from head e ∷ []) i f → i < length q → At q i f
    old_at i f h l = go (last_or q (found_from head e) i f h)
      where
        go : At q i f ⊎ ((i ≡ length q) × (found_from head e ≡ f)) → At q i f
        go (inl a) = a
        go (inr a) = let c = a.0 in absurd (omega arith)

    new_rising : (i j : ℕ) (f k : Entry) → At (q ++ found_from head e ∷ []) i f → At (q ++ found_from head e ∷ []) j k → i < j → j < roots → f.node < k.node
    new_rising i j f k hi hj l r = let b : roots ≤ length q = m.base.roots_in in m.base.rising i j f k (old_at i f hi (omega arith)) (old_at j k hj (omega arith)) l r

    new_linked : (i : ℕ) (f : Entry) → At (q ++ found_from head e ∷ []) i f → roots ≤ i → (o : Entry) × At (q ++ found_from head e ∷ []) f.parent o × Contains (row g o.node) (record { to = f.node; rule = f.rule })
    new_linked i f h r = go (last_or q (found_from head e) i f h)
      where
        go : At q i f ⊎ ((i ≡ length q) × (found_from head e ≡ f)) → (o : Entry) × At (q ++ found_from head e ∷ []) f.parent o × Contains (row g o.node) (record { to = f.node; rule = f.rule })
        go (inl a) = let l = m.base.linked i f a r in (l.0, kept q (found_from head e ∷ []) f.parent l.0 l.1, l.2)
        go (inr a) = subst (λ z. (o : Entry) × At (q ++ found_from head e ∷ []) z.parent o × Contains (row g o.node) (record { to = z.node; rule = z.rule })) a.1
            (p, kept q (found_from head e ∷ []) head p m.here, (m.within e (has_here e es)).0)

    new_earlier : (i : ℕ) (f : Entry) → At (q ++ found_from head e ∷ []) i f → roots ≤ i → (f.parent < i) × (f.parent < head + 1)
    new_earlier i f h r = go (last_or q (found_from head e) i f h)
      where
        go : At q i f ⊎ ((i ≡ length q) × (found_from head e ≡ f)) → (f.parent < i) × (f.parent < head + 1)
        go (inl a) = m.base.earlier i f a r
        go (inr a) = let c : head ≡ f.parent = ap (λ z. z.parent) a.1 in let b = a.0 in let d : head < length q = in_queue in (omega arith, omega arith)

    new_ordered : (i j : ℕ) (f k : Entry) → At (q ++ found_from head e ∷ []) i f → At (q ++ found_from head e ∷ []) j k → roots ≤ i → i < j → (f.parent < k.parent) ⊎ ((f.parent ≡ k.parent) × (f.node < k.node))
    new_ordered i j f k hi hj r l = go (last_or q (found_from head e) j k hj)
      where
        go : At q j k ⊎ ((j ≡ length q) × (found_from head e ≡ k)) → (f.parent < k.parent) ⊎ ((f.parent ≡ k.parent) × (f.node < k.node))
        go (inl a) = let b : j < length q = slice_get_within q j k a in m.base.ordered i j f k (old_at i f hi (omega arith)) a r l
        go (inr a) =
            let b = a.0 in
            let o : At q i f = old_at i f hi (omega arith) in
            subst (λ z. (f.parent < z.parent) ⊎ ((f.parent ≡ z.parent) × (f.node < z.node))) a.1 (by_parent o (lt_or_eq f.parent head (m.base.earlier i f o r).1))
          where
            by_parent : At q i f → (f.parent < head) ⊎ (f.parent ≡ head) → (f.parent < head) ⊎ ((f.parent ≡ head) × (f.node < e.to))
            by_parent o (inl c) = inl c
            by_parent o (inr c) = inr (c, m.ahead i f o r c e (has_here e es))

    new_closed : (i : ℕ) (o : Entry) → At (q ++ found_from head e ∷ []) i o → i < head → (k : Edge) → Contains (row g o.node) k → Covered roots (q ++ found_from head e ∷ []) i k
    new_closed i o h l k c =
        let d : head < length q = in_queue in
        let r = m.base.closed i o (old_at i o h (omega arith)) l k c in
        (r.0, r.1, kept q (found_from head e ∷ []) r.0 r.1 r.2, r.3, r.4)

    step_base : IsSearch g starts roots (head + 1) head (record { seen = set seen e.to true; queue = q ++ found_from head e ∷ [] })
    step_base = record {
      sized = length-set seen e.to true ∙ m.base.sized;
      roots_in = let b : roots ≤ length q = m.base.roots_in in let c = longer in omega arith;
      marked = new_marked;
      found = new_found;
      root = new_root;
      began = new_began;
      rising = new_rising;
      linked = new_linked;
      earlier = new_earlier;
      ordered = new_ordered;
      closed = new_closed;
    }

    step_new : IsMid g starts roots head p es (set seen e.to true) (q ++ found_from head e ∷ [])
    step_new = record {
      base = step_base;
      here = kept q (found_from head e ∷ []) head p m.here;
      covered = rest_covered e es (q ++ found_from head e ∷ []) old_covered (length q, found_from head e, at_end q (found_from head e), refl, inr (omega arith));
      within = λ k c. m.within k (has_there e es k c);
      ahead = new_ahead;
      rises = m.rises.1;
    }
      where
        old_covered : (f : Edge) → Contains (row g p.node) f → Contains (e ∷ es) f ⊎ Covered roots (q ++ found_from head e ∷ []) head f
        old_covered f c = go (m.covered f c)
          where
            go : Contains (e ∷ es) f ⊎ Covered roots q head f → Contains (e ∷ es) f ⊎ Covered roots (q ++ found_from head e ∷ []) head f
            go (inl k) = inl k
            go (inr k) = inr (k.0, k.1, kept q (found_from head e ∷ []) k.0 k.1 k.2, k.3, k.4)

        new_ahead : (i : ℕ) (f : Entry) → At (q ++ found_from head e ∷ []) i f → roots ≤ i → f.parent ≡ head → (k : Edge) → Contains es k → f.node < k.to
        new_ahead i f h r w k c = go (last_or q (found_from head e) i f h)
          where
            go : At q i f ⊎ ((i ≡ length q) × (found_from head e ≡ f)) → f.node < k.to
            go (inl a) = m.ahead i f a r w k (has_there e es k c)
            go (inr a) = let d : e.to < k.to = All-contains (λ z. e.to < z.to) es k m.rises.0 c in let b : e.to ≡ f.node = ap (λ z. z.node) a.1 in omega arith

  -- one visit, and all of them
  step_mid : (e : Edge) (es : List Edge) (s : State) → IsMid g starts roots head p (e ∷ es) s.seen s.queue → IsMid g starts roots head p es (visit head e s).seen (visit head e s).queue
  step_mid e es s m = by_test (get_or s.seen e.to false) refl
    where
      by_test : (b : Bool) → get_or s.seen e.to false ≡ b → IsMid g starts roots head p es (visit head e s).seen (visit head e s).queue
      by_test true h = subst (λ z. IsMid g starts roots head p es z.seen z.queue) (sym (visit_seen head e s.seen s.queue h)) (step_seen e es s.seen s.queue m h)
      by_test false h = subst (λ z. IsMid g starts roots head p es z.seen z.queue) (sym (visit_new head e s.seen s.queue h)) (step_new e es s.seen s.queue m)

  all_mid : (es : List Edge) (s : State) → IsMid g starts roots head p es s.seen s.queue → IsMid g starts roots head p [] (visit_all head es s).seen (visit_all head es s).queue
  all_mid [] s m = m
  all_mid (e ∷ es) s m = all_mid es (visit head e s) (step_mid e es s m)

-- all links of the entry at `head` followed
pub follow : (g : List (List Edge)) (starts : List ℕ) (roots head : ℕ) (p : Entry) (s : State) → IsGraph g → IsSearch g starts roots head head s → At s.queue head p →
    IsSearch g starts roots (head + 1) (head + 1) (visit_all head (row g p.node) s)
follow g starts roots head p s ok b here =
    let lt : p.node < length g = let a : p.node < length s.seen = slice_get_within s.seen p.node true (b.marked head p here) in let c : length s.seen ≡ length g = b.sized in omega arith in
    let r = ok p.node [] lt in
    let m0 : IsMid g starts roots head p (row g p.node) s.seen s.queue = record {
      base = record {
        sized = b.sized;
        roots_in = b.roots_in;
        marked = b.marked;
        found = b.found;
        root = b.root;
        began = b.began;
        rising = b.rising;
        linked = b.linked;
        earlier = λ i e h k. let d = b.earlier i e h k in (d.0, omega (arith, d.1));
        ordered = b.ordered;
        closed = b.closed;
      };
      here = here;
      covered = λ e c. inl c;
      within = λ e c. (c, All-contains (λ z. z.to < length g) (row g p.node) e r.1 c);
      ahead = λ i f h k w e c. let d = (b.earlier i f h k).1 in absurd (omega (arith, d, w));
      rises = r.0;
    } in
    done (visit_all head (row g p.node) s) (all_mid g starts roots head p (row g p.node) s m0)
  where
    done : (t : State) → IsMid g starts roots head p [] t.seen t.queue → IsSearch g starts roots (head + 1) (head + 1) t
    done t m = record {
      sized = m.base.sized;
      roots_in = m.base.roots_in;
      marked = m.base.marked;
      found = m.base.found;
      root = m.base.root;
      began = m.base.began;
      rising = m.base.rising;
      linked = m.base.linked;
      earlier = m.base.earlier;
      ordered = m.base.ordered;
      closed = closed;
    }
      where
        by_place : (i : ℕ) (o : Entry) → At t.queue i o → (i < head) ⊎ (i ≡ head) → (e : Edge) → Contains (row g o.node) e → Covered roots t.queue i e
        by_place i o h (inl l) e c = m.base.closed i o h l e c
        by_place i o h (inr w) e c =
            let s : p ≡ o = one_at t.queue head p o m.here (subst (λ z. At t.queue z o) w h) in
            subst (λ z. Covered roots t.queue z e) (sym w) (go (m.covered e (subst (λ z. Contains (row g z.node) e) (sym s) c)))
          where
            go : Contains [] e ⊎ Covered roots t.queue head e → Covered roots t.queue head e
            go (inl k) = absurd (has_nil e k)
            go (inr k) = k

        closed : (i : ℕ) (o : Entry) → At t.queue i o → i < head + 1 → (e : Edge) → Contains (row g o.node) e → Covered roots t.queue i e
        closed i o h l e c = by_place i o h (lt_or_eq i head l) e c
