-- The search at its start, and what falls with each step.
use Rattle.std.proofs.Common.{◌≡◌, ℕ, suc, zero, ◌+◌, ◌<◌, ◌≤◌, Bool, true, false, cond, List, [], ◌∷◌, ◌++◌, length, get_or, set, Some, refl, sym, ◌∙◌, ap, subst, arith, length-append}
use Rattle.std.specs.Prelude.{slice_get, All}
use Rattle.std.proofs.lemmas.Option.{slice_get_within, slice_get-get_or}
use Rattle.std.proofs.lemmas.List.{length-set}
use Rattle.std.proofs.lemmas.List.Elements.{All-head, All-tail, All-weaker}
use Rattle.ctw_flow.specs.declared.graph.Edge.{Edge}
use Rattle.ctw_flow.specs.declared.search.Entry.{Entry}
use Rattle.ctw_flow.specs.Search.{State, found_from, visit, visit_all, At, IsSeen, IsSearch, AreMarks, root_entries, unseen}
use Rattle.ctw_flow.specs.Graph.{row, IsGraph}
use Rattle.ctw_flow.proofs.SearchLaws.{follow}
use Rattle.ctw_flow.proofs.Visits.{visit_seen, visit_new}

entry_at : (bs : List Bool) (n i : ℕ) (e : Entry) → At (root_entries bs n) i e → (k : ℕ) × (e.node ≡ n + k) × (slice_get bs k ≡ Some true)
entry_at [] n i e h = cc
entry_at (true ∷ bs) n zero e h = let a : record { node = n; parent = 0; rule = 0 } ≡ e = cc in (0, let b = ap (λ z. z.node) a in omega arith, refl)
entry_at (true ∷ bs) n (suc i) e h = let r = entry_at bs (n + 1) i e h in (suc r.0, let b = r.1 in omega arith, r.2)
entry_at (false ∷ bs) n i e h = let r = entry_at bs (n + 1) i e h in (suc r.0, let b = r.1 in omega arith, r.2)

entry_has : (bs : List Bool) (n k : ℕ) → slice_get bs k ≡ Some true → (i : ℕ) × (e : Entry) × At (root_entries bs n) i e × (e.node ≡ n + k)
entry_has [] n k h = cc
entry_has (true ∷ bs) n zero h = (0, record { node = n; parent = 0; rule = 0 }, refl, omega arith)
entry_has (false ∷ bs) n zero h = cc
entry_has (true ∷ bs) n (suc k) h = let r = entry_has bs (n + 1) k h in (suc r.0, r.1, r.2, let b = r.3 in omega arith)
entry_has (false ∷ bs) n (suc k) h = let r = entry_has bs (n + 1) k h in (r.0, r.1, r.2, let b = r.3 in omega arith)

entry_rises : (bs : List Bool) (n i j : ℕ) (e f : Entry) → At (root_entries bs n) i e → At (root_entries bs n) j f → i < j → e.node < f.node
entry_rises [] n i j e f h k l = cc
entry_rises (true ∷ bs) n i zero e f h k l = absurd (omega arith)
entry_rises (true ∷ bs) n zero (suc j) e f h k l = let a : record { node = n; parent = 0; rule = 0 } ≡ e = cc in let b = ap (λ z. z.node) a in let c = (entry_at bs (n + 1) j f k).1 in omega arith
entry_rises (true ∷ bs) n (suc i) (suc j) e f h k l = entry_rises bs (n + 1) i j e f h k (omega arith)
entry_rises (false ∷ bs) n i j e f h k l = entry_rises bs (n + 1) i j e f h k l

pub begin : (g : List (List Edge)) (starts : List ℕ) (seen : List Bool) → AreMarks starts (length g) seen → IsSearch g starts (length (root_entries seen 0)) 0 0 (record { seen = seen; queue = root_entries seen 0 })
begin g starts seen m = record {
  sized = m.0;
  roots_in = omega arith;
  marked = λ i e h. marked i e h;
  found = λ n h. let r = entry_has seen 0 n h in (r.0, r.1, r.2, let b = r.3 in omega arith);
  root = λ i e h l. (m.1 e.node).0 (marked i e h);
  began = λ n c. let r = entry_has seen 0 n ((m.1 n).1 c) in (r.0, r.1, r.2, slice_get_within (root_entries seen 0) r.0 r.1 r.2, let b = r.3 in omega arith);
  rising = λ i j e f h k l r. entry_rises seen 0 i j e f h k l;
  linked = λ i e h r. let l = slice_get_within (root_entries seen 0) i e h in absurd (omega arith);
  earlier = λ i e h r. let l = slice_get_within (root_entries seen 0) i e h in absurd (omega arith);
  ordered = λ i j e f h k r l. let w = slice_get_within (root_entries seen 0) i e h in absurd (omega arith);
  closed = λ i o h l e c. absurd (omega arith);
}
  where
    marked : (i : ℕ) (e : Entry) → At (root_entries seen 0) i e → IsSeen seen e.node
    marked i e h = let r = entry_at seen 0 i e h in subst (IsSeen seen) (let b = r.1 in omega arith) r.2

unseen_set : (bs : List Bool) (k : ℕ) → slice_get bs k ≡ Some false → unseen (set bs k true) + 1 ≡ unseen bs
unseen_set [] k h = cc
unseen_set (false ∷ bs) zero h = refl
unseen_set (true ∷ bs) zero h = cc
unseen_set (true ∷ bs) (suc k) h = unseen_set bs k h
unseen_set (false ∷ bs) (suc k) h = ap (λ z. z + 1) (unseen_set bs k h)

abbrev pub total : State → ℕ
total s = unseen s.seen + length s.queue

visit_total : (head : ℕ) (e : Edge) (s : State) → e.to < length s.seen → (total (visit head e s) ≡ total s) × (length (visit head e s).seen ≡ length s.seen)
visit_total head e s l = by_test (get_or s.seen e.to false) refl
  where
    by_test : (b : Bool) → get_or s.seen e.to false ≡ b → (total (visit head e s) ≡ total s) × (length (visit head e s).seen ≡ length s.seen)
    by_test true h = (ap total (visit_seen head e s.seen s.queue h), ap (λ z. length z.seen) (visit_seen head e s.seen s.queue h))
    by_test false h =
        let a = unseen_set s.seen e.to (slice_get-get_or s.seen e.to false l ∙ ap Some h) in
        let b : length (s.queue ++ found_from head e ∷ []) ≡ length s.queue + 1 = length-append s.queue (found_from head e ∷ []) in
        let d : unseen (set s.seen e.to true) + length (s.queue ++ found_from head e ∷ []) ≡ unseen s.seen + length s.queue = omega arith in
        (ap total (visit_new head e s.seen s.queue h) ∙ d, ap (λ z. length z.seen) (visit_new head e s.seen s.queue h) ∙ length-set s.seen e.to true)

pub all_total : (head : ℕ) (es : List Edge) (s : State) → All (λ e. e.to < length s.seen) es → total (visit_all head es s) ≡ total s
all_total head [] s a = refl
all_total head (e ∷ es) s a =
    let v = visit_total head e s (All-head (λ e. e.to < length s.seen) e es a) in
    all_total head es (visit head e s) (All-weaker (λ e. e.to < length s.seen) (λ f. f.to < length (visit head e s).seen) (λ x l. let c = v.1 in omega arith) es (All-tail (λ e. e.to < length s.seen) e es a)) ∙ v.0

all_grow : (head : ℕ) (es : List Edge) (s : State) → length s.queue ≤ length (visit_all head es s).queue
all_grow head [] s = omega arith
all_grow head (e ∷ es) s = let a = all_grow head es (visit head e s) in let b = one (get_or s.seen e.to false) in omega arith
  where
    one : (b : Bool) → length s.queue ≤ length (cond b s (record { seen = set s.seen e.to true; queue = s.queue ++ found_from head e ∷ [] })).queue
    one true = omega arith
    one false = let b : length (s.queue ++ found_from head e ∷ []) ≡ length s.queue + 1 = length-append s.queue (found_from head e ∷ []) in omega arith

pub begin_at : (g : List (List Edge)) (starts : List ℕ) (n : ℕ) (seen : List Bool) (q : List Entry) (roots : ℕ) → n ≡ length g → AreMarks starts n seen → q ≡ root_entries seen 0 → roots ≡ length q → IsSearch g starts roots 0 0 (record { seen = seen; queue = q })
begin_at g starts n seen q roots c m e r =
    subst (λ z. IsSearch g starts z 0 0 (record { seen = seen; queue = q })) (sym r)
    (subst (λ z. IsSearch g starts (length z) 0 0 (record { seen = seen; queue = z })) (sym e) (begin g starts seen (subst (λ z. AreMarks starts z seen) c m)))

pub here_at : (q : List Entry) (head : ℕ) (p : Entry) → head < length q → p ≡ get_or q head p → At q head p
here_at q head p l e = slice_get-get_or q head p l ∙ ap Some (sym e)

pub in_graph : (g : List (List Edge)) (starts : List ℕ) (roots top head : ℕ) (s : State) → IsSearch g starts roots top head s → (i : ℕ) (e : Entry) → At s.queue i e → e.node < length g
in_graph g starts roots top head s b i e h = let a = slice_get_within s.seen e.node true (b.marked i e h) in let c : length s.seen ≡ length g = b.sized in omega arith

-- one step of the search
pub record IsStep (g : List (List Edge)) (starts : List ℕ) (roots head : ℕ) (s t : State) : Type 0 where
  pub search : IsSearch g starts roots (head + 1) (head + 1) t
  pub grows : length s.queue ≤ length t.queue
  pub same : unseen t.seen + length t.queue ≡ unseen s.seen + length s.queue

pub stepped : (g : List (List Edge)) (starts : List ℕ) (roots head : ℕ) (s t : State) (p : Entry) (links : List Edge) → IsGraph g → IsSearch g starts roots head head s → head < length s.queue → p ≡ get_or s.queue head p → links ≡ row g p.node → t ≡ visit_all head links s → IsStep g starts roots head s t
stepped g starts roots head s t p links ok b l e k v =
    let here : At s.queue head p = here_at s.queue head p l e in
    let w : visit_all head (row g p.node) s ≡ t = ap (λ z. visit_all head z s) (sym k) ∙ sym v in
    let r = ok p.node [] (in_graph g starts roots head head s b head p here) in
    let c : length s.seen ≡ length g = b.sized in
    subst (IsStep g starts roots head s) w (record {
      search = follow g starts roots head p s ok b here;
      grows = all_grow head (row g p.node) s;
      same = all_total head (row g p.node) s (subst (λ z. All (λ e. e.to < z) (row g p.node)) (sym c) r.1);
    })

-- each marked node has an entry
unseen_entries : (bs : List Bool) (n : ℕ) → unseen bs + length (root_entries bs n) ≡ length bs
unseen_entries [] n = refl
unseen_entries (true ∷ bs) n = let a = unseen_entries bs (n + 1) in omega arith
unseen_entries (false ∷ bs) n = let a = unseen_entries bs (n + 1) in omega arith

pub begin_total : (starts : List ℕ) (n count : ℕ) (seen : List Bool) (q : List Entry) → count ≡ n → AreMarks starts count seen → q ≡ root_entries seen 0 → unseen seen + length q ≡ n
begin_total starts n count seen q c m e = let a = unseen_entries seen 0 in let b = ap length e in let d = m.0 in omega arith
