-- What a search by levels keeps.
use Rattle.std.specs.Prelude.{◌≡◌, ◌↔◌, ℕ, ◌+◌, ◌<◌, ◌≤◌, Bool, true, false, cond, ◌⊎◌, List, [], ◌∷◌, ◌++◌, length, Some, slice_get, slice_set, get_or, Contains}
use Rattle.ctw_flow.specs.declared.graph.Edge.{Edge}
use Rattle.ctw_flow.specs.declared.search.Entry.{Entry}
use Rattle.ctw_flow.specs.Graph.{row}

-- which nodes were seen, and the queue of found nodes, each with the place of the one that it was found from
pub record State : Type 0 where
  pub seen : List Bool
  pub queue : List Entry

abbrev pub found_from : ℕ → Edge → Entry
found_from head e = record { node = e.to; parent = head; rule = e.rule }

abbrev pub visit : ℕ → Edge → State → State
visit head e s =
    cond (get_or s.seen e.to false) s
    (record { seen = slice_set s.seen e.to true; queue = s.queue ++ found_from head e ∷ [] })

abbrev pub visit_all : ℕ → List Edge → State → State
visit_all head [] s = s
visit_all head (e ∷ es) s = visit_all head es (visit head e s)

abbrev pub At : List Entry → ℕ → Entry → Type 0
At q i e = slice_get q i ≡ Some e

abbrev pub IsSeen : List Bool → ℕ → Type 0
IsSeen seen n = slice_get seen n ≡ Some true

-- the first `roots` entries are the starts; the links of the first `head` entries are followed; parents are below `top`
pub record IsSearch (g : List (List Edge)) (starts : List ℕ) (roots top head : ℕ) (s : State) : Type 0 where
  pub sized : length s.seen ≡ length g
  pub roots_in : roots ≤ length s.queue
  pub marked : (i : ℕ) (e : Entry) → At s.queue i e → IsSeen s.seen e.node
  pub found : (n : ℕ) → IsSeen s.seen n → (i : ℕ) × (e : Entry) × At s.queue i e × (e.node ≡ n)
  pub root : (i : ℕ) (e : Entry) → At s.queue i e → i < roots → Contains starts e.node
  pub began : (n : ℕ) → Contains starts n → (i : ℕ) × (e : Entry) × At s.queue i e × (i < roots) × (e.node ≡ n)
  pub rising : (i j : ℕ) (e f : Entry) → At s.queue i e → At s.queue j f → i < j → j < roots → e.node < f.node
  pub linked : (i : ℕ) (e : Entry) → At s.queue i e → roots ≤ i
      → (p : Entry) × At s.queue e.parent p × Contains (row g p.node) (record { to = e.node; rule = e.rule })
  pub earlier : (i : ℕ) (e : Entry) → At s.queue i e → roots ≤ i → (e.parent < i) × (e.parent < top)
  pub ordered : (i j : ℕ) (e f : Entry) → At s.queue i e → At s.queue j f → roots ≤ i → i < j
      → (e.parent < f.parent) ⊎ ((e.parent ≡ f.parent) × (e.node < f.node))
  pub closed : (i : ℕ) (p : Entry) → At s.queue i p → i < head → (e : Edge) → Contains (row g p.node) e
      → (j : ℕ) × (f : Entry) × At s.queue j f × (f.node ≡ e.to) × ((j < roots) ⊎ (f.parent ≤ i))

-- the trail of the entry at a place: its node, and then that of the entry from which it was found
abbrev pub IsPos : List Entry → ℕ → ℕ → List ℕ → Type 0
IsPos q roots i [] = ⊥
IsPos q roots i (x ∷ []) = (e : Entry) × At q i e × (e.node ≡ x) × (i < roots)
IsPos q roots i (x ∷ y ∷ t) = (e : Entry) × At q i e × (e.node ≡ x) × (roots ≤ i) × IsPos q roots e.parent (y ∷ t)

-- the marks are those of the starts
abbrev pub AreMarks : List ℕ → ℕ → List Bool → Type 0
AreMarks starts nodes seen = (length seen ≡ nodes) × ((n : ℕ) → IsSeen seen n ↔ Contains starts n)

-- an entry for each marked node, from node n on
abbrev pub root_entries : List Bool → ℕ → List Entry
root_entries [] n = []
root_entries (b ∷ bs) n =
    cond b (record { node = n; parent = 0; rule = 0 } ∷ root_entries bs (n + 1)) (root_entries bs (n + 1))

abbrev pub unseen : List Bool → ℕ
unseen [] = 0
unseen (b ∷ bs) = cond b (unseen bs) (unseen bs + 1)

-- the rules on the way from a place to its root
abbrev pub IsRuled : List Entry → ℕ → ℕ → List ℕ → Type 0
IsRuled q roots i [] = i < roots
IsRuled q roots i (r ∷ rs) = (e : Entry) × At q i e × (roots ≤ i) × (e.rule ≡ r) × IsRuled q roots e.parent rs

-- each entry that isn't a root was found from an earlier one
abbrev pub AreEarlier : List Entry → ℕ → Type 0
AreEarlier q roots = (i : ℕ) (e : Entry) → At q i e → roots ≤ i → e.parent < i

abbrev pub NoneBelow : List Entry → List Bool → ℕ → Type 0
NoneBelow q wanted n = (k : ℕ) (e : Entry) → At q k e → k < n → IsSeen wanted e.node → ⊥
