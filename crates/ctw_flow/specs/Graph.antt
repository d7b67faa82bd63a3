-- A graph as a list of rows: row n has the links from node n, by rising target.
use Rattle.std.specs.Prelude.{◌≡◌, ℕ, ◌<◌, ◌≤◌, cond, List, [], ◌∷◌, length, fold, replicate, get_or, slice_set, nat_lt, nat_eq, Contains, All}
use Rattle.ctw_flow.specs.declared.graph.Edge.{Edge}

-- the links from a node
abbrev pub row : List (List Edge) → ℕ → List Edge
row g n = get_or g n []

-- the row with the link to `to`, whose rule is the least one given
abbrev pub with_link : ℕ → ℕ → List Edge → List Edge
with_link to rule [] = record { to = to; rule = rule } ∷ []
with_link to rule (e ∷ es) =
    cond (nat_lt to e.to) (record { to = to; rule = rule } ∷ e ∷ es)
    (cond (nat_eq to e.to) (cond (nat_lt rule e.rule) (record { to = to; rule = rule } ∷ es) (e ∷ es))
    (e ∷ with_link to rule es))

-- the graph with a link: the node that it leads from, the one that it leads to, and its rule
abbrev pub with_added : List (List Edge) → ℕ × ℕ × ℕ → List (List Edge)
with_added g link = slice_set g link.0 (with_link link.1 link.2 (row g link.0))

-- a graph of so many nodes to which links are added one after another
abbrev pub graph_of : ℕ → List (ℕ × ℕ × ℕ) → List (List Edge)
graph_of nodes links = fold with_added (replicate nodes []) links

-- the least rule of the links from one node to another is this one
abbrev pub IsLeastRule : List (ℕ × ℕ × ℕ) → ℕ → ℕ → ℕ → Type 0
IsLeastRule links a b rule = Contains links (a, b, rule) × ((other : ℕ) → Contains links (a, b, other) → rule ≤ other)

-- a link leads from one node to another
abbrev pub HasLink : List (List Edge) → ℕ → ℕ → Type 0
HasLink g a b = (e : Edge) × Contains (row g a) e × (e.to ≡ b)

-- targets rise
abbrev pub IsRising : List Edge → Type 0
IsRising [] = Unit {0}
IsRising (e ∷ es) = All (λ f. e.to < f.to) es × IsRising es

-- each row rises, and each target is a node
abbrev pub IsGraph : List (List Edge) → Type 0
IsGraph g = All (λ r. IsRising r × All (λ e. e.to < length g) r) g

-- the targets before the place are below the node, and those from it on aren't
pub record IsPlaceOf (links : List Edge) (to at : ℕ) : Type 0 where
  pub within : at ≤ length links
  pub below : (k : ℕ) (d : Edge) → k < at → (get_or links k d).to < to
  pub above : (k : ℕ) (d : Edge) → at ≤ k → k < length links → to ≤ (get_or links k d).to
