-- A graph kept as the links of all rows, one row after another, beside the places where the rows begin.
use Rattle.std.specs.Prelude.{◌≡◌, ℕ, ◌+◌, ◌≤◌, ◌^◌, List, [], ◌∷◌, length, flat_map, slice_range}
use Rattle.ctw_flow.specs.declared.graph.Edge.{Edge}
use Rattle.ctw_flow.specs.Graph.{IsGraph}

-- the rows that are cut out of a list of links; each ends where the next one begins
abbrev pub rows_of : List ℕ → List Edge → List (List Edge)
rows_of (start ∷ end ∷ ends) edges = slice_range edges start end ∷ rows_of (end ∷ ends) edges
rows_of _ edges = []

-- the links of all rows
abbrev pub all_of : List (List Edge) → List Edge
all_of g = flat_map (λ r. r) g

-- where rows begin that are laid out from a place on, and where the last one ends
abbrev pub starts_from : ℕ → List (List Edge) → List ℕ
starts_from at [] = at ∷ []
starts_from at (r ∷ g) = at ∷ starts_from (at + length r) g

pub record IsPacked (starts : List ℕ) (edges : List Edge) : Type 0 where
  pub graph : IsGraph (rows_of starts edges)
  pub begin : starts ≡ starts_from 0 (rows_of starts edges)
  pub laid : edges ≡ all_of (rows_of starts edges)
  pub few : length starts ≤ 2 ^ 32
