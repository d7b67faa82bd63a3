-- Paths of a graph, and which of them is shown.
use Rattle.std.specs.Prelude.{◌≡◌, ℕ, ◌<◌, ◌≤◌, ◌⊎◌, List, [], ◌∷◌, length, Contains}
use Rattle.ctw_flow.specs.declared.graph.Edge.{Edge}
use Rattle.ctw_flow.specs.Graph.{row, HasLink}

-- a node or more, each but the first with a link from the one before it
abbrev pub IsPath : List (List Edge) → List ℕ → Type 0
IsPath g [] = ⊥
IsPath g (x ∷ []) = Unit {0}
IsPath g (x ∷ y ∷ t) = HasLink g x y × IsPath g (y ∷ t)

-- the first node is a start
abbrev pub BeginsIn : List ℕ → List ℕ → Type 0
BeginsIn starts [] = ⊥
BeginsIn starts (x ∷ t) = Contains starts x

-- the last node is a goal
abbrev pub EndsIn : List ℕ → List ℕ → Type 0
EndsIn goals [] = ⊥
EndsIn goals (x ∷ []) = Contains goals x
EndsIn goals (x ∷ y ∷ t) = EndsIn goals (y ∷ t)

-- a path from a start to a goal
abbrev pub Leads : List (List Edge) → List ℕ → List ℕ → List ℕ → Type 0
Leads g starts goals nodes = IsPath g nodes × BeginsIn starts nodes × EndsIn goals nodes

-- some path leads from a start to the node
abbrev pub Reached : List (List Edge) → List ℕ → ℕ → Type 0
Reached g starts n = (nodes : List ℕ) × Leads g starts (n ∷ []) nodes

-- each link of the path has its rule
abbrev pub AreRules : List (List Edge) → List ℕ → List ℕ → Type 0
AreRules g (x ∷ y ∷ t) (r ∷ rs) = Contains (row g x) (record { to = y; rule = r }) × AreRules g (y ∷ t) rs
AreRules g (x ∷ []) [] = Unit {0}
AreRules g _ _ = ⊥

-- of two lists of numbers, the one that has the lesser number where they first differ, or that ends there
abbrev pub ComesBefore : List ℕ → List ℕ → Type 0
ComesBefore xs [] = ⊥
ComesBefore [] (y ∷ ys) = Unit {0}
ComesBefore (x ∷ xs) (y ∷ ys) = (x < y) ⊎ ((x ≡ y) × ComesBefore xs ys)

-- the nodes of a path in order, and the rules of its links
pub record Steps : Type 0 where
  pub nodes : List ℕ
  pub rules : List ℕ

-- a path from a start to a goal with the rules of its links, such that none is shorter,
-- and none of its length comes before it
pub record IsLeastPath (g : List (List Edge)) (starts goals : List ℕ) (path : Steps) : Type 0 where
  pub leads : Leads g starts goals path.nodes
  pub ruled : AreRules g path.nodes path.rules
  pub shortest : (nodes : List ℕ) → Leads g starts goals nodes → length path.nodes ≤ length nodes
  pub least : (nodes : List ℕ) → Leads g starts goals nodes → length nodes ≡ length path.nodes
      → (path.nodes ≡ nodes) ⊎ ComesBefore path.nodes nodes
