-- Flows of a secret into a public place, and the labelling that is secret where secrets flow.
use Rattle.std.specs.Prelude.{◌≡◌, ◌↔◌, ℕ, ◌≤◌, ◌-◌, Bool, true, false, ◌⊎◌, List, [], ◌∷◌, length, Some, slice_index, unwrap_or, Contains}
use Rattle.ctw_ops.specs.declared.types.Label.{Label}
use Rattle.ctw_ops.specs.declared.types.Label.TheVariants.{Public, Secret}
use Rattle.ctw_flow.specs.declared.graph.Edge.{Edge}
use Rattle.ctw_flow.specs.Graph.{row, HasLink}
use Rattle.ctw_labels.specs.Links.{Link, Must}
use Rattle.ctw_labels.specs.Fits.{Mark, rule_between, must_of}

abbrev pub IsMarked : List Mark → ℕ → Label → Type 0
IsMarked marks n l = Contains marks (record { site = n; label = l })

-- a site is public by a rule, or marked public
abbrev pub IsEnd : List Must → List Mark → ℕ → Type 0
IsEnd musts marks n = ((r : ℕ) × Contains musts (record { site = n; rule = r })) ⊎ IsMarked marks n Public

abbrev pub Linked : List Link → ℕ → ℕ → Type 0
Linked links a b = (r : ℕ) × Contains links (record { from = a; to = b; rule = r })

abbrev pub FlowsOn : List Link → List Must → List Mark → ℕ → List ℕ → Type 0
FlowsOn links musts marks x [] = IsEnd musts marks x
FlowsOn links musts marks x (y ∷ t) = Linked links x y × FlowsOn links musts marks y t

-- sites of which the first is marked secret, neighbours are linked, and the last is an end
abbrev pub IsFlow : List Link → List Must → List Mark → List ℕ → Type 0
IsFlow links musts marks [] = ⊥
IsFlow links musts marks (x ∷ t) = IsMarked marks x Secret × FlowsOn links musts marks x t

-- the graph has just the links, each with its least rule
pub record IsGraphOf (links : List Link) (g : List (List Edge)) : Type 0 where
  pub linked : (a b : ℕ) → HasLink g a b ↔ Linked links a b
  pub ruled : (a b r : ℕ) → Contains (row g a) (record { to = b; rule = r })
      → Contains links (record { from = a; to = b; rule = r })
  pub least : (a b r q : ℕ) → Contains (row g a) (record { to = b; rule = r })
      → Contains links (record { from = a; to = b; rule = q }) → r ≤ q

abbrev pub label_of : Bool → Label
label_of true = Secret
label_of false = Public

-- each rule is the least one from a site to the next
abbrev pub AreLeastRules : List Link → List ℕ → List ℕ → Type 0
AreLeastRules links (x ∷ y ∷ sites) (r ∷ rules) =
    (rule_between x y links ≡ Some r) × AreLeastRules links (y ∷ sites) rules
AreLeastRules links (x ∷ []) [] = Unit {0}
AreLeastRules links _ _ = ⊥

-- the last one of sites
abbrev pub last_of : List ℕ → ℕ
last_of sites = slice_index sites (length sites - 1)

-- the number that stands for a mark
abbrev pub marked : ℕ
marked = 255

-- the least rule by which a site is public; else it is marked
abbrev pub reason : List Must → ℕ → ℕ
reason musts n = unwrap_or (must_of n musts) marked
