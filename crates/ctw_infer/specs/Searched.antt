-- What a search through the links answers.
use Rattle.std.specs.Prelude.{◌≡◌, ◌↔◌, ◌<◌, ℕ, List, length, unwrap_or, All}
use Rattle.ctw_ops.specs.declared.types.Label.{Label}
use Rattle.ctw_ops.specs.declared.types.Label.TheVariants.{Secret}
use Rattle.ctw_flow.specs.declared.graph.Edge.{Edge}
use Rattle.ctw_flow.specs.Path.{Leads, Reached, IsLeastPath}
use Rattle.ctw_labels.specs.Fits.{label_at}
use Rattle.ctw_least.specs.Flows.{last_of, marked}
use Rattle.ctw_links.specs.Collected.{must_at}
use Rattle.ctw_infer.specs.declared.fault.InferFault.{InferFault}
use Rattle.ctw_infer.specs.declared.fault.InferFault.TheVariants.{Labelled, TooManySites, TrustCall, TrustTable, Flow as FlowFault, NoMemory}

-- no path leads from a start to a goal, and just the reached sites are secret
pub record IsReachedLabelling (g : List (List Edge)) (starts goals : List ℕ) (labels : List Label) : Type 0 where
  pub sized : length labels ≡ length g
  pub secret : (n : ℕ) → (label_at labels n ≡ Secret) ↔ Reached g starts n
  pub none : (nodes : List ℕ) → Leads g starts goals nodes → ⊥

-- the rule by which a site is public, by what is collected; else it is marked
abbrev pub reason_in : List ℕ → ℕ → ℕ
reason_in musts n = unwrap_or (must_at musts n) marked

-- the least path leads from a start to a goal
abbrev pub IsFound : List (List Edge) → List ℕ → List ℕ → List ℕ → InferFault → Type 0
IsFound g musts starts goals Labelled = ⊥
IsFound g musts starts goals (TooManySites count) = ⊥
IsFound g musts starts goals (TrustCall caller at callee) = ⊥
IsFound g musts starts goals (TrustTable func) = ⊥
IsFound g musts starts goals (FlowFault w) =
    IsLeastPath g starts goals (record { nodes = w.sites; rules = w.rules })
    × (w.last ≡ reason_in musts (last_of w.sites))
IsFound g musts starts goals NoMemory = Unit {0}

-- the sites of a flow are below a number
abbrev pub IsWithin : ℕ → InferFault → Type 0
IsWithin count Labelled = Unit {0}
IsWithin count (TooManySites n) = Unit {0}
IsWithin count (TrustCall caller at callee) = Unit {0}
IsWithin count (TrustTable func) = Unit {0}
IsWithin count (FlowFault w) = All (λ n. n < count) w.sites
IsWithin count NoMemory = Unit {0}
