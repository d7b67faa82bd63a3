-- The links and public sites as they are kept: links as rows of a graph, and for each site a byte.
use Rattle.std.specs.Prelude.{◌<◌, ℕ, zero, suc, ◌==◌, ◌||◌, nat_lt, List, [], ◌∷◌, map, get_or, slice_set, Option, Some, None, if◌then◌else◌}
use Rattle.ctw_flow.specs.declared.graph.Edge.{Edge}
use Rattle.ctw_labels.specs.declared.tag.Tag.{Tag}
use Rattle.ctw_labels.specs.declared.tag.Tag.TheVariants.{At, Fixed}
use Rattle.ctw_labels.specs.declared.name.SiteName.{SiteName}
use Rattle.ctw_labels.specs.declared.name.SiteName.TheVariants.{Push}
use Rattle.ctw_labels.specs.Links.{Fact, Link, Must}
use Rattle.ctw_labels.specs.Points.{Points, is_released}

-- the graph of the links, and for each site the least rule by which it is public, or 0
pub record Collected : Type 0 where
  pub graph : List (List Edge)
  pub musts : List ℕ

-- the rule that a byte tells
abbrev pub rule_of : ℕ → Option ℕ
rule_of zero = None
rule_of (suc k) = Some (suc k)

abbrev pub must_at : List ℕ → ℕ → Option ℕ
must_at musts n = rule_of (get_or musts n 0)

-- a link as a graph is told it
abbrev pub triple : Link → ℕ × ℕ × ℕ
triple k = (k.from, k.to, k.rule)

abbrev pub triples : List Link → List (ℕ × ℕ × ℕ)
triples ks = map triple ks

-- a site is public by one more rule
abbrev pub lesser : ℕ → ℕ → ℕ
lesser old rule = if old == 0 || nat_lt rule old then rule else old

abbrev pub with_must : List ℕ → Must → List ℕ
with_must musts k = slice_set musts k.site (lesser (get_or musts k.site 0) k.rule)

abbrev pub with_musts : List ℕ → List Must → List ℕ
with_musts musts [] = musts
with_musts musts (k ∷ ks) = with_musts (with_must musts k) ks

-- ---- sites below a number

abbrev pub TagIn : ℕ → Tag → Type 0
TagIn n (At k) = k < n
TagIn n Fixed = Unit {0}

-- a fact of these, by a rule that has a number
abbrev pub FactIn : ℕ → Fact Tag → Type 0
FactIn n q = TagIn n q.left × TagIn n q.right × (0 < q.rule)

-- ---- yields

-- the function and the opcode of a push
abbrev pub push_of : SiteName → Option (ℕ × ℕ)
push_of (Push f at) = Some (f, at)
push_of _ = None

abbrev pub yield_by : Points → ℕ → Option (ℕ × ℕ) → Option ℕ → List Link
yield_by p n (Some x) (Some y) =
    if is_released p x.0 x.1 then [] else record { from = y; to = n; rule = 1 } ∷ []
yield_by p n _ _ = []
