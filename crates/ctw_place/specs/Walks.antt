-- What a body may name under points, and where the values go that its opcodes push.
use Rattle.std.specs.Prelude.{ℕ, ◌+◌, Bool, List, [], ◌∷◌, Option, Some, None, option_map, if◌then◌else◌}
use Rattle.ctw_ops.specs.declared.types.Width.{Width}
use Rattle.ctw_ops.specs.declared.types.Label.{Label}
use Rattle.ctw_ops.specs.Types.{ValueType}
use Rattle.ctw_ops.specs.Code.{Code, Op, Plain, Opens, Closes, ByEnd, ByElse}
use Rattle.ctw_ops.specs.Typing.{Context}
use Rattle.ctw_stack.specs.Operands.{fresh}
use Rattle.ctw_stack.specs.Opens.{Open}
use Rattle.ctw_module.specs.Trees.{view_module}
use Rattle.ctw_labels.specs.declared.tag.Tag.{Tag}
use Rattle.ctw_labels.specs.declared.tag.Tag.TheVariants.{At}
use Rattle.ctw_labels.specs.Points.{Points, trust_at}
use Rattle.ctw_labels.specs.Sited.{Lift, Sited}
use Rattle.ctw_labels.specs.Numbering.{BodyPlace, leaf_lift, number}
use Rattle.ctw_labels.specs.SitedModule.{place_of}
use Rattle.ctw_labels.specs.FlatSites.{among}
use Rattle.ctw_sites.specs.declared.around.Around.{Around}
use Rattle.ctw_sites.specs.Rows.{Row}
use Rattle.ctw_sites.specs.Scope.{scope}
use Rattle.ctw_place.specs.Flat.{innermost_lift}

-- the body's place and its context under points
abbrev pub place_under : Points → Around → BodyPlace Label
place_under p a = place_of (view_module a.whole.now) p a.f

abbrev pub scope_under : Points → Around → Context Tag
scope_under p a = record (scope a) { trust = trust_at p a.f }

-- a body's code under sites, whose first opcode's site is `n`
abbrev pub sited_body : Points → Around → Code Label → ℕ → Sited Tag
sited_body p a code n = (number (place_under p a) (scope_under p a) code n 0 fresh).code

-- a value of a type that goes under the site `p`
abbrev pub lift_to : ℕ → Bool → ValueType Tag → Lift Tag
lift_to p free t = record { width = t.width; source = t.tag; target = At p; free = free }

abbrev pub lift_by : ℕ → Bool → Row → Option (Lift Tag)
lift_by p free r = if r.lifts then option_map (lift_to p free) r.gives else None

-- what a `select` gives, whose own site is `n`
abbrev pub chosen_lift : ℕ → Bool → Option Width → Option (Lift Tag)
chosen_lift n free w = option_map (λ w. record { width = w; source = At n; target = At (n + 1); free = free }) w

-- the first site behind that of a push, which may be there
abbrev pub next_site : ℕ → Option (Lift Tag) → ℕ
next_site p None = p
next_site p (Some l) = p + 1

-- what an opcode without instructions inside gives
abbrev pub op_lift : {A : Type 0} → BodyPlace A → Context Tag → ℕ → ℕ → Op A → List (Open Tag) → Option (Lift Tag)
op_lift P C n at op [] = None
op_lift P C n at (Plain i) (v ∷ outer) = leaf_lift P (among C (v ∷ outer)) n at i v.operands
op_lift P C n at (Opens shape t) (v ∷ outer) = None
op_lift P C n at (Closes closer) (v ∷ outer) = None

-- the value that is pushed behind an opcode
abbrev pub lift_behind : {A : Type 0} → BodyPlace A → Context Tag → ℕ → ℕ → Op A → List (Open Tag)
    → List (Option (Lift Tag)) → Option (Lift Tag)
lift_behind P C n at (Plain i) blocks ends = op_lift P C n at (Plain i) blocks
lift_behind P C n at (Opens shape t) blocks ends = None
lift_behind P C n at (Closes ByElse) blocks ends = None
lift_behind P C n at (Closes ByEnd) blocks ends = innermost_lift ends
