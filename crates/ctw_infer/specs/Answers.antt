-- What the inference of a plain module's labels answers.
use Rattle.std.specs.Prelude.{◌≡◌, ℕ, ◌<◌, ◌≤◌, true, false, ◌⊎◌, List, [], ◌∷◌, length, Some, slice_get, unwrap_or}
use Rattle.ctw_ops.specs.declared.types.Label.{Label}
use Rattle.ctw_ops.specs.Tree.{Module}
use Rattle.ctw_flow.specs.Path.{ComesBefore}
use Rattle.ctw_labels.specs.Points.{Points}
use Rattle.ctw_labels.specs.Kept.{IsKept}
use Rattle.ctw_labels.specs.Links.{Link, Must}
use Rattle.ctw_labels.specs.ModuleLinks.{links, musts}
use Rattle.ctw_labels.specs.SitedModule.{sites}
use Rattle.ctw_labels.specs.Fits.{Mark, Fits, rule_between, must_of}
use Rattle.ctw_least.specs.Flows.{IsFlow, AreLeastRules, last_of, reason}
use Rattle.ctw_sites.specs.Flow.{Flow}
use Rattle.ctw_sites.specs.Packed.{most_sites}
use Rattle.ctw_sites.specs.declared.fault.SitesFault.{SitesFault}
use Rattle.ctw_sites.specs.declared.fault.SitesFault.TheVariants as site
use Rattle.ctw_infer.specs.declared.fault.InferFault.{InferFault}
use Rattle.ctw_infer.specs.declared.fault.InferFault.TheVariants.{Labelled, TooManySites, TrustCall, TrustTable, Flow as FlowFault, NoMemory}
use Rattle.ctw_infer.specs.Misuse.{misused_calls, misused_entries}

-- a flow with its least rules, such that none is shorter, and none of its length comes before it by its sites
pub record IsLeastFlow (links : List Link) (musts : List Must) (marks : List Mark) (w : Flow) : Type 0 where
  pub flow : IsFlow links musts marks w.sites
  pub shortest : (sites : List ℕ) → IsFlow links musts marks sites → length w.sites ≤ length sites
  pub least : (sites : List ℕ) → IsFlow links musts marks sites → length sites ≡ length w.sites
      → (w.sites ≡ sites) ⊎ ComesBefore w.sites sites
  pub rules : AreLeastRules links w.sites w.rules
  pub last : w.last ≡ reason musts (last_of w.sites)

-- no labelling fits
abbrev pub FitsNone : Module Label → Points → List Mark → Type 0
FitsNone m p marks = (labels : ℕ → Label) → Fits m p marks labels → ⊥

-- the first direct call of a trusted function in another one; where there is none, the first trusted function in an
-- element
abbrev pub IsMisuse : Module Label → Points → InferFault → Type 0
IsMisuse m p Labelled = ⊥
IsMisuse m p (TooManySites count) = ⊥
IsMisuse m p (TrustCall caller at callee) =
    slice_get (misused_calls m p) 0 ≡ Some (record { caller = caller; at = at; callee = callee })
IsMisuse m p (TrustTable func) = (misused_calls m p ≡ []) × (slice_get (misused_entries m p) 0 ≡ Some func)
IsMisuse m p (FlowFault w) = ⊥
IsMisuse m p NoMemory = ⊥

-- why a plain module isn't labelled that has no more sites than it may: trust is misused; else no labelling fits, and a
-- least flow tells why; or memory ran out
abbrev pub IsRefusedPlain : Module Label → Points → List Mark → InferFault → Type 0
IsRefusedPlain m p marks Labelled = ⊥
IsRefusedPlain m p marks (TooManySites count) = ⊥
IsRefusedPlain m p marks (TrustCall caller at callee) = IsMisuse m p (TrustCall caller at callee)
IsRefusedPlain m p marks (TrustTable func) = IsMisuse m p (TrustTable func)
IsRefusedPlain m p marks (FlowFault w) =
    IsKept m p × FitsNone m p marks × IsLeastFlow (links m p) (musts m p) marks w
IsRefusedPlain m p marks NoMemory = Unit {0}

-- a plain module that has no more sites than it may
abbrev pub IsInferable : Module Label → Type 0
IsInferable m = (m.ct ≡ false) × (length (sites m) ≤ most_sites)

-- why any module isn't labelled
abbrev pub IsRefused : Module Label → Points → List Mark → InferFault → Type 0
IsRefused m p marks Labelled = m.ct ≡ true
IsRefused m p marks (TooManySites count) =
    (m.ct ≡ false) × (most_sites < length (sites m)) × (count ≡ length (sites m))
IsRefused m p marks (TrustCall caller at callee) =
    IsInferable m × IsRefusedPlain m p marks (TrustCall caller at callee)
IsRefused m p marks (TrustTable func) = IsInferable m × IsRefusedPlain m p marks (TrustTable func)
IsRefused m p marks (FlowFault w) = IsInferable m × IsRefusedPlain m p marks (FlowFault w)
IsRefused m p marks NoMemory = Unit {0}

-- a refusal to number the sites, as one to label them
abbrev pub fault_of_sites : SitesFault → InferFault
fault_of_sites (site.TooManySites count) = TooManySites count
fault_of_sites site.NoMemory = NoMemory
