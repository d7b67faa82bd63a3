-- Sessions that are opened.
use Rattle.std.proofs.Common.{◌≡◌, ◌≢◌, ℕ, List, Result, Ok, Err, refl, sym, ap, ◌∙◌, subst}
use Rattle.ctw_link.specs.declared.set.Part.{Part}
use Rattle.ctw_link.specs.Sets.{ModuleSet, set_of}
use Rattle.ctw_launch.specs.Launched as Launched
use Rattle.ctw_launch.specs.Launched.{Started, Stands, Fails}
use Rattle.ctw_moves.specs.States.{State}
use Rattle.ctw_moves.specs.LaunchedStates.{first_state, with_vault, launch}
use Rattle.ctw_session.specs.declared.live.Live.{Live}
use Rattle.ctw_session.specs.declared.fault.LaunchFault.{LaunchFault}
use Rattle.ctw_session.specs.declared.fault.LaunchFault.TheVariants as faults
use Rattle.ctw_session.specs.Launches.{TellsFault, Denies, IsLaunched}
use Rattle.ctw_inputs.specs.declared.said.Stop.{Stop}
use Rattle.ctw_inputs.specs.declared.said.Status.TheVariants.{Refused}
use Rattle.ctw_inputs.specs.Outcome.{Outcome, ends}
use Rattle.ctw_inputs.specs.Settling.{IsStop}
use Rattle.ctwasm_top.specs.Lines.{launch_line}
use Rattle.ctwasm_top.specs.Launching.{on_launch}
use Rattle.ctwasm_top.specs.Sessions.{Opens}

-- the parts are launched
pub is_open : (parts : List Part) (vault : List ℕ) (l : Live) → IsLaunched parts vault l → Opens {T = Live} (λ l. l) (Ok l) (λ go. on_launch (launch (set_of parts) vault) (go (set_of parts)))
is_open parts vault l h = (
  first_state h.storage vault,
  h.stands,
  λ go. ap (λ (x : Started). on_launch (with_vault x vault) (go (set_of parts))) h.launched ∙ ap (λ (p : List Part). go (set_of p) (first_state h.storage vault)) (sym h.set),
)

-- what an error tells that isn't want of memory
pub told_fault : (parts : List Part) (Comes : Launched.LaunchFault → Type 0) (e : LaunchFault) → e ≢ faults.NoMemory → Denies parts Comes e → (f : Launched.LaunchFault) × Comes f × TellsFault parts e f
told_fault parts Comes faults.NoMemory n h = absurd (n refl)
told_fault parts Comes (faults.SegmentOutside part space index) n h = h
told_fault parts Comes (faults.StartTrapped part code) n h = h
told_fault parts Comes (faults.StartUnfinished part) n h = h

-- the parts aren't
pub is_denied : (set : ModuleSet) (vault : List ℕ) (stop : Stop) (f : Launched.LaunchFault) → Launched.launched set ≡ Fails f → IsStop stop (ends Refused (launch_line f)) → (go : State → Outcome) → IsStop stop (on_launch (launch set vault) go)
is_denied set vault stop f e h go = subst (λ (x : Started). IsStop stop (on_launch (with_vault x vault) go)) (sym e) h

-- the answer goes on in the same way
pub opens_behind : {T : Type 0} (seen : T → Live) (r : Result T Stop) (step other : (ModuleSet → State → Outcome) → Outcome) → ((go : ModuleSet → State → Outcome) → step go ≡ other go) → Opens seen r other → Opens seen r step
opens_behind seen (Ok x) step other e h = (h.0, h.1, λ go. e go ∙ h.2 go)
opens_behind seen (Err stop) step other e h = λ go. subst (IsStop stop) (sym (e go)) (h go)
