-- Steps and turns keep operands as the bodies lead to them.
use Rattle.std.proofs.Common.{ℕ, zero, suc, List, Option}
use Rattle.ctw_ops.specs.declared.types.Label.{Label}
use Rattle.ctw_ops.specs.Types.{ValueType}
use Rattle.ctw_ops.specs.Code.{Closer}
use Rattle.ctw_script.specs.declared.event.Event.{Event}
use Rattle.ctw_semantics.specs.Stores.{Storage}
use Rattle.ctw_semantics.specs.Instances.{Functions}
use Rattle.ctw_semantics.specs.Activations.{Activation}
use Rattle.ctw_semantics.specs.Answers.{Answer, Goes, Ended, Trapped, Stuck}
use Rattle.ctw_semantics.specs.Machine.{red}
use Rattle.ctw_semantics.specs.Steps.{free_next, Stepped, then_step, reductions, step, Turned, then_turn, turn}
use Rattle.ctw_semantics.specs.Sound.{Shape, SoundStorage, SoundSet, SoundCall, SoundAnswer}
use Rattle.ctw_semantics.proofs.Sound.{red_sound}
use Rattle.ctw_semantics.proofs.SoundSteps.{step_sound}
use Rattle.ctw_unique.specs.ByBodies.{HoldsByBodies, StillHolds, LeftHolds}
use Rattle.ctw_unique.proofs.Keeping.{red_good}

module _ (fns : Functions) (shape : Shape) (last : Option (ValueType Label)) (set : SoundSet fns shape) where
  then_good : (x : Answer) (e : Option Event) (o : Option ℕ) (go : Storage → Activation → Stepped) → SoundAnswer fns shape last x → StillHolds fns shape x → ((s : Storage) (a : Activation) (closers : List (List Closer)) → SoundStorage shape s → SoundCall fns shape last a → HoldsByBodies fns shape closers a → StillHolds fns shape (go s a).answer) → StillHolds fns shape (then_step x e o go).answer
  then_good (Goes s a) e o go f r h = h s a r.0 f.0 f.1 r.1
  then_good (Ended v) e o go f r h = tt
  then_good (Trapped code) e o go f r h = tt
  then_good Stuck e o go f r h = tt

  reductions_good : (n : ℕ) (s : Storage) (a : Activation) (closers : List (List Closer)) → SoundStorage shape s → SoundCall fns shape last a → HoldsByBodies fns shape closers a → StillHolds fns shape (reductions n fns s a).answer
  reductions_good zero s a closers ss h r = red_good fns shape set last s a closers ss h r
  reductions_good (suc n) s a closers ss h r =
      then_good (red fns s a).answer (red fns s a).event (red fns s a).release (reductions n fns) (red_sound fns shape last set s a ss h) (red_good fns shape set last s a closers ss h r) (reductions_good n)

  pub step_good : (s : Storage) (a : Activation) (closers : List (List Closer)) → SoundStorage shape s → SoundCall fns shape last a → HoldsByBodies fns shape closers a → StillHolds fns shape (step fns s a).answer
  step_good s a closers ss h r = reductions_good (free_next a) s a closers ss h r

  then_turn_good : (s : Storage) (x : Answer) (e : Option Event) (l : List ℕ) (go : Storage → Activation → Turned) → SoundAnswer fns shape last x → StillHolds fns shape x → ((s : Storage) (a : Activation) (closers : List (List Closer)) → SoundStorage shape s → SoundCall fns shape last a → HoldsByBodies fns shape closers a → LeftHolds fns shape (go s a).left) → LeftHolds fns shape (then_turn s x e l go).left
  then_turn_good s (Goes t a) e l go f r h = h t a r.0 f.0 f.1 r.1
  then_turn_good s (Ended v) e l go f r h = tt
  then_turn_good s (Trapped code) e l go f r h = tt
  then_turn_good s Stuck e l go f r h = tt

  pub turn_good : (n : ℕ) (s : Storage) (a : Activation) (closers : List (List Closer)) → SoundStorage shape s → SoundCall fns shape last a → HoldsByBodies fns shape closers a → LeftHolds fns shape (turn n fns s a).left
  turn_good zero s a closers ss h r = (closers, r)
  turn_good (suc n) s a closers ss h r =
      then_turn_good s (step fns s a).answer (step fns s a).event (step fns s a).releases (turn n fns) (step_sound fns shape last set s a ss h) (step_good s a closers ss h r) (turn_good n)
