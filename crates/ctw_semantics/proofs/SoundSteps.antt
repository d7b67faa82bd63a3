-- Steps and turns of a sound call over a sound store are never stuck, and both stay sound.
use Rattle.std.proofs.Common.{ℕ, zero, suc, List, Option}
use Rattle.ctw_ops.specs.declared.types.Label.{Label}
use Rattle.ctw_ops.specs.Types.{ValueType}
use Rattle.ctw_script.specs.declared.event.Event.{Event}
use Rattle.ctw_semantics.specs.Stores.{Storage}
use Rattle.ctw_semantics.specs.Instances.{Functions}
use Rattle.ctw_semantics.specs.Activations.{Activation}
use Rattle.ctw_semantics.specs.Answers.{Answer, Goes, Ended, Trapped, Stuck}
use Rattle.ctw_semantics.specs.Machine.{red}
use Rattle.ctw_semantics.specs.Steps.{free_next, Stepped, then_step, reductions, step, Turned, then_turn, turn}
use Rattle.ctw_semantics.specs.Sound.{Shape, SoundStorage, SoundSet, SoundCall, SoundAnswer, SoundTurn}
use Rattle.ctw_semantics.proofs.Sound.{red_sound}

module _ (fns : Functions) (shape : Shape) (last : Option (ValueType Label)) (set : SoundSet fns shape) where
  then_sound : (x : Answer) (e : Option Event) (o : Option ℕ) (go : Storage → Activation → Stepped) → SoundAnswer fns shape last x → ((s : Storage) (a : Activation) → SoundStorage shape s → SoundCall fns shape last a → SoundAnswer fns shape last (go s a).answer) → SoundAnswer fns shape last (then_step x e o go).answer
  then_sound (Goes s a) e o go f h = h s a f.0 f.1
  then_sound (Ended v) e o go f h = f
  then_sound (Trapped code) e o go f h = f
  then_sound Stuck e o go f h = f

  pub reductions_sound : (n : ℕ) (s : Storage) (a : Activation) → SoundStorage shape s → SoundCall fns shape last a → SoundAnswer fns shape last (reductions n fns s a).answer
  reductions_sound zero s a ss h = red_sound fns shape last set s a ss h
  reductions_sound (suc n) s a ss h = then_sound (red fns s a).answer (red fns s a).event (red fns s a).release (reductions n fns) (red_sound fns shape last set s a ss h) (reductions_sound n)

  pub step_sound : (s : Storage) (a : Activation) → SoundStorage shape s → SoundCall fns shape last a → SoundAnswer fns shape last (step fns s a).answer
  step_sound s a ss h = reductions_sound (free_next a) s a ss h

  then_turn_sound : (s : Storage) → SoundStorage shape s → (x : Answer) (e : Option Event) (l : List ℕ) (go : Storage → Activation → Turned) → SoundAnswer fns shape last x → ((s : Storage) (a : Activation) → SoundStorage shape s → SoundCall fns shape last a → SoundTurn fns shape last (go s a)) → SoundTurn fns shape last (then_turn s x e l go)
  then_turn_sound s ss (Goes t a) e l go f h = let r = h t a f.0 f.1 in record { storage = r.storage; left = r.left }
  then_turn_sound s ss (Ended v) e l go f h = record { storage = ss; left = f }
  then_turn_sound s ss (Trapped code) e l go f h = record { storage = ss; left = tt }
  then_turn_sound s ss Stuck e l go f h = absurd f

  pub turn_sound : (n : ℕ) (s : Storage) (a : Activation) → SoundStorage shape s → SoundCall fns shape last a → SoundTurn fns shape last (turn n fns s a)
  turn_sound zero s a ss h = record { storage = ss; left = h }
  turn_sound (suc n) s a ss h = then_turn_sound s ss (step fns s a).answer (step fns s a).event (step fns s a).releases (turn n fns) (step_sound s a ss h) (turn_sound n)
