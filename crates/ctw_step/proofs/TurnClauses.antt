-- What follows from what a turn does.
use Rattle.std.proofs.Common.{◌≡◌, ℕ, List, ◌++◌, Option, option_map, refl, sym, ap, ◌∙◌, subst}
use Rattle.ctw_ops.specs.declared.types.Label.{Label}
use Rattle.ctw_ops.specs.Types.{ValueType}
use Rattle.ctw_script.specs.declared.trap.TrapCode.{TrapCode}
use Rattle.ctw_script.specs.declared.event.Event.{Event}
use Rattle.ctw_semantics.specs.Values.{Value}
use Rattle.ctw_semantics.specs.Stores.{Storage}
use Rattle.ctw_semantics.specs.Instances.{Functions}
use Rattle.ctw_semantics.specs.Activations.{Activation}
use Rattle.ctw_semantics.specs.Steps as Steps
use Rattle.ctw_semantics.specs.Steps.{Left, turn}
use Rattle.ctw_semantics.specs.Seen.{Agree, seen, seen_storage, seen_left, seen_turned, seen_value}
use Rattle.ctw_semantics.specs.Sound.{Shape, SoundStorage}
use Rattle.ctw_semantics.specs.Erased.{erase_functions, erase_storage, erase_activation, erase_turned, erase_left}
use Rattle.ctw_semantics.proofs.SoundSteps.{turn_sound}
use Rattle.ctw_semantics.proofs.AlikeSteps.{same_ends, turn_same}
use Rattle.ctw_semantics.proofs.ErasedSteps.{turn_erased}
use Rattle.ctw_link.specs.declared.set.Part.{Part}
use Rattle.ctw_step.specs.declared.turning.Turned.{Turned}
use Rattle.ctw_step.specs.declared.turning.Turned.TheVariants as Turneds
use Rattle.ctw_step.specs.Shown.{Shown}
use Rattle.ctw_step.specs.SetInstances.{instances}
use Rattle.ctw_step.specs.Stepping.{Standing}
use Rattle.ctw_step.specs.Turning.{TurnTells, TurnSeenAs, TurnErasedAs}
use Rattle.ctw_step.proofs.StepClauses.{shows}

seen_running : (a : Activation) (y : Left) → seen_left (Steps.Running a) ≡ seen_left y → (b : Activation) × (y ≡ Steps.Running b) × (seen a ≡ seen b)
seen_running a (Steps.Running b) e = (b, refl, cc)
seen_running a (Steps.Finished w) e = absurd cc
seen_running a (Steps.Trapped d) e = absurd cc
seen_running a Steps.Stuck e = absurd cc

seen_finished : (v : Option Value) (y : Left) → seen_left (Steps.Finished v) ≡ seen_left y → (w : Option Value) × (y ≡ Steps.Finished w) × (option_map seen_value v ≡ option_map seen_value w)
seen_finished v (Steps.Finished w) e = (w, refl, cc)
seen_finished v (Steps.Running b) e = absurd cc
seen_finished v (Steps.Trapped d) e = absurd cc
seen_finished v Steps.Stuck e = absurd cc

seen_trapped : (c : TrapCode) (y : Left) → seen_left (Steps.Trapped c) ≡ seen_left y → y ≡ Steps.Trapped c
seen_trapped c (Steps.Trapped d) e = sym e
seen_trapped c (Steps.Running b) e = absurd cc
seen_trapped c (Steps.Finished w) e = absurd cc
seen_trapped c Steps.Stuck e = absurd cc

module _ (parts : List Part) (n : ℕ) (s s' : Storage) (c c' : Shown) (before after : List Event) (shape : Shape) (last : Option (ValueType Label)) (a : Activation) (st : Standing parts s c shape last a) where
  abbrev fns : Functions
  fns = instances parts

  pub turn_stays : (r : Turned) → TurnTells parts shape last n (turn n fns s a) r s' c' before after → SoundStorage shape s'
  turn_stays Turneds.More h = h.standing.storage
  turn_stays (Turneds.Ended k v) h = subst (SoundStorage shape) h.4 (turn_sound fns shape last st.functions n s a st.storage st.call).storage
  turn_stays (Turneds.Trapped k d) h = subst (SoundStorage shape) h.2 (turn_sound fns shape last st.functions n s a st.storage st.call).storage

  pub turn_isolated : (r : Turned) (t : Storage) (b : Activation) → TurnTells parts shape last n (turn n fns s a) r s' c' before after → Agree s a t b → (turn n fns s a).releases ≡ (turn n fns t b).releases
      → TurnSeenAs parts n r s' c' before after (turn n fns t b)
  turn_isolated r t b h g q =
      let x = same_ends (seen_turned (turn n fns s a)) (seen_turned (turn n fns t b)) (turn n fns s a).releases (turn n fns t b).releases (turn_same fns n s t a b g) q in
      go r (turn n fns t b) h (ap (λ (x : Steps.Turned). x.storage) x) (ap (λ (x : Steps.Turned). x.left) x) (ap (λ (x : Steps.Turned). x.steps) x) (ap (λ (x : Steps.Turned). x.events) x)
    where
      go : (r : Turned) (y : Steps.Turned) → TurnTells parts shape last n (turn n fns s a) r s' c' before after → seen_storage (turn n fns s a).storage ≡ seen_storage y.storage → seen_left (turn n fns s a).left ≡ seen_left y.left
          → (turn n fns s a).steps ≡ y.steps → (turn n fns s a).events ≡ y.events → TurnSeenAs parts n r s' c' before after y
      go Turneds.More y h es el ek ee =
          let z = seen_running h.left y.left (ap seen_left (sym h.running) ∙ el) in
          (h.left, z.0, h.standing.stands, z.1, (ap seen_storage (sym h.storage) ∙ es, z.2), sym ek ∙ h.steps_taken, h.events ∙ ap (λ l. before ++ l) ee)
      go (Turneds.Ended k v) y h es el ek ee =
          let z = seen_finished h.0 y.left (ap seen_left (sym h.1) ∙ el) in
          (z.0, z.1, shows v h.0 z.0 h.2 z.2, ap seen_storage (sym h.4) ∙ es, sym ek ∙ h.3, h.5 ∙ ap (λ l. before ++ l) ee)
      go (Turneds.Trapped k d) y h es el ek ee =
          (seen_trapped d y.left (ap seen_left (sym h.0) ∙ el), ap seen_storage (sym h.2) ∙ es, sym ek ∙ h.1, h.3 ∙ ap (λ l. before ++ l) ee)

  pub turn_erases : (r : Turned) → TurnTells parts shape last n (turn n fns s a) r s' c' before after → TurnErasedAs parts n r s' c' before after (turn n (erase_functions fns) (erase_storage s) (erase_activation fns a))
  turn_erases r h = subst (TurnErasedAs parts n r s' c' before after) (turn_erased fns shape last st.functions n s a st.storage st.call) (go r h)
    where
      go : (r : Turned) → TurnTells parts shape last n (turn n fns s a) r s' c' before after → TurnErasedAs parts n r s' c' before after (erase_turned fns (turn n fns s a))
      go Turneds.More h = (h.left, h.standing.stands, ap (λ (l : Left). erase_left fns l) h.running, ap erase_storage h.storage, h.steps_taken, h.events)
      go (Turneds.Ended k v) h = (h.0, ap (λ (l : Left). erase_left fns l) h.1, h.2, ap erase_storage h.4, h.3, h.5)
      go (Turneds.Trapped k d) h = (ap (λ (l : Left). erase_left fns l) h.0, ap erase_storage h.2, h.1, h.3)
