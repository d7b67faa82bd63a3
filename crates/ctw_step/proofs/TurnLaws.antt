-- A loop of steps.
use Rattle.std.proofs.Common.{◌≡◌, ℕ, suc, ◌+◌, ◌-◌, ◌<◌, List, [], ◌++◌, Option, Some, None, option_to_list, refl, sym, ap, ap₂, ◌∙◌, subst, arith, append_assoc, append-nil}
use Rattle.ctw_ops.specs.declared.types.Label.{Label}
use Rattle.ctw_ops.specs.Types.{ValueType}
use Rattle.ctw_ops.specs.Typing.{optional}
use Rattle.ctw_script.specs.declared.trap.TrapCode.{TrapCode}
use Rattle.ctw_script.specs.declared.event.Event.{Event}
use Rattle.ctw_semantics.specs.Stores.{Storage}
use Rattle.ctw_semantics.specs.Instances.{Functions}
use Rattle.ctw_semantics.specs.Activations.{Activation}
use Rattle.ctw_semantics.specs.Answers.{Answer, Goes, Ended, Trapped, Stuck}
use Rattle.ctw_semantics.specs.Steps as Steps
use Rattle.ctw_semantics.specs.Steps.{step, turn, then_turn}
use Rattle.ctw_semantics.specs.Sound.{Shape, SoundAnswer, SoundStorage}
use Rattle.ctw_semantics.proofs.SoundSteps.{step_sound}
use Rattle.ctw_link.specs.declared.set.Part.{Part}
use Rattle.ctw_step.specs.declared.running.Stepped.TheVariants as Steppeds
use Rattle.ctw_step.specs.declared.turning.Turned.TheVariants as Turneds
use Rattle.ctw_step.specs.Shown.{Shown}
use Rattle.ctw_link.specs.Linked.{code_in}
use Rattle.ctw_step.specs.SetInstances.{instances}
use Rattle.ctw_step.specs.Told.{Tells}
use Rattle.ctw_step.specs.Stepping.{Standing}
use Rattle.ctw_step.specs.Turning.{GoesOn, TurnTells, after_steps, Came}

listed : (e : Option Event) → option_to_list e ≡ optional e
listed None = refl
listed (Some e) = refl

module _ (parts : List Part) (shape : Shape) (last : Option (ValueType Label)) where
  abbrev fns : Functions
  fns = instances parts

  pub came_start : (s : Storage) (c : Shown) (a : Activation) (before : List Event) → Standing parts s c shape last a → Came parts shape last 0 s a before s c before
  came_start s c a before st = record { to = a; events = []; releases = []; standing = st; told = sym (append-nil before); runs = λ k. begins k }
    where
      zero_plus : (k : ℕ) → 0 + k ≡ k
      zero_plus k = omega arith

      begins : (k : ℕ) → turn (0 + k) fns s a ≡ after_steps 0 [] [] (turn k fns s a)
      begins k =
          ap (λ k. turn k fns s a) (zero_plus k)
          ∙ ap (λ n. record { storage = (turn k fns s a).storage; left = (turn k fns s a).left; steps = n; events = (turn k fns s a).events; releases = (turn k fns s a).releases }) (sym (zero_plus (turn k fns s a).steps))

  -- where a step goes on
  record Onward (s : Storage) (a : Activation) (s' : Storage) (c' : Shown) (e : Option Event) : Type 0 where
    pub b : Activation
    pub answer : (step fns s a).answer ≡ Goes s' b
    pub event : (step fns s a).event ≡ e
    pub standing : Standing parts s' c' shape last b

  onward : (s s' : Storage) (c c' : Shown) (a : Activation) (e : Option Event) → Standing parts s c shape last a → Tells (code_in parts) s' c' (Steppeds.Went e) (step fns s a).answer (step fns s a).event → Onward s a s' c' e
  onward s s' c c' a e st h = go (step fns s a).answer refl h (step_sound fns shape last st.functions s a st.storage st.call)
    where
      go : (x : Answer) → (step fns s a).answer ≡ x → Tells (code_in parts) s' c' (Steppeds.Went e) x (step fns s a).event → SoundAnswer fns shape last x → Onward s a s' c' e
      go (Goes t b) q h g = record { b = b; answer = q ∙ ap (λ t. Goes t b) h.0; event = sym h.2; standing = record { functions = st.functions; storage = subst (SoundStorage shape) h.0 g.0; call = g.1; stands = h.1 } }
      go (Ended v) q h g = absurd h
      go (Trapped d) q h g = absurd h
      go Stuck q h g = absurd h

  pub came_next : (i : ℕ) (s0 s s' : Storage) (c c' : Shown) (a0 : Activation) (before told told' : List Event) (e : Option Event) (x : Came parts shape last i s0 a0 before s c told)
      → Tells (code_in parts) s' c' (Steppeds.Went e) (step fns s x.to).answer (step fns s x.to).event → told' ≡ told ++ option_to_list e → Came parts shape last (i + 1) s0 a0 before s' c' told'
  came_next i s0 s s' c c' a0 before told told' e x h te =
      let o = onward s s' c c' x.to e x.standing h in
      record {
        to = o.b;
        events = x.events ++ optional e;
        releases = x.releases ++ (step fns s x.to).releases;
        standing = o.standing;
        told = te ∙ ap₂ (λ (l m : List Event). l ++ m) x.told (listed e) ∙ append_assoc before x.events (optional e);
        runs = λ k.
            ap (λ k. turn k fns s0 a0) (shifted i k) ∙ x.runs (suc k)
            ∙ ap₂ (λ (y : Answer) (v : Option Event). after_steps i x.events x.releases (then_turn s y v (step fns s x.to).releases (turn k fns))) o.answer o.event
            ∙ joined i k x.events (optional e) x.releases (step fns s x.to).releases (turn k fns s' o.b);
      }
    where
      shifted : (i k : ℕ) → i + 1 + k ≡ i + suc k
      shifted i k = omega arith

      joined : (i k : ℕ) (es fs : List Event) (rs qs : List ℕ) (t : Steps.Turned)
          → after_steps i es rs (record { storage = t.storage; left = t.left; steps = suc t.steps; events = fs ++ t.events; releases = qs ++ t.releases }) ≡ after_steps (i + 1) (es ++ fs) (rs ++ qs) t
      joined i k es fs rs qs t =
          let n : i + suc t.steps ≡ i + 1 + t.steps = omega arith in
          ap (λ n. record { storage = t.storage; left = t.left; steps = n; events = es ++ (fs ++ t.events); releases = rs ++ (qs ++ t.releases) }) n
          ∙ ap₂ (λ (l : List Event) (m : List ℕ). record { storage = t.storage; left = t.left; steps = i + 1 + t.steps; events = l; releases = m }) (sym (append_assoc es fs t.events)) (sym (append_assoc rs qs t.releases))

  -- so many steps were taken, and no more
  pub came_on : (i : ℕ) (s0 s : Storage) (c : Shown) (a0 : Activation) (before told : List Event) → Came parts shape last i s0 a0 before s c told → GoesOn parts shape last (turn i fns s0 a0) i s c before told
  came_on i s0 s c a0 before told x =
      let q : turn i fns s0 a0 ≡ after_steps i x.events x.releases (turn 0 fns s x.to) = ap (λ k. turn k fns s0 a0) (plus_zero i) ∙ x.runs 0 in
      record {
        left = x.to;
        running = ap (λ (t : Steps.Turned). t.left) q;
        standing = x.standing;
        storage = ap (λ (t : Steps.Turned). t.storage) q;
        steps_taken = ap (λ (t : Steps.Turned). t.steps) q ∙ sym (plus_zero i);
        events = x.told ∙ ap (λ l. before ++ l) (sym (ap (λ (t : Steps.Turned). t.events) q ∙ append-nil x.events));
      }
    where
      plus_zero : (i : ℕ) → i ≡ i + 0
      plus_zero i = omega arith

  -- the last step ends or traps
  last_step : (n i : ℕ) (s0 s : Storage) (c : Shown) (a0 : Activation) (before told : List Event) → i < n → (x : Came parts shape last i s0 a0 before s c told)
      → turn n fns s0 a0 ≡ after_steps i x.events x.releases (then_turn s (step fns s x.to).answer (step fns s x.to).event (step fns s x.to).releases (turn (n - (i + 1)) fns))
  last_step n i s0 s c a0 before told l x =
      let k : n ≡ i + suc (n - (i + 1)) = omega (arith, l) in
      ap (λ k. turn k fns s0 a0) k ∙ x.runs (suc (n - (i + 1)))

  pub came_ended : (n i : ℕ) (s0 s s' : Storage) (c c' : Shown) (a0 : Activation) (before told told' : List Event) (v : Option ℕ) (e : Option Event) → i < n → (x : Came parts shape last i s0 a0 before s c told)
      → Tells (code_in parts) s' c' (Steppeds.Ended v e) (step fns s x.to).answer (step fns s x.to).event → s' ≡ s → told' ≡ told ++ option_to_list e
      → TurnTells parts shape last n (turn n fns s0 a0) (Turneds.Ended (i + 1) v) s' c' before told'
  came_ended n i s0 s s' c c' a0 before told told' v e l x h es te = go (step fns s x.to).answer (last_step n i s0 s c a0 before told l x) h
    where
      go : (y : Answer) → turn n fns s0 a0 ≡ after_steps i x.events x.releases (then_turn s y (step fns s x.to).event (step fns s x.to).releases (turn (n - (i + 1)) fns))
          → Tells (code_in parts) s' c' (Steppeds.Ended v e) y (step fns s x.to).event → TurnTells parts shape last n (turn n fns s0 a0) (Turneds.Ended (i + 1) v) s' c' before told'
      go (Ended w) q h = (
        w,
        ap (λ (t : Steps.Turned). t.left) q,
        h.0,
        ap (λ (t : Steps.Turned). t.steps) q,
        ap (λ (t : Steps.Turned). t.storage) q ∙ sym es,
        te ∙ ap₂ (λ (l m : List Event). l ++ m) x.told (listed e) ∙ append_assoc before x.events (optional e) ∙ ap (λ (v : Option Event). before ++ (x.events ++ optional v)) h.1 ∙ ap (λ l. before ++ l) (sym (ap (λ (t : Steps.Turned). t.events) q)),
      )
      go (Goes t b) q h = absurd h
      go (Trapped d) q h = absurd h
      go Stuck q h = absurd h

  pub came_trapped : (n i : ℕ) (s0 s s' : Storage) (c c' : Shown) (a0 : Activation) (before told told' : List Event) (d : TrapCode) (e : Option Event) → i < n → (x : Came parts shape last i s0 a0 before s c told)
      → Tells (code_in parts) s' c' (Steppeds.Trapped d e) (step fns s x.to).answer (step fns s x.to).event → s' ≡ s → told' ≡ told ++ option_to_list e
      → TurnTells parts shape last n (turn n fns s0 a0) (Turneds.Trapped (i + 1) d) s' c' before told'
  came_trapped n i s0 s s' c c' a0 before told told' d e l x h es te = go (step fns s x.to).answer (last_step n i s0 s c a0 before told l x) h
    where
      go : (y : Answer) → turn n fns s0 a0 ≡ after_steps i x.events x.releases (then_turn s y (step fns s x.to).event (step fns s x.to).releases (turn (n - (i + 1)) fns))
          → Tells (code_in parts) s' c' (Steppeds.Trapped d e) y (step fns s x.to).event → TurnTells parts shape last n (turn n fns s0 a0) (Turneds.Trapped (i + 1) d) s' c' before told'
      go (Trapped k) q h = (
        ap (λ (t : Steps.Turned). t.left) q ∙ ap Steps.Trapped (sym h.0),
        ap (λ (t : Steps.Turned). t.steps) q,
        ap (λ (t : Steps.Turned). t.storage) q ∙ sym es,
        te ∙ ap₂ (λ (l m : List Event). l ++ m) x.told (listed e) ∙ append_assoc before x.events (optional e) ∙ ap (λ (v : Option Event). before ++ (x.events ++ optional v)) h.1 ∙ ap (λ l. before ++ l) (sym (ap (λ (t : Steps.Turned). t.events) q)),
      )
      go (Goes t b) q h = absurd h
      go (Ended w) q h = absurd h
      go Stuck q h = absurd h
