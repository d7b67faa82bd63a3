-- What follows from what a step does.
use Rattle.std.proofs.Common.{◌≡◌, ℕ, List, Option, Some, None, option_map, refl, sym, ap, ◌∙◌, subst}
use Rattle.ctw_ops.specs.declared.types.Label.{Label}
use Rattle.ctw_ops.specs.declared.types.Label.TheVariants.{Public}
use Rattle.ctw_ops.specs.Types.{ValueType}
use Rattle.ctw_script.specs.declared.event.Event.{Event}
use Rattle.ctw_semantics.specs.Values.{Value}
use Rattle.ctw_semantics.specs.Stores.{Storage}
use Rattle.ctw_semantics.specs.Instances.{Functions}
use Rattle.ctw_semantics.specs.Activations.{Activation}
use Rattle.ctw_semantics.specs.Answers.{Answer, Goes, Ended, Trapped, Stuck}
use Rattle.ctw_semantics.specs.Steps as Steps
use Rattle.ctw_semantics.specs.Steps.{step}
use Rattle.ctw_semantics.specs.Seen.{Agree, seen, seen_storage, seen_answer, seen_stepped, seen_value, seen_number}
use Rattle.ctw_semantics.specs.Sound.{Shape, SoundAnswer, SoundStorage}
use Rattle.ctw_semantics.specs.Erased.{erase_storage, erase_activation, erase_answer, erase_functions}
use Rattle.ctw_semantics.proofs.SoundSteps.{step_sound}
use Rattle.ctw_semantics.proofs.AlikeSteps.{same_ends, step_same}
use Rattle.ctw_semantics.proofs.ErasedSteps.{step_erased, weight-erased}
use Rattle.ctw_link.specs.declared.set.Part.{Part}
use Rattle.ctw_step.specs.declared.running.Stepped.{Stepped}
use Rattle.ctw_step.specs.declared.running.Stepped.TheVariants as Steppeds
use Rattle.ctw_step.specs.Shown.{Shown}
use Rattle.ctw_link.specs.Linked.{code_in}
use Rattle.ctw_step.specs.SetInstances.{instances}
use Rattle.ctw_step.specs.Stands.{number_of}
use Rattle.ctw_step.specs.Told.{Tells, KeepsAtEnd}
use Rattle.ctw_step.specs.Stepping.{Standing}
use Rattle.ctw_step.specs.Machine.{StaysSound, SeenAs, ShowsPublic, ErasedAs}

-- the number that an onlooker sees
pub shows : (n : Option ℕ) (v w : Option Value) → n ≡ option_map number_of v → option_map seen_value v ≡ option_map seen_value w → ShowsPublic n w
shows n v None e q = tt
shows n None (Some w) e q = absurd cc
shows n (Some v) (Some w) e q = λ l.
    let sv : seen_value v ≡ seen_value w = cc in
    let lv : v.type.tag ≡ Public = ap (λ (x : Value). x.type.tag) sv ∙ l in
    let sn : seen_number v.type.tag v.number ≡ seen_number w.type.tag w.number = ap (λ (x : Value). x.number) sv in
    e ∙ ap (λ n. Some n) (ap (λ (l : Label). seen_number l v.number) (sym lv) ∙ sn ∙ ap (λ (l : Label). seen_number l w.number) l)

module _ (parts : List Part) (s s' : Storage) (c c' : Shown) (shape : Shape) (last : Option (ValueType Label)) (a : Activation) (st : Standing parts s c shape last a) where
  abbrev fns : Functions
  fns = instances parts

  -- ---- soundness

  stays : (r : Stepped) (x : Answer) (e : Option Event) → Tells (code_in parts) s' c' r x e → KeepsAtEnd s s' r → SoundAnswer fns shape last x → StaysSound parts s' c' shape last r
  stays (Steppeds.Went n) (Goes t b) e h k g =
      (b, record { functions = st.functions; storage = subst (SoundStorage shape) h.0 g.0; call = g.1; stands = h.1 })
  stays (Steppeds.Went n) (Ended v) e h k g = absurd h
  stays (Steppeds.Went n) (Trapped d) e h k g = absurd h
  stays (Steppeds.Went n) Stuck e h k g = absurd h
  stays (Steppeds.Ended v n) x e h k g = subst (SoundStorage shape) (sym k) st.storage
  stays (Steppeds.Trapped d n) x e h k g = subst (SoundStorage shape) (sym k) st.storage

  pub stays_sound : (r : Stepped) → Tells (code_in parts) s' c' r (step fns s a).answer (step fns s a).event → KeepsAtEnd s s' r → StaysSound parts s' c' shape last r
  stays_sound r h k = stays r (step fns s a).answer (step fns s a).event h k (step_sound fns shape last st.functions s a st.storage st.call)

  -- ---- isolation

  seen_as : (r : Stepped) (x : Answer) (e : Option Event) (y : Steps.Stepped) → Tells (code_in parts) s' c' r x e → seen_answer x ≡ seen_answer y.answer → e ≡ y.event → SeenAs parts s' c' r y
  seen_as r x e y h q ef = go r x y.answer refl h q
    where
      go : (r : Stepped) (x z : Answer) → y.answer ≡ z → Tells (code_in parts) s' c' r x e → seen_answer x ≡ seen_answer z → SeenAs parts s' c' r y
      go (Steppeds.Went n) (Goes t b) (Goes u d) ez h q =
          let qs : seen_storage t ≡ seen_storage u = cc in
          let qa : seen b ≡ seen d = cc in
          (b, u, d, h.1, ez, (ap seen_storage (sym h.0) ∙ qs, qa), h.2 ∙ ef)
      go (Steppeds.Went n) (Goes t b) (Ended w) ez h q = absurd cc
      go (Steppeds.Went n) (Goes t b) (Trapped d) ez h q = absurd cc
      go (Steppeds.Went n) (Goes t b) Stuck ez h q = absurd cc
      go (Steppeds.Went n) (Ended v) z ez h q = absurd h
      go (Steppeds.Went n) (Trapped d) z ez h q = absurd h
      go (Steppeds.Went n) Stuck z ez h q = absurd h
      go (Steppeds.Ended n m) (Ended v) (Ended w) ez h q = (w, ez, shows n v w h.0 (cc), h.1 ∙ ef)
      go (Steppeds.Ended n m) (Ended v) (Goes u d) ez h q = absurd cc
      go (Steppeds.Ended n m) (Ended v) (Trapped d) ez h q = absurd cc
      go (Steppeds.Ended n m) (Ended v) Stuck ez h q = absurd cc
      go (Steppeds.Ended n m) (Goes t b) z ez h q = absurd h
      go (Steppeds.Ended n m) (Trapped d) z ez h q = absurd h
      go (Steppeds.Ended n m) Stuck z ez h q = absurd h
      go (Steppeds.Trapped k m) (Trapped d) (Trapped g) ez h q = let p : d ≡ g = cc in (ez ∙ ap Trapped (sym p) ∙ ap Trapped (sym h.0), h.1 ∙ ef)
      go (Steppeds.Trapped k m) (Trapped d) (Goes u b) ez h q = absurd cc
      go (Steppeds.Trapped k m) (Trapped d) (Ended w) ez h q = absurd cc
      go (Steppeds.Trapped k m) (Trapped d) Stuck ez h q = absurd cc
      go (Steppeds.Trapped k m) (Goes t b) z ez h q = absurd h
      go (Steppeds.Trapped k m) (Ended v) z ez h q = absurd h
      go (Steppeds.Trapped k m) Stuck z ez h q = absurd h

  pub isolated : (r : Stepped) (t : Storage) (b : Activation) → Tells (code_in parts) s' c' r (step fns s a).answer (step fns s a).event → Agree s a t b → (step fns s a).releases ≡ (step fns t b).releases
      → SeenAs parts s' c' r (step fns t b)
  isolated r t b h g q =
      let x = same_ends (seen_stepped (step fns s a)) (seen_stepped (step fns t b)) (step fns s a).releases (step fns t b).releases (step_same fns s t a b g) q in
      seen_as r (step fns s a).answer (step fns s a).event (step fns t b) h (ap (λ (x : Steps.Stepped). x.answer) x) (ap (λ (x : Steps.Stepped). x.event) x)

  -- ---- erasure

  erased_as : (r : Stepped) (x : Answer) (e : Option Event) (y : Steps.Stepped) → Tells (code_in parts) s' c' r x e → erase_answer fns x ≡ y.answer → e ≡ y.event → ErasedAs parts s' c' r y
  erased_as (Steppeds.Went n) (Goes t b) e y h q ef = (b, h.1, sym q ∙ ap (λ t. Goes (erase_storage t) (erase_activation fns b)) h.0, weight-erased fns b, h.2 ∙ ef)
  erased_as (Steppeds.Went n) (Ended v) e y h q ef = absurd h
  erased_as (Steppeds.Went n) (Trapped d) e y h q ef = absurd h
  erased_as (Steppeds.Went n) Stuck e y h q ef = absurd h
  erased_as (Steppeds.Ended v n) (Ended w) e y h q ef = (w, sym q, h.0, h.1 ∙ ef)
  erased_as (Steppeds.Ended v n) (Goes t b) e y h q ef = absurd h
  erased_as (Steppeds.Ended v n) (Trapped d) e y h q ef = absurd h
  erased_as (Steppeds.Ended v n) Stuck e y h q ef = absurd h
  erased_as (Steppeds.Trapped k n) (Trapped d) e y h q ef = (sym q ∙ ap Trapped (sym h.0), h.1 ∙ ef)
  erased_as (Steppeds.Trapped k n) (Goes t b) e y h q ef = absurd h
  erased_as (Steppeds.Trapped k n) (Ended v) e y h q ef = absurd h
  erased_as (Steppeds.Trapped k n) Stuck e y h q ef = absurd h

  pub erased : (r : Stepped) → Tells (code_in parts) s' c' r (step fns s a).answer (step fns s a).event → ErasedAs parts s' c' r (step (erase_functions fns) (erase_storage s) (erase_activation fns a))
  erased r h =
      let x = step_erased fns shape last st.functions s a st.storage st.call in
      erased_as r (step fns s a).answer (step fns s a).event (step (erase_functions fns) (erase_storage s) (erase_activation fns a)) h (ap (λ (x : Steps.Stepped). x.answer) x) (ap (λ (x : Steps.Stepped). x.event) x)
