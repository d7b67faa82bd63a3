-- A set without trusted functions releases nothing.
use Rattle.std.proofs.Common.{◌≡◌, ℕ, zero, suc, List, [], ◌∷◌, ◌++◌, Option, Some, None, slice_get, refl, ap, ap₂, subst}
use Rattle.ctw_ops.specs.declared.types.Label.{Label}
use Rattle.ctw_ops.specs.declared.types.Label.TheVariants.{Public}
use Rattle.ctw_ops.specs.declared.types.Width.{Width}
use Rattle.ctw_ops.specs.declared.types.Trust.TheVariants.{Untrusted, Trusted}
use Rattle.ctw_ops.specs.Types.{ValueType, value_type}
use Rattle.ctw_ops.specs.Typing.{Typed, optional}
use Rattle.ctw_ops.specs.Code.{Classify, Declassify, Code, Then}
use Rattle.ctw_script.specs.declared.event.Event.{Event}
use Rattle.ctw_semantics.specs.Values.{Value}
use Rattle.ctw_semantics.specs.Stores.{Storage}
use Rattle.ctw_semantics.specs.Instances.{FunctionInstance, Functions}
use Rattle.ctw_semantics.specs.Activations.{Open, Frame, Activation}
use Rattle.ctw_semantics.specs.Answers.{Answer, Goes, Ended, Trapped, Stuck, Reduced, quiet, noting}
use Rattle.ctw_semantics.specs.Machine.{Here, target_type, next, here, in_frame, red}
use Rattle.ctw_semantics.specs.Steps.{free_next, Stepped, then_step, reductions, step, Turned, then_turn, turn}
use Rattle.ctw_semantics.specs.Sound.{Shape, SoundStorage, IndexTypes, context, SoundSet, LabelsTyped, target_types, SoundCall, SoundAnswer, AllUntrusted}
use Rattle.ctw_ops.proofs.Lists.{all_get}
use Rattle.ctw_semantics.proofs.Ordinary.{given_holds, pop_holds, next_holds}
use Rattle.ctw_semantics.proofs.Sound.{red_sound}
use Rattle.ctw_semantics.proofs.SoundSteps.{step_sound}

record Silent (r : Reduced) : Type 0 where
  by : r.release ≡ None

quiets : (x : Answer) → Silent (quiet x)
quiets x = record { by = refl }

notes : (e : Event) (x : Answer) → Silent (noting e x)
notes e x = record { by = refl }

-- all but a declassify
next_silent : (fns : Functions) (fn : FunctionInstance) (s : Storage) (h : Here) (c : Code Label) (vs : List Value) → ((w : Width) (rest : Code Label) → c ≡ Then (Declassify w) rest → ⊥) → Silent (next fns fn s h c vs)
next_silent fns fn s h (Then (Declassify w) rest) vs nd = absurd (nd w rest refl)
next_silent fns fn s h (Then (Classify w) rest) vs nd = pop_holds Silent quiets notes (value_type w Public) vs _ (λ n below. record { by = refl })
next_silent fns fn s h c vs nd = next_holds Silent quiets notes fns fn s h c vs refl

-- typed code of an untrusted function has no declassify
no_declassify : (names : IndexTypes) (fn : FunctionInstance) → fn.type.trust ≡ Untrusted → (ls : List (Option (ValueType Label))) (c : Code Label) (from to : List (ValueType Label)) → Typed (context names fn ls) c from to → (w : Width) (rest : Code Label) → c ≡ Then (Declassify w) rest → ⊥
no_declassify names fn un ls c from to t w rest e =
    let r = subst (λ c. Typed (context names fn ls) c from to) e t in
    let a : fn.type.trust ≡ Trusted = r.1.0 in
    cc

module _ (fns : Functions) (un : AllUntrusted fns) (shape : Shape) (last : Option (ValueType Label)) (set : SoundSet fns shape) where
  in_frame_silent : (s : Storage) (f : Frame) (fn : FunctionInstance) (names : IndexTypes) → slice_get fns f.func ≡ Some fn → (os : List Open) → LabelsTyped names fn [] os → (fs : List Frame) → Silent (in_frame fns s f os fs)
  in_frame_silent s f fn names found [] l fs = quiets Stuck
  in_frame_silent s f fn names found (o ∷ os) l fs =
      given_holds Silent quiets notes (slice_get fns f.func) _ (λ fn'.
      record {
        by = (next_silent fns fn' s (here f o os fs) o.code o.values
            (no_declassify names fn (all_get (λ fn. fn.type.trust ≡ Untrusted) fns f.func fn un found) (target_type o.again o.result ∷ target_types os) o.code l.0.holds (optional o.result) l.0.code)).by;
      })

  red_silent : (s : Storage) (a : Activation) → SoundCall fns shape last a → Silent (red fns s a)
  red_silent s [] h = quiets Stuck
  red_silent s (f ∷ fs) h = let t = h.typed in in_frame_silent s f t.0 t.1.names t.1.found f.labels t.1.labels fs

  then_silent : (x : Answer) (e : Option Event) (o : Option ℕ) (go : Storage → Activation → Stepped) → o ≡ None → SoundAnswer fns shape last x → ((s : Storage) (a : Activation) → SoundStorage shape s → SoundCall fns shape last a → (go s a).releases ≡ []) → (then_step x e o go).releases ≡ []
  then_silent (Goes s a) e o go q f h = ap₂ (λ (o : Option ℕ) (l : List ℕ). optional o ++ l) q (h s a f.0 f.1)
  then_silent (Ended v) e o go q f h = ap optional q
  then_silent (Trapped c) e o go q f h = ap optional q
  then_silent Stuck e o go q f h = ap optional q

  reductions_silent : (n : ℕ) (s : Storage) (a : Activation) → SoundStorage shape s → SoundCall fns shape last a → (reductions n fns s a).releases ≡ []
  reductions_silent zero s a ss h = ap optional (red_silent s a h).by
  reductions_silent (suc n) s a ss h = then_silent (red fns s a).answer (red fns s a).event (red fns s a).release (reductions n fns) (red_silent s a h).by (red_sound fns shape last set s a ss h) (reductions_silent n)

  then_turn_silent : (s : Storage) (x : Answer) (e : Option Event) (l : List ℕ) (go : Storage → Activation → Turned) → l ≡ [] → SoundAnswer fns shape last x → ((s : Storage) (a : Activation) → SoundStorage shape s → SoundCall fns shape last a → (go s a).releases ≡ []) → (then_turn s x e l go).releases ≡ []
  then_turn_silent s (Goes t a) e l go q f h = ap₂ (λ (l m : List ℕ). l ++ m) q (h t a f.0 f.1)
  then_turn_silent s (Ended v) e l go q f h = q
  then_turn_silent s (Trapped c) e l go q f h = q
  then_turn_silent s Stuck e l go q f h = q

  pub turn_silent : (n : ℕ) (s : Storage) (a : Activation) → SoundStorage shape s → SoundCall fns shape last a → (turn n fns s a).releases ≡ []
  turn_silent zero s a ss h = refl
  turn_silent (suc n) s a ss h = then_turn_silent s (step fns s a).answer (step fns s a).event (step fns s a).releases (turn n fns) (reductions_silent (free_next a) s a ss h) (step_sound fns shape last set s a ss h) (turn_silent n)
