-- The erased state takes the same reductions, steps and turns.
use Rattle.std.proofs.Common.{◌≡◌, ℕ, zero, suc, ◌+◌, ◌≤◌, Bool, true, false, List, [], ◌∷◌, ◌++◌, map, length, Option, Some, None, slice_get, option_map, Contains, refl, sym, ap, ap₂, ◌∙◌, subst, arith, nat_le, cond, le-leb}
use Rattle.ctw_ops.specs.declared.types.Label.{Label}
use Rattle.ctw_ops.specs.declared.types.Label.TheVariants.{Public, Secret}
use Rattle.ctw_ops.specs.declared.types.Width.{Width}
use Rattle.ctw_ops.specs.Types.{ValueType, value_type, erase_value_type}
use Rattle.ctw_ops.specs.Tree.{TypeEntry}
use Rattle.ctw_ops.specs.Equal.{same_type}
use Rattle.ctw_ops.specs.Typing.{optional}
use Rattle.ctw_ops.specs.Code.{Leaf, CallIndirect, Classify, Declassify, Code, Then}
use Rattle.ctw_ops.specs.Erasure.{erase_code}
use Rattle.ctw_ops.specs.IndirectCalls.{indirect_calls}
use Rattle.ctw_script.specs.declared.event.Event.{Event}
use Rattle.ctw_script.specs.declared.trap.TrapCode.TheVariants.{Exhausted}
use Rattle.ctw_semantics.specs.Values.{Value, value}
use Rattle.ctw_semantics.specs.Stores.{Storage}
use Rattle.ctw_semantics.specs.Instances.{FunctionInstance, Functions}
use Rattle.ctw_ops.specs.Limits.{most_weight}
use Rattle.ctw_semantics.specs.Activations.{Open, Frame, Activation, labels_weight, weight}
use Rattle.ctw_semantics.specs.Answers.{Answer, Goes, Ended, Trapped, Stuck, Reduced, stuck, given, provided, pop, relabelling}
use Rattle.ctw_semantics.specs.Machine.{Here, put, next, within_weight, limited, here, in_frame, red}
use Rattle.ctw_semantics.specs.Steps.{free, free_inside, free_next, Stepped, stops, then_step, reductions, step, Turned, then_turn, turn}
use Rattle.ctw_semantics.specs.Places.{StandIn}
use Rattle.ctw_semantics.specs.Sound.{Shape, shape_of, SoundStorage, FunctionTyped, UsersAlike, SoundSet, SoundCall, SoundAnswer}
use Rattle.ctw_semantics.specs.Erased.{erase_instance, erase_functions, erase_value, erase_storage, entries_of, erase_open, erase_frame, erase_activation, erase_answer, erase_reduced, erase_stepped, erase_turned}
use Rattle.ctw_ops.proofs.EqualLaws.{same_type_is}
use Rattle.ctw_ops.proofs.Variants.{variants_fit}
use Rattle.ctw_ops.proofs.Lists.{all_get, contains_get}
use Rattle.ctw_semantics.proofs.Placed.{calls_here}
use Rattle.ctw_semantics.proofs.Sound.{red_sound}
use Rattle.ctw_semantics.proofs.SoundSteps.{step_sound}
use Rattle.ctw_semantics.proofs.Erases.{Erases, stuck_erases, look_erases, cond_erased}
use Rattle.ctw_semantics.proofs.ErasesLeaves.{UsersOf, next_erases}

-- ---- weight

length-erased : (vs : List Value) → length (map erase_value vs) ≡ length vs
length-erased [] = refl
length-erased (v ∷ vs) = ap suc (length-erased vs)

labels_weight-erased : (entries : List (TypeEntry Label)) (os : List Open) → labels_weight (map (erase_open entries) os) ≡ labels_weight os
labels_weight-erased entries [] = refl
labels_weight-erased entries (o ∷ []) = length-erased o.values
labels_weight-erased entries (o ∷ q ∷ os) = ap₂ (λ (n m : ℕ). n + 1 + m) (length-erased o.values) (labels_weight-erased entries (q ∷ os))

pub weight-erased : (fns : Functions) (a : Activation) → weight (erase_activation fns a) ≡ weight a
weight-erased fns [] = refl
weight-erased fns (f ∷ fs) = let a = length-erased f.locals in let b = labels_weight-erased (entries_of fns f.func) f.labels in let c = weight-erased fns fs in cc

within_erased : (fns : Functions) (x : Answer) → erase_answer fns (within_weight x) ≡ within_weight (erase_answer fns x)
within_erased fns (Goes s a) =
    cond_erased fns (nat_le (weight a) most_weight) (nat_le (weight (erase_activation fns a)) most_weight) _ _ _ _ (ap (λ n. nat_le n most_weight) (sym (weight-erased fns a))) refl refl
within_erased fns (Ended v) = refl
within_erased fns (Trapped code) = refl
within_erased fns Stuck = refl

limited_erases : (fns : Functions) (r q : Reduced) → Erases fns r q → Erases fns (limited r) (limited q)
limited_erases fns r q h = record {
  by = λ n.
      let e = h.by (λ st. n (ap within_weight st)) in
      ap (λ x. record { answer = x; cost = r.cost; event = r.event; release = None }) (within_erased fns r.answer) ∙ ap limited e;
}

-- ---- a counted reduction

-- an indirect call that stands next is among those of its sequence
called : (y : ℕ) (rest c : Code Label) → c ≡ Then (CallIndirect y) rest → Contains (indirect_calls c) y
called y rest c e = subst (λ c. Contains (indirect_calls c) y) (sym e) (contains_get (y ∷ indirect_calls rest) 0 y refl)

module _ (fns : Functions) (shape : Shape) (last : Option (ValueType Label)) (set : SoundSet fns shape) where
  users_of : (fn : FunctionInstance) (n : ℕ) → slice_get fns n ≡ Some fn → (s : Storage) → shape_of s ≡ shape → (o : Open) (os : List Open) → StandIn fn.body (o ∷ os) → (y : ℕ) (rest : Code Label) → o.code ≡ Then (CallIndirect y) rest → UsersOf fns fn s y
  users_of fn n found s es o os p y rest e t f table entry callee et ess ec ef ey =
      all_get (UsersAlike fns shape) fns n fn set.users found t y f table entry callee et (ap (λ (x : Shape). slice_get x.tables t) (sym es) ∙ ess) ec ef
      (calls_here fn.body o os p y (called y rest o.code e)) ey

  in_frame_erases : (s : Storage) → shape_of s ≡ shape → (f : Frame) (fn : FunctionInstance) → slice_get fns f.func ≡ Some fn → (os : List Open) → StandIn fn.body os → (fs : List Frame) → free_inside os ≡ 0 → Erases fns (in_frame fns s f os fs) (in_frame (erase_functions fns) (erase_storage s) (erase_frame fns f) (map (erase_open (entries_of fns f.func)) os) (map (erase_frame fns) fs))
  in_frame_erases s es f fn found [] p fs z = stuck_erases fns stuck
  in_frame_erases s es f fn found (o ∷ os) p fs z =
      look_erases fns erase_instance fns f.func _ _ (λ fn' e.
      let q : fn ≡ fn' = cc in
      limited_erases fns _ _ (next_erases fns fn' s (here f o os fs) e (variants_fit fn'.part.types (all_get (FunctionTyped fns shape) fns f.func fn' set.bodies e).variants) o.code o.values
      (λ y rest ec. users_of fn' f.func e s es o os (subst (λ (fn : FunctionInstance). StandIn fn.body (o ∷ os)) q p) y rest ec) z))

  not_stuck : (x : Answer) → SoundAnswer fns shape last x → x ≡ Stuck → ⊥
  not_stuck x f e = subst (λ x. SoundAnswer fns shape last x) e f

  pub red_erased : (s : Storage) (a : Activation) → SoundStorage shape s → SoundCall fns shape last a → free_next a ≡ 0 → erase_reduced fns (red fns s a) ≡ red (erase_functions fns) (erase_storage s) (erase_activation fns a)
  red_erased s [] ss h z = refl
  red_erased s (f ∷ fs) ss h z =
      let t = h.typed in
      (in_frame_erases s ss.shaped f t.0 t.1.found f.labels t.1.place fs z).by (not_stuck (red fns s (f ∷ fs)).answer (red_sound fns shape last set s (f ∷ fs) ss h))

-- ---- a reduction without cost

-- what an instruction without cost does
record IsFree (entries : List (TypeEntry Label)) (s : Storage) (h : Here) (n : ℕ) (c : Code Label) (vs : List Value) (r : Reduced) : Type 0 where
  rest : Code Label
  values : List Value
  goes : r.answer ≡ Goes s (put h rest values)
  cost : r.cost ≡ 0
  event : r.event ≡ None
  same_code : erase_code entries rest ≡ erase_code entries c
  same_values : map erase_value values ≡ map erase_value vs
  left : free rest ≡ n
  length_kept : length values ≡ length vs

provided_free : (entries : List (TypeEntry Label)) (s : Storage) (h : Here) (n : ℕ) (c : Code Label) (vs : List Value) (b : Bool) (r : Reduced) → (b ≡ true → IsFree entries s h n c vs r) → ((provided b r).answer ≡ Stuck → ⊥) → IsFree entries s h n c vs (provided b r)
provided_free entries s h n c vs true r f st = f refl
provided_free entries s h n c vs false r f st = absurd (st refl)

abbrev relabels : Storage → Here → Width → Label → Code Label → (ℕ → Option ℕ) → ℕ → List Value → Reduced
relabels s h w m rest release = λ k below. relabelling (release k) (Goes s (put h rest (value (value_type w m) k ∷ below)))

retyped : (entries : List (TypeEntry Label)) (s : Storage) (h : Here) (n : ℕ) (w : Width) (l m : Label) (i : Leaf Label) (rest : Code Label) (vs : List Value) (release : ℕ → Option ℕ) → erase_code entries (Then i rest) ≡ erase_code entries rest → free rest ≡ n → ((pop (value_type w l) vs (relabels s h w m rest release)).answer ≡ Stuck → ⊥) → IsFree entries s h n (Then i rest) vs (pop (value_type w l) vs (relabels s h w m rest release))
retyped entries s h n w l m i rest [] release ec f st = absurd (st refl)
retyped entries s h n w l m i rest (v ∷ vs) release ec f st =
    provided_free entries s h n (Then i rest) (v ∷ vs) (same_type (value_type w l) v.type) _ (λ q.
    record {
      rest = rest;
      values = value (value_type w m) v.number ∷ vs;
      goes = refl;
      cost = refl;
      event = refl;
      same_code = sym ec;
      same_values = ap (λ (t : ValueType Label). value (erase_value_type t) v.number ∷ map erase_value vs) (same_type_is (value_type w l) v.type q);
      left = f;
      length_kept = refl;
    }) st

code_free : (entries : List (TypeEntry Label)) (fns : Functions) (fn : FunctionInstance) (s : Storage) (h : Here) (n : ℕ) (c : Code Label) (vs : List Value) → free c ≡ suc n → ((next fns fn s h c vs).answer ≡ Stuck → ⊥) → IsFree entries s h n c vs (next fns fn s h c vs)
code_free entries fns fn s h n (Then (Classify w) rest) vs z st = retyped entries s h n w Public Secret (Classify w) rest vs (λ k. None) refl (omega (arith, z)) st
code_free entries fns fn s h n (Then (Declassify w) rest) vs z st = retyped entries s h n w Secret Public (Declassify w) rest vs (λ k. Some k) refl (omega (arith, z)) st
code_free entries fns fn s h n c vs z st = cc

-- the same of an activation
pub record IsFreeStep (fns : Functions) (s : Storage) (n : ℕ) (a : Activation) (r : Reduced) : Type 0 where
  pub after : Activation
  pub goes : r.answer ≡ Goes s after
  pub event : r.event ≡ None
  pub same : erase_activation fns after ≡ erase_activation fns a
  pub left : free_next after ≡ n
  pub weight_kept : weight after ≡ weight a

labels_weight_of : (o q : Open) (os : List Open) → length o.values ≡ length q.values → labels_weight (o ∷ os) ≡ labels_weight (q ∷ os)
labels_weight_of o q [] e = e
labels_weight_of o q (p ∷ ps) e = ap (λ n. n + 1 + labels_weight (p ∷ ps)) e

limited_free : (fns : Functions) (s : Storage) (n : ℕ) (f : Frame) (o : Open) (os : List Open) (fs : List Frame) (r : Reduced) → f.labels ≡ o ∷ os → weight (f ∷ fs) ≤ most_weight → IsFree (entries_of fns f.func) s (here f o os fs) n o.code o.values r → IsFreeStep fns s n (f ∷ fs) (limited r)
limited_free fns s n f o os fs r el w i =
    let entries = entries_of fns f.func in
    let new : Open = record o { values = i.values; code = i.rest } in
    let after : Activation = put (here f o os fs) i.rest i.values in
    let lw : labels_weight (new ∷ os) ≡ labels_weight f.labels = labels_weight_of new o os i.length_kept ∙ ap labels_weight (sym el) in
    let wk : weight after ≡ weight (f ∷ fs) = ap (λ n. 1 + length f.locals + n + weight fs) lw in
    record {
      after = after;
      goes = ap within_weight i.goes ∙ ap (λ b. cond b (Goes s after) (Trapped Exhausted)) (le-leb (weight after) most_weight (subst (λ n. n ≤ most_weight) (sym wk) w));
      event = i.event;
      same = ap₂ (λ (vs : List Value) (c : Code Label). record { func = f.func; locals = map erase_value f.locals; labels = record { values = vs; code = c; result = option_map erase_value_type o.result; again = option_map (erase_code entries) o.again } ∷ map (erase_open entries) os } ∷ erase_activation fns fs) i.same_values i.same_code
          ∙ ap (λ ls. record { func = f.func; locals = map erase_value f.locals; labels = ls } ∷ erase_activation fns fs) (ap (map (erase_open entries)) (sym el));
      left = i.left;
      weight_kept = wk;
    }

given_free : {A : Type 0} (P : Reduced → Type 0) (o : Option A) (go : A → Reduced) → ((x : A) → ((go x).answer ≡ Stuck → ⊥) → P (go x)) → ((given o go).answer ≡ Stuck → ⊥) → P (given o go)
given_free P None go h st = absurd (st refl)
given_free P (Some x) go h st = h x st

in_frame_free : (fns : Functions) (s : Storage) (n : ℕ) (f : Frame) (ls : List Open) (fs : List Frame) → f.labels ≡ ls → free_inside ls ≡ suc n → weight (f ∷ fs) ≤ most_weight → ((in_frame fns s f ls fs).answer ≡ Stuck → ⊥) → IsFreeStep fns s n (f ∷ fs) (in_frame fns s f ls fs)
in_frame_free fns s n f [] fs el z w st = cc
in_frame_free fns s n f (o ∷ os) fs el z w st =
    given_free (IsFreeStep fns s n (f ∷ fs)) (slice_get fns f.func) _ (λ fn st'.
    let r = next fns fn s (here f o os fs) o.code o.values in
    limited_free fns s n f o os fs r el w (code_free (entries_of fns f.func) fns fn s (here f o os fs) n o.code o.values z (λ e. st' (ap within_weight e)))) st

-- a reduction without cost of a call that isn't stuck changes labels alone
pub red_free : (fns : Functions) (s : Storage) (n : ℕ) (a : Activation) → free_next a ≡ suc n → weight a ≤ most_weight → ((red fns s a).answer ≡ Stuck → ⊥) → IsFreeStep fns s n a (red fns s a)
red_free fns s n [] z w st = cc
red_free fns s n (f ∷ fs) z w st = in_frame_free fns s n f f.labels fs refl z w st

-- ---- erased code has no instructions without cost

free-erased : (entries : List (TypeEntry Label)) (c : Code Label) → free (erase_code entries c) ≡ 0
free-erased entries (Then (Classify w) rest) = free-erased entries rest
free-erased entries (Then (Declassify w) rest) = free-erased entries rest
free-erased entries c = refl

free_inside-erased : (entries : List (TypeEntry Label)) (os : List Open) → free_inside (map (erase_open entries) os) ≡ 0
free_inside-erased entries [] = refl
free_inside-erased entries (o ∷ os) = free-erased entries o.code

free_next-erased : (fns : Functions) (a : Activation) → free_next (erase_activation fns a) ≡ 0
free_next-erased fns [] = refl
free_next-erased fns (f ∷ fs) = free_inside-erased (entries_of fns f.func) f.labels

-- ---- steps and turns

module _ (fns : Functions) (shape : Shape) (last : Option (ValueType Label)) (set : SoundSet fns shape) where
  reductions_erased : (n : ℕ) (s : Storage) → SoundStorage shape s → (a : Activation) → SoundCall fns shape last a → free_next a ≡ n → erase_stepped fns (reductions n fns s a) ≡ stops (red (erase_functions fns) (erase_storage s) (erase_activation fns a))
  reductions_erased zero s ss a h z = ap stops (red_erased fns shape last set s a ss h z)
  reductions_erased (suc n) s ss a h z =
      let r = red fns s a in
      let rest : Answer → Stepped = λ x. then_step x r.event r.release (reductions n fns) in
      let sound = red_sound fns shape last set s a ss h in
      let i = red_free fns s n a z h.light (not_stuck fns shape last set r.answer sound) in
      ap (λ (x : Answer). erase_stepped fns (rest x)) i.goes
      ∙ reductions_erased n s ss i.after (subst (SoundAnswer fns shape last) i.goes sound).1 i.left
      ∙ ap (λ a. stops (red (erase_functions fns) (erase_storage s) a)) i.same

  pub step_erased : (s : Storage) (a : Activation) → SoundStorage shape s → SoundCall fns shape last a → erase_stepped fns (step fns s a) ≡ step (erase_functions fns) (erase_storage s) (erase_activation fns a)
  step_erased s a ss h =
      reductions_erased (free_next a) s ss a h refl
      ∙ ap (λ n. reductions n (erase_functions fns) (erase_storage s) (erase_activation fns a)) (sym (free_next-erased fns a))

  then_turn_erased : (s : Storage) (x : Answer) (e : Option Event) (l : List ℕ) (go go' : Storage → Activation → Turned) → SoundAnswer fns shape last x → ((t : Storage) (a : Activation) → SoundStorage shape t → SoundCall fns shape last a → erase_turned fns (go t a) ≡ go' (erase_storage t) (erase_activation fns a)) → erase_turned fns (then_turn s x e l go) ≡ then_turn (erase_storage s) (erase_answer fns x) e [] go'
  then_turn_erased s (Goes t a) e l go go' f h =
      ap (λ (x : Turned). record { storage = x.storage; left = x.left; steps = suc x.steps; events = optional e ++ x.events; releases = x.releases }) (h t a f.0 f.1)
  then_turn_erased s (Ended v) e l go go' f h = refl
  then_turn_erased s (Trapped code) e l go go' f h = refl
  then_turn_erased s Stuck e l go go' f h = refl

  pub turn_erased : (n : ℕ) (s : Storage) (a : Activation) → SoundStorage shape s → SoundCall fns shape last a → erase_turned fns (turn n fns s a) ≡ turn n (erase_functions fns) (erase_storage s) (erase_activation fns a)
  turn_erased zero s a ss h = refl
  turn_erased (suc n) s a ss h =
      then_turn_erased s (step fns s a).answer (step fns s a).event (step fns s a).releases (turn n fns) (turn n (erase_functions fns)) (step_sound fns shape last set s a ss h) (turn_erased n)
      ∙ ap (λ (x : Stepped). then_turn (erase_storage s) x.answer x.event x.releases (turn n (erase_functions fns))) (step_erased s a ss h)
