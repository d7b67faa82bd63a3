-- Steps: changes of a label in front, and one counted reduction.
use Rattle.std.proofs.Common.{◌≡◌, ◌≢◌, inl, inr, ℕ, zero, suc, ◌+◌, ◌<◌, true, false, List, [], ◌∷◌, ◌++◌, length, Option, Some, Ok, slice_get, refl, sym, ap, ap₂, ◌∙◌, subst, arith, append_assoc}
use Rattle.ctw_ops.specs.declared.types.Label.{Label}
use Rattle.ctw_ops.specs.declared.types.Label.TheVariants.{Public, Secret}
use Rattle.ctw_ops.specs.Types.{ValueType, value_type}
use Rattle.ctw_ops.specs.Typing.{optional}
use Rattle.ctw_ops.specs.Code.{Leaf, Code, Then, Op}
use Rattle.ctw_ops.proofs.Lists.{all_get}
use Rattle.ctw_flat.specs.declared.instr.Instr.{Instr}
use Rattle.ctw_flat.specs.Instructions.{op_of}
use Rattle.ctw_flat.specs.Places.{instr_in}
use Rattle.ctw_script.specs.declared.event.Event.{Event}
use Rattle.ctw_semantics.specs.Values.{Value, value}
use Rattle.ctw_semantics.specs.Stores.{Storage}
use Rattle.ctw_semantics.specs.Instances.{FunctionInstance, Functions}
use Rattle.ctw_semantics.specs.Activations.{Activation}
use Rattle.ctw_semantics.specs.Answers.{Answer, Goes, Stuck, Reduced}
use Rattle.ctw_semantics.specs.Machine as Machine
use Rattle.ctw_semantics.specs.Machine.{Here, put, red, within_weight}
use Rattle.ctw_semantics.specs.Steps.{Stepped, free, free_next, stops, then_step, reductions, step}
use Rattle.ctw_semantics.specs.Sound.{Shape, SoundAnswer, MemoryFits}
use Rattle.ctw_semantics.proofs.Sound.{red_sound}
use Rattle.ctw_semantics.proofs.ErasedSteps.{red_free}
use Rattle.ctw_link.specs.declared.set.Part.{Part}
use Rattle.ctw_link.specs.Sets.{set_of}
use Rattle.ctw_link.specs.Numbers.{owners}
use Rattle.ctw_step.specs.declared.running.Caller.{Caller}
use Rattle.ctw_step.specs.Shown.{Shown}
use Rattle.ctw_link.specs.Linked.{code_in}
use Rattle.ctw_step.specs.SetInstances.{instances}
use Rattle.ctw_step.specs.Stands.{numbers, all_frames, CodeStands, Stands}
use Rattle.ctw_step.specs.Told.{Meets, HasBytes, with_operands}
use Rattle.ctw_step.specs.Changes.{is_change}
use Rattle.ctw_step.specs.Reducing.{CanReduce}
use Rattle.ctw_step.specs.Stepping.{FreeBy, HasInstr, Standing}
use Rattle.ctw_step.proofs.Inside.{inner, under, operands_are}
use Rattle.ctw_step.proofs.Moves.{moves, last_same, some_frame}
use Rattle.ctw_step.proofs.Views.{popped}
use Rattle.ctw_step.proofs.Weights.{red_is}
use Rattle.ctw_step.proofs.FreeLaws.{counted_code, change_code, instr_there, Spot, spot_of, goes_in, not_stuck, IsLeaf}

abbrev pub first_func : Activation → ℕ
first_func [] = 0
first_func (f ∷ fs) = f.func

-- a step after numbers were released
abbrev pub prefixed : List ℕ → Stepped → Stepped
prefixed releases x = record { answer = x.answer; event = x.event; releases = releases ++ x.releases }

-- a change of a label goes on with the same numbers
record Changed (s : Storage) (h : Here) (rest : Code Label) (vs : List Value) (x : Reduced) : Type 0 where
  pub ws : List Value
  pub same : numbers ws ≡ numbers vs
  pub answer : x.answer ≡ Goes s (put h rest ws)

changed : (fns : Functions) (fn : FunctionInstance) (s : Storage) (h : Here) (rest : Code Label) (vs : List Value) (l : Leaf Label) → IsLeaf l → (Machine.next fns fn s h (Then l rest) vs).answer ≢ Stuck
    → Changed s h rest vs (Machine.next fns fn s h (Then l rest) vs) × (free (Then l rest) ≡ suc (free rest))
changed fns fn s h rest vs l (w, inl e) n =
    subst (λ l. (Machine.next fns fn s h (Then l rest) vs).answer ≢ Stuck → Changed s h rest vs (Machine.next fns fn s h (Then l rest) vs) × (free (Then l rest) ≡ suc (free rest))) (sym e)
    (λ n. let p = popped (value_type w Public) vs _ n in
    (record { ws = value (value_type w Secret) p.v.number ∷ p.below; same = ap numbers (sym p.are); answer = ap (λ (x : Reduced). x.answer) p.gives }, refl)) n
changed fns fn s h rest vs l (w, inr e) n =
    subst (λ l. (Machine.next fns fn s h (Then l rest) vs).answer ≢ Stuck → Changed s h rest vs (Machine.next fns fn s h (Then l rest) vs) × (free (Then l rest) ≡ suc (free rest))) (sym e)
    (λ n. let p = popped (value_type w Secret) vs _ n in
    (record { ws = value (value_type w Public) p.v.number ∷ p.below; same = ap numbers (sym p.are); answer = ap (λ (x : Reduced). x.answer) p.gives }, refl)) n

module _ (parts : List Part) (s : Storage) (shape : Shape) (last : Option (ValueType Label)) (c : Shown) (a : Activation) (func : ℕ) where
  abbrev fns : Functions
  fns = instances parts

  -- after so many changes of a label the call stands at this place
  pub record Reached (n at : ℕ) : Type 0 where
    pub b : Activation
    pub releases : List ℕ
    pub standing : Standing parts s (with_operands c c.operands at) shape last b
    pub same : first_func b ≡ func
    pub runs : (k : ℕ) → reductions (n + k) fns s a ≡ prefixed releases (reductions k fns s b)
    pub left : free_next a ≡ n + free_next b

  pub spot_at : (n at : ℕ) (r : Reached n at) → Spot fns r.b
  spot_at n at r = spot_of fns shape last r.b r.standing.call.typed

  pub func_at : (n at : ℕ) (r : Reached n at) → (spot_at n at r).place.func ≡ func
  func_at n at r = sym (ap first_func (spot_at n at r).is) ∙ r.same

  stands_at : (n at : ℕ) (r : Reached n at) → let x = spot_at n at r in Stands (code_in parts) (with_operands c c.operands at) (put x.place x.code x.values)
  stands_at n at r = subst (λ a. Stands (code_in parts) (with_operands c c.operands at) a) (spot_at n at r).is r.standing.stands

  code_at_spot : (n at : ℕ) (r : Reached n at) → CodeStands (code_in parts func) at (spot_at n at r).code
  code_at_spot n at r =
      let x = spot_at n at r in
      subst (λ f. CodeStands (code_in parts f) at x.code) (func_at n at r) (inner (code_in parts) (with_operands c c.operands at) x.place x.code x.values (stands_at n at r)).head.code

  pub instr_at_spot : (n at : ℕ) (r : Reached n at) → HasInstr (code_in parts func) at
  instr_at_spot n at r = instr_there (code_in parts func) at (spot_at n at r).code (code_at_spot n at r)

  red_goes : (n at : ℕ) (r : Reached n at) → SoundAnswer fns shape last (red fns s r.b).answer
  red_goes n at r = red_sound fns shape last r.standing.functions s r.b r.standing.storage r.standing.call

  red_going : (n at : ℕ) (r : Reached n at) → (red fns s r.b).answer ≢ Stuck
  red_going n at r e = subst (SoundAnswer fns shape last) e (red_goes n at r)

  pub next_going : (n at : ℕ) (r : Reached n at) → let x = spot_at n at r in (Machine.next fns x.fn s x.place x.code x.values).answer ≢ Stuck
  next_going n at r =
      let x = spot_at n at r in
      not_stuck (Machine.next fns x.fn s x.place x.code x.values).answer
      (subst (λ (y : Reduced). y.answer ≢ Stuck) (ap (red fns s) x.is ∙ red_is fns x.fn s x.place x.code x.values x.found) (red_going n at r))

  start : (at : ℕ) → at ≡ c.at → Standing parts s c shape last a → first_func a ≡ func → Reached 0 at
  start at e st f = record {
    b = a;
    releases = [];
    standing = subst (λ n. Standing parts s (with_operands c c.operands n) shape last a) (sym e) st;
    same = f;
    runs = λ k. ap (λ k. reductions k fns s a) (zero_plus k);
    left = omega arith;
  }
    where
      zero_plus : (k : ℕ) → 0 + k ≡ k
      zero_plus k = omega arith

  onward : (n mid at : ℕ) (op : Op Label) → is_change op ≡ true → instr_in (code_in parts func) mid ≡ Ok (op, at) → Reached n mid → Reached (suc n) at
  onward n mid at op e reads r =
      let x = spot_at n mid r in
      let d = with_operands c c.operands mid in
      let ch = change_code (code_in parts func) mid at op reads x.code (code_at_spot n mid r) e in
      let going = subst (λ d. (Machine.next fns x.fn s x.place d x.values).answer ≢ Stuck) ch.2 (next_going n mid r) in
      let y = changed fns x.fn s x.place ch.1 x.values ch.0 ch.3 going in
      let free_b : free_next r.b ≡ suc (free ch.1) = ap free_next x.is ∙ ap free ch.2 ∙ y.1 in
      let f = red_free fns s (free ch.1) r.b free_b r.standing.call.light (red_going n mid r) in
      let sound = subst (SoundAnswer fns shape last) f.goes (red_goes n mid r) in
      let told : within_weight (Machine.next fns x.fn s x.place x.code x.values).answer ≡ Goes s f.after =
      sym (ap (λ (y : Reduced). y.answer) (ap (red fns s) x.is ∙ red_is fns x.fn s x.place x.code x.values x.found)) ∙ f.goes in
      let to : Goes s (put x.place ch.1 y.0.ws) ≡ Goes s f.after = sym (ap (λ d. (Machine.next fns x.fn s x.place d x.values).answer) ch.2 ∙ y.0.answer) ∙ goes_in (Machine.next fns x.fn s x.place x.code x.values).answer s f.after told in
      let same : put x.place ch.1 y.0.ws ≡ f.after = one_to s (put x.place ch.1 y.0.ws) f.after to in
      let i = inner (code_in parts) d x.place x.code x.values (stands_at n mid r) in
      let stands : Stands (code_in parts) (with_operands c c.operands at) (put x.place ch.1 y.0.ws) =
      moves (code_in parts) d x.place x.code ch.1 x.values y.0.ws at i (subst (λ f. CodeStands (code_in parts f) at ch.1) (sym (func_at n mid r)) ch.4) c.operands
      (operands_are (code_in parts) d x.place x.code x.values i ∙ ap (λ l. under x.place ++ l) (sym y.0.same)) in
      record {
        b = f.after;
        releases = r.releases ++ optional (red fns s r.b).release;
        standing = record { functions = r.standing.functions; storage = sound.0; call = sound.1; stands = subst (λ a. Stands (code_in parts) (with_operands c c.operands at) a) same stands };
        same = sym (ap first_func same) ∙ func_at n mid r;
        runs = λ k.
            ap (λ k. reductions k fns s a) (shifted k) ∙ r.runs (suc k)
            ∙ ap (λ (x : Answer × Option Event). prefixed r.releases (then_step x.0 x.1 (red fns s r.b).release (reductions k fns))) (ap₂ (λ (x : Answer) (y : Option Event). (x, y)) f.goes f.event)
            ∙ ap (λ l. record { answer = (reductions k fns s f.after).answer; event = (reductions k fns s f.after).event; releases = l }) (sym (append_assoc r.releases (optional (red fns s r.b).release) (reductions k fns s f.after).releases));
        left = let p = r.left in let q = f.left in omega (arith, p, q, free_b);
      }
    where
      shifted : (k : ℕ) → suc n + k ≡ n + suc k
      shifted k = omega arith

      one_to : (s : Storage) (a b : Activation) → Goes s a ≡ Goes s b → a ≡ b
      one_to s a b e = cc

  pub reached : Standing parts s c shape last a → first_func a ≡ func → (n at : ℕ) → FreeBy (code_in parts func) n c.at at → Reached n at
  reached st f zero at e = start at e st f
  reached st f (suc n) at e = onward n e.0 at e.1 e.2 e.4 (reached st f n e.0 e.3)

  -- at a counted instruction
  module _ (n at next : ℕ) (r : Reached n at) (i : Instr) (reads : instr_in (code_in parts func) at ≡ Ok (op_of i, next)) (counted : is_change (op_of i) ≡ false) where
    none_left : free_next r.b ≡ 0
    none_left = let x = spot_at n at r in ap free_next x.is ∙ counted_code (code_in parts func) at next (op_of i) reads x.code (code_at_spot n at r) counted

    pub step_is : step fns s a ≡ prefixed r.releases (stops (red fns s r.b))
    step_is = ap (λ k. reductions k fns s a) (r.left ∙ ap (λ k. n + k) none_left) ∙ r.runs 0

    pub meets_at : let x = spot_at n at r in Meets (code_in parts) (code_in parts func) (with_operands c c.operands at) i next fns x.fn s x.place x.code x.values
    meets_at =
        let x = spot_at n at r in
        record {
          stands = stands_at n at r;
          body = ap (code_in parts) (func_at n at r);
          reads = ap (λ f. instr_in (code_in parts f) at) (func_at n at r) ∙ reads;
          fits = x.fits;
          own = x.own;
          going = next_going n at r;
        }

    pub can_reduce : (part index : ℕ) → slice_get (owners (set_of parts)) func ≡ Some (part, index) → CanReduce parts part (code_in parts func) (with_operands c c.operands at) i next s
    can_reduce part index o =
        let x = spot_at n at r in
        record { fn = x.fn; place = x.place; code = x.code; values = x.values; inside = record { index = index; owner = ap (slice_get (owners (set_of parts))) (func_at n at r) ∙ o; found = x.found }; meets = meets_at }

-- ---- at the start

pub bytes_small : (parts : List Part) (s : Storage) (c : Shown) (shape : Shape) (last : Option (ValueType Label)) (a : Activation) → Standing parts s c shape last a → (mem : ℕ) → HasBytes s mem
bytes_small parts s c shape last a st mem m e = (all_get MemoryFits s.memories mem m st.storage.memories e).bytes

-- the function that runs
pub running_func : (parts : List Part) (s : Storage) (c : Shown) (shape : Shape) (last : Option (ValueType Label)) (a : Activation) → Standing parts s c shape last a → (front : List Caller) (f : Caller) → c.frames ≡ front ++ f ∷ [] → first_func a ≡ f.func
running_func parts s c shape last a st front f e =
    let x = spot_of (instances parts) shape last a st.call.typed in
    let g = (inner (code_in parts) c x.place x.code x.values (subst (λ a. Stands (code_in parts) c a) x.is st.stands)).framed in
    ap first_func x.is ∙ sym g.func ∙ ap (λ (f : Caller). f.func) (sym (last_same front (all_frames g.others) f g.frame (sym e ∙ g.frames)))

pub running_there : (parts : List Part) (s : Storage) (c : Shown) (shape : Shape) (last : Option (ValueType Label)) (a : Activation) → Standing parts s c shape last a → 0 < length c.frames
running_there parts s c shape last a st =
    let x = spot_of (instances parts) shape last a st.call.typed in
    some_frame (code_in parts) c x.place x.code x.values (subst (λ a. Stands (code_in parts) c a) x.is st.stands)

pub running_found : (parts : List Part) (s : Storage) (c : Shown) (shape : Shape) (last : Option (ValueType Label)) (a : Activation) → Standing parts s c shape last a → (fn : FunctionInstance) × (slice_get (instances parts) (first_func a) ≡ Some fn)
running_found parts s c shape last a st =
    let x = spot_of (instances parts) shape last a st.call.typed in
    (x.fn, ap (slice_get (instances parts)) (ap first_func x.is) ∙ x.found)
