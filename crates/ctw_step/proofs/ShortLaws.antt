-- Steps of short instructions.
use Rattle.std.specs.Prelude.{if◌then◌else◌, nat_le}
use Rattle.std.proofs.Common.{◌≡◌, ℕ, ◌+◌, ◌<◌, ◌≤◌, true, false, Bool, List, ◌∷◌, [], ◌++◌, length, Option, None, refl, sym, ap, ap₂, ◌∙◌, subst, arith, append_assoc, append-nil}
use Rattle.std.proofs.lemmas.Bool.Decides.{nat_tests}
use Rattle.ctw_ops.specs.declared.types.Label.{Label}
use Rattle.ctw_ops.specs.Types.{ValueType}
use Rattle.ctw_ops.specs.Limits.{most_weight}
use Rattle.ctw_flat.proofs.Places.{instr_behind}
use Rattle.ctw_script.specs.declared.event.Event.{Event}
use Rattle.ctw_script.specs.declared.trap.TrapCode.TheVariants.{Exhausted}
use Rattle.ctw_semantics.specs.Stores.{Storage}
use Rattle.ctw_semantics.specs.Instances.{Functions}
use Rattle.ctw_semantics.specs.Activations.{Activation}
use Rattle.ctw_semantics.specs.Answers.{Reduced}
use Rattle.ctw_semantics.specs.Machine as Machine
use Rattle.ctw_semantics.specs.Machine.{red}
use Rattle.ctw_semantics.specs.Steps as Steps
use Rattle.ctw_semantics.specs.Steps.{step, turn}
use Rattle.ctw_semantics.specs.Sound.{Shape}
use Rattle.ctw_link.specs.declared.set.Part.{Part}
use Rattle.ctw_link.specs.Linked.{code_in}
use Rattle.ctw_step.specs.declared.running.Caller.{Caller}
use Rattle.ctw_step.specs.declared.running.Stepped.{Stepped}
use Rattle.ctw_step.specs.declared.running.Stepped.TheVariants as Steppeds
use Rattle.ctw_step.specs.Shown.{Shown}
use Rattle.ctw_step.specs.SetInstances.{instances}
use Rattle.ctw_step.specs.Told.{Tells, Weighs, words, with_operands}
use Rattle.ctw_step.specs.Stepping.{CanStep, HasInstr, Standing}
use Rattle.ctw_step.specs.Turning.{Came, CameFromAll, after_steps}
use Rattle.ctw_step.specs.Short.{CanPass, CanTake, Passed, Taken}
use Rattle.ctw_step.proofs.StepLaws.{first_func, reached, spot_at, meets_at, step_is, instr_at_spot, running_func}
use Rattle.ctw_step.proofs.Room.{last_of}
use Rattle.ctw_step.proofs.TurnLaws.{came_start, came_next}
use Rattle.ctw_step.proofs.Weights.{weighed, weighs, red_is}

-- ---- how many words there are

pub words_with : (c : Shown) (operands : List ℕ) (next : ℕ) → length operands ≤ length c.operands + 1 → words (with_operands c operands next) ≤ words c + 1
words_with c operands next l = omega (arith, l)

-- a call that isn't too heavy goes on
light : (c : Shown) (e : Option Event) → words c ≤ most_weight → Weighs c (Steppeds.Went e) (Steppeds.Went e)
light c e l = go (nat_le (words c) most_weight) refl
  where
    go : (b : Bool) → nat_le (words c) most_weight ≡ b → Steppeds.Went e ≡ (if b then Steppeds.Went e else Steppeds.Trapped Exhausted e)
    go true q = refl
    go false q = absurd (heavy q)
      where
        heavy : nat_le (words c) most_weight ≡ false → ⊥
        heavy q = let g : most_weight < words c = grind (arith, nat_tests, q) in omega (arith, g, l)

module _ (parts : List Part) (s : Storage) (shape : Shape) (last : Option (ValueType Label)) (c : Shown) (a : Activation) (func : ℕ) (st : Standing parts s c shape last a) (same : first_func a ≡ func) where
  abbrev fns : Functions
  fns = instances parts

  -- an instruction stands there
  pub instr_here : HasInstr (code_in parts func) c.at
  instr_here = instr_at_spot parts s shape last c a func 0 c.at (reached parts s shape last c a func st same 0 c.at refl)

  pub inside_here : c.at < length (code_in parts func)
  inside_here = let h = instr_here in let b = instr_behind (code_in parts func) c.at h.1 h.2 h.0 h.3 in omega (arith, b.0, b.1)

  -- it can be taken
  pub can_take : CanTake (code_in parts func) c
  can_take i next reads counted =
      let r = reached parts s shape last c a func st same 0 c.at refl in
      let x = spot_at parts s shape last c a func 0 c.at r in
      (s, record { codes = code_in parts; fns = fns; fn = x.fn; place = x.place; code = x.code; values = x.values; knows = tt; meets = meets_at parts s shape last c a func 0 c.at next r i reads counted })

  pub can_pass : CanPass (code_in parts func) c
  can_pass i next reads counted = let x = can_take i next reads counted in (code_in parts func, x.0, x.1)

  -- what is told where it was taken and weighed
  pub taken_tells : (c' : Shown) (r r' : Stepped) → Taken (code_in parts func) c r c' → Weighs c' r r' → Tells (code_in parts) s c' r' (step fns s a).answer (step fns s a).event
  taken_tells c' r r' p w =
      let q = reached parts s shape last c a func st same 0 c.at refl in
      let x = spot_at parts s shape last c a func 0 c.at q in
      let m = meets_at parts s shape last c a func 0 c.at p.next q p.instr p.reads p.counted in
      let told = p.does s (code_in parts) fns x.fn x.place x.code x.values tt m in
      let weighed_so = weighed (code_in parts) s c' r r' (Machine.next fns x.fn s x.place x.code x.values) told w in
      let told_red : Tells (code_in parts) s c' r' (red fns s q.b).answer (red fns s q.b).event =
      subst (λ (y : Reduced). Tells (code_in parts) s c' r' y.answer y.event) (sym (ap (red fns s) x.is ∙ red_is fns x.fn s x.place x.code x.values x.found)) weighed_so in
      subst (λ (z : Steps.Stepped). Tells (code_in parts) s c' r' z.answer z.event) (sym (step_is parts s shape last c a func 0 c.at p.next q p.instr p.reads p.counted)) told_red

  pub passed_tells : (c' : Shown) → Passed (code_in parts func) c c' → words c' ≤ most_weight → Tells (code_in parts) s c' (Steppeds.Went None) (step fns s a).answer (step fns s a).event
  passed_tells c' p l =
      taken_tells c' (Steppeds.Went None) (Steppeds.Went None)
      (record { instr = p.instr; next = p.next; reads = p.reads; counted = p.counted; does = λ s. p.passes.does (code_in parts func) s }) (light c' None l)

pub light_here : (parts : List Part) (s : Storage) (c : Shown) (shape : Shape) (last : Option (ValueType Label)) (a : Activation) → Standing parts s c shape last a → words c ≤ most_weight
light_here parts s c shape last a st = subst (λ n. n ≤ most_weight) (weighs (code_in parts) c a st.stands) st.call.light

-- ---- many steps

-- the function of a call with the frames of another
pub same_func : (parts : List Part) (s : Storage) (shape : Shape) (last : Option (ValueType Label)) (c d : Shown) (a : Activation) (func : ℕ) → Standing parts s d shape last a → d.frames ≡ c.frames → 0 < length c.frames
    → ((front : List Caller) (f : Caller) → c.frames ≡ front ++ f ∷ [] → func ≡ f.func) → first_func a ≡ func
same_func parts s shape last c d a func st e some is =
    let fr = last_of c.frames some in
    running_func parts s d shape last a st fr.0 fr.1 (e ∙ fr.2) ∙ sym (is fr.0 fr.1 fr.2)

-- some steps and then others
pub came_then : (parts : List Part) (shape : Shape) (last : Option (ValueType Label)) (i k : ℕ) (s0 s s' : Storage) (c c' : Shown) (a0 : Activation) (before told told' : List Event) (x : Came parts shape last i s0 a0 before s c told)
    → Came parts shape last k s x.to told s' c' told' → Came parts shape last (i + k) s0 a0 before s' c' told'
came_then parts shape last i k s0 s s' c c' a0 before told told' x y = record {
  to = y.to;
  events = x.events ++ y.events;
  releases = x.releases ++ y.releases;
  standing = y.standing;
  told = y.told ∙ ap (λ (l : List Event). l ++ y.events) x.told ∙ append_assoc before x.events y.events;
  runs = λ m. ap (λ n. turn n (instances parts) s0 a0) (shifted m) ∙ x.runs (k + m) ∙ ap (after_steps i x.events x.releases) (y.runs m) ∙ joined (turn m (instances parts) s' y.to);
}
  where
    shifted : (m : ℕ) → i + k + m ≡ i + (k + m)
    shifted m = omega arith

    joined : (t : Steps.Turned) → after_steps i x.events x.releases (after_steps k y.events y.releases t) ≡ after_steps (i + k) (x.events ++ y.events) (x.releases ++ y.releases) t
    joined t =
        let n : i + (k + t.steps) ≡ i + k + t.steps = omega arith in
        ap (λ n. record { storage = t.storage; left = t.left; steps = n; events = x.events ++ (y.events ++ t.events); releases = x.releases ++ (y.releases ++ t.releases) }) n
        ∙ ap₂ (λ (l : List Event) (m : List ℕ). record { storage = t.storage; left = t.left; steps = i + k + t.steps; events = l; releases = m }) (sym (append_assoc x.events y.events t.events)) (sym (append_assoc x.releases y.releases t.releases))

-- one silent step more
pub came_silently : (parts : List Part) (shape : Shape) (last : Option (ValueType Label)) (i : ℕ) (s0 s : Storage) (c c' : Shown) (a0 : Activation) (before told : List Event) (x : Came parts shape last i s0 a0 before s c told)
    → Tells (code_in parts) s c' (Steppeds.Went None) (step (instances parts) s x.to).answer (step (instances parts) s x.to).event → Came parts shape last (i + 1) s0 a0 before s c' told
came_silently parts shape last i s0 s c c' a0 before told x h = came_next parts shape last i s0 s s c c' a0 before told told None x h (sym (append-nil told))

-- the function that runs, of each call that stands there
abbrev pub RunsIn : List Part → Storage → Shown → ℕ → Type 0
RunsIn parts s c func = (shape : Shape) (last : Option (ValueType Label)) (a : Activation) → Standing parts s c shape last a → first_func a ≡ func

pub runs_in : (parts : List Part) (s : Storage) (c d : Shown) (func : ℕ) → d.frames ≡ c.frames → 0 < length c.frames → ((front : List Caller) (f : Caller) → c.frames ≡ front ++ f ∷ [] → func ≡ f.func) → RunsIn parts s d func
runs_in parts s c d func e some is = λ shape last a st. same_func parts s shape last c d a func st e some is

module _ (parts : List Part) (s : Storage) (c c' : Shown) (func : ℕ) (in_func : RunsIn parts s c func) (p : Passed (code_in parts func) c c') (l : words c' ≤ most_weight) where
  pub came_more : (i : ℕ) (c0 : Shown) → ((before : List Event) → CameFromAll parts i s c0 before s c before) → (before : List Event) → CameFromAll parts (i + 1) s c0 before s c' before
  came_more i c0 came before shape last a0 st =
      let x = came before shape last a0 st in
      came_silently parts shape last i s s c c' a0 before before x (passed_tells parts s shape last c x.to func x.standing (in_func shape last x.to x.standing) c' p l)

  pub can_more : CanStep parts s c → CanStep parts s c'
  can_more r =
      let x = came_start parts r.shape r.last s c r.activation [] r.standing in
      let y = came_silently parts r.shape r.last 0 s s c c' r.activation [] [] x (passed_tells parts s r.shape r.last c x.to func x.standing (in_func r.shape r.last x.to x.standing) c' p l) in
      record { shape = r.shape; last = r.last; activation = y.to; standing = y.standing }
