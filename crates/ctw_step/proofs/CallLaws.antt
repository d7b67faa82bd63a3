-- Calls.
use Rattle.std.proofs.Common.{◌≡◌, ◌≢◌, ℕ, ◌+◌, ◌≤◌, List, [], ◌∷◌, ◌++◌, map, length, replicate, Option, Some, slice_get, refl, sym, ap, ap₂, ◌∙◌, subst, arith, append_assoc, append-nil, length-append}
use Rattle.std.proofs.lemmas.List.{map-append}
use Rattle.ctw_ops.specs.declared.types.Label.{Label}
use Rattle.ctw_ops.specs.Types.{ValueType}
use Rattle.ctw_ops.specs.Equal.{same_type}
use Rattle.ctw_ops.specs.Typing.{upon}
use Rattle.ctw_ops.specs.Code as ops
use Rattle.ctw_ops.specs.Code.{Code, Then, ByEnd}
use Rattle.ctw_flat.specs.declared.instr.Instr.TheVariants as instr
use Rattle.ctw_script.specs.declared.event.Event.{Event}
use Rattle.ctw_script.specs.declared.event.Event.TheVariants as Events
use Rattle.ctw_semantics.specs.Values.{Value, value, zero_of}
use Rattle.ctw_semantics.specs.Stores.{Storage}
use Rattle.ctw_semantics.specs.Instances.{FunctionInstance, Functions}
use Rattle.ctw_semantics.specs.Answers.{Goes, Stuck, Reduced, given, pops}
use Rattle.ctw_semantics.specs.Machine as Machine
use Rattle.ctw_semantics.specs.Machine.{Here, put, innermost, frame_of, invoke}
use Rattle.ctw_step.specs.declared.calls.Callee.{Callee}
use Rattle.ctw_step.specs.declared.running.Caller.{Caller}
use Rattle.ctw_step.specs.declared.running.Stepped.{Stepped}
use Rattle.ctw_step.specs.declared.running.Stepped.TheVariants as Steppeds
use Rattle.ctw_step.specs.Shown.{Shown}
use Rattle.ctw_step.specs.Calls.{own_label, with_frame, IsCallee, Calls}
use Rattle.ctw_step.specs.Stands.{Codes, number_of, numbers, operands_of, all_operands, all_labels, upward, CodeStands, Stands}
use Rattle.ctw_step.specs.Told.{Tells, Meets}
use Rattle.ctw_step.proofs.Inside.{Inner, under, operands_are}
use Rattle.ctw_step.proofs.Views.{noted, provided_is, AtLeaf, leaf_view}

-- arguments that are taken: in order they are the last of the operands
pub record Popped (ts : List (ValueType Label)) (acc vs : List Value) (go : List Value → List Value → Reduced) : Type 0 where
  pub args : List Value
  pub below : List Value
  pub mid : List ℕ
  pub are : numbers vs ≡ numbers below ++ mid
  pub taken : map number_of args ≡ mid ++ map number_of acc
  pub count : length mid ≡ length ts
  pub gives : pops ts acc vs go ≡ go args below
  pub going : (go args below).answer ≢ Stuck

pub pops_is : (ts : List (ValueType Label)) (acc vs : List Value) (go : List Value → List Value → Reduced) → (pops ts acc vs go).answer ≢ Stuck → Popped ts acc vs go
pops_is [] acc vs go n = record { args = acc; below = vs; mid = []; are = sym (append-nil (numbers vs)); taken = refl; count = refl; gives = refl; going = n }
pops_is (t ∷ ts) acc [] go n = absurd (n refl)
pops_is (t ∷ ts) acc (v ∷ vs) go n =
    let p = provided_is (same_type t v.type) _ n in
    let q = pops_is ts (value t v.number ∷ acc) vs go p.going in
    record {
      args = q.args;
      below = q.below;
      mid = q.mid ++ v.number ∷ [];
      are = ap (λ l. l ++ v.number ∷ []) q.are ∙ append_assoc (numbers q.below) q.mid (v.number ∷ []);
      taken = q.taken ∙ sym (append_assoc q.mid (v.number ∷ []) (map number_of acc));
      count = let l = length-append q.mid (v.number ∷ []) in let k = q.count in omega arith;
      gives = p.gives ∙ q.gives;
      going = q.going;
    }

length-upon : {A : Type 0} (xs ys : List A) → length (upon xs ys) ≡ length xs + length ys
length-upon [] ys = omega arith
length-upon (x ∷ xs) ys = let e = length-upon xs (x ∷ ys) in omega arith

pub zeros : (ts : List (ValueType Label)) (n : ℕ) → n ≡ length ts → map number_of (map zero_of ts) ≡ replicate n 0
zeros [] n e = ap (λ n. replicate n 0) (sym e)
zeros (t ∷ ts) n e = ap (λ l. 0 ∷ l) (zeros ts (length ts) refl) ∙ ap (λ n. replicate n 0) (sym e)

-- the operands of a call, with what is dropped above them
pub record Invoked (codes : Codes) (c : Shown) (s : Storage) (h : Here) (rest : Code Label) (vs : List Value) (e : Option Event) (callee : Callee) (fn : FunctionInstance) : Type 0 where
  pub front : List ℕ
  pub args : List ℕ
  pub values : List Value
  pub below : List Value
  pub are : under h ++ numbers vs ≡ front ++ args
  pub count : length args ≡ callee.params
  pub is : front ≡ under h ++ numbers below
  pub taken : map number_of values ≡ args
  pub gives : invoke (noted e) s h rest callee.func fn vs ≡ noted e (Goes s (frame_of callee.func fn values ∷ put h rest below))

pub invoked : (codes : Codes) (c : Shown) (s : Storage) (h : Here) (rest : Code Label) (vs : List Value) (e : Option Event) (callee : Callee) (fn : FunctionInstance) → callee.params ≡ length fn.type.params
    → (invoke (noted e) s h rest callee.func fn vs).answer ≢ Stuck → Invoked codes c s h rest vs e callee fn
invoked codes c s h rest vs e callee fn en n =
    let p = pops_is (upon fn.type.params []) [] vs _ n in
    record {
      front = under h ++ numbers p.below;
      args = p.mid;
      values = p.args;
      below = p.below;
      are = ap (λ l. under h ++ l) p.are ∙ sym (append_assoc (under h) (numbers p.below) p.mid);
      count = p.count ∙ length-upon fn.type.params [] ∙ omega (arith, en);
      is = refl;
      taken = p.taken ∙ append-nil p.mid;
      gives = p.gives;
    }

-- the call stands with one frame more
pub called : (codes : Codes) (fns : Functions) (c : Shown) (s : Storage) (h : Here) (code rest : Code Label) (vs ws : List Value) (e : Option Event) (callee : Callee) (fn : FunctionInstance) (next : ℕ)
    → Inner codes c h code vs → CodeStands (codes h.func) next rest → IsCallee codes fns callee fn → (x : Invoked codes c s h rest ws e callee fn) → (c' : Shown) → c' ≡ with_frame c x.front x.args callee next
    → Stands codes c' (frame_of callee.func fn x.values ∷ put h rest x.below)
called codes fns c s h code rest vs ws e callee fn next i sp is x c' q =
    subst (λ (c' : Shown). Stands codes c' (frame_of callee.func fn x.values ∷ put h rest x.below)) (sym q) (
    let f = i.framed in
    let frame : Caller = record { func = callee.func; back = next; locals = length c.locals; labels = length c.labels } in
    let under_is : x.front ≡ all_operands h.callers ++ (operands_of h.outer ++ numbers x.below) = x.is ∙ append_assoc (all_operands h.callers) (operands_of h.outer) (numbers x.below) in
    let labels_are : c.labels ≡ all_labels (record { frame = f.frame; labels = i.record_of ∷ i.records } ∷ f.others) = f.labels ∙ ap (λ rs. all_labels f.others ++ upward rs) i.are in
    record {
      records = record { frame = frame; labels = own_label callee x.front ∷ [] } ∷ record { frame = f.frame; labels = i.record_of ∷ i.records } ∷ f.others;
      operands = under_is ∙ sym (append-nil (all_operands h.callers ++ (operands_of h.outer ++ numbers x.below)));
      locals = ap₂ (λ (x y : List ℕ). x ++ y) f.locals (ap₂ (λ (x y : List ℕ). x ++ y) (sym x.taken) (sym (zeros fn.locals callee.declared is.declared)) ∙ sym (map-append number_of x.values (map zero_of fn.locals)));
      labels = ap (λ l. l ++ own_label callee x.front ∷ []) labels_are;
      frames = ap (λ l. l ++ frame ∷ []) f.frames;
      places = (
        record {
          func = refl;
          locals = ap length f.locals;
          below = ap length labels_are;
          some = omega arith;
          labels = (record { code = record { closer = ByEnd; tail = []; stands = is.starts }; height = ap length under_is ∙ plus_none (length (all_operands h.callers ++ (operands_of h.outer ++ numbers x.below))); has_result = is.has_result; again = refl }, tt);
        },
        (
          record {
            func = f.func;
            locals = f.first;
            below = f.below;
            some = omega arith;
            labels = (record { code = sp; height = i.head.height; has_result = i.head.has_result; again = i.head.again }, i.tail);
          },
          f.callers,
        ),
      );
    })
  where
    plus_none : (n : ℕ) → n ≡ n + 0
    plus_none n = omega arith

module _ (codes : Codes) (bytes : List ℕ) (c : Shown) (next : ℕ) (fns : Functions) (fn : FunctionInstance) (s : Storage) (h : Here) (code : Code Label) (vs : List Value) where
  abbrev Told : Shown → Stepped → Type 0
  Told c' r = Tells codes s c' r (Machine.next fns fn s h code vs).answer (Machine.next fns fn s h code vs).event

  pub record CallMet (index : ℕ) (callee : Callee) : Type 0 where
    pub at : AtLeaf codes bytes c next fns fn s h code vs (ops.Call index)
    pub target : FunctionInstance
    pub is : IsCallee codes fns callee target
    pub invoked_is : Invoked codes c s h at.rest vs (Some (Events.Enter callee.func)) callee target
    pub are : c.operands ≡ invoked_is.front ++ (invoked_is.args ++ [])
    pub gives : Machine.next fns fn s h (Then (ops.Call index) at.rest) vs ≡ noted (Some (Events.Enter callee.func)) (Goes s (frame_of callee.func target invoked_is.values ∷ put h at.rest invoked_is.below))

  pub call_met : (index : ℕ) (callee : Callee) → Calls index callee codes fns fn → Meets codes bytes c (instr.Call index) next fns fn s h code vs → CallMet index callee
  call_met index callee k m =
      let a = leaf_view codes bytes c next fns fn s h code vs (instr.Call index) (ops.Call index) refl m in
      let e : Option Event = Some (Events.Enter callee.func) in
      let q1 : Machine.next fns fn s h (Then (ops.Call index) a.rest) vs ≡ given (slice_get fns callee.func) (λ g. invoke (noted e) s h a.rest callee.func g vs) =
      ap (λ (o : Option ℕ). given o (λ n. given (slice_get fns n) (λ g. invoke (noted (Some (Events.Enter n))) s h a.rest n g vs))) k.0 in
      let q2 : given (slice_get fns callee.func) (λ g. invoke (noted e) s h a.rest callee.func g vs) ≡ invoke (noted e) s h a.rest callee.func k.1 vs =
      ap (λ (o : Option FunctionInstance). given o (λ g. invoke (noted e) s h a.rest callee.func g vs)) k.2.found in
      let x = invoked codes c s h a.rest vs e callee k.1 k.2.params (subst (λ (x : Reduced). x.answer ≢ Stuck) (q1 ∙ q2) a.going) in
      record {
        at = a;
        target = k.1;
        is = k.2;
        invoked_is = x;
        are = operands_are codes c h (Then (ops.Call index) a.rest) vs a.inner ∙ x.are ∙ ap (λ l. x.front ++ l) (sym (append-nil x.args));
        gives = q1 ∙ q2 ∙ x.gives;
      }

  pub call_room : (index : ℕ) (callee : Callee) (m : CallMet index callee) → callee.params + 0 ≤ length c.operands
  call_room index callee m =
      let x = m.invoked_is in
      let n = x.count in
      omega (arith, ap length m.are, length-append x.front (x.args ++ []), length-append x.args [])

  pub call_done : (index : ℕ) (callee : Callee) (m : CallMet index callee) (c' : Shown) → c' ≡ with_frame c m.invoked_is.front m.invoked_is.args callee next → Told c' (Steppeds.Went (Some (Events.Enter callee.func)))
  call_done index callee m c' q =
      subst (λ (x : Reduced). Tells codes s c' (Steppeds.Went (Some (Events.Enter callee.func))) x.answer x.event) (sym (ap (λ d. Machine.next fns fn s h d vs) m.at.is ∙ m.gives))
      (refl, called codes fns c s h (Then (ops.Call index) m.at.rest) m.at.rest vs vs (Some (Events.Enter callee.func)) callee m.target next m.at.inner m.at.stands m.is m.invoked_is c' q, refl)
