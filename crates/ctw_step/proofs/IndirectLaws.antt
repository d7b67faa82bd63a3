-- Indirect calls.
use Rattle.std.specs.Prelude.{if◌then◌else◌}
use Rattle.std.proofs.Common.{◌≡◌, ◌≢◌, ℕ, ◌+◌, ◌<◌, ◌≤◌, ◌^◌, Bool, true, false, List, [], ◌∷◌, ◌++◌, length, Option, Some, None, slice_get, refl, sym, ap, ◌∙◌, subst, arith, length-append, append_assoc}
use Rattle.ctw_ops.specs.declared.types.Label.{Label}
use Rattle.ctw_ops.specs.Types.{ValueType, FitsWidth}
use Rattle.ctw_ops.specs.Equal.{same_function_type}
use Rattle.ctw_ops.specs.Tree.{TypeEntry}
use Rattle.ctw_ops.specs.Code as ops
use Rattle.ctw_ops.specs.Code.{Code, Then}
use Rattle.ctw_flat.specs.declared.instr.Instr.TheVariants as instr
use Rattle.ctw_script.specs.declared.trap.TrapCode.{TrapCode}
use Rattle.ctw_script.specs.declared.trap.TrapCode.TheVariants.{TableBounds, EmptyEntry, CallType}
use Rattle.ctw_script.specs.declared.event.Event.TheVariants as Events
use Rattle.ctw_semantics.specs.Values.{Value, i32}
use Rattle.ctw_semantics.specs.Stores.{Storage, Table}
use Rattle.ctw_semantics.specs.Instances.{FunctionInstance, Functions}
use Rattle.ctw_semantics.specs.Answers.{Goes, Trapped, Stuck, Reduced, noting}
use Rattle.ctw_semantics.specs.Machine as Machine
use Rattle.ctw_semantics.specs.Machine.{Here, put, frame_of, invoke, call_entry}
use Rattle.ctw_step.specs.declared.calls.Callee.{Callee}
use Rattle.ctw_step.specs.declared.running.Stepped.{Stepped}
use Rattle.ctw_step.specs.declared.running.Stepped.TheVariants as Steppeds
use Rattle.ctw_step.specs.Shown.{Shown}
use Rattle.ctw_step.specs.Calls.{with_frame, IsCallee}
use Rattle.ctw_step.specs.Stands.{Codes, numbers}
use Rattle.ctw_step.specs.Told.{Tells, Meets, AllFit}
use Rattle.ctw_step.proofs.Inside.{under}
use Rattle.ctw_step.proofs.Views.{noted, given_is, popped, AtLeaf, leaf_view, last_is}
use Rattle.ctw_step.proofs.CallLaws.{Invoked, invoked, called}

module _ (codes : Codes) (bytes : List ℕ) (c : Shown) (next : ℕ) (fns : Functions) (fn : FunctionInstance) (s : Storage) (h : Here) (code : Code Label) (vs : List Value) (y : ℕ) where
  abbrev Told : Shown → Stepped → Type 0
  Told c' r = Tells codes s c' r (Machine.next fns fn s h code vs).answer (Machine.next fns fn s h code vs).event

  pub record Through : Type 0 where
    pub at : AtLeaf codes bytes c next fns fn s h code vs (ops.CallIndirect y)
    pub v : Value
    pub below : List Value
    pub entry : TypeEntry Label
    pub t : ℕ
    pub table : Table
    pub are : c.operands ≡ (under h ++ numbers below) ++ v.number ∷ []
    pub small : v.number < 2 ^ 32
    pub typed : slice_get fn.part.types y ≡ Some entry
    pub table_is : fn.part.table ≡ Some t
    pub found : slice_get s.tables t ≡ Some table
    pub gives : Machine.next fns fn s h code vs ≡ call_entry fns s h at.rest v.number entry.type (slice_get table.entries v.number) below
    pub going : (call_entry fns s h at.rest v.number entry.type (slice_get table.entries v.number) below).answer ≢ Stuck

  pub through : Meets codes bytes c (instr.CallIndirect y) next fns fn s h code vs → Through
  through m =
      let a = leaf_view codes bytes c next fns fn s h code vs (instr.CallIndirect y) (ops.CallIndirect y) refl m in
      let p = popped i32 vs _ a.going in
      let e = given_is (slice_get fn.part.types y) _ p.going in
      let t = given_is fn.part.table _ e.going in
      let g = given_is (slice_get s.tables t.x) _ t.going in
      let f : AllFit (p.v ∷ p.below) = subst AllFit p.are m.fits in
      record {
        at = a;
        v = p.v;
        below = p.below;
        entry = e.x;
        t = t.x;
        table = g.x;
        are = last_is codes bytes c next fns fn s h code vs (ops.CallIndirect y) a p.v p.below p.are;
        small = subst (λ (u : ValueType Label). FitsWidth u.width p.v.number) p.typed f.0;
        typed = e.is;
        table_is = t.is;
        found = g.is;
        gives = ap (λ d. Machine.next fns fn s h d vs) a.is ∙ p.gives ∙ e.gives ∙ t.gives ∙ g.gives;
        going = g.going;
      }

  pub through_there : (x : Through) → 0 < length c.operands
  through_there x = omega (arith, ap length x.are, length-append (under h ++ numbers x.below) (x.v.number ∷ []))

  entry_gives : (x : Through) (o : Option (Option ℕ)) → slice_get x.table.entries x.v.number ≡ o → Machine.next fns fn s h code vs ≡ call_entry fns s h x.at.rest x.v.number x.entry.type o x.below
  entry_gives x o e = x.gives ∙ ap (λ o. call_entry fns s h x.at.rest x.v.number x.entry.type o x.below) e

  abbrev Trap : ℕ → TrapCode → Stepped
  Trap n t = Steppeds.Trapped t (Some (Events.Indirect n None))

  pub past_end : (x : Through) (n : ℕ) → n ≡ x.v.number → slice_get x.table.entries x.v.number ≡ None → (c' : Shown) → Told c' (Trap n TableBounds)
  past_end x n en e c' = subst (λ n. Told c' (Trap n TableBounds)) (sym en)
      (subst (λ (r : Reduced). Tells codes s c' (Trap x.v.number TableBounds) r.answer r.event) (sym (entry_gives x None e)) (refl, refl))

  pub empty_entry : (x : Through) (n : ℕ) → n ≡ x.v.number → slice_get x.table.entries x.v.number ≡ Some None → (c' : Shown) → Told c' (Trap n EmptyEntry)
  empty_entry x n en e c' = subst (λ n. Told c' (Trap n EmptyEntry)) (sym en)
      (subst (λ (r : Reduced). Tells codes s c' (Trap x.v.number EmptyEntry) r.answer r.event) (sym (entry_gives x (Some None) e)) (refl, refl))

  -- the function of an entry
  pub record Target (x : Through) (f : ℕ) : Type 0 where
    pub fn' : FunctionInstance
    pub is : slice_get fns f ≡ Some fn'
    pub leads : Machine.next fns fn s h code vs ≡ (if same_function_type fn'.type x.entry.type then invoke (noting (Events.Indirect x.v.number (Some f))) s h x.at.rest f fn' x.below else noting (Events.Indirect x.v.number None) (Trapped CallType))
    pub goes : (if same_function_type fn'.type x.entry.type then invoke (noting (Events.Indirect x.v.number (Some f))) s h x.at.rest f fn' x.below else noting (Events.Indirect x.v.number None) (Trapped CallType)).answer ≢ Stuck

  pub target : (x : Through) (f : ℕ) → slice_get x.table.entries x.v.number ≡ Some (Some f) → Target x f
  target x f e =
      let q : call_entry fns s h x.at.rest x.v.number x.entry.type (slice_get x.table.entries x.v.number) x.below ≡ call_entry fns s h x.at.rest x.v.number x.entry.type (Some (Some f)) x.below =
      ap (λ o. call_entry fns s h x.at.rest x.v.number x.entry.type o x.below) e in
      let g = given_is (slice_get fns f) _ (subst (λ (r : Reduced). r.answer ≢ Stuck) q x.going) in
      record { fn' = g.x; is = g.is; leads = x.gives ∙ q ∙ g.gives; goes = g.going }

  pub other_type : (x : Through) (f : ℕ) (t : Target x f) (n : ℕ) → n ≡ x.v.number → same_function_type t.fn'.type x.entry.type ≡ false → (c' : Shown) → Told c' (Trap n CallType)
  other_type x f t n en e c' = subst (λ n. Told c' (Trap n CallType)) (sym en)
      (subst (λ (r : Reduced). Tells codes s c' (Trap x.v.number CallType) r.answer r.event)
      (sym (t.leads ∙ ap (λ (b : Bool). if b then invoke (noting (Events.Indirect x.v.number (Some f))) s h x.at.rest f t.fn' x.below else noting (Events.Indirect x.v.number None) (Trapped CallType)) e)) (refl, refl))

  -- the call through it
  pub record Passes (x : Through) (callee : Callee) (t : Target x callee.func) : Type 0 where
    pub invoked_is : Invoked codes c s h x.at.rest x.below (Some (Events.Indirect x.v.number (Some callee.func))) callee t.fn'
    pub operands : c.operands ≡ invoked_is.front ++ (invoked_is.args ++ x.v.number ∷ [])
    pub gives : Machine.next fns fn s h code vs ≡ noted (Some (Events.Indirect x.v.number (Some callee.func))) (Goes s (frame_of callee.func t.fn' invoked_is.values ∷ put h x.at.rest invoked_is.below))

  pub passes : (x : Through) (callee : Callee) (t : Target x callee.func) → IsCallee codes fns callee t.fn' → same_function_type t.fn'.type x.entry.type ≡ true → Passes x callee t
  passes x callee t k e =
      let go : Bool → Reduced = λ b. if b then invoke (noting (Events.Indirect x.v.number (Some callee.func))) s h x.at.rest callee.func t.fn' x.below else noting (Events.Indirect x.v.number None) (Trapped CallType) in
      let i = invoked codes c s h x.at.rest x.below (Some (Events.Indirect x.v.number (Some callee.func))) callee t.fn' k.params (subst (λ (b : Bool). (go b).answer ≢ Stuck) e t.goes) in
      record {
        invoked_is = i;
        operands = x.are ∙ ap (λ l. l ++ x.v.number ∷ []) i.are ∙ append_assoc i.front i.args (x.v.number ∷ []);
        gives = t.leads ∙ ap go e ∙ i.gives;
      }

  pub passes_room : (x : Through) (callee : Callee) (t : Target x callee.func) (p : Passes x callee t) → callee.params + 1 ≤ length c.operands
  passes_room x callee t p =
      let i = p.invoked_is in
      let n = i.count in
      omega (arith, ap length p.operands, length-append i.front (i.args ++ x.v.number ∷ []), length-append i.args (x.v.number ∷ []))

  pub passed : (x : Through) (callee : Callee) (t : Target x callee.func) (p : Passes x callee t) → IsCallee codes fns callee t.fn' → (n f : ℕ) → n ≡ x.v.number → f ≡ callee.func → (c' : Shown) → c' ≡ with_frame c p.invoked_is.front p.invoked_is.args callee next
      → Told c' (Steppeds.Went (Some (Events.Indirect n (Some f))))
  passed x callee t p k n f en ef c' q =
      subst (λ n. Told c' (Steppeds.Went (Some (Events.Indirect n (Some f))))) (sym en) (subst (λ f. Told c' (Steppeds.Went (Some (Events.Indirect x.v.number (Some f))))) (sym ef)
      (subst (λ (r : Reduced). Tells codes s c' (Steppeds.Went (Some (Events.Indirect x.v.number (Some callee.func)))) r.answer r.event) (sym p.gives)
      (refl, called codes fns c s h (Then (ops.CallIndirect y) x.at.rest) x.at.rest vs x.below (Some (Events.Indirect x.v.number (Some callee.func))) callee t.fn' next x.at.inner x.at.stands k p.invoked_is c' q, refl)))
