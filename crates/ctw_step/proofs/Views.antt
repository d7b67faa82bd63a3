-- What stands at the place of a call that isn't stuck, and what is told of a reduction that goes on behind it.
use Rattle.std.proofs.Common.{◌≡◌, ◌≢◌, ℕ, Bool, true, false, List, [], ◌∷◌, ◌++◌, map, Option, Some, None, Ok, refl, sym, ap, ◌∙◌, subst}
use Rattle.ctw_ops.specs.declared.types.Label.{Label}
use Rattle.ctw_ops.specs.Types.{ValueType}
use Rattle.ctw_ops.specs.Code.{Leaf, Code, Then, Op, Plain}
use Rattle.ctw_flat.specs.declared.instr.Instr.{Instr}
use Rattle.ctw_flat.specs.Instructions.{op_of}
use Rattle.ctw_script.specs.declared.trap.TrapCode.{TrapCode}
use Rattle.ctw_script.specs.declared.event.Event.{Event}
use Rattle.ctw_semantics.specs.Values.{Value}
use Rattle.ctw_semantics.specs.Stores.{Storage}
use Rattle.ctw_semantics.specs.Instances.{FunctionInstance, Functions}
use Rattle.ctw_semantics.specs.Answers.{Answer, Goes, Trapped, Stuck, Reduced, given, provided, pop, pop_any}
use Rattle.ctw_semantics.specs.Machine as Machine
use Rattle.ctw_semantics.specs.Machine.{Here, put}
use Rattle.ctw_step.specs.declared.running.Stepped.TheVariants as Steppeds
use Rattle.ctw_step.specs.Shown.{Shown}
use Rattle.ctw_step.specs.Stands.{Codes, number_of, numbers, all_locals, CodeStands, Stands}
use Rattle.ctw_step.specs.Told.{Tells, Meets, with_operands}
use Rattle.ctw_step.proofs.Reading.{on_leaf}
use Rattle.ctw_step.proofs.Inside.{Inner, inner, under, operands_are, goes_on}
use Rattle.ctw_step.proofs.Numbers.{numbers_top}
use Rattle.ctw_step.proofs.Takers.{pop_there}

-- an answer told by an event
abbrev pub noted : Option Event → Answer → Reduced
noted e answer = record { answer = answer; cost = 1; event = e; release = None }

-- ---- what is taken

pub record GivenIs {A : Type 0} (o : Option A) (go : A → Reduced) : Type 0 where
  pub x : A
  pub is : o ≡ Some x
  pub gives : given o go ≡ go x
  pub going : (go x).answer ≢ Stuck

pub given_is : {A : Type 0} (o : Option A) (go : A → Reduced) → (given o go).answer ≢ Stuck → GivenIs o go
given_is None go n = absurd (n refl)
given_is (Some x) go n = record { x = x; is = refl; gives = refl; going = n }

pub record ProvidedIs (b : Bool) (r : Reduced) : Type 0 where
  pub is : b ≡ true
  pub gives : provided b r ≡ r
  pub going : r.answer ≢ Stuck

pub provided_is : (b : Bool) (r : Reduced) → (provided b r).answer ≢ Stuck → ProvidedIs b r
provided_is true r n = record { is = refl; gives = refl; going = n }
provided_is false r n = absurd (n refl)

pub record Popped (t : ValueType Label) (vs : List Value) (go : ℕ → List Value → Reduced) : Type 0 where
  pub v : Value
  pub below : List Value
  pub are : vs ≡ v ∷ below
  pub typed : v.type ≡ t
  pub gives : pop t vs go ≡ go v.number below
  pub going : (go v.number below).answer ≢ Stuck

pub popped : (t : ValueType Label) (vs : List Value) (go : ℕ → List Value → Reduced) → (pop t vs go).answer ≢ Stuck → Popped t vs go
popped t vs go n = pop_there (λ r. pop t vs go ≡ r → Popped t vs go) t vs go n (λ v below are typed going e. record { v = v; below = below; are = are; typed = typed; gives = e; going = going }) refl

pub record PoppedAny (vs : List Value) (go : Value → List Value → Reduced) : Type 0 where
  pub v : Value
  pub below : List Value
  pub are : vs ≡ v ∷ below
  pub gives : pop_any vs go ≡ go v below
  pub going : (go v below).answer ≢ Stuck

pub popped_any : (vs : List Value) (go : Value → List Value → Reduced) → (pop_any vs go).answer ≢ Stuck → PoppedAny vs go
popped_any [] go n = absurd (n refl)
popped_any (v ∷ vs) go n = record { v = v; below = vs; are = refl; gives = refl; going = n }

module _ (codes : Codes) (bytes : List ℕ) (c : Shown) (next : ℕ) (fns : Functions) (fn : FunctionInstance) (s : Storage) (h : Here) (code : Code Label) (vs : List Value) where
  -- this leaf is next
  pub record AtLeaf (l : Leaf Label) : Type 0 where
    pub rest : Code Label
    pub is : code ≡ Then l rest
    pub inner : Inner codes c h (Then l rest) vs
    pub stands : CodeStands (codes h.func) next rest
    pub going : (Machine.next fns fn s h (Then l rest) vs).answer ≢ Stuck

  pub leaf_view : (i : Instr) (l : Leaf Label) → op_of i ≡ Plain l → Meets codes bytes c i next fns fn s h code vs → AtLeaf l
  leaf_view i l e m =
      on_leaf (codes h.func) c.at next (λ d. code ≡ d → AtLeaf l) l (m.reads ∙ ap (λ (o : Op Label). Ok (o, next)) e) code (inner codes c h code vs m.stands).head.code
      (λ rest sp q. record {
        rest = rest;
        is = q;
        inner = inner codes c h (Then l rest) vs (subst (λ d. Stands codes c (put h d vs)) q m.stands);
        stands = sp;
        going = subst (λ d. (Machine.next fns fn s h d vs).answer ≢ Stuck) q m.going;
      }) refl

  -- the operands where the last one was taken
  pub last_is : (l : Leaf Label) (a : AtLeaf l) (v : Value) (below : List Value) → vs ≡ v ∷ below → c.operands ≡ (under h ++ numbers below) ++ v.number ∷ []
  last_is l a v below e = operands_are codes c h (Then l a.rest) vs a.inner ∙ ap (λ vs. under h ++ numbers vs) e ∙ numbers_top (under h) v below

  -- it goes on behind it, with other operands and locals
  pub went : (l : Leaf Label) (a : AtLeaf l) (c' : Shown) (e : Option Event) (s' : Storage) (locals : List Value) (ws : List Value)
      → Machine.next fns fn s h (Then l a.rest) vs ≡ noted e (Goes s' (put (record h { locals = locals }) a.rest ws))
      → c'.at ≡ next → c'.operands ≡ under h ++ numbers ws → c'.locals ≡ all_locals h.callers ++ map number_of locals → c'.labels ≡ c.labels → c'.frames ≡ c.frames
      → Tells codes s' c' (Steppeds.Went e) (Machine.next fns fn s h code vs).answer (Machine.next fns fn s h code vs).event
  went l a c' e s' locals ws q place eo el eb ef =
      subst (λ (x : Reduced). Tells codes s' c' (Steppeds.Went e) x.answer x.event) (sym (ap (λ d. Machine.next fns fn s h d vs) a.is ∙ q))
      (refl, goes_on codes c c' h (Then l a.rest) a.rest vs ws locals a.inner (subst (λ n. CodeStands (codes h.func) n a.rest) (sym place) a.stands) eo el eb ef, refl)

  -- the same where operands alone are others
  pub went_with : (l : Leaf Label) (a : AtLeaf l) (c' : Shown) (e : Option Event) (s' : Storage) (ws : List Value) (operands : List ℕ)
      → Machine.next fns fn s h (Then l a.rest) vs ≡ noted e (Goes s' (put h a.rest ws))
      → c' ≡ with_operands c operands next → operands ≡ under h ++ numbers ws
      → Tells codes s' c' (Steppeds.Went e) (Machine.next fns fn s h code vs).answer (Machine.next fns fn s h code vs).event
  went_with l a c' e s' ws operands q is eo =
      went l a c' e s' h.locals ws q (ap (λ (c : Shown). c.at) is) (ap (λ (c : Shown). c.operands) is ∙ eo) (ap (λ (c : Shown). c.locals) is ∙ a.inner.framed.locals)
      (ap (λ (c : Shown). c.labels) is) (ap (λ (c : Shown). c.frames) is)

  pub trapped : (l : Leaf Label) (a : AtLeaf l) (c' : Shown) (e : Option Event) (s' : Storage) (t : TrapCode) → Machine.next fns fn s h (Then l a.rest) vs ≡ noted e (Trapped t)
      → Tells codes s' c' (Steppeds.Trapped t e) (Machine.next fns fn s h code vs).answer (Machine.next fns fn s h code vs).event
  trapped l a c' e s' t q =
      subst (λ (x : Reduced). Tells codes s' c' (Steppeds.Trapped t e) x.answer x.event) (sym (ap (λ d. Machine.next fns fn s h d vs) a.is ∙ q)) (refl, refl)
