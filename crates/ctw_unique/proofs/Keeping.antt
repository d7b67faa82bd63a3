-- A reduction keeps operands as the bodies lead to them.
use Rattle.std.proofs.Common.{◌≡◌, ℕ, zero, suc, ◌+◌, Bool, true, false, List, [], ◌∷◌, ◌++◌, length, replicate, Option, Some, None, slice_get, Result, Ok, Err, inl, inr, refl, sym, ap, ◌∙◌, subst, ◌==◌, nat_le, cond}
use Rattle.ctw_ops.specs.declared.types.Label.{Label}
use Rattle.ctw_ops.specs.declared.types.Label.TheVariants.{Public, Secret}
use Rattle.ctw_ops.specs.declared.types.Width.TheVariants.{W32}
use Rattle.ctw_ops.specs.Types.{ValueType, FunctionType, VariableType, value_type}
use Rattle.ctw_ops.specs.Tree.{TypeEntry}
use Rattle.ctw_ops.specs.Equal.{same_type, same_label, same_function_type}
use Rattle.ctw_ops.specs.declared.numeric.NumSig.{NumSig}
use Rattle.ctw_ops.specs.declared.numeric.Profile.{Profile}
use Rattle.ctw_ops.specs.Numeric.{num_sig_of, leaks}
use Rattle.ctw_ops.specs.Limits.{most_weight}
use Rattle.ctw_ops.specs.Typing.{Context, Row, Typed, optional, upon}
use Rattle.ctw_ops.specs.Code.{Leaf, Unreachable, Nop, Br, BrIf, BrTable, Return, Call, CallIndirect, Drop, Select, LocalGet, LocalSet, LocalTee, GlobalGet, GlobalSet, Load, Store, MemorySize, MemoryGrow, Const, Numeric, Classify, Declassify, Code, Stop, Then, Block, Loop, If, IfElse, Closer, ByEnd, ByElse}
use Rattle.ctw_num.specs.declared.trap.NumTrap.{NumTrap}
use Rattle.ctw_num.specs.Values.{value1, value2}
use Rattle.ctw_script.specs.declared.trap.TrapCode.TheVariants.{Exhausted}
use Rattle.ctw_script.specs.declared.event.Event.TheVariants as Events
use Rattle.ctw_semantics.specs.Values.{Value, value, i32}
use Rattle.ctw_semantics.specs.Stores.{Memory, Global, Storage, number_at, pages, may_grow, grown, with_bytes, with_number, written_at, bytes_of_number}
use Rattle.ctw_semantics.specs.Instances.{FunctionInstance, Functions}
use Rattle.ctw_semantics.specs.Activations.{Open, Frame, Activation, weight}
use Rattle.ctw_semantics.specs.Answers.{Answer, Goes, Ended, Trapped, Stuck, Reduced, quiet, noting, given, provided, pop, pop_any, pops, carry}
use Rattle.ctw_semantics.specs.Machine.{Here, innermost, with_labels, put, with_local, enter, receive, resume, finish, leave, rerun, target_type, arrive, label_at, branch, pass, table_place, invoke, call_entry, memory_of, outcome, showing, numeric, leaf, choose, next, within_weight, here, in_frame, red}
use Rattle.ctw_semantics.specs.Places.{behind, Opens}
use Rattle.ctw_semantics.specs.Sound.{Shape, SoundStorage, context, FunctionTyped, SoundSet, HasTypes, target_types, SoundCall}
use Rattle.ctw_ops.proofs.EqualLaws.{same_type_is, same_function_type_is}
use Rattle.ctw_ops.proofs.Lists.{all_get, map_get, upon_append, upon_below}
use Rattle.ctw_semantics.proofs.Typed.{types_get, given_when}
use Rattle.ctw_semantics.proofs.Placed.{opens_loop}
use Rattle.ctw_semantics.proofs.SoundStores.{global_at}
use Rattle.ctw_unique.specs.Leading.{GoesOn, Leads}
use Rattle.ctw_unique.specs.ByBodies.{types_of, ClosedBy, OutsideHold, LabelsHold, CallersHold, HoldsByBodies, StillHolds}
use Rattle.ctw_unique.proofs.Leading.{leads_then, leads_last, leads_typed, leads_behind, upon_same}
use Rattle.ctw_unique.proofs.Sequences.{outside_typed}

-- ---- lists

rest_same : {A : Type 0} (t u : A) (a b : List A) → t ∷ a ≡ u ∷ b → a ≡ b
rest_same t u a b e = cc

append_same : {A : Type 0} (xs a b : List A) → xs ++ a ≡ xs ++ b → a ≡ b
append_same [] a b e = e
append_same (x ∷ xs) a b e = append_same xs a b (rest_same x x (xs ++ a) (xs ++ b) e)

types_upon : (t : Option (ValueType Label)) (v : Option Value) (vs : List Value) → types_of (optional v) ≡ optional t → types_of (upon (optional v) vs) ≡ upon (optional t) (types_of vs)
types_upon None None vs e = refl
types_upon (Some t) (Some v) vs e = let q : v.type ≡ t = cc in ap (λ t. t ∷ types_of vs) q
types_upon None (Some v) vs e = absurd cc
types_upon (Some t) None vs e = absurd cc

module _ (fns : Functions) (shape : Shape) where
  -- ---- what may be taken

  abbrev Good : Answer → Type 0
  Good = StillHolds fns shape

  abbrev GoodR : Reduced → Type 0
  GoodR r = Good r.answer

  either_good : (b : Bool) (x y : Answer) → Good x → Good y → Good (cond b x y)
  either_good true x y h i = h
  either_good false x y h i = i

  provided_good : (b : Bool) (r : Reduced) → (b ≡ true → GoodR r) → GoodR (provided b r)
  provided_good true r h = h refl
  provided_good false r h = tt

  given_good : {A : Type 0} (o : Option A) (go : A → Reduced) → ((x : A) → o ≡ Some x → GoodR (go x)) → GoodR (given o go)
  given_good None go h = tt
  given_good (Some x) go h = h x refl

  cond_good : (b : Bool) (r q : Reduced) → (b ≡ true → GoodR r) → GoodR q → GoodR (cond b r q)
  cond_good true r q h i = h refl
  cond_good false r q h i = i

  pop_good : (t : ValueType Label) (vs : List Value) (go : ℕ → List Value → Reduced) → ((n : ℕ) (below : List Value) → types_of vs ≡ t ∷ types_of below → GoodR (go n below)) → GoodR (pop t vs go)
  pop_good t [] go h = tt
  pop_good t (v ∷ below) go h =
      provided_good (same_type t v.type) (go v.number below) (λ e. h v.number below (ap (λ u. u ∷ types_of below) (sym (same_type_is t v.type e))))

  pop_any_good : (vs : List Value) (go : Value → List Value → Reduced) → ((v : Value) (below : List Value) → types_of vs ≡ v.type ∷ types_of below → GoodR (go v below)) → GoodR (pop_any vs go)
  pop_any_good [] go h = tt
  pop_any_good (v ∷ below) go h = h v below refl

  pops_good : (ts : List (ValueType Label)) (args vs : List Value) (go : List Value → List Value → Reduced) → ((args below : List Value) → types_of vs ≡ ts ++ types_of below → GoodR (go args below)) → GoodR (pops ts args vs go)
  pops_good [] args vs go h = h args vs refl
  pops_good (t ∷ ts) args vs go h =
      pop_good t vs (λ n below. pops ts (value t n ∷ args) below go)
      (λ n below e. pops_good ts (value t n ∷ args) below go (λ more under f. h more under (e ∙ ap (λ us. t ∷ us) f)))

  carry_good : (t : Option (ValueType Label)) (vs : List Value) (go : Option Value → Reduced) → ((v : Option Value) → types_of (optional v) ≡ optional t → GoodR (go v)) → GoodR (carry t vs go)
  carry_good None vs go h = h None refl
  carry_good (Some t) vs go h = pop_good t vs (λ n below. go (Some (value t n))) (λ n below e. h (Some (value t n)) refl)

  -- ---- frames

  resume_good : (s : Storage) (t : Option (ValueType Label)) (v : Option Value) → types_of (optional v) ≡ optional t → (fn : FunctionInstance) (typed : FunctionTyped fns shape fn) (f : Frame) → slice_get fns f.func ≡ Some fn → (ks : List Closer) (os : List Open) → LabelsHold typed.names fn (optional t) ks os → (others : List (List Closer)) (fs : List Frame) → CallersHold fns shape fn.type.result others fs → Good (resume s v f os fs)
  resume_good s t v e fn typed f found ks [] l others fs c = tt
  resume_good s t v e fn typed f found [] (o ∷ os) l others fs c = absurd l
  resume_good s t v e fn typed f found (k ∷ ks) (o ∷ os) l others fs c =
      let C = context typed.names fn (target_type o.again o.result ∷ target_types os) in (
        (k ∷ ks) ∷ others,
        (
          fn,
          record { found = found; typed = typed; labels = (l.0, l.1, subst (λ ts. Leads C l.1 l.0 [] o.code ts) (sym (types_upon t v o.values e)) l.2, l.3) },
          c,
        ),
      )

  finish_good : (s : Storage) (t : Option (ValueType Label)) (v : Option Value) → types_of (optional v) ≡ optional t → (others : List (List Closer)) (fs : List Frame) → CallersHold fns shape t others fs → Good (finish s v fs)
  finish_good s t v e others [] c = tt
  finish_good s t v e [] (f ∷ fs) c = absurd c
  finish_good s t v e (ks ∷ others) (f ∷ fs) c = resume_good s t v e c.0 c.1.typed f c.1.found ks f.labels c.1.labels others fs c.2

  module _ (fn : FunctionInstance) (typed : FunctionTyped fns shape fn) (others : List (List Closer)) where
    -- a frame at a place with these labels
    frame_good : (s : Storage) (h : Here) → slice_get fns h.func ≡ Some fn → CallersHold fns shape fn.type.result others h.callers → (ks : List Closer) (labels : List Open) → LabelsHold typed.names fn [] ks labels → Good (Goes s (with_labels h labels))
    frame_good s h found callers ks labels l = (ks ∷ others, (fn, record { found = found; typed = typed; labels = l }, callers))

    abbrev Outside : Closer → Option (ValueType Label) → Option (Code Label) → Code Label → List Closer → List Open → Type 0
    Outside = OutsideHold typed.names fn

    -- ---- labels

    module _ (s : Storage) (h : Here) (found : slice_get fns h.func ≡ Some fn) (callers : CallersHold fns shape fn.type.result others h.callers) where
      leave_good : (t : Option (ValueType Label)) (v : Option Value) → types_of (optional v) ≡ optional t → (closer : Closer) (again : Option (Code Label)) (inside : Code Label) (ks : List Closer) (os : List Open) → Outside closer t again inside ks os → Good (leave s h v os)
      leave_good t v e closer again inside [] [] o = finish_good s fn.type.result v (e ∙ ap optional o.1) others h.callers callers
      leave_good t v e closer again inside (k ∷ ks) [] o = absurd o
      leave_good t v e closer again inside [] (p ∷ ps) o = absurd o
      leave_good t v e closer again inside (k ∷ ks) (p ∷ ps) o =
          let C = context typed.names fn (target_type p.again p.result ∷ target_types ps) in
          frame_good s h found callers (k ∷ ks) (receive v p ∷ ps)
          (o.0, suc o.1, subst (λ ts. Leads C (suc o.1) o.0 [] p.code ts) (sym (types_upon t v p.values e)) o.4, o.5)

      rerun_good : (t : Option (ValueType Label)) (body : Code Label) (closer : Closer) (inside : Code Label) (ks : List Closer) (os : List Open) → Outside closer t (Some body) inside ks os → Good (rerun s h t body os)
      rerun_good t body closer inside ks [] o = tt
      rerun_good t body closer inside [] (p ∷ ps) o = absurd o
      rerun_good t body closer inside (k ∷ ks) (p ∷ ps) o =
          let C = context typed.names fn (target_type p.again p.result ∷ target_types ps) in
          let l = leads_last C o.1 o.0 p.code [] (upon (optional t) (types_of p.values)) o.4 in
          let loop : behind o.1 o.0 ≡ Loop t body p.code = sym (opens_loop (behind o.1 o.0) t body inside p.code o.2) in
          let last : Leads C 1 (Loop t body p.code) l.mid p.code (upon (optional t) (types_of p.values)) = subst (λ c. Leads C 1 c l.mid p.code (upon (optional t) (types_of p.values))) loop l.last in
          let same : l.mid ≡ types_of p.values = upon_same (optional t) l.mid (types_of p.values) last.1 in
          frame_good s h found callers (k ∷ ks) (record p { code = Loop t body p.code } ∷ ps)
          (o.0, o.1, subst (λ ts. Leads C o.1 o.0 [] (Loop t body p.code) ts) same (subst (λ c. Leads C o.1 o.0 [] c l.mid) loop l.front), o.5)

      arrive_good : (again : Option (Code Label)) (t : Option (ValueType Label)) (v : Option Value) → types_of (optional v) ≡ optional (target_type again t) → (closer : Closer) (inside : Code Label) (ks : List Closer) (os : List Open) → Outside closer t again inside ks os → Good (arrive s h again t v os)
      arrive_good None t v e closer inside ks os o = leave_good t v e closer None inside ks os o
      arrive_good (Some body) t v e closer inside ks os o = rerun_good t body closer inside ks os o

      label_good : (k : ℕ) (p : Open) (ps : List Open) (closer : Closer) (inside : Code Label) (ks : List Closer) → Outside closer p.result p.again inside ks ps → (go : Open → List Open → Reduced) → ((p : Open) (ps : List Open) (closer : Closer) (inside : Code Label) (ks : List Closer) → Outside closer p.result p.again inside ks ps → GoodR (go p ps)) → GoodR (label_at k (p ∷ ps) go)
      label_good zero p ps closer inside ks o go f = f p ps closer inside ks o
      label_good (suc k) p [] closer inside ks o go f = tt
      label_good (suc k) p (q ∷ ps) closer inside [] o go f = absurd o
      label_good (suc k) p (q ∷ ps) closer inside (l ∷ ks) o go f = label_good k q ps l o.0 ks o.5 go f

    -- ---- instructions, in front of what is left behind them

    module _ (s : Storage) (ss : SoundStorage shape s) (set : SoundSet fns shape) (h : Here) (found : slice_get fns h.func ≡ Some fn) (callers : CallersHold fns shape fn.type.result others h.callers) (locals : HasTypes (fn.type.params ++ fn.locals) h.locals) (closer : Closer) (inside : Code Label) (ks : List Closer) (outside : Outside closer h.result h.again inside ks h.outer) (n : ℕ) where
      abbrev C : Context Label
      C = context typed.names fn (target_type h.again h.result ∷ target_types h.outer)

      -- the place in front of this code, and the place behind one instruction more
      abbrev Place : Code Label → List (ValueType Label) → Type 0
      Place code ts = Leads C n inside [] code ts

      abbrev Next : Code Label → List (ValueType Label) → Type 0
      Next code ts = Leads C (suc n) inside [] code ts

      put_good : (t : Storage) (rest : Code Label) (vs : List Value) (mid : List (ValueType Label)) → Next rest mid → types_of vs ≡ mid → Good (Goes t (put h rest vs))
      put_good t rest vs mid l e =
          frame_good t h found callers (closer ∷ ks) (innermost h rest vs ∷ h.outer) (inside, suc n, subst (λ ts. Leads C (suc n) inside [] rest ts) (sym e) l, outside)

      put_local_good : (x : ℕ) (v : Value) (rest : Code Label) (vs : List Value) (mid : List (ValueType Label)) → Next rest mid → types_of vs ≡ mid → Good (Goes s (put (with_local h x v) rest vs))
      put_local_good x v rest vs mid l e =
          frame_good s (with_local h x v) found callers (closer ∷ ks) (innermost h rest vs ∷ h.outer) (inside, suc n, subst (λ ts. Leads C (suc n) inside [] rest ts) (sym e) l, outside)

      branch_good : (note : Answer → Reduced) → ((x : Answer) → Good x → GoodR (note x)) → (k : ℕ) (rest : Code Label) (vs : List Value) → GoodR (branch note s h k (innermost h rest vs ∷ h.outer) vs)
      branch_good note nt k rest vs =
          label_good s h found callers k (innermost h rest vs) h.outer closer inside ks outside _
          (λ o os l c us out. carry_good (target_type o.again o.result) vs _ (λ v e. nt _ (arrive_good s h found callers o.again o.result v e l c us os out)))

      pass_good : (r : Reduced) → GoodR r → (k : ℕ) (rest : Code Label) (vs : List Value) → GoodR (pass r k (innermost h rest vs ∷ h.outer) vs)
      pass_good r g k rest vs =
          label_good s h found callers k (innermost h rest vs) h.outer closer inside ks outside _ (λ o os l c us out. carry_good (target_type o.again o.result) vs (λ v. r) (λ v e. g))

      enter_good : (rest : Code Label) (vs : List Value) (t : Option (ValueType Label)) (again : Option (Code Label)) (body : Code Label) (k : Closer) → Opens (behind n inside) t again body rest → ClosedBy k (behind n inside) body → Next rest (upon (optional t) (types_of vs)) → Good (Goes s (enter h rest vs t again body))
      enter_good rest vs t again body k o c l =
          frame_good s h found callers (k ∷ closer ∷ ks) (record { values = []; code = body; result = t; again = again } ∷ innermost h rest vs ∷ h.outer)
          (body, 0, (refl, refl), (inside, n, o, c, l, outside))

      invoke_good : (note : Answer → Reduced) → ((x : Answer) → Good x → GoodR (note x)) → (rest : Code Label) (f : ℕ) (callee : FunctionInstance) (kept mid : List (ValueType Label)) (vs : List Value) → slice_get fns f ≡ Some callee → Next rest mid → mid ≡ upon (optional callee.type.result) kept → types_of vs ≡ upon callee.type.params kept → GoodR (invoke note s h rest f callee vs)
      invoke_good note nt rest f callee kept mid vs e l em ev =
          let ps = callee.type.params in
          pops_good (upon ps []) [] vs _ (λ args below eb. nt _ (
          let q : kept ≡ types_of below = append_same (upon ps []) kept (types_of below) (sym (upon_below ps [] kept) ∙ sym ev ∙ eb) in
          let m : mid ≡ upon (optional callee.type.result) (types_of below) = em ∙ ap (upon (optional callee.type.result)) q in (
            (ByEnd ∷ []) ∷ (closer ∷ ks) ∷ others,
            (
              callee,
              record { found = e; typed = all_get (FunctionTyped fns shape) fns f callee set.bodies e; labels = (callee.body, 0, (refl, refl), (refl, refl, refl, refl)) },
              (
                fn,
                record { found = found; typed = typed; labels = (inside, suc n, subst (λ ts. Leads C (suc n) inside [] rest ts) m l, outside) },
                callers,
              ),
            ),
          )
          ))

      call_entry_good : (rest : Code Label) (i : ℕ) (type : FunctionType Label) (entry : Option (Option ℕ)) (kept mid : List (ValueType Label)) (vs : List Value) → Next rest mid → mid ≡ upon (optional type.result) kept → types_of vs ≡ upon type.params kept → GoodR (call_entry fns s h rest i type entry vs)
      call_entry_good rest i type None kept mid vs l em ev = tt
      call_entry_good rest i type (Some None) kept mid vs l em ev = tt
      call_entry_good rest i type (Some (Some g)) kept mid vs l em ev =
          given_good (slice_get fns g) _ (λ callee e. cond_good (same_function_type callee.type type) _ _
          (λ q. let p : callee.type ≡ type = same_function_type_is callee.type type q in
          invoke_good (noting (Events.Indirect i (Some g))) (λ x f. f) rest g callee kept mid vs e l (em ∙ ap (λ (t : FunctionType Label). upon (optional t.result) kept) (sym p)) (ev ∙ ap (λ (t : FunctionType Label). upon t.params kept) (sym p)))
          tt)

      outcome_good : (rest : Code Label) (t : ValueType Label) (below : List Value) (x : Result ℕ NumTrap) → Next rest (t ∷ types_of below) → Good (outcome s h rest t below x)
      outcome_good rest t below (Ok k) l = put_good s rest (value t k ∷ below) (t ∷ types_of below) l refl
      outcome_good rest t below (Err trap) l = tt

      showing_good : (timed : Bool) (l : Label) (x y : ℕ) (answer : Answer) → Good answer → GoodR (showing timed l x y answer)
      showing_good false l x y answer g = g
      showing_good true l x y answer g = provided_good (same_label l Public) (noting (Events.Divide x y) answer) (λ e. g)

      numeric_good : (profile : Profile) (rest : Code Label) (op : ℕ) (l : Label) (sig : NumSig) (arity : ℕ) (kept mid : List (ValueType Label)) (vs : List Value) → Next rest mid → mid ≡ value_type sig.result l ∷ kept → types_of vs ≡ upon (replicate arity (value_type sig.operand l)) kept → GoodR (numeric profile s h rest op l sig arity vs)
      numeric_good profile rest op l sig zero kept mid vs p em ev = tt
      numeric_good profile rest op l sig (suc zero) kept mid vs p em ev =
          pop_good (value_type sig.operand l) vs _ (λ x below e.
          given_good (value1 op x) _ (λ r er. put_good s rest (value (value_type sig.result l) r ∷ below) mid p (let q : kept ≡ types_of below = cc in cc)))
      numeric_good profile rest op l sig (suc (suc zero)) kept mid vs p em ev =
          let t = value_type sig.operand l in
          pop_good t vs _ (λ y below e. pop_good t below _ (λ x under f.
          given_good (value2 op x y) _ (λ r er. showing_good (leaks op profile) l x y _ (outcome_good rest (value_type sig.result l) under r
          (let q : mid ≡ value_type sig.result l ∷ types_of under = cc in subst (λ ts. Leads C (suc n) inside [] rest ts) q p)))))
      numeric_good profile rest op l sig (suc (suc (suc more))) kept mid vs p em ev = tt

      memory_good : (go : ℕ → Memory → Reduced) → ((i : ℕ) (m : Memory) → GoodR (go i m)) → GoodR (memory_of fn s go)
      memory_good go f = given_good fn.part.memory _ (λ i e. given_good (slice_get s.memories i) _ (λ m q. f i m))

      -- behind an instruction that goes on
      next_place : (i : Leaf Label) (rest : Code Label) (from mid : List (ValueType Label)) → Place (Then i rest) from → GoesOn i → Row C i from mid → Next rest mid
      next_place i rest from mid p g r = leads_then C n inside (Then i rest) rest [] from mid p (g, mid, r, (refl, refl))

      leaf_good : (i : Leaf Label) (rest : Code Label) (vs : List Value) (mid : List (ValueType Label)) → Place (Then i rest) (types_of vs) → Row C i (types_of vs) mid → GoodR (leaf fns fn s h rest i vs)
      leaf_good Unreachable rest vs mid p r = tt
      leaf_good Nop rest vs mid p r = put_good s rest vs mid (next_place Nop rest (types_of vs) mid p tt r) r
      leaf_good (Br k) rest vs mid p r = branch_good quiet (λ x g. g) k rest vs
      leaf_good (BrIf k) rest vs mid p r =
          let l = next_place (BrIf k) rest (types_of vs) mid p tt r in
          let kept = r.2.0 in
          let q : types_of vs ≡ i32 ∷ upon (optional r.0) kept = r.2.1 ∙ upon_append (optional r.0) (i32 ∷ []) kept in
          pop_good i32 vs _ (λ c below e. cond_good (c == 0) _ _
          (λ z. pass_good _ (put_good s rest below mid l (rest_same i32 i32 (types_of below) (upon (optional r.0) kept) (sym e ∙ q) ∙ sym r.2.2)) k rest below)
          (branch_good (noting (Events.Branch true)) (λ x g. g) k rest below))
      leaf_good (BrTable targets otherwise) rest vs mid p r =
          pop_good i32 vs _ (λ c below e. given_good (slice_get (targets ++ otherwise ∷ []) (table_place c targets)) _ (λ k f. branch_good (noting (Events.Table c)) (λ x g. g) k rest below))
      leaf_good Return rest vs mid p r = carry_good fn.type.result vs _ (λ v e. finish_good s fn.type.result v e others h.callers callers)
      leaf_good (Call g) rest vs mid p r =
          let l = next_place (Call g) rest (types_of vs) mid p tt r in
          let c = typed.leads.functions g r.0 r.1 in
          given_good (slice_get fn.part.functions g) _ (λ f ef. given_good (slice_get fns f) _ (λ callee ec.
          let same : c.0 ≡ f = let a = c.2 in cc in
          let one : c.1 ≡ callee = let a = c.3 in cc in
          let t : callee.type ≡ r.0 = ap (λ (x : FunctionInstance). x.type) (sym one) ∙ c.4 in
          invoke_good (noting (Events.Enter f)) (λ x g. g) rest f callee r.3.0 mid vs ec l
          (r.3.2 ∙ ap (λ (t : FunctionType Label). upon (optional t.result) r.3.0) (sym t)) (r.3.1 ∙ ap (λ (t : FunctionType Label). upon t.params r.3.0) (sym t))))
      leaf_good (CallIndirect y) rest vs mid p r =
          let l = next_place (CallIndirect y) rest (types_of vs) mid p tt r in
          let kept = r.4.0 in
          let named = map_get (λ (entry : TypeEntry Label). entry.type) fn.part.types y r.1 r.2 in
          pop_good i32 vs _ (λ c below e. given_good (slice_get fn.part.types y) _ (λ entry ey. given_good fn.part.table _ (λ t et. given_good (slice_get s.tables t) _ (λ table ea.
          let one : named.0 ≡ entry = let a = named.1 in cc in
          let q : entry.type ≡ r.1 = ap (λ (x : TypeEntry Label). x.type) (sym one) ∙ named.2 in
          let below_is : types_of below ≡ upon r.1.params kept = rest_same i32 i32 (types_of below) (upon r.1.params kept) (sym e ∙ r.4.1 ∙ upon_append r.1.params (i32 ∷ []) kept) in
          call_entry_good rest c entry.type (slice_get table.entries c) kept mid below l
          (r.4.2 ∙ ap (λ (t : FunctionType Label). upon (optional t.result) kept) (sym q)) (below_is ∙ ap (λ (t : FunctionType Label). upon t.params kept) (sym q))))))
      leaf_good Drop rest vs mid p r =
          let l = next_place Drop rest (types_of vs) mid p tt r in
          pop_any_good vs _ (λ v below e. put_good s rest below mid l (let a = r.1.1 in let b = r.1.2 in cc))
      leaf_good (Select t) rest vs mid p r =
          let l = next_place (Select t) rest (types_of vs) mid p tt r in
          pop_good (value_type W32 t) vs _ (λ c below e. pop_any_good below _ (λ y under f.
          provided_good (same_label t y.type.tag) _ (λ same. pop_good y.type under _ (λ x last g.
          put_good s rest (value y.type (cond (c == 0) y.number x) ∷ last) mid l (let a = r.1.1 in let b = r.1.2 in cc)))))
      leaf_good (LocalGet x) rest vs mid p r =
          let l = next_place (LocalGet x) rest (types_of vs) mid p tt r in
          let g = types_get (fn.type.params ++ fn.locals) h.locals x r.0 locals r.1 in
          given_good (slice_get h.locals x) _ (λ v e. put_good s rest (v ∷ vs) mid l
          (let a = r.2.1 in let b = r.2.2 in let f = g.1 in let t = g.2 in let one : g.0 ≡ v = cc in let q : v.type ≡ r.0 = ap (λ (w : Value). w.type) (sym one) ∙ t in cc))
      leaf_good (LocalSet x) rest vs mid p r =
          let l = next_place (LocalSet x) rest (types_of vs) mid p tt r in
          given_good (slice_get h.locals x) _ (λ old e. pop_good old.type vs _ (λ k below f. put_local_good x (value old.type k) rest below mid l (let a = r.2.1 in let b = r.2.2 in cc)))
      leaf_good (LocalTee x) rest vs mid p r =
          let l = next_place (LocalTee x) rest (types_of vs) mid p tt r in
          given_good (slice_get h.locals x) _ (λ old e. pop_good old.type vs _ (λ k below f. put_local_good x (value old.type k) rest (value old.type k ∷ below) mid l (let a = r.2.1 in let b = r.2.2 in cc)))
      leaf_good (GlobalGet x) rest vs mid p r =
          let l = next_place (GlobalGet x) rest (types_of vs) mid p tt r in
          let i = typed.leads.globals x r.0 r.1 in
          let g = global_at shape s ss i.0 r.0 i.2 in
          given_good (slice_get fn.part.globals x) _ (λ j ej. given_good (slice_get s.globals j) _ (λ v ev. put_good s rest (v.value ∷ vs) mid l
          (let a = r.2.1 in let b = r.2.2 in let c = i.1 in let d = g.1 in
          let at : i.0 ≡ j = cc in
          let one : g.0 ≡ v = cc in
          let q : v.value.type ≡ r.0.value = ap (λ (w : Global). w.value.type) (sym one) ∙ ap (λ (t : VariableType Label). t.value) g.2 in cc)))
      leaf_good (GlobalSet x) rest vs mid p r =
          let l = next_place (GlobalSet x) rest (types_of vs) mid p tt r in
          given_good (slice_get fn.part.globals x) _ (λ j ej. given_good (slice_get s.globals j) _ (λ g eg. provided_good g.mutable _ (λ em. pop_good g.value.type vs _ (λ k below f.
          put_good (with_number s j g k) rest below mid l (let a = r.3.1 in let b = r.3.2 in cc)))))
      leaf_good (Load w t count signed align offset) rest vs mid p r =
          let l = next_place (Load w t count signed align offset) rest (types_of vs) mid p tt r in
          memory_good _ (λ i m. provided_good (same_label t m.type.tag) _ (λ same. pop_good i32 vs _ (λ at below e.
          either_good (nat_le (at + offset + count) (length m.bytes)) _ _ (put_good s rest (value (value_type w t) (number_at w signed count (at + offset) m.bytes) ∷ below) mid l (let a = r.3.1 in let b = r.3.2 in cc)) tt)))
      leaf_good (Store w t count align offset) rest vs mid p r =
          let l = next_place (Store w t count align offset) rest (types_of vs) mid p tt r in
          memory_good _ (λ i m. provided_good (same_label t m.type.tag) _ (λ same. pop_good (value_type w t) vs _ (λ x below e. pop_good i32 below _ (λ at under f.
          either_good (nat_le (at + offset + count) (length m.bytes)) _ _ (put_good (with_bytes s i m (written_at (at + offset) (bytes_of_number count x) m.bytes)) rest under mid l (let a = r.3.1 in let b = r.3.2 in cc)) tt))))
      leaf_good MemorySize rest vs mid p r =
          let l = next_place MemorySize rest (types_of vs) mid p tt r in
          memory_good _ (λ i m. put_good s rest (value i32 (pages m) ∷ vs) mid l (let a = r.2.1 in let b = r.2.2 in cc))
      leaf_good MemoryGrow rest vs mid p r =
          let l = next_place MemoryGrow rest (types_of vs) mid p tt r in
          memory_good _ (λ i m. pop_good i32 vs _ (λ count below e. either_good (may_grow s m count) _ _
          (put_good (with_bytes s i m (grown m count)) rest (value i32 (pages m) ∷ below) mid l (let a = r.2.1 in let b = r.2.2 in cc))
          (put_good s rest (value i32 4294967295 ∷ below) mid l (let a = r.2.1 in let b = r.2.2 in cc))))
      leaf_good (Const w t bits) rest vs mid p r =
          let l = next_place (Const w t bits) rest (types_of vs) mid p tt r in
          put_good s rest (value (value_type w t) bits ∷ vs) mid l (let a = r.1.1 in let b = r.1.2 in cc)
      leaf_good (Numeric op t) rest vs mid p r =
          let l = next_place (Numeric op t) rest (types_of vs) mid p tt r in
          given_good (num_sig_of op) _ (λ sig e.
          let one : r.0 ≡ sig = let a = r.1 in cc in
          numeric_good fn.part.profile rest op t sig sig.arity r.3.0 mid vs l
          (subst (λ (sig : NumSig). mid ≡ value_type sig.result t ∷ r.3.0) one r.3.2) (subst (λ (sig : NumSig). types_of vs ≡ upon (replicate sig.arity (value_type sig.operand t)) r.3.0) one r.3.1))
      leaf_good (Classify w) rest vs mid p r =
          let l = next_place (Classify w) rest (types_of vs) mid p tt r in
          pop_good (value_type w Public) vs _ (λ x below e. put_good s rest (value (value_type w Secret) x ∷ below) mid l (let a = r.1 in let b = r.2 in cc))
      leaf_good (Declassify w) rest vs mid p r =
          let l = next_place (Declassify w) rest (types_of vs) mid p tt r in
          pop_good (value_type w Secret) vs _ (λ x below e. put_good s rest (value (value_type w Public) x ∷ below) mid l (let a = r.1.1 in let b = r.1.2 in cc))

      -- ---- the next instruction, or the end of the label

      choose_good : (rest : Code Label) (t : Option (ValueType Label)) (arm other : Code Label) (first second : Closer) (vs : List Value) → Opens (behind n inside) t None arm rest → ClosedBy first (behind n inside) arm → Opens (behind n inside) t None other rest → ClosedBy second (behind n inside) other
          → ((below : List Value) → types_of vs ≡ i32 ∷ types_of below → Next rest (upon (optional t) (types_of below))) → GoodR (choose s h rest t arm other vs)
      choose_good rest t arm other first second vs oa ka oo ko l = pop_good i32 vs _ (λ c below e. arms (c == 0) below (l below e))
        where
          arms : (b : Bool) (below : List Value) → Next rest (upon (optional t) (types_of below)) → Good (Goes s (enter h rest below t None (cond b other arm)))
          arms true below l = enter_good rest below t None other second oo ko l
          arms false below l = enter_good rest below t None arm first oa ka l

      next_good : (c : Code Label) (vs : List Value) → Place c (types_of vs) → c ≡ behind n inside → Typed C c (types_of vs) (optional h.result) → GoodR (next fns fn s h c vs)
      next_good Stop vs p e t = carry_good h.result vs _ (λ v q. leave_good s h found callers h.result v q closer h.again inside ks h.outer outside)
      next_good (Then i rest) vs p e t = leaf_good i rest vs t.0 p t.1
      next_good (Block u body rest) vs p e t =
          enter_good rest vs u None body ByEnd (subst (λ c. Opens c u None body rest) e (refl, refl, refl, refl)) (subst (λ c. ClosedBy ByEnd c body) e tt)
          (leads_then C n inside (Block u body rest) rest [] (types_of vs) (upon (optional u) (types_of vs)) p (refl, refl))
      next_good (Loop u body rest) vs p e t =
          enter_good rest vs u (Some body) body ByEnd (subst (λ c. Opens c u (Some body) body rest) e (refl, refl, refl, refl)) (subst (λ c. ClosedBy ByEnd c body) e tt)
          (leads_then C n inside (Loop u body rest) rest [] (types_of vs) (upon (optional u) (types_of vs)) p (refl, refl))
      next_good (If u arm rest) vs p e t =
          choose_good rest u arm Stop ByEnd ByEnd vs
          (subst (λ c. Opens c u None arm rest) e (refl, refl, inl refl, refl)) (subst (λ c. ClosedBy ByEnd c arm) e tt)
          (subst (λ c. Opens c u None Stop rest) e (refl, refl, inr refl, refl)) (subst (λ c. ClosedBy ByEnd c Stop) e tt)
          (λ below q. leads_then C n inside (If u arm rest) rest [] (types_of vs) (upon (optional u) (types_of below)) p (types_of below, q, (refl, refl)))
      next_good (IfElse u arm other rest) vs p e t =
          choose_good rest u arm other ByElse ByEnd vs
          (subst (λ c. Opens c u None arm rest) e (refl, refl, inl refl, refl)) (subst (λ c. ClosedBy ByElse c arm) e refl)
          (subst (λ c. Opens c u None other rest) e (refl, refl, inr refl, refl)) (subst (λ c. ClosedBy ByEnd c other) e refl)
          (λ below q. leads_then C n inside (IfElse u arm other rest) rest [] (types_of vs) (upon (optional u) (types_of below)) p (types_of below, q, (refl, refl)))

  -- ---- one reduction

  within_good : (x : Answer) → Good x → Good (within_weight x)
  within_good (Goes s a) g = either_good (nat_le (weight a) most_weight) (Goes s a) (Trapped Exhausted) g tt
  within_good (Ended v) g = tt
  within_good (Trapped code) g = tt
  within_good Stuck g = tt

  in_frame_good : (s : Storage) → SoundStorage shape s → SoundSet fns shape → (f : Frame) (fn : FunctionInstance) (typed : FunctionTyped fns shape fn) → slice_get fns f.func ≡ Some fn → HasTypes (fn.type.params ++ fn.locals) f.locals → (ks : List Closer) (ls : List Open) → LabelsHold typed.names fn [] ks ls → (others : List (List Closer)) (fs : List Frame) → CallersHold fns shape fn.type.result others fs → Good (in_frame fns s f ls fs).answer
  in_frame_good s ss set f fn typed found locals ks [] l others fs c = tt
  in_frame_good s ss set f fn typed found locals [] (o ∷ os) l others fs c = absurd l
  in_frame_good s ss set f fn typed found locals (k ∷ ks) (o ∷ os) l others fs c =
      let ls = target_type o.again o.result ∷ target_types os in
      let whole = outside_typed fns shape fn typed k o.result o.again l.0 ks os l.3 in
      let code = leads_typed fns shape fn typed.names typed.names typed.leads typed.leads ls l.1 l.0 o.code [] (types_of o.values) (optional o.result) whole l.2 in
      given_when GoodR (slice_get fns f.func) fn _ found
      (within_good (next fns fn s (here f o os fs) o.code o.values).answer
      (next_good fn typed others s ss set (here f o os fs) found c locals k l.0 ks l.3 l.1 o.code o.values l.2 (leads_behind (context typed.names fn ls) l.1 l.0 o.code [] (types_of o.values) l.2) code))

  pub red_good : SoundSet fns shape → (last : Option (ValueType Label)) (s : Storage) (a : Activation) (closers : List (List Closer)) → SoundStorage shape s → SoundCall fns shape last a → HoldsByBodies fns shape closers a → Good (red fns s a).answer
  red_good set last s [] closers ss h r = tt
  red_good set last s (f ∷ fs) [] ss h r = absurd r
  red_good set last s (f ∷ fs) (ks ∷ others) ss h r =
      let t = h.typed in
      let a = t.1.found in
      let b = r.1.found in
      let one : t.0 ≡ r.0 = cc in
      in_frame_good s ss set f r.0 r.1.typed b (subst (λ (fn : FunctionInstance). HasTypes (fn.type.params ++ fn.locals) f.locals) one t.1.locals) ks f.labels r.1.labels others fs r.2
