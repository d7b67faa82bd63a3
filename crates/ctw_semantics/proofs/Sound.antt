-- A reduction of a sound call over a sound store is never stuck, and both stay sound.
use Rattle.std.proofs.Common.{◌≡◌, ℕ, zero, suc, ◌+◌, ◌<◌, ◌⊎◌, Bool, true, false, List, [], ◌∷◌, ◌++◌, map, length, replicate, Option, Some, None, is_some, slice_get, All, Result, Ok, Err, IfOk, inl, inr, ⊎_elim, refl, sym, ap, ◌∙◌, subst, arith, ◌==◌, nat_lt, nat_le, cond, leb-true, ltb-true, length-append}
use Rattle.ctw_ops.specs.declared.types.Label.{Label}
use Rattle.ctw_ops.specs.declared.types.Label.TheVariants.{Public, Secret}
use Rattle.ctw_ops.specs.declared.types.Width.TheVariants.{W32}
use Rattle.ctw_ops.specs.Types.{ValueType, FunctionType, VariableType, MemoryType, FitsWidth, value_type}
use Rattle.ctw_ops.specs.Equal.{same_label, same_function_type}
use Rattle.ctw_ops.specs.declared.numeric.NumSig.{NumSig}
use Rattle.ctw_ops.specs.Numeric.{num_sig_of, leaks}
use Rattle.ctw_ops.specs.Typing.{Context, Row, Typed, optional, upon}
use Rattle.ctw_ops.specs.Code.{Leaf, Unreachable, Nop, Br, BrIf, BrTable, Return, Call, CallIndirect, Drop, Select, LocalGet, LocalSet, LocalTee, GlobalGet, GlobalSet, Load, Store, MemorySize, MemoryGrow, Const, Numeric, Classify, Declassify, Code, Stop, Then, Block, Loop, If, IfElse}
use Rattle.ctw_num.specs.declared.trap.NumTrap.{NumTrap}
use Rattle.ctw_num.specs.Values.{value1, value2, has_arity, takes}
use Rattle.ctw_num.proofs.Values.{value1_some, value2_some}
use Rattle.std.proofs.lemmas.Bool.Decides.{nat_tests}
use Rattle.ctw_num.proofs.Sizes.{value1_below, value2_below}
use Rattle.ctw_script.specs.declared.trap.TrapCode.TheVariants.{Exhausted}
use Rattle.ctw_script.specs.declared.event.Event.TheVariants as Events
use Rattle.ctw_semantics.specs.Values.{Value, value, i32, zero_of}
use Rattle.ctw_semantics.specs.Stores.{Memory, Table, Storage, number_at, pages, may_grow}
use Rattle.ctw_semantics.specs.Instances.{FunctionInstance, Functions}
use Rattle.ctw_ops.specs.Limits.{most_weight}
use Rattle.ctw_semantics.specs.Activations.{Open, Frame, Activation, weight}
use Rattle.ctw_semantics.specs.Answers.{Answer, Goes, Ended, Trapped, Stuck, Reduced, quiet, noting, carry}
use Rattle.ctw_semantics.specs.Machine.{Here, innermost, with_labels, put, with_local, enter, receive, resume, finish, leave, rerun, target_type, arrive, label_at, branch, pass, table_place, invoke, call_entry, memory_of, outcome, showing, numeric, leaf, choose, next, within_weight, here, in_frame, red}
use Rattle.ctw_semantics.specs.Places.{behind_first, behind, Opens, StandOutside, StandIn}
use Rattle.ctw_semantics.specs.Sound.{Shape, MemoryFits, SoundStorage, IndexTypes, context, IndexesLead, FunctionTyped, SoundSet, HasTypes, target_types, AgainTyped, OuterTyped, LabelsTyped, CallersTyped, ActivationTyped, SoundCall, SoundAnswer}
use Rattle.ctw_ops.proofs.EqualLaws.{same_label_when, same_function_type_is}
use Rattle.ctw_ops.proofs.Lists.{all_get, contains_get, map_get, in_range, upon_append, upon_below, upon_back}
use Rattle.ctw_semantics.proofs.Typed.{types_get, types_set, types_append, types_upon, zeros_typed, provided_when, given_when, cond_when, pop_when, pop_any_when, carry_when, pops_when}
use Rattle.ctw_semantics.proofs.Placed.{opens_rest, opens_loop}
use Rattle.ctw_semantics.proofs.SoundStores.{pages_below, number_at_fits, memory_at, global_at, number_kept, written_kept, grown_kept}

place_in_table : (n : ℕ) (targets : List ℕ) (otherwise : ℕ) → table_place n targets < length (targets ++ otherwise ∷ [])
place_in_table n targets otherwise = go (nat_lt n (length targets)) refl
  where
    l : length (targets ++ otherwise ∷ []) ≡ length targets + 1
    l = length-append targets (otherwise ∷ [])

    go : (b : Bool) → nat_lt n (length targets) ≡ b → cond b n (length targets) < length (targets ++ otherwise ∷ [])
    go true e = let q = ltb-true n (length targets) e in omega (arith, l)
    go false e = omega (arith, l)

-- where all targets and the default have a property, so has what the operand names
named_target : (P : ℕ → Type 0) (n : ℕ) (targets : List ℕ) (otherwise k : ℕ) → All P targets → P otherwise → slice_get (targets ++ otherwise ∷ []) n ≡ Some k → P k
named_target P n [] otherwise k a p e = first n e
  where
    first : (n : ℕ) → slice_get (otherwise ∷ []) n ≡ Some k → P k
    first zero e = let q : otherwise ≡ k = cc in subst P q p
    first (suc n) e = cc
named_target P zero (t ∷ ts) otherwise k a p e = let q : t ≡ k = cc in subst P q (all_get P (t ∷ ts) 0 t a refl)
named_target P (suc n) (t ∷ ts) otherwise k a p e = named_target P n ts otherwise k (λ i d less. a (suc i) d (omega (arith, less))) p e

some_is : {A : Type 0} (o : Option A) → is_some o ≡ true → (x : A) × (o ≡ Some x)
some_is None e = cc
some_is (Some x) e = (x, refl)

typed_either : (b : Bool) (C : Context Label) (c d : Code Label) (from to : List (ValueType Label)) → Typed C c from to → Typed C d from to → Typed C (cond b c d) from to
typed_either true C c d from to h i = h
typed_either false C c d from to h i = i

-- a numeric operation has one operand or two
one_or_two : (op : ℕ) (sig : NumSig) (n : ℕ) → num_sig_of op ≡ Some sig → sig.arity ≡ n → (n ≡ 1) ⊎ (n ≡ 2)
unfolding num_sig_of
one_or_two op sig n es ea = grind (arith, nat_tests)

not_none : (n : ℕ) → n ≡ 0 → (n ≡ 1) ⊎ (n ≡ 2) → ⊥
not_none n z h = ⊎_elim (λ e. omega (arith, e, z)) (λ e. omega (arith, e, z)) h

not_three : (more : ℕ) → (suc (suc (suc more)) ≡ 1) ⊎ (suc (suc (suc more)) ≡ 2) → ⊥
not_three more h = ⊎_elim (λ e. omega (arith, e)) (λ e. omega (arith, e)) h

takes_so : (n op : ℕ) (sig : NumSig) → num_sig_of op ≡ Some sig → sig.arity ≡ n → takes n op ≡ true
takes_so n op sig es ea = let same : (sig.arity == n) ≡ true = grind (arith, nat_tests, ea) in ap (has_arity n) es ∙ same

module _ (fns : Functions) (shape : Shape) (last : Option (ValueType Label)) (set : SoundSet fns shape) where
  -- sound but for its weight
  abbrev Fair : Answer → Type 0
  Fair (Goes s a) = SoundStorage shape s × ActivationTyped fns shape last a
  Fair (Ended v) = HasTypes (optional last) (optional v)
  Fair (Trapped code) = Unit {0}
  Fair Stuck = ⊥

  abbrev FairR : Reduced → Type 0
  FairR r = Fair r.answer

  fair_either : (b : Bool) (x y : Answer) → (b ≡ true → Fair x) → Fair y → Fair (cond b x y)
  fair_either true x y h i = h refl
  fair_either false x y h i = i

  -- what holds of labels with these outside them
  record Outside (names : IndexTypes) (fn : FunctionInstance) (t : Option (ValueType Label)) (again : Option (Code Label)) (outer : List Open) : Type 0 where
    inside : Code Label
    stands : StandOutside fn.body t again inside outer
    loop : AgainTyped names fn again t (target_types outer)
    typed : OuterTyped names fn t again outer

  -- all but the operands and the code of the innermost label
  record Around (names : IndexTypes) (fn : FunctionInstance) (h : Here) : Type 0 where
    found : slice_get fns h.func ≡ Some fn
    leads : IndexesLead fns shape fn.part names
    locals : HasTypes (fn.type.params ++ fn.locals) h.locals
    outside : Outside names fn h.result h.again h.outer
    callers : CallersTyped fns shape last fn.type.result h.callers

  abbrev types_here : Here → List (Option (ValueType Label))
  types_here h = target_type h.again h.result ∷ target_types h.outer

  -- a frame at a place with these labels, the innermost of which stands in its body
  labels_typed : (names : IndexTypes) (fn : FunctionInstance) (h : Here) → Around names fn h → (labels : List Open) → LabelsTyped names fn [] labels → StandIn fn.body labels → ActivationTyped fns shape last (with_labels h labels)
  labels_typed names fn h a labels l p =
      (fn, record { found = a.found; names = names; leads = a.leads; locals = a.locals; labels = l; place = p }, a.callers)

  put_typed : (names : IndexTypes) (fn : FunctionInstance) (h : Here) → (a : Around names fn h) → (n : ℕ) (rest : Code Label) → rest ≡ behind n a.outside.inside → (ts : List (ValueType Label)) (vs : List Value) → HasTypes ts vs → Typed (context names fn (types_here h)) rest ts (optional h.result) → ActivationTyped fns shape last (put h rest vs)
  put_typed names fn h a n rest e ts vs v t =
      labels_typed names fn h a (innermost h rest vs ∷ h.outer)
      (record { holds = ts; values = v; code = t; again = a.outside.loop }, a.outside.typed) (a.outside.inside, n, e, a.outside.stands)

  enter_typed : (names : IndexTypes) (fn : FunctionInstance) (h : Here) → (a : Around names fn h) → (n : ℕ) (rest : Code Label) (t : Option (ValueType Label)) (again : Option (Code Label)) (body : Code Label) → Opens (behind n a.outside.inside) t again body rest → (ts : List (ValueType Label)) (vs : List Value) → HasTypes ts vs → Typed (context names fn (types_here h)) rest (upon (optional t) ts) (optional h.result) → AgainTyped names fn again t (types_here h) → Typed (context names fn (target_type again t ∷ types_here h)) body [] (optional t) → ActivationTyped fns shape last (enter h rest vs t again body)
  enter_typed names fn h a n rest t again body o ts vs v r g b =
      labels_typed names fn h a (record { values = []; code = body; result = t; again = again } ∷ innermost h rest vs ∷ h.outer)
      (record { holds = []; values = tt; code = b; again = g }, (record { holds = ts; values = v; code = r; again = a.outside.loop }, a.outside.typed))
      (body, 0, refl, (a.outside.inside, n, o, a.outside.stands))

  -- ---- labels and frames

  resume_fair : (s : Storage) → SoundStorage shape s → (t : Option (ValueType Label)) (v : Option Value) → HasTypes (optional t) (optional v) → (fn : FunctionInstance) (names : IndexTypes) (f : Frame) → slice_get fns f.func ≡ Some fn → IndexesLead fns shape fn.part names → HasTypes (fn.type.params ++ fn.locals) f.locals → (os : List Open) → LabelsTyped names fn (optional t) os → StandIn fn.body os → (fs : List Frame) → CallersTyped fns shape last fn.type.result fs → Fair (resume s v f os fs)
  resume_fair s ss t v hv fn names f found leads locals [] l p fs c = absurd l
  resume_fair s ss t v hv fn names f found leads locals (o ∷ os) l p fs c = (
    ss,
    (
      fn,
      record {
        found = found;
        names = names;
        leads = leads;
        locals = locals;
        labels = (record { holds = upon (optional t) l.0.holds; values = types_upon t v l.0.holds o.values hv l.0.values; code = l.0.code; again = l.0.again }, l.1);
        place = p;
      },
      c,
    ),
  )

  finish_fair : (s : Storage) → SoundStorage shape s → (t : Option (ValueType Label)) (v : Option Value) → HasTypes (optional t) (optional v) → (fs : List Frame) → CallersTyped fns shape last t fs → Fair (finish s v fs)
  finish_fair s ss t v hv [] c = subst (λ t. HasTypes (optional t) (optional v)) c hv
  finish_fair s ss t v hv (f ∷ fs) c = resume_fair s ss t v hv c.0 c.1.names f c.1.found c.1.leads c.1.locals f.labels c.1.labels c.1.place fs c.2

  -- a label with this result is left
  leave_fair : (s : Storage) → SoundStorage shape s → (names : IndexTypes) (fn : FunctionInstance) (h : Here) → Around names fn h → (t : Option (ValueType Label)) (again : Option (Code Label)) (v : Option Value) → HasTypes (optional t) (optional v) → (os : List Open) → Outside names fn t again os → Fair (leave s h v os)
  leave_fair s ss names fn h a t again v hv [] o =
      finish_fair s ss fn.type.result v (subst (λ t. HasTypes (optional t) (optional v)) o.typed.0 hv) h.callers a.callers
  leave_fair s ss names fn h a t again v hv (p ∷ ps) o =
      let q = o.typed in
      let st = o.stands in (
        ss,
        labels_typed names fn h a (receive v p ∷ ps)
            (record { holds = upon (optional t) q.0.holds; values = types_upon t v q.0.holds p.values hv q.0.values; code = q.0.code; again = q.0.again }, q.1)
            (st.0, suc st.1, opens_rest (behind st.1 st.0) t again o.inside p.code st.2, st.3),
      )

  rerun_fair : (s : Storage) → SoundStorage shape s → (names : IndexTypes) (fn : FunctionInstance) (h : Here) → Around names fn h → (t : Option (ValueType Label)) (body : Code Label) (os : List Open) → Outside names fn t (Some body) os → Fair (rerun s h t body os)
  rerun_fair s ss names fn h a t body [] o = let q = o.typed.1 in cc
  rerun_fair s ss names fn h a t body (p ∷ ps) o =
      let q = o.typed in
      let st = o.stands in (
        ss,
        labels_typed names fn h a (record p { code = Loop t body p.code } ∷ ps)
            (record { holds = q.0.holds; values = q.0.values; code = (o.loop, q.0.code); again = q.0.again }, q.1)
            (st.0, st.1, opens_loop (behind st.1 st.0) t body o.inside p.code st.2, st.3),
      )

  arrive_fair : (s : Storage) → SoundStorage shape s → (names : IndexTypes) (fn : FunctionInstance) (h : Here) → Around names fn h → (again : Option (Code Label)) (t : Option (ValueType Label)) (v : Option Value) (os : List Open) → HasTypes (optional (target_type again t)) (optional v) → Outside names fn t again os → Fair (arrive s h again t v os)
  arrive_fair s ss names fn h a None t v os hv o = leave_fair s ss names fn h a t None v hv os o
  arrive_fair s ss names fn h a (Some body) t v os hv o = rerun_fair s ss names fn h a t body os o

  -- the k-th label is there, and what it carries
  label_when : (P : Reduced → Type 0) (names : IndexTypes) (fn : FunctionInstance) (k : ℕ) (o : Open) (os : List Open) → Outside names fn o.result o.again os → (t : Option (ValueType Label)) → slice_get (target_types (o ∷ os)) k ≡ Some t → (go : Open → List Open → Reduced) → ((o : Open) (os : List Open) → target_type o.again o.result ≡ t → Outside names fn o.result o.again os → P (go o os)) → P (label_at k (o ∷ os) go)
  label_when P names fn zero o os out t e go h = h o os (cc) out
  label_when P names fn (suc k) o [] out t e go h = cc
  label_when P names fn (suc k) o (p ∷ ps) out t e go h =
      label_when P names fn k p ps (record { inside = out.stands.0; stands = out.stands.3; loop = out.typed.0.again; typed = out.typed.1 }) t e go h

  -- what holds of what a branch may come to
  carried_when : (P : Reduced → Type 0) (names : IndexTypes) (fn : FunctionInstance) (k : ℕ) (o : Open) (os : List Open) → Outside names fn o.result o.again os → (t : Option (ValueType Label)) (kept : List (ValueType Label)) (vs : List Value) → slice_get (target_types (o ∷ os)) k ≡ Some t → HasTypes (upon (optional t) kept) vs → (go : Open → List Open → Option Value → Reduced) → ((o : Open) (os : List Open) (v : Option Value) → HasTypes (optional (target_type o.again o.result)) (optional v) → Outside names fn o.result o.again os → P (go o os v)) → P (label_at k (o ∷ os) (λ o outer. carry (target_type o.again o.result) vs (go o outer)))
  carried_when P names fn k o os out t kept vs e hv go f =
      label_when P names fn k o os out t e (λ o outer. carry (target_type o.again o.result) vs (go o outer)) (λ p ps q out'.
      carry_when P (target_type p.again p.result) kept vs (go p ps) (subst (λ t. HasTypes (upon (optional t) kept) vs) (sym q) hv) (λ v hv'. f p ps v hv' out'))

  -- ---- instructions, over what is left behind them

  module _ (names : IndexTypes) (fn : FunctionInstance) (s : Storage) (ss : SoundStorage shape s) (h : Here) (a : Around names fn h) (n : ℕ) (rest : Code Label) (at_rest : rest ≡ behind n a.outside.inside) (mid : List (ValueType Label)) (tr : Typed (context names fn (types_here h)) rest mid (optional h.result)) where
    goes_fair : (vs : List Value) → HasTypes mid vs → Fair (Goes s (put h rest vs))
    goes_fair vs v = (ss, put_typed names fn h a n rest at_rest mid vs v tr)

    branches_fair : (note : Answer → Reduced) → ((x : Answer) → Fair x → FairR (note x)) → (k : ℕ) (vs : List Value) (t : Option (ValueType Label)) (kept : List (ValueType Label)) → slice_get (types_here h) k ≡ Some t → HasTypes (upon (optional t) kept) vs → FairR (branch note s h k (innermost h rest vs ∷ h.outer) vs)
    branches_fair note nt k vs t kept e v =
        carried_when FairR names fn k (innermost h rest vs) h.outer a.outside t kept vs e v (λ o outer v. note (arrive s h o.again o.result v outer))
        (λ o os x hx out. nt _ (arrive_fair s ss names fn h a o.again o.result x os hx out))

    passes_fair : (r : Reduced) → FairR r → (k : ℕ) (vs : List Value) (t : Option (ValueType Label)) (kept : List (ValueType Label)) → slice_get (types_here h) k ≡ Some t → HasTypes (upon (optional t) kept) vs → FairR (pass r k (innermost h rest vs ∷ h.outer) vs)
    passes_fair r f k vs t kept e v = carried_when FairR names fn k (innermost h rest vs) h.outer a.outside t kept vs e v (λ o outer v. r) (λ o os x hx out. f)

    invoke_fair : (note : Answer → Reduced) → ((x : Answer) → Fair x → FairR (note x)) → (f : ℕ) (callee : FunctionInstance) (kept : List (ValueType Label)) (vs : List Value) → slice_get fns f ≡ Some callee → mid ≡ upon (optional callee.type.result) kept → HasTypes (upon callee.type.params kept) vs → FairR (invoke note s h rest f callee vs)
    invoke_fair note nt f callee kept vs e em v =
        let ps = callee.type.params in
        let typed = all_get (FunctionTyped fns shape) fns f callee set.bodies e in
        pops_when FairR (upon ps []) kept [] [] vs _ (subst (λ ts. HasTypes ts vs) (upon_below ps [] kept) v) tt (λ args below ha hb. nt _ (
          ss,
          (
            callee,
            record {
              found = e;
              names = typed.names;
              leads = typed.leads;
              locals = types_append ps callee.locals args (map zero_of callee.locals) (subst (λ ts. HasTypes ts args) (upon_back ps) ha) (zeros_typed callee.locals);
              labels = (record { holds = []; values = tt; code = typed.body; again = tt }, (refl, refl));
              place = (callee.body, 0, refl, refl);
            },
            (
              fn,
              record {
                found = a.found;
                names = names;
                leads = a.leads;
                locals = a.locals;
                labels = (record { holds = kept; values = hb; code = subst (λ ts. Typed (context names fn (types_here h)) rest ts (optional h.result)) em tr; again = a.outside.loop }, a.outside.typed);
                place = (a.outside.inside, n, at_rest, a.outside.stands);
              },
              a.callers,
            ),
          ),
        ))

    call_entry_fair : (t i : ℕ) (type : FunctionType Label) (table : Table) (entry : Option (Option ℕ)) (kept : List (ValueType Label)) (vs : List Value) → slice_get shape.tables t ≡ Some table → slice_get table.entries i ≡ entry → mid ≡ upon (optional type.result) kept → HasTypes (upon type.params kept) vs → FairR (call_entry fns s h rest i type entry vs)
    call_entry_fair t i type table None kept vs et ee em v = tt
    call_entry_fair t i type table (Some None) kept vs et ee em v = tt
    call_entry_fair t i type table (Some (Some g)) kept vs et ee em v =
        let c = set.entries t g table et (contains_get table.entries i (Some g) ee) in
        given_when FairR (slice_get fns g) c.0 _ c.1 (cond_when FairR (same_function_type c.0.type type) _ _
        (λ q. let e : c.0.type ≡ type = same_function_type_is c.0.type type q in
        invoke_fair (noting (Events.Indirect i (Some g))) (λ x f. f) g c.0 kept vs c.1 (em ∙ ap (λ (t : FunctionType Label). upon (optional t.result) kept) (sym e)) (subst (λ (t : FunctionType Label). HasTypes (upon t.params kept) vs) (sym e) v))
        (λ q. tt))

    outcome_fair : (t : ValueType Label) (below : List Value) (x : Result ℕ NumTrap) → IfOk x (FitsWidth t.width) → ((n : ℕ) → FitsWidth t.width n → HasTypes mid (value t n ∷ below)) → Fair (outcome s h rest t below x)
    outcome_fair t below (Ok n) f v = goes_fair _ (v n f)
    outcome_fair t below (Err trap) f v = tt

    showing_fair : (timed : Bool) (l : Label) (x y : ℕ) (answer : Answer) → (timed ≡ true → l ≡ Public) → Fair answer → FairR (showing timed l x y answer)
    showing_fair false l x y answer p f = f
    showing_fair true l x y answer p f = provided_when FairR (same_label l Public) _ (same_label_when l Public (p refl)) f

    numeric_fair : (op : ℕ) (l : Label) (sig : NumSig) → num_sig_of op ≡ Some sig → (arity : ℕ) → sig.arity ≡ arity → (kept from : List (ValueType Label)) (vs : List Value) → (leaks op fn.part.profile ≡ true → l ≡ Public) → from ≡ upon (replicate arity (value_type sig.operand l)) kept → mid ≡ value_type sig.result l ∷ kept → HasTypes from vs → FairR (numeric fn.part.profile s h rest op l sig arity vs)
    numeric_fair op l sig es zero ea kept from vs p q m v = absurd (not_none 0 refl (one_or_two op sig 0 es ea))
    numeric_fair op l sig es (suc zero) ea kept from vs p q m v =
        pop_when FairR (value_type sig.operand l) kept vs _ (subst (λ ts. HasTypes ts vs) q v) (λ x below fx hb.
        let r = some_is (value1 op x) (value1_some op x ∙ takes_so 1 op sig es ea) in
        given_when FairR (value1 op x) r.0 _ r.1
        (goes_fair _ (subst (λ ts. HasTypes ts (value (value_type sig.result l) r.0 ∷ below)) (sym m) (refl, value1_below op x r.0 sig es fx r.1, hb))))
    numeric_fair op l sig es (suc (suc zero)) ea kept from vs p q m v =
        let t = value_type sig.operand l in
        pop_when FairR t (t ∷ kept) vs _ (subst (λ ts. HasTypes ts vs) q v) (λ y below fy hb. pop_when FairR t kept below _ hb (λ x below' fx hb'.
        let r = some_is (value2 op x y) (value2_some op x y ∙ takes_so 2 op sig es ea) in
        given_when FairR (value2 op x y) r.0 _ r.1
        (showing_fair (leaks op fn.part.profile) l x y _ p (outcome_fair (value_type sig.result l) below' r.0 (value2_below op x y r.0 sig es ea fx r.1)
        (λ z fz. subst (λ ts. HasTypes ts (value (value_type sig.result l) z ∷ below')) (sym m) (refl, fz, hb'))))))
    numeric_fair op l sig es (suc (suc (suc more))) ea kept from vs p q m v = absurd (not_three more (one_or_two op sig (suc (suc (suc more))) es ea))

    memory_fair : (l : Label) (go : ℕ → Memory → Reduced) → names.memory ≡ Some l → ((i : ℕ) (m : Memory) → slice_get s.memories i ≡ Some m → m.type.tag ≡ l → MemoryFits m → FairR (go i m)) → FairR (memory_of fn s go)
    memory_fair l go e f =
        let i = a.leads.memory l e in
        let m = memory_at shape s ss i.0 i.1 i.3 in
        given_when FairR fn.part.memory i.0 _ i.2 (given_when FairR (slice_get s.memories i.0) m.0 _ m.1 (f i.0 m.0 m.1 (ap (λ (t : MemoryType Label). t.tag) m.2 ∙ i.4) m.3))

    abbrev set_local : (x : ℕ) (old : Value) (t : ValueType Label) (k : ℕ) → slice_get (fn.type.params ++ fn.locals) x ≡ Some t → old.type ≡ t → FitsWidth old.type.width k → Around names fn (with_local h x (value old.type k))
    set_local x old t k e q f = record { found = a.found; leads = a.leads; locals = types_set (fn.type.params ++ fn.locals) h.locals x t (value old.type k) a.locals e q f; outside = a.outside; callers = a.callers }

    leaf_fair : (i : Leaf Label) (from : List (ValueType Label)) (vs : List Value) → Row (context names fn (types_here h)) i from mid → HasTypes from vs → FairR (leaf fns fn s h rest i vs)
    leaf_fair Unreachable from vs r v = tt
    leaf_fair Nop from vs r v = goes_fair vs (subst (λ ts. HasTypes ts vs) r v)
    leaf_fair (Br k) from vs r v = branches_fair quiet (λ x g. g) k vs r.0 r.2.0 r.1 (subst (λ ts. HasTypes ts vs) r.2.1 v)
    leaf_fair (BrIf k) from vs r v =
        let kept = r.2.0 in
        let q : from ≡ i32 ∷ upon (optional r.0) kept = r.2.1 ∙ upon_append (optional r.0) (i32 ∷ []) kept in
        pop_when FairR i32 (upon (optional r.0) kept) vs _ (subst (λ ts. HasTypes ts vs) q v) (λ c below fb hb. cond_when FairR (c == 0) _ _
        (λ _. passes_fair _ (goes_fair below (subst (λ ts. HasTypes ts below) (sym r.2.2) hb)) k below r.0 kept r.1 hb)
        (λ _. branches_fair (noting (Events.Branch true)) (λ x g. g) k below r.0 kept r.1 hb))
    leaf_fair (BrTable targets otherwise) from vs r v =
        let kept = r.3.0 in
        let q : from ≡ i32 ∷ upon (optional r.0) kept = r.3.1 ∙ upon_append (optional r.0) (i32 ∷ []) kept in
        pop_when FairR i32 (upon (optional r.0) kept) vs _ (subst (λ ts. HasTypes ts vs) q v) (λ c below fb hb.
        let k = in_range (targets ++ otherwise ∷ []) (table_place c targets) (place_in_table c targets otherwise) in
        given_when FairR (slice_get (targets ++ otherwise ∷ []) (table_place c targets)) k.0 _ k.1
        (branches_fair (noting (Events.Table c)) (λ x g. g) k.0 below r.0 kept
        (named_target (λ j. slice_get (types_here h) j ≡ Some r.0) (table_place c targets) targets otherwise k.0 r.2 r.1 k.1) hb))
    leaf_fair Return from vs r v =
        carry_when FairR fn.type.result r.0 vs _ (subst (λ ts. HasTypes ts vs) r.1 v) (λ x hx. finish_fair s ss fn.type.result x hx h.callers a.callers)
    leaf_fair (Call g) from vs r v =
        let c = a.leads.functions g r.0 r.1 in
        let e : c.1.type ≡ r.0 = c.4 in
        let kept = r.3.0 in
        let q : from ≡ upon c.1.type.params kept = r.3.1 ∙ ap (λ (t : FunctionType Label). upon t.params kept) (sym e) in
        let m : mid ≡ upon (optional c.1.type.result) kept = r.3.2 ∙ ap (λ (t : FunctionType Label). upon (optional t.result) kept) (sym e) in
        given_when FairR (slice_get fn.part.functions g) c.0 _ c.2 (given_when FairR (slice_get fns c.0) c.1 _ c.3
        (invoke_fair (noting (Events.Enter c.0)) (λ x f. f) c.0 c.1 kept vs c.3 m (subst (λ ts. HasTypes ts vs) q v)))
    leaf_fair (CallIndirect y) from vs r v =
        let kept = r.4.0 in
        let entry = map_get (λ entry. entry.type) fn.part.types y r.1 r.2 in
        let e : entry.0.type ≡ r.1 = entry.2 in
        let t = some_is fn.part.table r.0 in
        let table = a.leads.table t.0 t.1 in
        let q : from ≡ i32 ∷ upon entry.0.type.params kept = r.4.1 ∙ upon_append r.1.params (i32 ∷ []) kept ∙ ap (λ (t : FunctionType Label). i32 ∷ upon t.params kept) (sym e) in
        let m : mid ≡ upon (optional entry.0.type.result) kept = r.4.2 ∙ ap (λ (t : FunctionType Label). upon (optional t.result) kept) (sym e) in
        let at : slice_get s.tables t.0 ≡ Some table.0 = ap (λ (x : Shape). slice_get x.tables t.0) ss.shaped ∙ table.1 in
        pop_when FairR i32 (upon entry.0.type.params kept) vs _ (subst (λ ts. HasTypes ts vs) q v) (λ c below fb hb.
        given_when FairR (slice_get fn.part.types y) entry.0 _ entry.1 (given_when FairR fn.part.table t.0 _ t.1 (given_when FairR (slice_get s.tables t.0) table.0 _ at
        (call_entry_fair t.0 c entry.0.type table.0 (slice_get table.0.entries c) kept below table.1 refl m hb))))
    leaf_fair Drop from vs r v =
        pop_any_when FairR r.0 r.1.0 vs _ (subst (λ ts. HasTypes ts vs) r.1.1 v) (λ x below ex fx hb. goes_fair below (subst (λ ts. HasTypes ts below) (sym r.1.2) hb))
    leaf_fair (Select l) from vs r v =
        let t = value_type r.0 l in
        let kept = r.1.0 in
        pop_when FairR (value_type W32 l) (t ∷ t ∷ kept) vs _ (subst (λ ts. HasTypes ts vs) r.1.1 v) (λ c below fc hb.
        pop_any_when FairR t (t ∷ kept) below _ hb (λ y below' ey fy hb'.
        provided_when FairR (same_label l y.type.tag) _ (same_label_when l y.type.tag (sym (ap (λ (u : ValueType Label). u.tag) ey))) (pop_when FairR y.type kept below' _ (subst (λ u. HasTypes (u ∷ kept) below') (sym ey) hb') (λ x below'' fx hb''.
        goes_fair _ (subst (λ ts. HasTypes ts (value y.type (cond (c == 0) y.number x) ∷ below'')) (sym r.1.2) (ey, either_below (c == 0) y.number x fy fx, hb''))))))
      where
        either_below : {m : ℕ} (b : Bool) (x y : ℕ) → x < m → y < m → cond b x y < m
        either_below true x y p q = p
        either_below false x y p q = q
    leaf_fair (LocalGet x) from vs r v =
        let g = types_get (fn.type.params ++ fn.locals) h.locals x r.0 a.locals r.1 in
        given_when FairR (slice_get h.locals x) g.0 _ g.1 (goes_fair _ (subst (λ ts. HasTypes ts (g.0 ∷ vs)) (sym r.2.2) (g.2, g.3, subst (λ ts. HasTypes ts vs) r.2.1 v)))
    leaf_fair (LocalSet x) from vs r v =
        let kept = r.2.0 in
        let g = types_get (fn.type.params ++ fn.locals) h.locals x r.0 a.locals r.1 in
        given_when FairR (slice_get h.locals x) g.0 _ g.1 (pop_when FairR g.0.type kept vs _ (subst (λ ts. HasTypes ts vs) (r.2.1 ∙ ap (λ t. t ∷ kept) (sym g.2)) v) (λ k below fb hb.
        (ss, put_typed names fn (with_local h x (value g.0.type k)) (set_local x g.0 r.0 k r.1 g.2 fb) n rest at_rest mid below (subst (λ ts. HasTypes ts below) (sym r.2.2) hb) tr)))
    leaf_fair (LocalTee x) from vs r v =
        let kept = r.2.0 in
        let g = types_get (fn.type.params ++ fn.locals) h.locals x r.0 a.locals r.1 in
        given_when FairR (slice_get h.locals x) g.0 _ g.1 (pop_when FairR g.0.type kept vs _ (subst (λ ts. HasTypes ts vs) (r.2.1 ∙ ap (λ t. t ∷ kept) (sym g.2)) v) (λ k below fb hb.
        (ss, put_typed names fn (with_local h x (value g.0.type k)) (set_local x g.0 r.0 k r.1 g.2 fb) n rest at_rest mid (value g.0.type k ∷ below) (subst (λ ts. HasTypes ts (value g.0.type k ∷ below)) (sym r.2.2) (g.2, fb, hb)) tr)))
    leaf_fair (GlobalGet x) from vs r v =
        let i = a.leads.globals x r.0 r.1 in
        let g = global_at shape s ss i.0 r.0 i.2 in
        given_when FairR (slice_get fn.part.globals x) i.0 _ i.1 (given_when FairR (slice_get s.globals i.0) g.0 _ g.1
        (goes_fair _ (subst (λ ts. HasTypes ts (g.0.value ∷ vs)) (sym r.2.2) (ap (λ (t : VariableType Label). t.value) g.2, g.3, subst (λ ts. HasTypes ts vs) r.2.1 v))))
    leaf_fair (GlobalSet x) from vs r v =
        let i = a.leads.globals x r.0 r.1 in
        let g = global_at shape s ss i.0 r.0 i.2 in
        let kept = r.3.0 in
        let et : g.0.value.type ≡ r.0.value = ap (λ (t : VariableType Label). t.value) g.2 in
        let em : g.0.mutable ≡ true = ap (λ (t : VariableType Label). t.mutable) g.2 ∙ r.2 in
        given_when FairR (slice_get fn.part.globals x) i.0 _ i.1 (given_when FairR (slice_get s.globals i.0) g.0 _ g.1
        (provided_when FairR g.0.mutable _ em (pop_when FairR g.0.value.type kept vs _ (subst (λ ts. HasTypes ts vs) (r.3.1 ∙ ap (λ t. t ∷ kept) (sym et)) v) (λ k below fb hb.
        (number_kept shape s ss i.0 g.0 k g.1 fb, put_typed names fn h a n rest at_rest mid below (subst (λ ts. HasTypes ts below) (sym r.3.2) hb) tr)))))
    leaf_fair (Load w l count signed align offset) from vs r v =
        let kept = r.3.0 in
        memory_fair l _ r.1 (λ i m e el fits.
        provided_when FairR (same_label l m.type.tag) _ (same_label_when l m.type.tag (sym el)) (pop_when FairR i32 kept vs _ (subst (λ ts. HasTypes ts vs) r.3.1 v) (λ at below fb hb.
        fair_either (nat_le (at + offset + count) (length m.bytes)) _ _ (λ _. goes_fair _ (subst (λ ts. HasTypes ts (value (value_type w l) (number_at w signed count (at + offset) m.bytes) ∷ below)) (sym r.3.2) (refl, number_at_fits w signed count (at + offset) m.bytes r.0 fits.bytes, hb))) tt)))
    leaf_fair (Store w l count align offset) from vs r v =
        let kept = r.3.0 in
        memory_fair l _ r.1 (λ i m e el fits.
        provided_when FairR (same_label l m.type.tag) _ (same_label_when l m.type.tag (sym el)) (pop_when FairR (value_type w l) (i32 ∷ kept) vs _ (subst (λ ts. HasTypes ts vs) r.3.1 v) (λ x below fx hb.
        pop_when FairR i32 kept below _ hb (λ at below' fb hb'.
        fair_either (nat_le (at + offset + count) (length m.bytes)) _ _ (λ le. (
          written_kept shape s ss i m (at + offset) count x e fits (leb-true _ _ le),
          put_typed names fn h a n rest at_rest mid below' (subst (λ ts. HasTypes ts below') (sym r.3.2) hb') tr,
        )) tt))))
    leaf_fair MemorySize from vs r v =
        memory_fair r.0 _ r.1 (λ i m e el fits. goes_fair _ (subst (λ ts. HasTypes ts (value i32 (pages m) ∷ vs)) (sym r.2.2) (refl, pages_below (pages m) fits.most, subst (λ ts. HasTypes ts vs) r.2.1 v)))
    leaf_fair MemoryGrow from vs r v =
        let kept = r.2.0 in
        memory_fair r.0 _ r.1 (λ i m e el fits. pop_when FairR i32 kept vs _ (subst (λ ts. HasTypes ts vs) r.2.1 v) (λ count below fb hb.
        fair_either (may_grow s m count) _ _
        (λ g. (
          grown_kept shape s ss i m count e fits g,
          put_typed names fn h a n rest at_rest mid (value i32 (pages m) ∷ below) (subst (λ ts. HasTypes ts (value i32 (pages m) ∷ below)) (sym r.2.2) (refl, pages_below (pages m) fits.most, hb)) tr,
        ))
        (goes_fair _ (subst (λ ts. HasTypes ts (value i32 4294967295 ∷ below)) (sym r.2.2) (refl, omega arith, hb)))))
    leaf_fair (Const w l bits) from vs r v =
        goes_fair _ (subst (λ ts. HasTypes ts (value (value_type w l) bits ∷ vs)) (sym r.1.2) (refl, r.0, subst (λ ts. HasTypes ts vs) r.1.1 v))
    leaf_fair (Numeric op l) from vs r v =
        given_when FairR (num_sig_of op) r.0 _ r.1 (numeric_fair op l r.0 r.1 r.0.arity refl r.3.0 from vs r.2 r.3.1 r.3.2 v)
    leaf_fair (Classify w) from vs r v =
        pop_when FairR (value_type w Public) r.0 vs _ (subst (λ ts. HasTypes ts vs) r.1 v) (λ x below fb hb.
        goes_fair _ (subst (λ ts. HasTypes ts (value (value_type w Secret) x ∷ below)) (sym r.2) (refl, fb, hb)))
    leaf_fair (Declassify w) from vs r v =
        pop_when FairR (value_type w Secret) r.1.0 vs _ (subst (λ ts. HasTypes ts vs) r.1.1 v) (λ x below fb hb.
        goes_fair _ (subst (λ ts. HasTypes ts (value (value_type w Public) x ∷ below)) (sym r.1.2) (refl, fb, hb)))

  -- ---- the next instruction, or the end of the label

  choose_fair : (names : IndexTypes) (fn : FunctionInstance) (s : Storage) → SoundStorage shape s → (h : Here) → (a : Around names fn h) → (n : ℕ) (rest : Code Label) (u : Option (ValueType Label)) (arm other : Code Label) → Opens (behind n a.outside.inside) u None arm rest → Opens (behind n a.outside.inside) u None other rest
      → (kept from : List (ValueType Label)) (vs : List Value) → from ≡ i32 ∷ kept → HasTypes from vs → Typed (context names fn (types_here h)) rest (upon (optional u) kept) (optional h.result) → Typed (context names fn (u ∷ types_here h)) arm [] (optional u) → Typed (context names fn (u ∷ types_here h)) other [] (optional u) → FairR (choose s h rest u arm other vs)
  choose_fair names fn s ss h a n rest u arm other oa oo kept from vs q v tr ta to =
      pop_when FairR i32 kept vs _ (subst (λ ts. HasTypes ts vs) q v) (λ c below fb hb. (
        ss,
        enter_typed names fn h a n rest u None (cond (c == 0) other arm) (opens_either (c == 0)) kept below hb tr tt
            (typed_either (c == 0) (context names fn (u ∷ types_here h)) other arm [] (optional u) to ta),
      ))
    where
      opens_either : (b : Bool) → Opens (behind n a.outside.inside) u None (cond b other arm) rest
      opens_either true = oo
      opens_either false = oa

  next_fair : (names : IndexTypes) (fn : FunctionInstance) (s : Storage) → SoundStorage shape s → (h : Here) → (a : Around names fn h) → (n : ℕ) (c : Code Label) → c ≡ behind n a.outside.inside → (from : List (ValueType Label)) (vs : List Value) → Typed (context names fn (types_here h)) c from (optional h.result) → HasTypes from vs → FairR (next fns fn s h c vs)
  next_fair names fn s ss h a n Stop e from vs t v =
      carry_when FairR h.result [] vs _ (subst (λ ts. HasTypes ts vs) (t ∙ end h.result) v)
      (λ x hx. leave_fair s ss names fn h a h.result h.again x hx h.outer a.outside)
    where
      end : (t : Option (ValueType Label)) → optional t ≡ upon (optional t) []
      end None = refl
      end (Some t) = refl
  next_fair names fn s ss h a n (Then i rest) e from vs t v = leaf_fair names fn s ss h a (suc n) rest (ap behind_first e) t.0 t.2 i from vs t.1 v
  next_fair names fn s ss h a n (Block u body rest) e from vs t v =
      (ss, enter_typed names fn h a n rest u None body (subst (λ c. Opens c u None body rest) e (refl, refl, refl, refl)) from vs v t.1 tt t.0)
  next_fair names fn s ss h a n (Loop u body rest) e from vs t v =
      (ss, enter_typed names fn h a n rest u (Some body) body (subst (λ c. Opens c u (Some body) body rest) e (refl, refl, refl, refl)) from vs v t.1 t.0 t.0)
  next_fair names fn s ss h a n (If u arm rest) e from vs t v =
      choose_fair names fn s ss h a n rest u arm Stop (subst (λ c. Opens c u None arm rest) e (refl, refl, inl refl, refl)) (subst (λ c. Opens c u None Stop rest) e (refl, refl, inr refl, refl))
      t.2 from vs t.3 v t.4 t.1 (ap optional (sym t.0))
  next_fair names fn s ss h a n (IfElse u arm other rest) e from vs t v =
      choose_fair names fn s ss h a n rest u arm other (subst (λ c. Opens c u None arm rest) e (refl, refl, inl refl, refl)) (subst (λ c. Opens c u None other rest) e (refl, refl, inr refl, refl))
      t.2 from vs t.3 v t.4 t.0 t.1

  -- ---- weight, and one reduction

  within_sound : (x : Answer) → Fair x → SoundAnswer fns shape last (within_weight x)
  within_sound (Goes s a) f = either (nat_le (weight a) most_weight) refl
    where
      either : (b : Bool) → nat_le (weight a) most_weight ≡ b → SoundAnswer fns shape last (cond b (Goes s a) (Trapped Exhausted))
      either true e = (f.0, record { typed = f.1; light = leb-true (weight a) most_weight e })
      either false e = tt
  within_sound (Ended v) f = f
  within_sound (Trapped code) f = f
  within_sound Stuck f = f

  in_frame_sound : (s : Storage) → SoundStorage shape s → (f : Frame) (fn : FunctionInstance) (names : IndexTypes) → slice_get fns f.func ≡ Some fn → IndexesLead fns shape fn.part names → HasTypes (fn.type.params ++ fn.locals) f.locals → (ls : List Open) → LabelsTyped names fn [] ls → StandIn fn.body ls → (fs : List Frame) → CallersTyped fns shape last fn.type.result fs → SoundAnswer fns shape last (in_frame fns s f ls fs).answer
  in_frame_sound s ss f fn names found leads locals [] l p fs c = absurd l
  in_frame_sound s ss f fn names found leads locals (o ∷ os) l p fs c =
      given_when (λ r. SoundAnswer fns shape last r.answer) (slice_get fns f.func) fn _ found
      (within_sound (next fns fn s (here f o os fs) o.code o.values).answer
      (next_fair names fn s ss (here f o os fs)
      (record { found = found; leads = leads; locals = locals; callers = c; outside = record { inside = p.0; stands = p.3; loop = l.0.again; typed = l.1 } })
      p.1 o.code p.2 l.0.holds o.values l.0.code l.0.values))

  pub red_sound : (s : Storage) (a : Activation) → SoundStorage shape s → SoundCall fns shape last a → SoundAnswer fns shape last (red fns s a).answer
  red_sound s [] ss h = absurd h.typed
  red_sound s (f ∷ fs) ss h =
      let t = h.typed in
      in_frame_sound s ss f t.0 t.1.names t.1.found t.1.leads t.1.locals f.labels t.1.labels t.1.place fs t.2
