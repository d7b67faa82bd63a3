-- Labels, frames and calls of a state and of the erased state.
use Rattle.std.proofs.Common.{◌≡◌, ℕ, zero, suc, List, [], ◌∷◌, ◌++◌, map, Option, Some, None, slice_get, option_map, unwrap_or, refl, ap, ap₂, ◌∙◌, subst}
use Rattle.std.proofs.lemmas.List.{map-append}
use Rattle.ctw_ops.specs.declared.types.Label.{Label}
use Rattle.ctw_ops.specs.Types.{ValueType, erase_value_type}
use Rattle.ctw_ops.specs.Tree.{TypeEntry}
use Rattle.ctw_ops.specs.Typing.{upon}
use Rattle.ctw_ops.specs.Code.{Code}
use Rattle.ctw_ops.specs.Erasure.{erase_code}
use Rattle.ctw_script.specs.declared.event.Event.{Event}
use Rattle.ctw_semantics.specs.Values.{Value, zero_of}
use Rattle.ctw_semantics.specs.Stores.{Storage}
use Rattle.ctw_semantics.specs.Instances.{FunctionInstance, Functions}
use Rattle.ctw_semantics.specs.Activations.{Open, Frame}
use Rattle.ctw_semantics.specs.Answers.{Answer, Goes, Stuck, Reduced, quiet, noting, stuck, pops, carry}
use Rattle.ctw_semantics.specs.Machine.{Here, put, receive, resume, finish, leave, rerun, target_type, arrive, label_at, branch, pass, invoke}
use Rattle.ctw_semantics.specs.Erased.{erase_instance, erase_value, erase_storage, entries_of, erase_open, erase_frame, erase_answer}
use Rattle.ctw_ops.proofs.Lists.{map-upon}
use Rattle.ctw_semantics.proofs.Erases.{Erases, stuck_erases, carry_erases, pops_erases}

module _ (fns : Functions) where
  abbrev pub entries_here : Here → List (TypeEntry Label)
  entries_here h = entries_of fns h.func

  abbrev pub erased_here : Here → Here
  erased_here h = record { func = h.func; locals = map erase_value h.locals; result = option_map erase_value_type h.result; again = option_map (erase_code (entries_here h)) h.again; outer = map (erase_open (entries_here h)) h.outer; callers = map (erase_frame fns) h.callers }

  -- unless it is stuck
  abbrev pub Answers : Answer → Answer → Type 0
  Answers x y = (x ≡ Stuck → ⊥) → erase_answer fns x ≡ y

  receive_erased : (entries : List (TypeEntry Label)) (v : Option Value) (o : Open) → erase_open entries (receive v o) ≡ receive (option_map erase_value v) (erase_open entries o)
  receive_erased entries None o = refl
  receive_erased entries (Some v) o = refl

  resume_erased : (s : Storage) (v : Option Value) (f : Frame) (os : List Open) (fs : List Frame) → Answers (resume s v f os fs) (resume (erase_storage s) (option_map erase_value v) (erase_frame fns f) (map (erase_open (entries_of fns f.func)) os) (map (erase_frame fns) fs))
  resume_erased s v f [] fs h = refl
  resume_erased s v f (o ∷ os) fs h = ap (λ (o : Open). Goes (erase_storage s) (record { func = f.func; locals = map erase_value f.locals; labels = o ∷ map (erase_open (entries_of fns f.func)) os } ∷ map (erase_frame fns) fs)) (receive_erased (entries_of fns f.func) v o)

  pub finish_erased : (s : Storage) (v : Option Value) (fs : List Frame) → Answers (finish s v fs) (finish (erase_storage s) (option_map erase_value v) (map (erase_frame fns) fs))
  finish_erased s v [] h = refl
  finish_erased s v (f ∷ fs) h = resume_erased s v f f.labels fs h

  pub leave_erased : (s : Storage) (h : Here) (v : Option Value) (os : List Open) → Answers (leave s h v os) (leave (erase_storage s) (erased_here h) (option_map erase_value v) (map (erase_open (entries_here h)) os))
  leave_erased s h v [] n = finish_erased s v h.callers n
  leave_erased s h v (o ∷ os) n = ap (λ (o : Open). Goes (erase_storage s) (record { func = h.func; locals = map erase_value h.locals; labels = o ∷ map (erase_open (entries_here h)) os } ∷ map (erase_frame fns) h.callers)) (receive_erased (entries_here h) v o)

  rerun_erased : (s : Storage) (h : Here) (t : Option (ValueType Label)) (body : Code Label) (os : List Open) → Answers (rerun s h t body os) (rerun (erase_storage s) (erased_here h) (option_map erase_value_type t) (erase_code (entries_here h) body) (map (erase_open (entries_here h)) os))
  rerun_erased s h t body [] n = refl
  rerun_erased s h t body (o ∷ os) n = refl

  arrive_erased : (s : Storage) (h : Here) (again : Option (Code Label)) (t : Option (ValueType Label)) (v : Option Value) (os : List Open) → Answers (arrive s h again t v os) (arrive (erase_storage s) (erased_here h) (option_map (erase_code (entries_here h)) again) (option_map erase_value_type t) (option_map erase_value v) (map (erase_open (entries_here h)) os))
  arrive_erased s h None t v os n = leave_erased s h v os n
  arrive_erased s h (Some body) t v os n = rerun_erased s h t body os n

  target_erased : (entries : List (TypeEntry Label)) (again : Option (Code Label)) (t : Option (ValueType Label)) → option_map erase_value_type (target_type again t) ≡ target_type (option_map (erase_code entries) again) (option_map erase_value_type t)
  target_erased entries None t = refl
  target_erased entries (Some body) t = refl

  -- an answer is told with the same event
  abbrev pub Tells : (Answer → Reduced) → Type 0
  Tells note = (x y : Answer) → Answers x y → Erases fns (note x) (note y)

  pub quiet_tells : Tells quiet
  quiet_tells x y e = record { by = λ h. ap quiet (e h) }

  pub noting_tells : (n : Event) → Tells (noting n)
  noting_tells n x y e = record { by = λ h. ap (noting n) (e h) }

  -- what a branch to the k-th label carries
  carried_erases : (entries : List (TypeEntry Label)) (k : ℕ) (os : List Open) (vs : List Value) (go : Open → List Open → Option Value → Reduced) (go' : Open → List Open → Option Value → Reduced) → ((o : Open) (os : List Open) (v : Option Value) → Erases fns (go o os v) (go' (erase_open entries o) (map (erase_open entries) os) (option_map erase_value v)))
      → Erases fns (label_at k os (λ o outer. carry (target_type o.again o.result) vs (go o outer))) (label_at k (map (erase_open entries) os) (λ o outer. carry (target_type o.again o.result) (map erase_value vs) (go' o outer)))
  carried_erases entries k [] vs go go' h = stuck_erases fns stuck
  carried_erases entries zero (o ∷ os) vs go go' h =
      subst (λ t. Erases fns (carry (target_type o.again o.result) vs (go o os)) (carry t (map erase_value vs) (go' (erase_open entries o) (map (erase_open entries) os)))) (target_erased entries o.again o.result)
      (carry_erases fns (target_type o.again o.result) vs _ _ (h o os))
  carried_erases entries (suc k) (o ∷ os) vs go go' h = carried_erases entries k os vs go go' h

  pub branch_erases : (note : Answer → Reduced) → Tells note → (s : Storage) (h : Here) (k : ℕ) (os : List Open) (vs : List Value) → Erases fns (branch note s h k os vs) (branch note (erase_storage s) (erased_here h) k (map (erase_open (entries_here h)) os) (map erase_value vs))
  branch_erases note nt s h k os vs =
      carried_erases (entries_here h) k os vs (λ o outer v. note (arrive s h o.again o.result v outer)) (λ o outer v. note (arrive (erase_storage s) (erased_here h) o.again o.result v outer))
      (λ o os v. nt _ _ (arrive_erased s h o.again o.result v os))

  pub pass_erases : (r q : Reduced) → Erases fns r q → (h : Here) (k : ℕ) (os : List Open) (vs : List Value) → Erases fns (pass r k os vs) (pass q k (map (erase_open (entries_here h)) os) (map erase_value vs))
  pass_erases r q e h k os vs = carried_erases (entries_here h) k os vs (λ o outer v. r) (λ o outer v. q) (λ o os v. e)

  pub zeros_erased : (ts : List (ValueType Label)) → map erase_value (map zero_of ts) ≡ map zero_of (map erase_value_type ts)
  zeros_erased [] = refl
  zeros_erased (t ∷ ts) = ap (λ l. zero_of (erase_value_type t) ∷ l) (zeros_erased ts)

  pub entries_are : (n : ℕ) (fn : FunctionInstance) → slice_get fns n ≡ Some fn → entries_of fns n ≡ fn.part.types
  entries_are n fn e = ap (λ o. unwrap_or (option_map (λ (fn : FunctionInstance). fn.part.types) o) []) e

  pub invoke_erases : (note : Answer → Reduced) → Tells note → (s : Storage) (h : Here) (rest : Code Label) (n : ℕ) (callee : FunctionInstance) → slice_get fns n ≡ Some callee → (vs : List Value) → Erases fns (invoke note s h rest n callee vs) (invoke note (erase_storage s) (erased_here h) (erase_code (entries_here h) rest) n (erase_instance callee) (map erase_value vs))
  invoke_erases note nt s h rest n callee found vs =
      let go' : List Value → List Value → Reduced = λ args below. note (Goes (erase_storage s) (record {
        func = n;
        locals = args ++ map zero_of (map erase_value_type callee.locals);
        labels = record { values = []; code = erase_code callee.part.types callee.body; result = option_map erase_value_type callee.type.result; again = None } ∷ [];
      }
      ∷ put (erased_here h) (erase_code (entries_here h) rest) below)) in
      subst (λ ts. Erases fns (invoke note s h rest n callee vs) (pops ts [] (map erase_value vs) go')) (map-upon erase_value_type callee.type.params [])
      (pops_erases fns (upon callee.type.params []) [] vs _ go' (λ args below. nt _ _ (λ _.
      ap₂ (λ (l : List Value) (entries : List (TypeEntry Label)). Goes (erase_storage s) (record { func = n; locals = l; labels = record { values = []; code = erase_code entries callee.body; result = option_map erase_value_type callee.type.result; again = None } ∷ [] } ∷ put (erased_here h) (erase_code (entries_here h) rest) (map erase_value below)))
      (map-append erase_value args (map zero_of callee.locals) ∙ ap (λ l. map erase_value args ++ l) (zeros_erased callee.locals)) (entries_are n callee found))))
