-- What holds of each counted reduction holds of every instruction but classify and declassify.
use Rattle.std.proofs.Common.{◌≡◌, ℕ, zero, suc, Bool, true, false, List, [], ◌∷◌, ◌++◌, Option, Some, None, slice_get, ◌==◌, cond}
use Rattle.ctw_ops.specs.declared.types.Label.{Label}
use Rattle.ctw_ops.specs.declared.types.Label.TheVariants.{Public}
use Rattle.ctw_ops.specs.declared.types.Width.TheVariants.{W32}
use Rattle.ctw_ops.specs.Types.{ValueType, FunctionType, value_type}
use Rattle.ctw_ops.specs.Equal.{same_label, same_type, same_function_type}
use Rattle.ctw_ops.specs.declared.numeric.NumSig.{NumSig}
use Rattle.ctw_ops.specs.declared.numeric.Profile.{Profile}
use Rattle.ctw_ops.specs.Numeric.{num_sig_of, leaks}
use Rattle.ctw_num.specs.Values.{value1, value2}
use Rattle.ctw_ops.specs.Typing.{upon}
use Rattle.ctw_ops.specs.Code.{Leaf, Unreachable, Nop, Br, BrIf, BrTable, Return, Call, CallIndirect, Drop, Select, LocalGet, LocalSet, LocalTee, GlobalGet, GlobalSet, Load, Store, MemorySize, MemoryGrow, Const, Numeric, Classify, Declassify, Code, Stop, Then, Block, Loop, If, IfElse}
use Rattle.ctw_script.specs.declared.event.Event.{Event}
use Rattle.ctw_semantics.specs.Values.{Value, value, i32}
use Rattle.ctw_semantics.specs.Stores.{Memory, Storage}
use Rattle.ctw_semantics.specs.Instances.{FunctionInstance, Functions}
use Rattle.ctw_semantics.specs.Activations.{Open}
use Rattle.ctw_semantics.specs.Answers.{Answer, Stuck, Reduced, quiet, noting, given, provided, pop, pop_any, pops, carry}
use Rattle.ctw_semantics.specs.Machine.{Here, innermost, target_type, label_at, table_place, call_entry, memory_of, showing, numeric, leaf, next}
use Rattle.ctw_semantics.specs.Steps.{free}

-- P is a record or another former that shows its reduction
module _ (P : Reduced → Type 0) (quiets : (x : Answer) → P (quiet x)) (notes : (e : Event) (x : Answer) → P (noting e x)) where
  pub given_holds : {A : Type 0} (o : Option A) (go : A → Reduced) → ((x : A) → P (go x)) → P (given o go)
  given_holds None go h = quiets Stuck
  given_holds (Some x) go h = h x

  pub provided_holds : (b : Bool) (r : Reduced) → P r → P (provided b r)
  provided_holds true r h = h
  provided_holds false r h = quiets Stuck

  cond_holds : (b : Bool) (r q : Reduced) → P r → P q → P (cond b r q)
  cond_holds true r q h i = h
  cond_holds false r q h i = i

  pub pop_holds : (t : ValueType Label) (vs : List Value) (go : ℕ → List Value → Reduced) → ((n : ℕ) (below : List Value) → P (go n below)) → P (pop t vs go)
  pop_holds t [] go h = quiets Stuck
  pop_holds t (v ∷ vs) go h = provided_holds (same_type t v.type) (go v.number vs) (h v.number vs)

  pop_any_holds : (vs : List Value) (go : Value → List Value → Reduced) → ((v : Value) (below : List Value) → P (go v below)) → P (pop_any vs go)
  pop_any_holds [] go h = quiets Stuck
  pop_any_holds (v ∷ vs) go h = h v vs

  pops_holds : (ts : List (ValueType Label)) (args vs : List Value) (go : List Value → List Value → Reduced) → ((args below : List Value) → P (go args below)) → P (pops ts args vs go)
  pops_holds [] args vs go h = h args vs
  pops_holds (t ∷ ts) args vs go h = pop_holds t vs (λ n below. pops ts (value t n ∷ args) below go) (λ n below. pops_holds ts (value t n ∷ args) below go h)

  carry_holds : (t : Option (ValueType Label)) (vs : List Value) (go : Option Value → Reduced) → ((v : Option Value) → P (go v)) → P (carry t vs go)
  carry_holds None vs go h = h None
  carry_holds (Some t) vs go h = pop_holds t vs (λ n below. go (Some (value t n))) (λ n below. h (Some (value t n)))

  label_holds : (k : ℕ) (os : List Open) (go : Open → List Open → Reduced) → ((o : Open) (os : List Open) → P (go o os)) → P (label_at k os go)
  label_holds k [] go h = quiets Stuck
  label_holds zero (o ∷ os) go h = h o os
  label_holds (suc k) (o ∷ os) go h = label_holds k os go h

  carried_holds : (k : ℕ) (os : List Open) (vs : List Value) (go : Open → List Open → Option Value → Reduced) → ((o : Open) (os : List Open) (v : Option Value) → P (go o os v)) → P (label_at k os (λ o outer. carry (target_type o.again o.result) vs (go o outer)))
  carried_holds k os vs go h = label_holds k os (λ o outer. carry (target_type o.again o.result) vs (go o outer)) (λ o outer. carry_holds (target_type o.again o.result) vs (go o outer) (h o outer))

  memory_holds : (fn : FunctionInstance) (s : Storage) (go : ℕ → Memory → Reduced) → ((i : ℕ) (m : Memory) → P (go i m)) → P (memory_of fn s go)
  memory_holds fn s go h = given_holds fn.part.memory (λ i. given (slice_get s.memories i) (go i)) (λ i. given_holds (slice_get s.memories i) (go i) (h i))

  call_entry_holds : (fns : Functions) (s : Storage) (h : Here) (rest : Code Label) (n : ℕ) (type : FunctionType Label) (entry : Option (Option ℕ)) (vs : List Value) → P (call_entry fns s h rest n type entry vs)
  call_entry_holds fns s h rest n type None vs = notes _ _
  call_entry_holds fns s h rest n type (Some None) vs = notes _ _
  call_entry_holds fns s h rest n type (Some (Some g)) vs =
      given_holds (slice_get fns g) _ (λ callee. cond_holds (same_function_type callee.type type) _ _ (pops_holds (upon callee.type.params []) [] vs _ (λ args below. notes _ _)) (notes _ _))

  showing_holds : (timed : Bool) (l : Label) (x y : ℕ) (answer : Answer) → P (showing timed l x y answer)
  showing_holds false l x y answer = quiets answer
  showing_holds true l x y answer = provided_holds (same_label l Public) _ (notes _ _)

  numeric_holds : (profile : Profile) (s : Storage) (h : Here) (rest : Code Label) (op : ℕ) (l : Label) (sig : NumSig) (arity : ℕ) (vs : List Value) → P (numeric profile s h rest op l sig arity vs)
  numeric_holds profile s h rest op l sig zero vs = quiets Stuck
  numeric_holds profile s h rest op l sig (suc zero) vs = pop_holds (value_type sig.operand l) vs _ (λ a below. given_holds (value1 op a) _ (λ n. quiets _))
  numeric_holds profile s h rest op l sig (suc (suc zero)) vs =
      pop_holds (value_type sig.operand l) vs _ (λ b below. pop_holds (value_type sig.operand l) below _ (λ a below'. given_holds (value2 op a b) _ (λ r. showing_holds (leaks op profile) l a b _)))
  numeric_holds profile s h rest op l sig (suc (suc (suc more))) vs = quiets Stuck

  module _ (fns : Functions) (fn : FunctionInstance) (s : Storage) (h : Here) (rest : Code Label) where
    leaf_holds : (i : Leaf Label) (vs : List Value) → free (Then i rest) ≡ 0 → P (leaf fns fn s h rest i vs)
    leaf_holds Unreachable vs z = quiets _
    leaf_holds Nop vs z = quiets _
    leaf_holds (Br k) vs z = carried_holds k (innermost h rest vs ∷ h.outer) vs _ (λ o outer v. quiets _)
    leaf_holds (BrIf k) vs z = pop_holds i32 vs _ (λ n below. cond_holds (n == 0) _ _ (carried_holds k (innermost h rest below ∷ h.outer) below _ (λ o outer v. notes _ _)) (carried_holds k (innermost h rest below ∷ h.outer) below _ (λ o outer v. notes _ _)))
    leaf_holds (BrTable targets otherwise) vs z = pop_holds i32 vs _ (λ n below. given_holds (slice_get (targets ++ otherwise ∷ []) (table_place n targets)) _ (λ k. carried_holds k (innermost h rest below ∷ h.outer) below _ (λ o outer v. notes _ _)))
    leaf_holds Return vs z = carry_holds fn.type.result vs _ (λ v. quiets _)
    leaf_holds (Call f) vs z = given_holds (slice_get fn.part.functions f) _ (λ n. given_holds (slice_get fns n) _ (λ callee. pops_holds (upon callee.type.params []) [] vs _ (λ args below. notes _ _)))
    leaf_holds (CallIndirect y) vs z = pop_holds i32 vs _ (λ n below. given_holds (slice_get fn.part.types y) _ (λ entry. given_holds fn.part.table _ (λ t. given_holds (slice_get s.tables t) _ (λ table. call_entry_holds fns s h rest n entry.type (slice_get table.entries n) below))))
    leaf_holds Drop vs z = pop_any_holds vs _ (λ v below. quiets _)
    leaf_holds (Select l) vs z = pop_holds (value_type W32 l) vs _ (λ n below. pop_any_holds below _ (λ y below'. provided_holds (same_label l y.type.tag) _ (pop_holds y.type below' _ (λ x below''. quiets _))))
    leaf_holds (LocalGet x) vs z = given_holds (slice_get h.locals x) _ (λ v. quiets _)
    leaf_holds (LocalSet x) vs z = given_holds (slice_get h.locals x) _ (λ v. pop_holds v.type vs _ (λ n below. quiets _))
    leaf_holds (LocalTee x) vs z = given_holds (slice_get h.locals x) _ (λ v. pop_holds v.type vs _ (λ n below. quiets _))
    leaf_holds (GlobalGet x) vs z = given_holds (slice_get fn.part.globals x) _ (λ i. given_holds (slice_get s.globals i) _ (λ g. quiets _))
    leaf_holds (GlobalSet x) vs z = given_holds (slice_get fn.part.globals x) _ (λ i. given_holds (slice_get s.globals i) _ (λ g. provided_holds g.mutable _ (pop_holds g.value.type vs _ (λ n below. quiets _))))
    leaf_holds (Load w l n signed align offset) vs z = memory_holds fn s _ (λ i m. provided_holds (same_label l m.type.tag) _ (pop_holds i32 vs _ (λ at below. notes _ _)))
    leaf_holds (Store w l n align offset) vs z = memory_holds fn s _ (λ i m. provided_holds (same_label l m.type.tag) _ (pop_holds (value_type w l) vs _ (λ x below. pop_holds i32 below _ (λ at below'. notes _ _))))
    leaf_holds MemorySize vs z = memory_holds fn s _ (λ i m. quiets _)
    leaf_holds MemoryGrow vs z = memory_holds fn s _ (λ i m. pop_holds i32 vs _ (λ n below. notes _ _))
    leaf_holds (Const w l n) vs z = quiets _
    leaf_holds (Numeric op l) vs z = given_holds (num_sig_of op) _ (λ sig. numeric_holds fn.part.profile s h rest op l sig sig.arity vs)
    leaf_holds (Classify w) vs z = cc
    leaf_holds (Declassify w) vs z = cc

  pub next_holds : (fns : Functions) (fn : FunctionInstance) (s : Storage) (h : Here) (c : Code Label) (vs : List Value) → free c ≡ 0 → P (next fns fn s h c vs)
  next_holds fns fn s h Stop vs z = carry_holds h.result vs _ (λ v. quiets _)
  next_holds fns fn s h (Then i rest) vs z = leaf_holds fns fn s h rest i vs z
  next_holds fns fn s h (Block t body rest) vs z = quiets _
  next_holds fns fn s h (Loop t body rest) vs z = quiets _
  next_holds fns fn s h (If t arm rest) vs z = pop_holds i32 vs _ (λ n below. notes _ _)
  next_holds fns fn s h (IfElse t arm other rest) vs z = pop_holds i32 vs _ (λ n below. notes _ _)
