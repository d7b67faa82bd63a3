-- The erased state takes the same counted reduction, instruction by instruction.
use Rattle.std.proofs.Common.{◌≡◌, ℕ, zero, suc, ◌+◌, Bool, true, false, not, ◌&&◌, List, [], ◌∷◌, ◌++◌, map, length, Option, Some, None, slice_get, option_map, Contains, Result, Ok, Err, refl, sym, ap, ◌∙◌, subst, ◌==◌, nat_le, cond}
use Rattle.std.proofs.lemmas.List.{map-set}
use Rattle.ctw_ops.specs.declared.types.Label.{Label}
use Rattle.ctw_ops.specs.declared.types.Label.TheVariants.{Public}
use Rattle.ctw_ops.specs.declared.types.Width.TheVariants.{W32}
use Rattle.ctw_ops.specs.Types.{ValueType, value_type, EraseAlike, erase_value_type, erase_function_type}
use Rattle.ctw_ops.specs.Tree.{TypeEntry}
use Rattle.ctw_ops.specs.Equal.{same_label, same_function_type}
use Rattle.ctw_ops.specs.declared.numeric.NumSig.{NumSig}
use Rattle.ctw_ops.specs.declared.numeric.Profile.{Profile}
use Rattle.ctw_ops.specs.Numeric.{num_sig_of, leaks}
use Rattle.ctw_ops.specs.TagMaps.{in_front_of}
use Rattle.ctw_ops.specs.Limits.{most_memory_pages, most_set_pages}
use Rattle.ctw_ops.specs.Code.{Leaf, Unreachable, Nop, Br, BrIf, BrTable, Return, Call, CallIndirect, Drop, Select, LocalGet, LocalSet, LocalTee, GlobalGet, GlobalSet, Load, Store, MemorySize, MemoryGrow, Const, Numeric, Classify, Declassify, Code, Stop, Then, Block, Loop, If, IfElse}
use Rattle.ctw_ops.proofs.Variants.{VariantsFit}
use Rattle.ctw_ops.specs.Erasure.{erase_entries, base_of, erase_leaf, erase_code}
use Rattle.ctw_num.specs.declared.trap.NumTrap.{NumTrap}
use Rattle.ctw_num.specs.Values.{value1, value2}
use Rattle.ctw_script.specs.declared.event.Event.TheVariants as Events
use Rattle.ctw_script.specs.declared.trap.TrapCode.TheVariants.{CallType}
use Rattle.ctw_semantics.specs.Values.{Value, value, i32}
use Rattle.ctw_semantics.specs.Stores.{Memory, Global, Table, Storage, bytes_of_number, written_at, with_bytes, with_number, pages, all_pages, most_pages_of, may_grow, grown}
use Rattle.ctw_semantics.specs.Instances.{FunctionInstance, Functions}
use Rattle.ctw_semantics.specs.Answers.{Answer, Goes, Trapped, Reduced, quiet, noting, stuck, given}
use Rattle.ctw_semantics.specs.Machine.{Here, innermost, put, with_local, enter, table_place, invoke, call_entry, outcome, showing, numeric, leaf, choose, next}
use Rattle.ctw_semantics.specs.Steps.{free}
use Rattle.ctw_semantics.specs.Erased.{erase_instance, erase_functions, erase_value, erase_memory, erase_global, erase_storage, erase_answer, erase_reduced}
use Rattle.ctw_ops.proofs.EqualLaws.{same_function_type_is, same_function_type_when}
use Rattle.ctw_ops.proofs.Lists.{contains_get}
use Rattle.ctw_semantics.proofs.Entries.{entry_of, base_erased}
use Rattle.ctw_semantics.proofs.Erases.{Erases, stuck_erases, same_erases, provided_erases, look_erases, index_erases, pop_erases, pop_any_erases, carry_erases, cond_erases, cond_erased}
use Rattle.ctw_semantics.proofs.ErasesPlaces.{entries_here, erased_here, quiet_tells, noting_tells, finish_erased, leave_erased, branch_erases, pass_erases, entries_are, invoke_erases}

-- ---- stores

all_pages_erased : (ms : List Memory) → all_pages (map erase_memory ms) ≡ all_pages ms
all_pages_erased [] = refl
all_pages_erased (m ∷ ms) = ap (λ n. pages m + n) (all_pages_erased ms)

may_grow_erased : (s : Storage) (m : Memory) (n : ℕ) → may_grow s m n ≡ may_grow (erase_storage s) (erase_memory m) n
unfolding may_grow
may_grow_erased s m n = ap (λ k. nat_le (pages m + n) (most_pages_of m.type) && (nat_le (pages m + n) most_memory_pages && nat_le (k + n) most_set_pages)) (sym (all_pages_erased s.memories))

bytes_erased : (s : Storage) (i : ℕ) (m : Memory) (bytes : List ℕ) → erase_storage (with_bytes s i m bytes) ≡ with_bytes (erase_storage s) i (erase_memory m) bytes
bytes_erased s i m bytes = ap (λ ms. record { memories = ms; globals = map erase_global s.globals; tables = s.tables }) (map-set erase_memory s.memories i (record m { bytes = bytes }))

number_erased : (s : Storage) (i : ℕ) (g : Global) (n : ℕ) → erase_storage (with_number s i g n) ≡ with_number (erase_storage s) i (erase_global g) n
number_erased s i g n = ap (λ gs. record { memories = map erase_memory s.memories; globals = gs; tables = s.tables }) (map-set erase_global s.globals i (record g { value = value g.value.type n }))

agreed : (b c : Bool) → (b ≡ true → c ≡ true) → (c ≡ true → b ≡ true) → b ≡ c
agreed true c h i = sym (h refl)
agreed false true h i = i refl
agreed false false h i = refl

-- a function in the table, and the type that an indirect call names by this index, are equal where they erase alike
abbrev pub UsersOf : Functions → FunctionInstance → Storage → ℕ → Type 0
UsersOf fns fn s y =
    (t f : ℕ) (table : Table) (entry : TypeEntry Label) (callee : FunctionInstance)
    → fn.part.table ≡ Some t → slice_get s.tables t ≡ Some table → Contains table.entries (Some f) → slice_get fns f ≡ Some callee → slice_get fn.part.types y ≡ Some entry
    → EraseAlike callee.type entry.type → callee.type ≡ entry.type

module _ (fns : Functions) (fn : FunctionInstance) (s : Storage) (h : Here) (found : slice_get fns h.func ≡ Some fn) (fit : VariantsFit fn.part.types) (rest : Code Label) where
  abbrev rest' : Code Label
  rest' = erase_code (entries_here fns h) rest

  goes_erased : (vs : List Value) → erase_answer fns (Goes s (put h rest vs)) ≡ Goes (erase_storage s) (put (erased_here fns h) rest' (map erase_value vs))
  goes_erased vs = refl

  entry_erases : {A B : Type 0} (f : A → B) (o : Option A) (p : Option B) (go : A → Reduced) (go' : B → Reduced) → ((x : A) → o ≡ Some x → p ≡ Some (f x)) → ((x : A) → o ≡ Some x → Erases fns (go x) (go' (f x))) → Erases fns (given o go) (given p go')
  entry_erases f None p go go' e h = stuck_erases fns (given p go')
  entry_erases f (Some x) p go go' e h = subst (λ p. Erases fns (go x) (given p go')) (sym (e x refl)) (h x refl)

  call_entry_erases : (y : ℕ) → UsersOf fns fn s y → (t n : ℕ) (type : TypeEntry Label) (table : Table) (entry : Option (Option ℕ)) (vs : List Value) → slice_get fn.part.types y ≡ Some type → fn.part.table ≡ Some t → slice_get s.tables t ≡ Some table → slice_get table.entries n ≡ entry → Erases fns (call_entry fns s h rest n type.type entry vs) (call_entry (erase_functions fns) (erase_storage s) (erased_here fns h) rest' n (erase_function_type type.type) entry (map erase_value vs))
  call_entry_erases y users t n type table None vs ey et es ee = same_erases fns _ _ refl
  call_entry_erases y users t n type table (Some None) vs ey et es ee = same_erases fns _ _ refl
  call_entry_erases y users t n type table (Some (Some g)) vs ey et es ee =
      look_erases fns erase_instance fns g _ _ (λ callee ec.
      let b = same_function_type callee.type type.type in
      let c = same_function_type (erase_function_type callee.type) (erase_function_type type.type) in
      let e : b ≡ c = agreed b c
      (λ q. same_function_type_when (erase_function_type callee.type) (erase_function_type type.type) (ap erase_function_type (same_function_type_is callee.type type.type q)))
      (λ q. same_function_type_when callee.type type.type (users t g table type callee et es (contains_get table.entries n (Some g) ee) ec ey (same_function_type_is (erase_function_type callee.type) (erase_function_type type.type) q))) in
      subst (λ c. Erases fns (cond b (invoke (noting (Events.Indirect n (Some g))) s h rest g callee vs) (noting (Events.Indirect n None) (Trapped CallType))) (cond c (invoke (noting (Events.Indirect n (Some g))) (erase_storage s) (erased_here fns h) rest' g (erase_instance callee) (map erase_value vs)) (noting (Events.Indirect n None) (Trapped CallType)))) e
      (cond_erases fns b _ _ _ _ (invoke_erases fns (noting (Events.Indirect n (Some g))) (noting_tells fns (Events.Indirect n (Some g))) s h rest g callee ec vs) (same_erases fns _ _ refl)))

  outcome_erased : (t : ValueType Label) (below : List Value) (x : Result ℕ NumTrap) → erase_answer fns (outcome s h rest t below x) ≡ outcome (erase_storage s) (erased_here fns h) rest' (erase_value_type t) (map erase_value below) x
  outcome_erased t below (Ok n) = refl
  outcome_erased t below (Err trap) = refl

  showing_erases : (timed : Bool) (l : Label) (x y : ℕ) (answer answer' : Answer) → erase_answer fns answer ≡ answer' → Erases fns (showing timed l x y answer) (showing timed Public x y answer')
  showing_erases false l x y answer answer' e = same_erases fns _ _ (ap quiet e)
  showing_erases true l x y answer answer' e = provided_erases fns (same_label l Public) true _ _ (λ _. refl) (same_erases fns _ _ (ap (noting (Events.Divide x y)) e))

  numeric_erases : (profile : Profile) (op : ℕ) (l : Label) (sig : NumSig) (arity : ℕ) (vs : List Value) → Erases fns (numeric profile s h rest op l sig arity vs) (numeric profile (erase_storage s) (erased_here fns h) rest' op Public sig arity (map erase_value vs))
  numeric_erases profile op l sig zero vs = stuck_erases fns stuck
  numeric_erases profile op l sig (suc zero) vs = pop_erases fns (value_type sig.operand l) vs _ _ (λ a below. index_erases fns (value1 op a) _ _ (λ n en. same_erases fns _ _ refl))
  numeric_erases profile op l sig (suc (suc zero)) vs = pop_erases fns (value_type sig.operand l) vs _ _ (λ b below. pop_erases fns (value_type sig.operand l) below _ _ (λ a below'.
      index_erases fns (value2 op a b) _ _ (λ r er. showing_erases (leaks op profile) l a b _ _ (outcome_erased (value_type sig.result l) below' r))))
  numeric_erases profile op l sig (suc (suc (suc more))) vs = stuck_erases fns stuck

  with_local_erased : (x : ℕ) (v : Value) (vs : List Value) → erase_reduced fns (quiet (Goes s (put (with_local h x v) rest vs))) ≡ quiet (Goes (erase_storage s) (put (with_local (erased_here fns h) x (erase_value v)) rest' (map erase_value vs)))
  with_local_erased x v vs = ap (λ (l : List Value). quiet (Goes (erase_storage s) (put (record (erased_here fns h) { locals = l }) rest' (map erase_value vs)))) (map-set erase_value h.locals x v)

  leaf_erases : (i : Leaf Label) (vs : List Value) → ((y : ℕ) → i ≡ CallIndirect y → UsersOf fns fn s y) → free (Then i rest) ≡ 0 → Erases fns (leaf fns fn s h rest i vs) (next (erase_functions fns) (erase_instance fn) (erase_storage s) (erased_here fns h) (in_front_of (erase_leaf (entries_here fns h) i) rest') (map erase_value vs))
  leaf_erases Unreachable vs u z = same_erases fns _ _ refl
  leaf_erases Nop vs u z = same_erases fns _ _ refl
  leaf_erases (Br k) vs u z = branch_erases fns quiet (quiet_tells fns) s h k (innermost h rest vs ∷ h.outer) vs
  leaf_erases (BrIf k) vs u z = pop_erases fns i32 vs _ _ (λ n below. cond_erases fns (n == 0) _ _ _ _
      (pass_erases fns (noting (Events.Branch false) (Goes s (put h rest below))) (noting (Events.Branch false) (Goes (erase_storage s) (put (erased_here fns h) rest' (map erase_value below)))) (same_erases fns _ _ refl) h k (innermost h rest below ∷ h.outer) below)
      (branch_erases fns (noting (Events.Branch true)) (noting_tells fns (Events.Branch true)) s h k (innermost h rest below ∷ h.outer) below))
  leaf_erases (BrTable targets otherwise) vs u z = pop_erases fns i32 vs _ _ (λ n below. index_erases fns (slice_get (targets ++ otherwise ∷ []) (table_place n targets)) _ _ (λ k ek. branch_erases fns (noting (Events.Table n)) (noting_tells fns (Events.Table n)) s h k (innermost h rest below ∷ h.outer) below))
  leaf_erases Return vs u z = carry_erases fns fn.type.result vs _ _ (λ v. quiet_tells fns _ _ (finish_erased fns s v h.callers))
  leaf_erases (Call f) vs u z = index_erases fns (slice_get fn.part.functions f) _ _ (λ n en. look_erases fns erase_instance fns n _ _ (λ callee ec. invoke_erases fns (noting (Events.Enter n)) (noting_tells fns (Events.Enter n)) s h rest n callee ec vs))
  leaf_erases (CallIndirect y) vs u z = pop_erases fns i32 vs _ _ (λ n below.
      entry_erases (λ (entry : TypeEntry Label). entry_of (erase_function_type entry.type)) (slice_get fn.part.types y) (slice_get (erase_entries fn.part.types) (base_of (entries_here fns h) y)) _ _
      (λ entry e. ap (λ entries. slice_get (erase_entries fn.part.types) (base_of entries y)) (entries_are fns h.func fn found) ∙ base_erased fn.part.types fit y entry e)
      (λ entry ey. index_erases fns fn.part.table _ _ (λ t et. index_erases fns (slice_get s.tables t) _ _ (λ table es.
      call_entry_erases y (u y refl) t n entry table (slice_get table.entries n) below ey et es refl))))
  leaf_erases Drop vs u z = pop_any_erases fns vs _ _ (λ v below. same_erases fns _ _ refl)
  leaf_erases (Select l) vs u z = pop_erases fns (value_type W32 l) vs _ _ (λ n below. pop_any_erases fns below _ _ (λ y below'. provided_erases fns (same_label l y.type.tag) true _ _ (λ _. refl) (pop_erases fns y.type below' _ _ (λ x below''. same_erases fns _ _ refl))))
  leaf_erases (LocalGet x) vs u z = look_erases fns erase_value h.locals x _ _ (λ v e. same_erases fns _ _ refl)
  leaf_erases (LocalSet x) vs u z = look_erases fns erase_value h.locals x _ _ (λ v e. pop_erases fns v.type vs _ _ (λ n below. same_erases fns _ _ (with_local_erased x (value v.type n) below)))
  leaf_erases (LocalTee x) vs u z = look_erases fns erase_value h.locals x _ _ (λ v e. pop_erases fns v.type vs _ _ (λ n below. same_erases fns _ _ (with_local_erased x (value v.type n) (value v.type n ∷ below))))
  leaf_erases (GlobalGet x) vs u z = index_erases fns (slice_get fn.part.globals x) _ _ (λ i ei. look_erases fns erase_global s.globals i _ _ (λ g eg. same_erases fns _ _ refl))
  leaf_erases (GlobalSet x) vs u z = index_erases fns (slice_get fn.part.globals x) _ _ (λ i ei. look_erases fns erase_global s.globals i _ _ (λ g eg. provided_erases fns g.mutable g.mutable _ _ (λ e. e) (pop_erases fns g.value.type vs _ _ (λ n below. same_erases fns _ _
      (ap (λ (t : Storage). quiet (Goes t (put (erased_here fns h) rest' (map erase_value below)))) (number_erased s i g n))))))
  leaf_erases (Load w l n signed align offset) vs u z = index_erases fns fn.part.memory _ _ (λ i ei. look_erases fns erase_memory s.memories i _ _ (λ m em. provided_erases fns (same_label l m.type.tag) true _ _ (λ _. refl) (pop_erases fns i32 vs _ _ (λ at below. same_erases fns _ _
      (ap (noting (Events.Load i (at + offset) n)) (cond_erased fns (nat_le (at + offset + n) (length m.bytes)) (nat_le (at + offset + n) (length m.bytes)) _ _ _ _ refl refl refl))))))
  leaf_erases (Store w l n align offset) vs u z = index_erases fns fn.part.memory _ _ (λ i ei. look_erases fns erase_memory s.memories i _ _ (λ m em. provided_erases fns (same_label l m.type.tag) true _ _ (λ _. refl) (pop_erases fns (value_type w l) vs _ _ (λ x below. pop_erases fns i32 below _ _ (λ at below'. same_erases fns _ _
      (ap (noting (Events.Store i (at + offset) n)) (cond_erased fns (nat_le (at + offset + n) (length m.bytes)) (nat_le (at + offset + n) (length m.bytes)) _ _ _ _ refl
      (ap (λ (t : Storage). Goes t (put (erased_here fns h) rest' (map erase_value below'))) (bytes_erased s i m (written_at (at + offset) (bytes_of_number n x) m.bytes))) refl)))))))
  leaf_erases MemorySize vs u z = index_erases fns fn.part.memory _ _ (λ i ei. look_erases fns erase_memory s.memories i _ _ (λ m em. same_erases fns _ _ refl))
  leaf_erases MemoryGrow vs u z = index_erases fns fn.part.memory _ _ (λ i ei. look_erases fns erase_memory s.memories i _ _ (λ m em. pop_erases fns i32 vs _ _ (λ n below. same_erases fns _ _
      (ap (noting (Events.Grow n)) (cond_erased fns (may_grow s m n) (may_grow (erase_storage s) (erase_memory m) n) _ _ _ _ (may_grow_erased s m n)
      (ap (λ (t : Storage). Goes t (put (erased_here fns h) rest' (value i32 (pages m) ∷ map erase_value below))) (bytes_erased s i m (grown m n))) refl)))))
  leaf_erases (Const w l n) vs u z = same_erases fns _ _ refl
  leaf_erases (Numeric op l) vs u z = index_erases fns (num_sig_of op) _ _ (λ sig es. numeric_erases fn.part.profile op l sig sig.arity vs)
  leaf_erases (Classify w) vs u z = cc
  leaf_erases (Declassify w) vs u z = cc

  arm_erased : (b : Bool) (c d : Code Label) → erase_code (entries_here fns h) (cond b c d) ≡ cond b (erase_code (entries_here fns h) c) (erase_code (entries_here fns h) d)
  arm_erased true c d = refl
  arm_erased false c d = refl

  choose_erases : (t : Option (ValueType Label)) (arm other : Code Label) (vs : List Value) → Erases fns (choose s h rest t arm other vs) (choose (erase_storage s) (erased_here fns h) rest' (option_map erase_value_type t) (erase_code (entries_here fns h) arm) (erase_code (entries_here fns h) other) (map erase_value vs))
  choose_erases t arm other vs = pop_erases fns i32 vs _ _ (λ n below. same_erases fns _ _
      (ap (λ body. noting (Events.Branch (not (n == 0))) (Goes (erase_storage s) (enter (erased_here fns h) rest' (map erase_value below) (option_map erase_value_type t) None body))) (arm_erased (n == 0) other arm)))

pub next_erases : (fns : Functions) (fn : FunctionInstance) (s : Storage) (h : Here) → slice_get fns h.func ≡ Some fn → VariantsFit fn.part.types → (c : Code Label) (vs : List Value) → ((y : ℕ) (rest : Code Label) → c ≡ Then (CallIndirect y) rest → UsersOf fns fn s y) → free c ≡ 0 → Erases fns (next fns fn s h c vs) (next (erase_functions fns) (erase_instance fn) (erase_storage s) (erased_here fns h) (erase_code (entries_here fns h) c) (map erase_value vs))
next_erases fns fn s h found fit Stop vs u z = carry_erases fns h.result vs _ _ (λ v. quiet_tells fns _ _ (leave_erased fns s h v h.outer))
next_erases fns fn s h found fit (Then i rest) vs u z = leaf_erases fns fn s h found fit rest i vs (λ y e. u y rest (ap (λ i. Then i rest) e)) z
next_erases fns fn s h found fit (Block t body rest) vs u z = same_erases fns _ _ refl
next_erases fns fn s h found fit (Loop t body rest) vs u z = same_erases fns _ _ refl
next_erases fns fn s h found fit (If t arm rest) vs u z = choose_erases fns fn s h found fit rest t arm Stop vs
next_erases fns fn s h found fit (IfElse t arm other rest) vs u z = choose_erases fns fn s h found fit rest t arm other vs
