-- One reduction of agreeing states, instruction by instruction.
use Rattle.std.proofs.Common.{◌≡◌, ℕ, zero, suc, ◌+◌, ◌*◌, ◌/◌, Bool, true, false, ◌||◌, List, [], ◌∷◌, ◌++◌, map, length, Option, Some, None, slice_get, slice_set, Result, Ok, Err, IsOk, refl, sym, ap, ap₂, ◌∙◌, subst, ◌==◌, nat_le, cond}
use Rattle.std.proofs.lemmas.List.{map-set}
use Rattle.ctw_ops.specs.declared.types.Label.{Label}
use Rattle.ctw_ops.specs.declared.types.Label.TheVariants.{Public, Secret}
use Rattle.ctw_ops.specs.declared.types.Width.{Width}
use Rattle.ctw_ops.specs.declared.types.Width.TheVariants.{W32}
use Rattle.ctw_ops.specs.Types.{ValueType, FunctionType, value_type}
use Rattle.ctw_ops.specs.Equal.{same_label, same_function_type}
use Rattle.ctw_ops.specs.declared.numeric.NumSig.{NumSig}
use Rattle.ctw_ops.specs.declared.numeric.Profile.{Profile}
use Rattle.ctw_ops.specs.Numeric.{num_sig_of, is_timed, leaks}
use Rattle.ctw_ops.specs.Limits.{page_size}
use Rattle.ctw_ops.specs.Code.{Leaf, Unreachable, Nop, Br, BrIf, BrTable, Return, Call, CallIndirect, Drop, Select, LocalGet, LocalSet, LocalTee, GlobalGet, GlobalSet, Load, Store, MemorySize, MemoryGrow, Const, Numeric, Classify, Declassify, Code, Stop, Then, Block, Loop, If, IfElse}
use Rattle.ctw_num.specs.declared.trap.NumTrap.{NumTrap}
use Rattle.ctw_num.specs.Values.{value1, value2}
use Rattle.ctw_num.proofs.Traps.{untimed}
use Rattle.ctw_num.proofs.Values.{value1_some, value2_some}
use Rattle.std.proofs.lemmas.Option.{same_Some}
use Rattle.ctw_script.specs.declared.event.Event.{Event}
use Rattle.ctw_script.specs.declared.event.Event.TheVariants as Events
use Rattle.ctw_semantics.specs.Values.{Value, value, i32}
use Rattle.ctw_semantics.specs.Stores.{Memory, Global, Storage, number_at, bytes_of_number, written_at, pages, may_grow, grown}
use Rattle.ctw_semantics.specs.Instances.{FunctionInstance, Functions}
use Rattle.ctw_ops.specs.Limits.{most_weight}
use Rattle.ctw_semantics.specs.Activations.{Open, Frame, Activation, labels_weight, weight}
use Rattle.ctw_semantics.specs.Answers.{Answer, Goes, Ended, Trapped, Stuck, Reduced, quiet, noting}
use Rattle.ctw_semantics.specs.Machine.{Here, innermost, put, with_local, branch, pass, table_place, call_entry, memory_of, outcome, showing, numeric, leaf, choose, next, within_weight, limited, here, in_frame, red}
use Rattle.ctw_semantics.specs.Seen.{seen_number, seen_bytes, seen_value, seen_memory, seen_global, seen_storage, seen_open, seen_frame, seen, seen_answer, Agree}
use Rattle.ctw_ops.proofs.EqualLaws.{same_label_is}
use Rattle.ctw_semantics.proofs.Alike.{Alike, stuck_alike, quiet_alike, noting_alike, provided_alike, given_alike, same_alike, named_alike, both_alike, equal_alike, looks_alike, number_alike, value_alike, pop_alike, pop_any_alike, pop_public_alike, carry_alike, cond_alike, cond_seen, pushed}
use Rattle.ctw_semantics.proofs.AlikePlaces.{Places, put_alike, enter_alike, labels_here, goes_alike, finish_alike, leave_alike, branch_alike, pass_alike, invoke_alike}
use Rattle.ctw_semantics.proofs.AlikeStores.{same_length, same_bytes, read_alike, written_alike, grown_alike, may_grow_alike, with_number_alike, with_bytes_alike}

label_number : (l : Label) (v w : Value) → l ≡ v.type.tag → seen_value v ≡ seen_value w → seen_number l v.number ≡ seen_number l w.number
label_number l v w q e = number_alike (value_type v.type.width l) v w (ap (value_type v.type.width) q) e

selected_alike : (l : Label) (n m x x' : ℕ) (y y' : Value) → l ≡ y.type.tag → seen_number l n ≡ seen_number l m → seen_value y ≡ seen_value y' → seen_number y.type.tag x ≡ seen_number y.type.tag x' → seen_number l (cond (n == 0) y.number x) ≡ seen_number l (cond (m == 0) y'.number x')
selected_alike Public n m x x' y y' q en ey ex =
    let a : y.number ≡ y'.number = label_number Public y y' q ey in
    let b : x ≡ x' = subst (λ (l : Label). seen_number l x ≡ seen_number l x') (sym q) ex in
    ap (λ k. cond (k == 0) y.number x) en ∙ ap₂ (λ i j. cond (m == 0) i j) a b
selected_alike Secret n m x x' y y' q en ey ex = refl

-- what does not leak is no division
not_timed : (op : ℕ) (profile : Profile) → leaks op profile ≡ false → is_timed op ≡ false
unfolding leaks
not_timed op profile e = (either_false (is_timed op) _ e).0
  where
    either_false : (a b : Bool) → a || b ≡ false → (a ≡ false) × (b ≡ false)
    either_false false false e = (refl, refl)
    either_false false true e = cc
    either_false true b e = cc

-- what a table gives of numbers that look the same
of_operands : (l : Label) (f : ℕ → Option ℕ) (a b n m : ℕ) → seen_number l a ≡ seen_number l b → f a ≡ Some n → f b ≡ Some m → seen_number l n ≡ seen_number l m
of_operands Public f a b n m e en em = same_Some n m (sym en ∙ ap f e ∙ em)
of_operands Secret f a b n m e en em = refl

module _ (fns : Functions) (fn : FunctionInstance) (s t : Storage) (es : seen_storage s ≡ seen_storage t) (h k : Here) (p : Places h k) (rest : Code Label) where
  -- both go on with these operands
  goes_on : (vs ws : List Value) → map seen_value vs ≡ map seen_value ws → seen_answer (Goes s (put h rest vs)) ≡ seen_answer (Goes t (put k rest ws))
  goes_on vs ws e = goes_alike s t es _ _ (put_alike h k rest vs ws p e)

  -- both go on with one more operand
  pushes : (u : ValueType Label) (n m : ℕ) (vs ws : List Value) → seen_number u.tag n ≡ seen_number u.tag m → map seen_value vs ≡ map seen_value ws → seen_answer (Goes s (put h rest (value u n ∷ vs))) ≡ seen_answer (Goes t (put k rest (value u m ∷ ws)))
  pushes u n m vs ws en e = goes_on (value u n ∷ vs) (value u m ∷ ws) (pushed u n m vs ws en e)

  branches : (note : Answer → Reduced) → ((x y : Answer) → seen_answer x ≡ seen_answer y → Alike (note x) (note y)) → (d : ℕ) (vs ws : List Value) → map seen_value vs ≡ map seen_value ws → Alike (branch note s h d (innermost h rest vs ∷ h.outer) vs) (branch note t k d (innermost k rest ws ∷ k.outer) ws)
  branches note n d vs ws e = branch_alike s t es h k p note n d (innermost h rest vs ∷ h.outer) (innermost k rest ws ∷ k.outer) vs ws (labels_here h k rest p vs ws e) e

  noted : (e : Event) (x y : Answer) → seen_answer x ≡ seen_answer y → Alike (noting e x) (noting e y)
  noted e x y q = noting_alike e e x y refl q

  passes : (event : Event) (d : ℕ) (vs ws : List Value) → map seen_value vs ≡ map seen_value ws → Alike (pass (noting event (Goes s (put h rest vs))) d (innermost h rest vs ∷ h.outer) vs) (pass (noting event (Goes t (put k rest ws))) d (innermost k rest ws ∷ k.outer) ws)
  passes event d vs ws e = pass_alike (noting event (Goes s (put h rest vs))) (noting event (Goes t (put k rest ws))) (noted event (Goes s (put h rest vs)) (Goes t (put k rest ws)) (goes_on vs ws e)) d (innermost h rest vs ∷ h.outer) (innermost k rest ws ∷ k.outer) vs ws (labels_here h k rest p vs ws e) e

  call_entry_alike : (n : ℕ) (type : FunctionType Label) (entry : Option (Option ℕ)) (vs ws : List Value) → map seen_value vs ≡ map seen_value ws → Alike (call_entry fns s h rest n type entry vs) (call_entry fns t k rest n type entry ws)
  call_entry_alike n type None vs ws e = noted _ _ _ refl
  call_entry_alike n type (Some None) vs ws e = noted _ _ _ refl
  call_entry_alike n type (Some (Some g)) vs ws e =
      same_alike (slice_get fns g) _ _ (λ callee. cond_alike (same_function_type callee.type type) _ _ _ _
      (invoke_alike s t es h k p _ (noted (Events.Indirect n (Some g))) rest g callee vs ws e) (noted _ _ _ refl))

  with_local_alike : (x : ℕ) (v w : Value) → seen_value v ≡ seen_value w → Places (with_local h x v) (with_local k x w)
  with_local_alike x v w e = record {
    func = p.func;
    result = p.result;
    again = p.again;
    outer = p.outer;
    callers = p.callers;
    locals = map-set seen_value h.locals x v ∙ ap₂ (λ (l : List Value) (v : Value). slice_set l x v) p.locals e ∙ sym (map-set seen_value k.locals x w);
  }

  memory_alike : (go go' : ℕ → Memory → Reduced) → ((i : ℕ) (m q : Memory) → seen_memory m ≡ seen_memory q → Alike (go i m) (go' i q)) → Alike (memory_of fn s go) (memory_of fn t go')
  memory_alike go go' f = same_alike fn.part.memory _ _ (λ i.
      given_alike seen_memory (slice_get s.memories i) (slice_get t.memories i) _ _ (looks_alike seen_memory s.memories t.memories i (ap (λ (x : Storage). x.memories) es)) (λ m q e. f i m q e))

  -- an operation on secrets has a value in both runs
  outcome_alike : (u : ValueType Label) (vs ws : List Value) (x y : Result ℕ NumTrap) → IsOk x → IsOk y → ((n m : ℕ) → x ≡ Ok n → y ≡ Ok m → seen_number u.tag n ≡ seen_number u.tag m) → map seen_value vs ≡ map seen_value ws → seen_answer (outcome s h rest u vs x) ≡ seen_answer (outcome t k rest u ws y)
  outcome_alike u vs ws (Ok n) (Ok m) i j f e = pushes u n m vs ws (f n m refl refl) e
  outcome_alike u vs ws (Err a) y i j f e = cc
  outcome_alike u vs ws (Ok n) (Err b) i j f e = cc

  same_outcome_alike : (u : ValueType Label) (vs ws : List Value) (x : Result ℕ NumTrap) → map seen_value vs ≡ map seen_value ws → seen_answer (outcome s h rest u vs x) ≡ seen_answer (outcome t k rest u ws x)
  same_outcome_alike u vs ws (Ok n) e = pushes u n n vs ws refl e
  same_outcome_alike u vs ws (Err trap) e = refl

  -- the values of one operation on operands that look the same
  binary_alike : (shown : Bool) (op : ℕ) (profile : Profile) (l : Label) (w : Width) (a a' b b' : ℕ) (x y : Result ℕ NumTrap) (sig : NumSig) (vs ws : List Value) → num_sig_of op ≡ Some sig → value2 op a b ≡ Some x → value2 op a' b' ≡ Some y → leaks op profile ≡ shown
      → seen_number l a ≡ seen_number l a' → seen_number l b ≡ seen_number l b' → map seen_value vs ≡ map seen_value ws
      → Alike (showing shown l a b (outcome s h rest (value_type w l) vs x)) (showing shown l a' b' (outcome t k rest (value_type w l) ws y))
  binary_alike true op profile Secret w a a' b b' x y sig vs ws es ex ey el ea eb e = stuck_alike
  binary_alike true op profile Public w a a' b b' x y sig vs ws es ex ey el ea eb e =
      let q : x ≡ y = same_Some x y (sym ex ∙ ap₂ (value2 op) ea eb ∙ ey) in
      noting_alike (Events.Divide a b) (Events.Divide a' b') _ _ (ap₂ Events.Divide ea eb)
      (same_outcome_alike (value_type w Public) vs ws x e ∙ ap (λ x. seen_answer (outcome t k rest (value_type w Public) ws x)) q)
  binary_alike false op profile Public w a a' b b' x y sig vs ws es ex ey el ea eb e =
      let q : x ≡ y = same_Some x y (sym ex ∙ ap₂ (value2 op) ea eb ∙ ey) in
      quiet_alike _ _ (same_outcome_alike (value_type w Public) vs ws x e ∙ ap (λ x. seen_answer (outcome t k rest (value_type w Public) ws x)) q)
  binary_alike false op profile Secret w a a' b b' x y sig vs ws es ex ey el ea eb e =
      let calm = not_timed op profile el in
      quiet_alike _ _ (outcome_alike (value_type w Secret) vs ws x y (untimed op a b x sig es ex calm) (untimed op a' b' y sig es ey calm) (λ n m p q. refl) e)

  numeric_alike : (profile : Profile) (op : ℕ) (l : Label) (sig : NumSig) → num_sig_of op ≡ Some sig → (arity : ℕ) (vs ws : List Value) → map seen_value vs ≡ map seen_value ws → Alike (numeric profile s h rest op l sig arity vs) (numeric profile t k rest op l sig arity ws)
  numeric_alike profile op l sig es zero vs ws e = stuck_alike
  numeric_alike profile op l sig es (suc zero) vs ws e = pop_alike (value_type sig.operand l) (value_type sig.operand l) vs ws _ _ refl e (λ a a' vs' ws' ea e'.
      both_alike (value1 op a) (value1 op a') _ _ (value1_some op a ∙ sym (value1_some op a')) (λ n m en em.
      quiet_alike _ _ (pushes (value_type sig.result l) n m vs' ws' (of_operands l (value1 op) a a' n m ea en em) e')))
  numeric_alike profile op l sig es (suc (suc zero)) vs ws e =
      let u = value_type sig.operand l in
      pop_alike u u vs ws _ _ refl e (λ b b' vs1 ws1 eb e1. pop_alike u u vs1 ws1 _ _ refl e1 (λ a a' vs2 ws2 ea e2.
      both_alike (value2 op a b) (value2 op a' b') _ _ (value2_some op a b ∙ sym (value2_some op a' b')) (λ x y ex ey.
      binary_alike (leaks op profile) op profile l sig.result a a' b b' x y sig vs2 ws2 es ex ey refl ea eb e2)))
  numeric_alike profile op l sig es (suc (suc (suc more))) vs ws e = stuck_alike

  leaf_alike : (i : Leaf Label) (vs ws : List Value) → map seen_value vs ≡ map seen_value ws → Alike (leaf fns fn s h rest i vs) (leaf fns fn t k rest i ws)
  leaf_alike Unreachable vs ws e = quiet_alike _ _ refl
  leaf_alike Nop vs ws e = quiet_alike _ _ (goes_on vs ws e)
  leaf_alike (Br d) vs ws e = branches quiet quiet_alike d vs ws e
  leaf_alike (BrIf d) vs ws e = pop_public_alike W32 vs ws _ _ e (λ n vs' ws' e'.
      cond_alike (n == 0) _ _ _ _
      (passes (Events.Branch false) d vs' ws' e')
      (branches (noting (Events.Branch true)) (noted (Events.Branch true)) d vs' ws' e'))
  leaf_alike (BrTable targets otherwise) vs ws e = pop_public_alike W32 vs ws _ _ e (λ n vs' ws' e'.
      same_alike (slice_get (targets ++ otherwise ∷ []) (table_place n targets)) _ _ (λ d. branches (noting (Events.Table n)) (noted (Events.Table n)) d vs' ws' e'))
  leaf_alike Return vs ws e = carry_alike fn.type.result fn.type.result vs ws _ _ refl e (λ x y ex. quiet_alike _ _ (finish_alike s t es x y h.callers k.callers ex p.callers))
  leaf_alike (Call f) vs ws e = same_alike (slice_get fn.part.functions f) _ _ (λ n. same_alike (slice_get fns n) _ _ (λ callee. invoke_alike s t es h k p _ (noted (Events.Enter n)) rest n callee vs ws e))
  leaf_alike (CallIndirect y) vs ws e = pop_public_alike W32 vs ws _ _ e (λ n vs' ws' e'.
      same_alike (slice_get fn.part.types y) _ _ (λ entry. same_alike fn.part.table _ _ (λ a. equal_alike (slice_get s.tables a) (slice_get t.tables a) _ _ (ap (λ (x : Storage). slice_get x.tables a) es) (λ table.
      call_entry_alike n entry.type (slice_get table.entries n) vs' ws' e'))))
  leaf_alike Drop vs ws e = pop_any_alike vs ws _ _ e (λ v w vs' ws' ev e'. quiet_alike _ _ (goes_on vs' ws' e'))
  leaf_alike (Select l) vs ws e = pop_alike (value_type W32 l) (value_type W32 l) vs ws _ _ refl e (λ n m vs1 ws1 en e1. pop_any_alike vs1 ws1 _ _ e1 (λ y y' vs2 ws2 ey e2.
      let et : y.type ≡ y'.type = ap (λ (v : Value). v.type) ey in
      provided_alike (same_label l y.type.tag) (same_label l y'.type.tag) _ _ (ap (λ (u : ValueType Label). same_label l u.tag) et) (λ q. pop_alike y.type y'.type vs2 ws2 _ _ et e2 (λ x x' vs3 ws3 ex e3.
      let lq : l ≡ y.type.tag = same_label_is l y.type.tag q in
      let es' : seen_number y.type.tag (cond (n == 0) y.number x) ≡ seen_number y.type.tag (cond (m == 0) y'.number x') = subst (λ u. seen_number u (cond (n == 0) y.number x) ≡ seen_number u (cond (m == 0) y'.number x')) lq (selected_alike l n m x x' y y' lq en ey ex) in
      let ev : seen_value (value y.type (cond (n == 0) y.number x)) ≡ seen_value (value y'.type (cond (m == 0) y'.number x')) = value_alike y.type y'.type (cond (n == 0) y.number x) (cond (m == 0) y'.number x') et es' in
      quiet_alike _ _ (goes_on (value y.type (cond (n == 0) y.number x) ∷ vs3) (value y'.type (cond (m == 0) y'.number x') ∷ ws3) (ap₂ (λ (v : Value) (l : List Value). v ∷ l) ev e3))))))
  leaf_alike (LocalGet x) vs ws e = given_alike seen_value (slice_get h.locals x) (slice_get k.locals x) _ _ (looks_alike seen_value h.locals k.locals x p.locals) (λ v w ev. quiet_alike _ _ (goes_on (v ∷ vs) (w ∷ ws) (ap₂ (λ (v : Value) (l : List Value). v ∷ l) ev e)))
  leaf_alike (LocalSet x) vs ws e = given_alike seen_value (slice_get h.locals x) (slice_get k.locals x) _ _ (looks_alike seen_value h.locals k.locals x p.locals) (λ v w ev.
      let et : v.type ≡ w.type = ap (λ (x : Value). x.type) ev in
      pop_alike v.type w.type vs ws _ _ et e (λ n m vs' ws' en e'.
      quiet_alike _ _ (goes_alike s t es _ _ (put_alike _ _ rest vs' ws' (with_local_alike x (value v.type n) (value w.type m) (value_alike v.type w.type n m et en)) e'))))
  leaf_alike (LocalTee x) vs ws e = given_alike seen_value (slice_get h.locals x) (slice_get k.locals x) _ _ (looks_alike seen_value h.locals k.locals x p.locals) (λ v w ev.
      let et : v.type ≡ w.type = ap (λ (x : Value). x.type) ev in
      pop_alike v.type w.type vs ws _ _ et e (λ n m vs' ws' en e'.
      let q : seen_value (value v.type n) ≡ seen_value (value w.type m) = value_alike v.type w.type n m et en in
      quiet_alike _ _ (goes_alike s t es _ _ (put_alike _ _ rest (value v.type n ∷ vs') (value w.type m ∷ ws') (with_local_alike x (value v.type n) (value w.type m) q) (ap₂ (λ (v : Value) (l : List Value). v ∷ l) q e')))))
  leaf_alike (GlobalGet x) vs ws e = same_alike (slice_get fn.part.globals x) _ _ (λ i. given_alike seen_global (slice_get s.globals i) (slice_get t.globals i) _ _ (looks_alike seen_global s.globals t.globals i (ap (λ (x : Storage). x.globals) es)) (λ g j eg.
      quiet_alike _ _ (goes_on (g.value ∷ vs) (j.value ∷ ws) (ap₂ (λ (v : Value) (l : List Value). v ∷ l) (ap (λ (x : Global). x.value) eg) e))))
  leaf_alike (GlobalSet x) vs ws e = same_alike (slice_get fn.part.globals x) _ _ (λ i. given_alike seen_global (slice_get s.globals i) (slice_get t.globals i) _ _ (looks_alike seen_global s.globals t.globals i (ap (λ (x : Storage). x.globals) es)) (λ g j eg.
      provided_alike g.mutable j.mutable _ _ (ap (λ (x : Global). x.mutable) eg) (λ _. pop_alike g.value.type j.value.type vs ws _ _ (ap (λ (x : Global). x.value.type) eg) e (λ n m vs' ws' en e'.
      quiet_alike _ _ (ap₂ Goes (with_number_alike s t es i g j n m eg en) (put_alike h k rest vs' ws' p e'))))))
  leaf_alike (Load w l n signed align offset) vs ws e = memory_alike _ _ (λ i m q em.
      let la : m.type.tag ≡ q.type.tag = ap (λ (x : Memory). x.type.tag) em in
      provided_alike (same_label l m.type.tag) (same_label l q.type.tag) _ _ (ap (same_label l) la) (λ b. pop_public_alike W32 vs ws _ _ e (λ at vs' ws' e'.
      let place = at + offset in
      noted _ _ _ (cond_seen (nat_le (place + n) (length m.bytes)) (nat_le (place + n) (length q.bytes)) _ _ _ _ (ap (nat_le (place + n)) (same_length m q em))
      (pushes (value_type w l) (number_at w signed n place m.bytes) (number_at w signed n place q.bytes) vs' ws' (read_alike l (number_at w signed n place) m.bytes q.bytes (same_bytes l m q (same_label_is l m.type.tag b) em)) e')
      refl))))
  leaf_alike (Store w l n align offset) vs ws e = memory_alike _ _ (λ i m q em.
      let la : m.type.tag ≡ q.type.tag = ap (λ (x : Memory). x.type.tag) em in
      provided_alike (same_label l m.type.tag) (same_label l q.type.tag) _ _ (ap (same_label l) la) (λ b. pop_alike (value_type w l) (value_type w l) vs ws _ _ refl e (λ x y vs1 ws1 ex e1. pop_public_alike W32 vs1 ws1 _ _ e1 (λ at vs' ws' e'.
      let place = at + offset in
      let lm : l ≡ m.type.tag = same_label_is l m.type.tag b in
      let bs : seen_bytes l (written_at place (bytes_of_number n x) m.bytes) ≡ seen_bytes l (written_at place (bytes_of_number n y) q.bytes) = written_alike l place n x y m.bytes q.bytes (same_length m q em) (same_bytes l m q lm em) ex in
      noted _ _ _ (cond_seen (nat_le (place + n) (length m.bytes)) (nat_le (place + n) (length q.bytes)) _ _ _ _ (ap (nat_le (place + n)) (same_length m q em))
      (ap₂ Goes (with_bytes_alike s t es i m q (written_at place (bytes_of_number n x) m.bytes) (written_at place (bytes_of_number n y) q.bytes) em (subst (λ (l : Label). seen_bytes l (written_at place (bytes_of_number n x) m.bytes) ≡ seen_bytes l (written_at place (bytes_of_number n y) q.bytes)) lm bs)) (put_alike h k rest vs' ws' p e'))
      refl)))))
  leaf_alike MemorySize vs ws e = memory_alike _ _ (λ i m q em. quiet_alike _ _ (pushes i32 (pages m) (pages q) vs ws (ap (λ n. n / page_size) (same_length m q em)) e))
  leaf_alike MemoryGrow vs ws e = memory_alike _ _ (λ i m q em. pop_public_alike W32 vs ws _ _ e (λ n vs' ws' e'.
      let ms : map seen_memory s.memories ≡ map seen_memory t.memories = ap (λ (x : Storage). x.memories) es in
      noted _ _ _ (cond_seen (may_grow s m n) (may_grow t q n) _ _ _ _ (may_grow_alike s t m q n ms em)
      (ap₂ Goes (with_bytes_alike s t es i m q (grown m n) (grown q n) em (grown_alike m.type.tag (page_size * n) m.bytes q.bytes (same_length m q em) (same_bytes m.type.tag m q refl em)))
      (put_alike h k rest (value i32 (pages m) ∷ vs') (value i32 (pages q) ∷ ws') p (pushed i32 (pages m) (pages q) vs' ws' (ap (λ n. n / page_size) (same_length m q em)) e')))
      (pushes i32 4294967295 4294967295 vs' ws' refl e'))))
  leaf_alike (Const w l n) vs ws e = quiet_alike _ _ (pushes (value_type w l) n n vs ws refl e)
  leaf_alike (Numeric op l) vs ws e = named_alike (num_sig_of op) _ _ (λ sig es. numeric_alike fn.part.profile op l sig es sig.arity vs ws e)
  leaf_alike (Classify w) vs ws e = pop_alike (value_type w Public) (value_type w Public) vs ws _ _ refl e (λ n m vs' ws' en e'.
      record { releases = refl; answer = λ _. pushes (value_type w Secret) n m vs' ws' refl e'; cost = refl; event = refl })
  leaf_alike (Declassify w) vs ws e = pop_alike (value_type w Secret) (value_type w Secret) vs ws _ _ refl e (λ n m vs' ws' en e'.
      record { releases = refl; answer = λ r. let q : n ≡ m = cc in pushes (value_type w Public) n m vs' ws' q e'; cost = refl; event = refl })

  choose_alike : (u : Option (ValueType Label)) (arm other : Code Label) (vs ws : List Value) → map seen_value vs ≡ map seen_value ws → Alike (choose s h rest u arm other vs) (choose t k rest u arm other ws)
  choose_alike u arm other vs ws e = pop_public_alike W32 vs ws _ _ e (λ n vs' ws' e'.
      noting_alike _ _ _ _ refl (goes_alike s t es _ _ (enter_alike h k rest p u None (cond (n == 0) other arm) vs' ws' e')))

module _ (fns : Functions) (fn : FunctionInstance) (s t : Storage) (es : seen_storage s ≡ seen_storage t) (h k : Here) (p : Places h k) where
  next_alike : (c : Code Label) (vs ws : List Value) → map seen_value vs ≡ map seen_value ws → Alike (next fns fn s h c vs) (next fns fn t k c ws)
  next_alike Stop vs ws e = carry_alike h.result k.result vs ws _ _ p.result e (λ x y ex. quiet_alike _ _ (leave_alike s t es h k p x y h.outer k.outer ex p.outer))
  next_alike (Then i rest) vs ws e = leaf_alike fns fn s t es h k p rest i vs ws e
  next_alike (Block u body rest) vs ws e = quiet_alike _ _ (goes_alike s t es _ _ (enter_alike h k rest p u None body vs ws e))
  next_alike (Loop u body rest) vs ws e = quiet_alike _ _ (goes_alike s t es _ _ (enter_alike h k rest p u (Some body) body vs ws e))
  next_alike (If u arm rest) vs ws e = choose_alike fns fn s t es h k p rest u arm Stop vs ws e
  next_alike (IfElse u arm other rest) vs ws e = choose_alike fns fn s t es h k p rest u arm other vs ws e

-- ---- weight

length-seen : (vs : List Value) → length (map seen_value vs) ≡ length vs
length-seen [] = refl
length-seen (v ∷ vs) = ap suc (length-seen vs)

labels_weight_seen : (os : List Open) → labels_weight (map seen_open os) ≡ labels_weight os
labels_weight_seen [] = refl
labels_weight_seen (o ∷ []) = length-seen o.values
labels_weight_seen (o ∷ q ∷ os) = ap₂ (λ (n m : ℕ). n + 1 + m) (length-seen o.values) (labels_weight_seen (q ∷ os))

pub weight_seen : (a : Activation) → weight (seen a) ≡ weight a
weight_seen [] = refl
weight_seen (f ∷ fs) = let a = length-seen f.locals in let b = labels_weight_seen f.labels in let c = weight_seen fs in cc

within_alike : (x y : Answer) → seen_answer x ≡ seen_answer y → seen_answer (within_weight x) ≡ seen_answer (within_weight y)
within_alike (Goes s a) (Goes t b) e =
    let q : seen a ≡ seen b = cc in
    let w : weight a ≡ weight b = sym (weight_seen a) ∙ ap weight q ∙ weight_seen b in
    cond_seen (nat_le (weight a) most_weight) (nat_le (weight b) most_weight) _ _ _ _ (ap (λ n. nat_le n most_weight) w) e refl
within_alike (Ended v) (Ended w) e = e
within_alike (Trapped c) (Trapped d) e = e
within_alike Stuck Stuck e = refl
within_alike x y e = cc

limited_alike : (r q : Reduced) → Alike r q → Alike (limited r) (limited q)
limited_alike r q a = record { releases = a.releases; cost = a.cost; event = a.event; answer = λ e. within_alike r.answer q.answer (a.answer e) }

-- ---- one reduction

in_frame_alike : (fns : Functions) (s t : Storage) (es : seen_storage s ≡ seen_storage t) (f g : Frame) (ls ms : List Open) (fs gs : List Frame) → seen_frame f ≡ seen_frame g → map seen_open ls ≡ map seen_open ms → map seen_frame fs ≡ map seen_frame gs → Alike (in_frame fns s f ls fs) (in_frame fns t g ms gs)
in_frame_alike fns s t es f g [] [] fs gs ef el efs = stuck_alike
in_frame_alike fns s t es f g (o ∷ ls) (q ∷ ms) fs gs ef el efs =
    let eo : seen_open o ≡ seen_open q = cc in
    let els : map seen_open ls ≡ map seen_open ms = cc in
    let en : f.func ≡ g.func = ap (λ (f : Frame). f.func) ef in
    let ec : o.code ≡ q.code = ap (λ (o : Open). o.code) eo in
    let ev : map seen_value o.values ≡ map seen_value q.values = ap (λ (o : Open). o.values) eo in
    equal_alike (slice_get fns f.func) (slice_get fns g.func) _ _ (ap (slice_get fns) en) (λ fn.
    limited_alike _ _ (subst (λ c. Alike (next fns fn s (here f o ls fs) o.code o.values) (next fns fn t (here g q ms gs) c q.values)) ec
    (next_alike fns fn s t es (here f o ls fs) (here g q ms gs)
    (record { func = en; locals = ap (λ (f : Frame). f.locals) ef; result = ap (λ (o : Open). o.result) eo; again = ap (λ (o : Open). o.again) eo; outer = els; callers = efs })
    o.code o.values q.values ev)))
in_frame_alike fns s t es f g [] (q ∷ ms) fs gs ef el efs = cc
in_frame_alike fns s t es f g (o ∷ ls) [] fs gs ef el efs = cc

pub red_alike : (fns : Functions) (s t : Storage) (a b : Activation) → Agree s a t b → Alike (red fns s a) (red fns t b)
red_alike fns s t [] [] e = stuck_alike
red_alike fns s t (f ∷ fs) (g ∷ gs) e =
    let e1 = e.1 in
    let ef : seen_frame f ≡ seen_frame g = cc in
    in_frame_alike fns s t e.0 f g f.labels g.labels fs gs ef (ap (λ (f : Frame). f.labels) ef) (cc)
red_alike fns s t [] (g ∷ gs) e = let e1 = e.1 in cc
red_alike fns s t (f ∷ fs) [] e = let e1 = e.1 in cc
