-- What an instruction does where it passes is what its row says.
use Rattle.std.proofs.Common.{◌≡◌, ℕ, ◌+◌, ◌^◌, Bool, true, false, List, [], ◌∷◌, ◌++◌, length, Option, Some, None, refl, sym, ◌∙◌, ap, subst, arith, length-append}
use Rattle.std.specs.Prelude.{unwrap_or, option_map, is_some, IsSome, slice_get, nat_le, nat_lt, not, ◌||◌}
use Rattle.std.proofs.lemmas.List.{length-replicate}
use Rattle.ctw_ops.specs.Types.{ValueType, FunctionType, VariableType, value_type, bit_width}
use Rattle.ctw_ops.specs.Forms.{is_load, is_store}
use Rattle.ctw_ops.specs.declared.numeric.NumSig.{NumSig}
use Rattle.ctw_ops.specs.Numeric.{num_sig_of, leaks}
use Rattle.ctw_ops.specs.Code.{Leaf, Unreachable, Nop, Br, BrIf, BrTable, Return, Call, CallIndirect, Drop, Select, LocalGet, LocalSet, LocalTee, GlobalGet, GlobalSet, Load, Store, MemorySize, MemoryGrow, Const, Numeric, Classify, Declassify}
use Rattle.ctw_ops.specs.Typing.{Context, optional, i32, operands}
use Rattle.ctw_ops.specs.Segments.{and_then}
use Rattle.ctw_stack.specs.Operands.{Operands, Popped, killed, pop}
use Rattle.ctw_stack.specs.Steps.{when, may_call, is_trusted, pushes, fits, expect, expects, moved, left_by, are_labels, is_tag, dropped}
use Rattle.ctw_labels.specs.declared.tag.Tag.{Tag}
use Rattle.ctw_labels.specs.declared.tag.Tag.TheVariants.{At, Fixed}
use Rattle.ctw_labels.specs.declared.name.SiteName.TheVariants.{Push as PushOf}
use Rattle.ctw_labels.specs.Names.{Site}
use Rattle.ctw_labels.specs.Sited.{yes}
use Rattle.ctw_labels.specs.Numbering.{BodyPlace, type_from, named_in, result_from, own_sites, has_push, push_if, lift_of, after_lift, stepped}
use Rattle.ctw_sites.specs.Rows.{rest_of, rests, Row, ending, takes_alone, gives_of, is_select, branch_row, call_row, numeric_row, row, done, push_by}

-- ---- what passes takes so many operands

some_fits : (c : Bool) (p r : Operands Tag) → when c (Some p) ≡ Some r → p ≡ r
some_fits true p r e = cc
some_fits false p r e = cc

pub expect_rest : (t : ValueType Tag) (o m : Operands Tag) → expect yes t o ≡ Some m → rest_of o ≡ m
expect_rest t o m e = by_pop (pop o) e
  where
    by_pop : (x : Option (Popped Tag)) → and_then x (λ p. when (fits yes p.slot t) (Some p.rest)) ≡ Some m → unwrap_or (option_map (λ p. p.rest) x) o ≡ m
    by_pop None e = cc
    by_pop (Some p) e = some_fits (fits yes p.slot t) p.rest m e

some_rest : (t : ValueType Tag) (q m : Operands Tag) (x : Option (Operands Tag)) → ((k : Operands Tag) → x ≡ Some k → q ≡ k) → and_then x (expect yes t) ≡ Some m → rest_of q ≡ m
some_rest t q m None h e = cc
some_rest t q m (Some k) h e = ap rest_of (h k refl) ∙ expect_rest t k m e

pub expects_rests : (ts : List (ValueType Tag)) (o m : Operands Tag) → expects yes ts o ≡ Some m → rests (length ts) o ≡ m
expects_rests [] o m e = cc
expects_rests (t ∷ ts) o m e = some_rest t (rests (length ts) o) m (expects yes ts o) (λ k q. expects_rests ts o k q) e

pub moved_is : (takes gives : List (ValueType Tag)) (o : Operands Tag) → IsSome (moved yes takes gives o) → moved yes takes gives o ≡ Some (pushes gives (rests (length takes) o))
moved_is takes gives o e = by_expects (expects yes takes o) refl e
  where
    by_expects : (x : Option (Operands Tag)) → expects yes takes o ≡ x → IsSome (and_then x (λ rest. Some (pushes gives rest))) → and_then x (λ rest. Some (pushes gives rest)) ≡ Some (pushes gives (rests (length takes) o))
    by_expects None q e = cc
    by_expects (Some k) q e = ap (λ z. Some (pushes gives z)) (sym (expects_rests takes o k q))

left_is : (takes : List (ValueType Tag)) (o : Operands Tag) → IsSome (left_by yes takes o) → left_by yes takes o ≡ Some killed
left_is takes o e = by_expects (expects yes takes o) e
  where
    by_expects : (x : Option (Operands Tag)) → IsSome (and_then x (λ (rest : Operands Tag). Some (killed {S = Tag}))) → and_then x (λ (rest : Operands Tag). Some (killed {S = Tag})) ≡ Some killed
    by_expects None e = cc
    by_expects (Some k) e = refl

when_is : (c : Bool) (x : Option (Operands Tag)) → IsSome (when c x) → (when c x ≡ x) × IsSome x
when_is true x e = (refl, e)
when_is false x e = cc

-- ---- by row

module _ {A : Type 0} (P : BodyPlace A) (C : Context Tag) (n at : ℕ) (o : Operands Tag) where
  -- the operands behind a leaf, by what the pass makes of it
  abbrev behind : Bool → ℕ → Option (Operands Tag) → Operands Tag
  behind lifts p s = after_lift (lift_of lifts (P.free at) p s) s

  abbrev pushed : Bool → ℕ → Option (Operands Tag) → List Site
  pushed lifts p s = push_if (PushOf P.func at) (lift_of lifts (P.free at) p s)

  -- the row is right where it says what is behind it, and what is pushed
  abbrev IsRight : Bool → ℕ → Option (Operands Tag) → Row → Type 0
  IsRight lifts p s r = (behind lifts p s ≡ done p r o) × (pushed lifts p s ≡ push_by (PushOf P.func at) r)

  right : (lifts : Bool) (p : ℕ) (s : Option (Operands Tag)) (m : Operands Tag) (r : Row) → s ≡ Some m → (behind lifts p (Some m) ≡ done p r o) → (pushed lifts p (Some m) ≡ push_by (PushOf P.func at) r) → IsRight lifts p s r
  right lifts p s m r e f g = (ap (behind lifts p) e ∙ f, ap (pushed lifts p) e ∙ g)

  -- a lookup that finds nothing, or a test that fails, doesn't pass
  when_right : (lifts : Bool) (p : ℕ) (c : Bool) (s : Option (Operands Tag)) (r : Row) → (IsSome s → IsRight lifts p s r) → IsSome (when c s) → IsRight lifts p (when c s) r
  when_right lifts p true s r h e = h e
  when_right lifts p false s r h e = cc

  found_right : {X : Type 0} (lifts : Bool) (p : ℕ) (x : Option X) (f : X → Option (Operands Tag)) (r : Row) → ((y : X) → x ≡ Some y → IsSome (f y) → IsRight lifts p (f y) r) → IsSome (and_then x f) → IsRight lifts p (and_then x f) r
  found_right lifts p None f r h e = cc
  found_right lifts p (Some y) f r h e = h y refl e

  -- takes and gives without a site of its own
  kept_right : (p : ℕ) (takes : List (ValueType Tag)) (k : ℕ) (t : Option (ValueType Tag)) → length takes ≡ k → IsSome (moved yes takes (optional t) o)
      → IsRight false p (moved yes takes (optional t) o) (record { takes = k; ends = false; gives = t; lifts = false })
  kept_right p takes k t q e = right false p (moved yes takes (optional t) o) (pushes (optional t) (rests (length takes) o)) (record { takes = k; ends = false; gives = t; lifts = false }) (moved_is takes (optional t) o e) (ap (λ z. pushes (optional t) (rests z o)) q) refl

  -- with one, where it gives something
  given_right : (b : Bool) (p : ℕ) (takes : List (ValueType Tag)) (k : ℕ) (t : Option (ValueType Tag)) → b ≡ is_some t → length takes ≡ k → IsSome (moved yes takes (optional t) o)
      → IsRight b p (moved yes takes (optional t) o) (gives_of k t)
  given_right b p takes k None w q e = subst (λ z. IsRight z p (moved yes takes [] o) (gives_of k None)) (sym w) (right false p (moved yes takes [] o) (rests (length takes) o) (gives_of k None) (moved_is takes [] o e) (ap (λ z. rests z o) q) refl)
  given_right b p takes k (Some t) w q e = subst (λ z. IsRight z p (moved yes takes (t ∷ []) o) (gives_of k (Some t))) (sym w) (right true p (moved yes takes (t ∷ []) o) (pushes (t ∷ []) (rests (length takes) o)) (gives_of k (Some t)) (moved_is takes (t ∷ []) o e) (ap (λ z. pushes (value_type t.width (At p) ∷ []) (rests z o)) q) refl)

  left_right : (p : ℕ) (takes : List (ValueType Tag)) → IsSome (left_by yes takes o) → IsRight false p (left_by yes takes o) ending
  left_right p takes e = right false p (left_by yes takes o) killed ending (left_is takes o e) refl refl

  branch_if_right : (p : ℕ) (x : Option (Option (ValueType Tag))) → IsSome (and_then x (λ t. moved yes (optional t ++ i32 C ∷ []) (optional t) o))
      → IsRight (unwrap_or (option_map is_some x) false) p (and_then x (λ t. moved yes (optional t ++ i32 C ∷ []) (optional t) o)) (branch_row x)
  branch_if_right p None e = cc
  branch_if_right p (Some None) e = given_right false p (i32 C ∷ []) 1 None refl refl e
  branch_if_right p (Some (Some t)) e = given_right true p (t ∷ i32 C ∷ []) 2 (Some t) refl refl e

  call_right : (p : ℕ) (x : Option (FunctionType Tag)) → IsSome (and_then x (λ g. when (may_call C.trust g.trust) (moved yes g.params (optional g.result) o)))
      → IsRight (unwrap_or (option_map (λ g. is_some g.result) x) false) p (and_then x (λ g. when (may_call C.trust g.trust) (moved yes g.params (optional g.result) o))) (call_row 0 x)
  call_right p None e = cc
  call_right p (Some g) e = when_right (is_some g.result) p (may_call C.trust g.trust) (moved yes g.params (optional g.result) o) (call_row 0 (Some g)) (λ w. given_right (is_some g.result) p g.params (length g.params + 0) g.result refl (omega arith) w) e

  user_right : (b : Bool) (p : ℕ) (g : FunctionType Tag) → b ≡ is_some g.result → IsSome (when (may_call C.trust g.trust) (moved yes (g.params ++ i32 C ∷ []) (optional g.result) o))
      → IsRight b p (when (may_call C.trust g.trust) (moved yes (g.params ++ i32 C ∷ []) (optional g.result) o)) (call_row 1 (Some g))
  user_right b p g w e = when_right b p (may_call C.trust g.trust) (moved yes (g.params ++ i32 C ∷ []) (optional g.result) o) (call_row 1 (Some g))
      (λ h. given_right b p (g.params ++ i32 C ∷ []) (length g.params + 1) g.result w (length-append g.params (i32 C ∷ [])) h) e

  numeric_right : (p : ℕ) (c : Bool) (x : Option NumSig) → IsSome (and_then x (λ sig. when c (moved yes (operands sig (At n)) (value_type sig.result (At n) ∷ []) o)))
      → IsRight true p (and_then x (λ sig. when c (moved yes (operands sig (At n)) (value_type sig.result (At n) ∷ []) o))) (numeric_row n x)
  numeric_right p c None e = cc
  numeric_right p c (Some sig) e = when_right true p c (moved yes (operands sig (At n)) (value_type sig.result (At n) ∷ []) o) (numeric_row n (Some sig))
      (λ w. given_right true p (operands sig (At n)) sig.arity (Some (value_type sig.result (At n))) refl (length-replicate sig.arity (value_type sig.operand (At n))) w) e

  local_right : (p : ℕ) (x : Option (ValueType Tag)) → IsSome (and_then x (λ t. moved yes [] (t ∷ []) o)) → IsRight true p (and_then x (λ t. moved yes [] (t ∷ []) o)) (gives_of 0 x)
  local_right p None e = cc
  local_right p (Some t) e = given_right true p [] 0 (Some t) refl refl e

  tee_right : (p : ℕ) (x : Option (ValueType Tag)) → IsSome (and_then x (λ t. moved yes (t ∷ []) (t ∷ []) o)) → IsRight true p (and_then x (λ t. moved yes (t ∷ []) (t ∷ []) o)) (gives_of 1 x)
  tee_right p None e = cc
  tee_right p (Some t) e = given_right true p (t ∷ []) 1 (Some t) refl refl e

  global_right : (p : ℕ) (x : Option (VariableType Tag)) → IsSome (and_then x (λ g. moved yes [] (g.value ∷ []) o)) → IsRight true p (and_then x (λ g. moved yes [] (g.value ∷ []) o)) (gives_of 0 (option_map (λ g. g.value) x))
  global_right p None e = cc
  global_right p (Some g) e = given_right true p [] 0 (Some g.value) refl refl e

  dropped_is : (x : Option (Popped Tag)) → IsSome (and_then x (λ q. Some q.rest)) → and_then x (λ q. Some q.rest) ≡ Some (unwrap_or (option_map (λ q. q.rest) x) o)
  dropped_is None e = cc
  dropped_is (Some q) e = refl

  pub row_right : (i : Leaf A) → IsSome (stepped P C n i o) → is_select i ≡ false
      → IsRight (has_push P C i) (n + length (own_sites P at i)) (stepped P C n i o) (row P C n i)
  row_right Unreachable e q = (refl, refl)
  row_right Nop e q = (refl, refl)
  row_right (Br k) e q = found_right false (n + 0) (slice_get C.labels k) (λ t. left_by yes (optional t) o) ending (λ t w h. left_right (n + 0) (optional t) h) e
  row_right (BrIf k) e q = branch_if_right (n + 0) (slice_get C.labels k) e
  row_right (BrTable ks k) e q = found_right false (n + 0) (slice_get C.labels k) (λ t. when (are_labels yes C t ks) (left_by yes (optional t ++ i32 C ∷ []) o)) ending
      (λ t w h. when_right false (n + 0) (are_labels yes C t ks) (left_by yes (optional t ++ i32 C ∷ []) o) ending (left_right (n + 0) (optional t ++ i32 C ∷ [])) h) e
  row_right Return e q = left_right (n + 0) (optional C.result) e
  row_right (Call f) e q = call_right (n + 0) (slice_get C.functions f) e
  row_right (CallIndirect y) e q =
      let g : FunctionType Tag = type_from n (named_in P.types y) in
      let b : Bool = is_some (named_in P.types y).result in
      let p : ℕ = n + length (own_sites P at (CallIndirect y)) in
      when_right b p C.table (when (may_call C.trust g.trust) (moved yes (g.params ++ i32 C ∷ []) (optional g.result) o)) (call_row 1 (Some g)) (user_right b p g (same_some (named_in P.types y).result)) e
    where
      same_some : (t : Option (ValueType A)) → is_some t ≡ is_some (result_from (n + length (named_in P.types y).params) t)
      same_some None = refl
      same_some (Some t) = refl
  row_right Drop e q = right false (n + 0) (dropped o) (rest_of o) (takes_alone 1) (dropped_is (pop o) e) refl refl
  row_right (Select l) e q = cc
  row_right (LocalGet x) e q = local_right (n + 0) (slice_get C.locals x) e
  row_right (LocalSet x) e q = found_right false (n + 0) (slice_get C.locals x) (λ t. moved yes (t ∷ []) [] o) (takes_alone 1) (λ t w h. kept_right (n + 0) (t ∷ []) 1 None refl h) e
  row_right (LocalTee x) e q = tee_right (n + 0) (slice_get C.locals x) e
  row_right (GlobalGet x) e q = global_right (n + 0) (slice_get C.globals x) e
  row_right (GlobalSet x) e q = found_right false (n + 0) (slice_get C.globals x) (λ g. when g.mutable (moved yes (g.value ∷ []) [] o)) (takes_alone 1)
      (λ g w h. when_right false (n + 0) g.mutable (moved yes (g.value ∷ []) [] o) (takes_alone 1) (kept_right (n + 0) (g.value ∷ []) 1 None refl) h) e
  row_right (Load w l bytes signed align offset) e q =
      let k : Tag = unwrap_or C.memory Fixed in
      let t : ValueType Tag = value_type w k in
      let m : Option (Operands Tag) = moved yes (i32 C ∷ []) (t ∷ []) o in
      let r : Row = gives_of 1 (Some t) in
      when_right true (n + 0) (is_load w bytes signed) (when (is_tag yes k C.memory) (when (nat_le (2 ^ align) bytes) m)) r
      (when_right true (n + 0) (is_tag yes k C.memory) (when (nat_le (2 ^ align) bytes) m) r
      (when_right true (n + 0) (nat_le (2 ^ align) bytes) m r (given_right true (n + 0) (i32 C ∷ []) 1 (Some t) refl refl))) e
  row_right (Store w l bytes align offset) e q =
      let k : Tag = unwrap_or C.memory Fixed in
      let m : Option (Operands Tag) = moved yes (i32 C ∷ value_type w k ∷ []) [] o in
      when_right false (n + 0) (is_store w bytes) (when (is_tag yes k C.memory) (when (nat_le (2 ^ align) bytes) m)) (takes_alone 2)
      (when_right false (n + 0) (is_tag yes k C.memory) (when (nat_le (2 ^ align) bytes) m) (takes_alone 2)
      (when_right false (n + 0) (nat_le (2 ^ align) bytes) m (takes_alone 2) (kept_right (n + 0) (i32 C ∷ value_type w k ∷ []) 2 None refl))) e
  row_right MemorySize e q = found_right true (n + 0) C.memory (λ l. moved yes [] (i32 C ∷ []) o) (gives_of 0 (Some (i32 C))) (λ l w h. given_right true (n + 0) [] 0 (Some (i32 C)) refl refl h) e
  row_right MemoryGrow e q = found_right true (n + 0) C.memory (λ l. moved yes (i32 C ∷ []) (i32 C ∷ []) o) (gives_of 1 (Some (i32 C))) (λ l w h. given_right true (n + 0) (i32 C ∷ []) 1 (Some (i32 C)) refl refl h) e
  row_right (Const w l bits) e q = when_right false (n + 1) (nat_lt bits (2 ^ bit_width w)) (moved yes [] (value_type w (At n) ∷ []) o) (row P C n (Const w l bits)) (kept_right (n + 1) [] 0 (Some (value_type w (At n))) refl) e
  row_right (Numeric op l) e q = numeric_right (n + 1) (not (leaks op C.profile) || true) (num_sig_of op) e
  row_right (Classify w) e q = kept_right (n + 0) (value_type w C.public ∷ []) 1 (Some (value_type w C.secret)) refl e
  row_right (Declassify w) e q = when_right false (n + 0) (is_trusted C.trust) (moved yes (value_type w C.secret ∷ []) (value_type w C.public ∷ []) o) (row P C n (Declassify w)) (kept_right (n + 0) (value_type w C.secret ∷ []) 1 (Some (value_type w C.public)) refl) e
