-- The step of one instruction is exact for its row.
use Rattle.std.proofs.Common.{◌≡◌, ◌≤◌, ◌^◌, ℕ, Bool, true, false, not, List, [], ◌∷◌, ◌++◌, Option, Some, None, refl, sym, ◌∙◌, ap, subst}
use Rattle.std.specs.Prelude.{◌↔◌, ◌<◌, ◌||◌, slice_get, All, nat_le, nat_lt}
use Rattle.std.proofs.lemmas.List.Elements.{All-nil, All-cons, All-head, All-tail}
use Rattle.std.proofs.lemmas.Bool.{leb-true, le-leb, ltb-true, lt-ltb}
use Rattle.ctw_ops.specs.declared.types.Width.TheVariants.{W32}
use Rattle.ctw_ops.specs.declared.types.Trust.{Trust}
use Rattle.ctw_ops.specs.declared.types.Trust.TheVariants.{Untrusted, Trusted}
use Rattle.ctw_ops.specs.Types.{ValueType, FunctionType, FitsWidth, value_type, bit_width}
use Rattle.ctw_ops.specs.Forms.{is_load, is_store}
use Rattle.ctw_ops.specs.Numeric.{num_sig_of, leaks}
use Rattle.ctw_ops.specs.Code.{Leaf, Unreachable, Nop, Br, BrIf, BrTable, Return, Call, CallIndirect, Drop, Select, LocalGet, LocalSet, LocalTee, GlobalGet, GlobalSet, Load, Store, MemorySize, MemoryGrow, Const, Numeric, Classify, Declassify}
use Rattle.ctw_ops.specs.Typing.{Context, Moves, Leaves, MayCall, Row, optional, i32, operands}
use Rattle.ctw_ops.specs.Segments.{and_then}
use Rattle.ctw_stack.specs.Operands.{Operands, Denotes}
use Rattle.ctw_stack.specs.Steps.{IsExactTest, when, may_call, is_trusted, same_type, same_result, is_label, are_labels, is_tag, step, dropped, chosen, moved, left_by, expect}
use Rattle.ctw_stack.proofs.Exact.{Exact, Seq, exact_iff, exact_and_then, exact_when, exact_look, exact_look_when, exact_when_three}
use Rattle.ctw_stack.proofs.OperandLaws.{same_width_iff, and_iff, true_iff, false_true, Takes, exact_expect, exact_moved, exact_dead, exact_left, exact_dropped, Chooses, exact_chosen}

pub may_call_iff : (x y : Trust) → (may_call x y ≡ true) ↔ MayCall x y
may_call_iff Untrusted Trusted = ((λ e. false_true e), (λ m. absurd m))
may_call_iff Untrusted Untrusted = true_iff tt
may_call_iff Trusted Trusted = true_iff tt
may_call_iff Trusted Untrusted = true_iff tt

pub is_trusted_iff : (x : Trust) → (is_trusted x ≡ true) ↔ (x ≡ Trusted)
is_trusted_iff Trusted = true_iff refl
is_trusted_iff Untrusted = ((λ e. cc), (λ e. cc))

pub implies_iff : (x y : Bool) (P : Type 0) → ((y ≡ true) ↔ P) → ((not x || y) ≡ true) ↔ (x ≡ true → P)
implies_iff false y P f = ((λ e q. false_true q), (λ g. refl))
implies_iff true y P f = ((λ e q. f.0 e), (λ g. f.1 (g refl)))

pub nat_le_iff : (m n : ℕ) → (nat_le m n ≡ true) ↔ (m ≤ n)
nat_le_iff m n = (leb-true m n, le-leb m n)

pub nat_lt_iff : (m n : ℕ) → (nat_lt m n ≡ true) ↔ (m < n)
nat_lt_iff m n = (ltb-true m n, lt-ltb m n)

pub itself_iff : (b : Bool) → (b ≡ true) ↔ (b ≡ true)
itself_iff b = ((λ e. e), (λ e. e))

module _ {S : Type 0} (same : S → S → Bool) (eq : IsExactTest same) where
  same_type_iff : (t u : ValueType S) → (same_type same t u ≡ true) ↔ (t ≡ u)
  same_type_iff t u =
      let f = and_iff _ _ _ _ (same_width_iff t.width u.width) (eq t.tag u.tag) in
      ((λ e i. record { width = (f.0 e).0 i; tag = (f.0 e).1 i }), (λ e. f.1 (ap (λ z. z.width) e, ap (λ z. z.tag) e)))

  same_result_iff : (t u : Option (ValueType S)) → (same_result same t u ≡ true) ↔ (t ≡ u)
  same_result_iff None None = true_iff refl
  same_result_iff (Some t) (Some u) = let f = same_type_iff t u in ((λ e. ap Some (f.0 e)), (λ e. f.1 (inner e)))
    where
      inner : Some t ≡ Some u → t ≡ u
      inner e = cc
  same_result_iff None (Some u) = ((λ e. cc), (λ e. cc))
  same_result_iff (Some t) None = ((λ e. cc), (λ e. cc))

  is_label_iff : (t : Option (ValueType S)) (o : Option (Option (ValueType S))) → (is_label same t o ≡ true) ↔ (o ≡ Some t)
  is_label_iff t None = ((λ e. cc), (λ e. cc))
  is_label_iff t (Some u) = let f = same_result_iff u t in ((λ e. ap Some (f.0 e)), (λ e. f.1 (inner e)))
    where
      inner : Some u ≡ Some t → u ≡ t
      inner e = cc

  are_labels_iff : (C : Context S) (t : Option (ValueType S)) (ks : List ℕ) → (are_labels same C t ks ≡ true) ↔ All (λ k. slice_get C.labels k ≡ Some t) ks
  are_labels_iff C t [] = true_iff (All-nil (λ k. slice_get C.labels k ≡ Some t))
  are_labels_iff C t (k ∷ ks) =
      let P : ℕ → Type 0 = λ j. slice_get C.labels j ≡ Some t in
      let f = is_label_iff t (slice_get C.labels k) in
      let g = are_labels_iff C t ks in
      let both = and_iff (is_label same t (slice_get C.labels k)) (are_labels same C t ks) (P k) (All P ks) f g in
      ((λ e. All-cons P k ks (both.0 e).0 (both.0 e).1), (λ h. both.1 (All-head P k ks h, All-tail P k ks h)))

  has_memory_iff : (C : Context S) (l : S) → (is_tag same l C.memory ≡ true) ↔ (C.memory ≡ Some l)
  has_memory_iff C l = by_memory C.memory
    where
      inner : {m : S} → Some m ≡ Some l → m ≡ l
      inner e = cc

      by_memory : (o : Option S) → (is_tag same l o ≡ true) ↔ (o ≡ Some l)
      by_memory None = ((λ e. cc), (λ e. cc))
      by_memory (Some m) = ((λ e. ap Some ((eq m l).0 e)), (λ e. (eq m l).1 (inner e)))

  pub step_law : (C : Context S) (i : Leaf S) (s : Operands S) → Exact s (step same C i s) (Row C i)
  step_law C Unreachable s = exact_dead same eq C.public s
  step_law C Nop s = λ b. ((λ d. (b, d, refl)), (λ i. subst (Denotes s) i.2 i.1))
  step_law C (Br k) s = exact_look s (slice_get C.labels k) (λ t. left_by same (optional t) s) (λ t. Leaves (optional t)) (λ t. exact_left same eq C.public (optional t) s)
  step_law C (BrIf k) s = exact_look s (slice_get C.labels k) (λ t. moved same (optional t ++ i32 C ∷ []) (optional t) s) (λ t. Moves (optional t ++ i32 C ∷ []) (optional t)) (λ t. exact_moved same eq (optional t ++ i32 C ∷ []) (optional t) s)
  step_law C (BrTable ts d) s =
      exact_look_when s (slice_get C.labels d) (λ t. are_labels same C t ts) (λ t. left_by same (optional t ++ i32 C ∷ []) s)
      (λ t. All (λ k. slice_get C.labels k ≡ Some t) ts) (λ t. Leaves (optional t ++ i32 C ∷ []))
      (λ t. are_labels_iff C t ts) (λ t. exact_left same eq C.public (optional t ++ i32 C ∷ []) s)
  step_law C Return s = exact_left same eq C.public (optional C.result) s
  step_law C (Call f) s =
      exact_look_when s (slice_get C.functions f) (λ g. may_call C.trust g.trust) (λ g. moved same g.params (optional g.result) s)
      (λ g. MayCall C.trust g.trust) (λ g. Moves g.params (optional g.result))
      (λ g. may_call_iff C.trust g.trust) (λ g. exact_moved same eq g.params (optional g.result) s)
  step_law C (CallIndirect y) s =
      exact_iff s (step same C (CallIndirect y) s) (λ a b. (C.table ≡ true) × ((g : FunctionType S) × (slice_get C.types y ≡ Some g) × MayCall C.trust g.trust × Moves (g.params ++ i32 C ∷ []) (optional g.result) a b)) (Row C (CallIndirect y))
      (λ a b. ((λ i. (i.0, i.1.0, i.1.1, i.1.2, i.1.3)), (λ i. (i.0, (i.1, i.2, i.3, i.4)))))
      (exact_when s C.table (C.table ≡ true) (and_then (slice_get C.types y) (λ g. when (may_call C.trust g.trust) (moved same (g.params ++ i32 C ∷ []) (optional g.result) s)))
      (λ a b. (g : FunctionType S) × (slice_get C.types y ≡ Some g) × MayCall C.trust g.trust × Moves (g.params ++ i32 C ∷ []) (optional g.result) a b)
      (itself_iff C.table)
      (exact_look_when s (slice_get C.types y) (λ g. may_call C.trust g.trust) (λ g. moved same (g.params ++ i32 C ∷ []) (optional g.result) s)
      (λ g. MayCall C.trust g.trust) (λ g. Moves (g.params ++ i32 C ∷ []) (optional g.result))
      (λ g. may_call_iff C.trust g.trust) (λ g. exact_moved same eq (g.params ++ i32 C ∷ []) (optional g.result) s)))
  step_law C Drop s =
      exact_iff s (dropped s) (λ a b. (t : ValueType S) × Takes same eq t a b) (Row C Drop)
      (λ a b. ((λ i. (i.0, (b, i.1, refl))), (λ i. (i.0, i.1.1 ∙ ap (λ z. i.0 ∷ z) (sym i.1.2)))))
      (exact_dropped same eq C.public s)
  step_law C (Select l) s =
      exact_iff s (step same C (Select l) s) (Seq (Takes same eq (value_type W32 l)) (Chooses same eq l)) (Row C (Select l))
      (λ a b. ((λ i. (i.2.0, (i.2.1, i.1 ∙ ap (λ z. value_type W32 l ∷ z) i.2.2, i.2.3))), (λ i. (value_type i.0 l ∷ value_type i.0 l ∷ i.1.0, i.1.1, (i.0, i.1.0, refl, i.1.2)))))
      (exact_and_then s (expect same (value_type W32 l) s) (chosen same l) (Takes same eq (value_type W32 l)) (Chooses same eq l) (exact_expect same eq (value_type W32 l) s) (exact_chosen same eq l))
  step_law C (LocalGet x) s = exact_look s (slice_get C.locals x) (λ t. moved same [] (t ∷ []) s) (λ t. Moves [] (t ∷ [])) (λ t. exact_moved same eq [] (t ∷ []) s)
  step_law C (LocalSet x) s = exact_look s (slice_get C.locals x) (λ t. moved same (t ∷ []) [] s) (λ t. Moves (t ∷ []) []) (λ t. exact_moved same eq (t ∷ []) [] s)
  step_law C (LocalTee x) s = exact_look s (slice_get C.locals x) (λ t. moved same (t ∷ []) (t ∷ []) s) (λ t. Moves (t ∷ []) (t ∷ [])) (λ t. exact_moved same eq (t ∷ []) (t ∷ []) s)
  step_law C (GlobalGet x) s = exact_look s (slice_get C.globals x) (λ g. moved same [] (g.value ∷ []) s) (λ g. Moves [] (g.value ∷ [])) (λ g. exact_moved same eq [] (g.value ∷ []) s)
  step_law C (GlobalSet x) s =
      exact_look_when s (slice_get C.globals x) (λ g. g.mutable) (λ g. moved same (g.value ∷ []) [] s) (λ g. g.mutable ≡ true) (λ g. Moves (g.value ∷ []) [])
      (λ g. itself_iff g.mutable) (λ g. exact_moved same eq (g.value ∷ []) [] s)
  step_law C (Load w l n b al off) s =
      exact_when_three s (is_load w n b) (is_tag same l C.memory) (nat_le (2 ^ al) n) (is_load w n b ≡ true) (C.memory ≡ Some l) (2 ^ al ≤ n) (moved same (i32 C ∷ []) (value_type w l ∷ []) s) (Moves (i32 C ∷ []) (value_type w l ∷ []))
      (itself_iff (is_load w n b)) (has_memory_iff C l) (nat_le_iff (2 ^ al) n) (exact_moved same eq (i32 C ∷ []) (value_type w l ∷ []) s)
  step_law C (Store w l n al off) s =
      exact_when_three s (is_store w n) (is_tag same l C.memory) (nat_le (2 ^ al) n) (is_store w n ≡ true) (C.memory ≡ Some l) (2 ^ al ≤ n) (moved same (i32 C ∷ value_type w l ∷ []) [] s) (Moves (i32 C ∷ value_type w l ∷ []) [])
      (itself_iff (is_store w n)) (has_memory_iff C l) (nat_le_iff (2 ^ al) n) (exact_moved same eq (i32 C ∷ value_type w l ∷ []) [] s)
  step_law C MemorySize s = exact_look s C.memory (λ l. moved same [] (i32 C ∷ []) s) (λ l. Moves [] (i32 C ∷ [])) (λ l. exact_moved same eq [] (i32 C ∷ []) s)
  step_law C MemoryGrow s = exact_look s C.memory (λ l. moved same (i32 C ∷ []) (i32 C ∷ []) s) (λ l. Moves (i32 C ∷ []) (i32 C ∷ [])) (λ l. exact_moved same eq (i32 C ∷ []) (i32 C ∷ []) s)
  step_law C (Const w l n) s =
      exact_when s (nat_lt n (2 ^ bit_width w)) (FitsWidth w n) (moved same [] (value_type w l ∷ []) s) (Moves [] (value_type w l ∷ []))
      (nat_lt_iff n (2 ^ bit_width w)) (exact_moved same eq [] (value_type w l ∷ []) s)
  step_law C (Numeric op l) s =
      exact_look_when s (num_sig_of op) (λ sig. not (leaks op C.profile) || same l C.public) (λ sig. moved same (operands sig l) (value_type sig.result l ∷ []) s)
      (λ sig. leaks op C.profile ≡ true → l ≡ C.public) (λ sig. Moves (operands sig l) (value_type sig.result l ∷ []))
      (λ sig. implies_iff (leaks op C.profile) (same l C.public) (l ≡ C.public) (eq l C.public)) (λ sig. exact_moved same eq (operands sig l) (value_type sig.result l ∷ []) s)
  step_law C (Classify w) s = exact_moved same eq (value_type w C.public ∷ []) (value_type w C.secret ∷ []) s
  step_law C (Declassify w) s =
      exact_when s (is_trusted C.trust) (C.trust ≡ Trusted) (moved same (value_type w C.secret ∷ []) (value_type w C.public ∷ []) s) (Moves (value_type w C.secret ∷ []) (value_type w C.public ∷ []))
      (is_trusted_iff C.trust) (exact_moved same eq (value_type w C.secret ∷ []) (value_type w C.public ∷ []) s)
