-- A function on tags commutes with the pass over a tree, where the two tests of tags agree along it.
use Rattle.std.proofs.Common.{◌≡◌, ◌^◌, ℕ, zero, suc, Bool, true, false, not, List, [], ◌∷◌, ◌++◌, Option, Some, None, refl, sym, ◌∙◌, ap}
use Rattle.std.specs.Prelude.{◌&&◌, ◌||◌, nat_le, nat_lt, slice_get, option_map, map, replicate, is_some, is_none}
use Rattle.std.proofs.lemmas.Option.{slice_get-map}
use Rattle.std.proofs.lemmas.List.{map-append}
use Rattle.ctw_ops.specs.declared.types.Width.{Width}
use Rattle.ctw_ops.specs.declared.types.Width.TheVariants.{W32}
use Rattle.ctw_ops.specs.Types.{ValueType, FunctionType, value_type, bit_width}
use Rattle.ctw_ops.specs.Forms.{is_load, is_store}
use Rattle.ctw_ops.specs.Equal.{same_width}
use Rattle.ctw_ops.specs.declared.numeric.NumSig.{NumSig}
use Rattle.ctw_ops.specs.Numeric.{num_sig_of, leaks}
use Rattle.ctw_ops.specs.Code.{Code, Leaf, Unreachable, Nop, Br, BrIf, BrTable, Return, Call, CallIndirect, Drop, Select, LocalGet, LocalSet, LocalTee, GlobalGet, GlobalSet, Load, Store, MemorySize, MemoryGrow, Const, Numeric, Classify, Declassify}
use Rattle.ctw_ops.specs.Typing.{Context, optional, i32, operands}
use Rattle.ctw_ops.specs.Segments.{and_then}
use Rattle.ctw_stack.specs.declared.slot.Slot.{Slot}
use Rattle.ctw_stack.specs.declared.slot.Slot.TheVariants.{Known, Wide, Unknown}
use Rattle.ctw_stack.specs.Operands.{Operands, fresh, killed, pop}
use Rattle.ctw_stack.specs.Steps.{when, may_call, is_trusted, push_type, pushes, dropped, width_of, merged, fits, expect, expects, may_have, joined, chosen, moved, left_by, same_type, same_result, is_label, are_labels, is_tag, step}
use Rattle.ctw_stack.specs.Pass.{is_empty, emptied, ends_with}
use Rattle.ctw_stack.specs.Tags.{type_to, slot_to, operands_to, popped_to}
use Rattle.ctw_stack.proofs.TagLaws.{pop_tags}
use Rattle.ctw_stack.proofs.TreePass.{closes}
use Rattle.ctw_ops.specs.TagMaps.{function_type_to, variable_type_to, context_to, leaf_to, code_to}

-- code with another tag for each tag
abbrev pub tags_to : {S T : Type 0} → (S → T) → Code S → Code T
tags_to f = code_to f (λ leaf. leaf_to f leaf ∷ [])

and_then_to : {A A' B B' : Type 0} (g : A → A') (G : B → B') (o : Option A) (o' : Option A') (k : A → Option B) (k' : A' → Option B') → o' ≡ option_map g o → ((x : A) → k' (g x) ≡ option_map G (k x)) → and_then o' k' ≡ option_map G (and_then o k)
and_then_to g G None o' k k' e h = ap (λ z. and_then z k') e
and_then_to g G (Some x) o' k k' e h = ap (λ z. and_then z k') e ∙ h x

when_to : {B B' : Type 0} (G : B → B') (test test' : Bool) (r : Option B) (r' : Option B') → test' ≡ test → r' ≡ option_map G r → when test' r' ≡ option_map G (when test r)
when_to G false test' r r' e h = ap (λ z. when z r') e
when_to G true test' r r' e h = ap (λ z. when z r') e ∙ h

module _ {S T : Type 0} (f : S → T) (same : S → S → Bool) (like : T → T → Bool) (agree : (a b : S) → like (f a) (f b) ≡ same a b) where
  fits_to : (x : Slot S) (t : ValueType S) → fits like (slot_to f x) (type_to f t) ≡ fits same x t
  fits_to (Known w a) t = ap (λ z. same_width w t.width && z) (agree a t.tag)
  fits_to (Wide a) t = agree a t.tag
  fits_to Unknown t = refl

  pub expect_to : (t : ValueType S) (s : Operands S) → expect like (type_to f t) (operands_to f s) ≡ option_map (operands_to f) (expect same t s)
  expect_to t s =
      and_then_to (popped_to f) (operands_to f) (pop s) (pop (operands_to f s)) _ _ (pop_tags f s)
      (λ p. when_to (operands_to f) (fits same p.slot t) (fits like (slot_to f p.slot) (type_to f t)) (Some p.rest) (Some (operands_to f p.rest)) (fits_to p.slot t) refl)

  pops_to : (ts : List (ValueType S)) (s : Operands S) → expects like (map (type_to f) ts) (operands_to f s) ≡ option_map (operands_to f) (expects same ts s)
  pops_to [] s = refl
  pops_to (t ∷ ts) s = and_then_to (operands_to f) (operands_to f) (expects same ts s) (expects like (map (type_to f) ts) (operands_to f s)) (expect same t) (expect like (type_to f t)) (pops_to ts s) (expect_to t)

  dropped_to : (s : Operands S) → dropped (operands_to f s) ≡ option_map (operands_to f) (dropped s)
  dropped_to s = and_then_to (popped_to f) (operands_to f) (pop s) (pop (operands_to f s)) (λ p. Some p.rest) (λ p. Some p.rest) (pop_tags f s) (λ p. refl)

  is_tagged_to : (l : S) (x : Slot S) → may_have like (f l) (slot_to f x) ≡ may_have same l x
  is_tagged_to l (Known w a) = agree a l
  is_tagged_to l (Wide a) = agree a l
  is_tagged_to l Unknown = refl

  width_of_to : (x : Slot S) → width_of (slot_to f x) ≡ width_of x
  width_of_to (Known w a) = refl
  width_of_to (Wide a) = refl
  width_of_to Unknown = refl

  merged_to : (l : S) (p q : Option Width) → merged (f l) p q ≡ option_map (slot_to f) (merged l p q)
  merged_to l None None = refl
  merged_to l (Some w) None = refl
  merged_to l None (Some v) = refl
  merged_to l (Some w) (Some v) = when_to (slot_to f) (same_width w v) (same_width w v) (Some (Known w l)) (Some (Known w (f l))) refl refl

  joined_to : (l : S) (x y : Slot S) → joined like (f l) (slot_to f x) (slot_to f y) ≡ option_map (slot_to f) (joined same l x y)
  joined_to l x y =
      when_to (slot_to f) (may_have same l x && may_have same l y) (may_have like (f l) (slot_to f x) && may_have like (f l) (slot_to f y))
      (merged l (width_of x) (width_of y)) (merged (f l) (width_of (slot_to f x)) (width_of (slot_to f y)))
      (λ i. is_tagged_to l x i && is_tagged_to l y i)
      ((λ i. merged (f l) (width_of_to x i) (width_of_to y i)) ∙ merged_to l (width_of x) (width_of y))

  chosen_to : (l : S) (s : Operands S) → chosen like (f l) (operands_to f s) ≡ option_map (operands_to f) (chosen same l s)
  chosen_to l s =
      and_then_to (popped_to f) (operands_to f) (pop s) (pop (operands_to f s)) _ _ (pop_tags f s)
      (λ p. and_then_to (popped_to f) (operands_to f) (pop p.rest) (pop (operands_to f p.rest)) _ _ (pop_tags f p.rest)
      (λ q. and_then_to (slot_to f) (operands_to f) (joined same l p.slot q.slot) (joined like (f l) (slot_to f p.slot) (slot_to f q.slot)) _ _ (joined_to l p.slot q.slot) (λ x. refl)))

  pushes_to : (ts : List (ValueType S)) (s : Operands S) → pushes (map (type_to f) ts) (operands_to f s) ≡ operands_to f (pushes ts s)
  pushes_to [] s = refl
  pushes_to (t ∷ ts) s = pushes_to ts (push_type t s)

  moved_to : (takes gives : List (ValueType S)) (s : Operands S) → moved like (map (type_to f) takes) (map (type_to f) gives) (operands_to f s) ≡ option_map (operands_to f) (moved same takes gives s)
  moved_to takes gives s =
      and_then_to (operands_to f) (operands_to f) (expects same takes s) (expects like (map (type_to f) takes) (operands_to f s)) (λ m. Some (pushes gives m)) (λ m. Some (pushes (map (type_to f) gives) m))
      (pops_to takes s) (λ m. ap Some (pushes_to gives m))

  left_to : (takes : List (ValueType S)) (s : Operands S) → left_by like (map (type_to f) takes) (operands_to f s) ≡ option_map (operands_to f) (left_by same takes s)
  left_to takes s =
      and_then_to (operands_to f) (operands_to f) (expects same takes s) (expects like (map (type_to f) takes) (operands_to f s)) (λ m. Some killed) (λ m. Some killed) (pops_to takes s) (λ m. refl)

  pub optional_to : (t : Option (ValueType S)) → optional (option_map (type_to f) t) ≡ map (type_to f) (optional t)
  optional_to None = refl
  optional_to (Some t) = refl

  same_type_to : (t u : ValueType S) → same_type like (type_to f t) (type_to f u) ≡ same_type same t u
  same_type_to t u = ap (λ z. same_width t.width u.width && z) (agree t.tag u.tag)

  same_result_to : (t u : Option (ValueType S)) → same_result like (option_map (type_to f) t) (option_map (type_to f) u) ≡ same_result same t u
  same_result_to None None = refl
  same_result_to (Some t) (Some u) = same_type_to t u
  same_result_to None (Some u) = refl
  same_result_to (Some t) None = refl

  is_label_to : (t : Option (ValueType S)) (o : Option (Option (ValueType S))) → is_label like (option_map (type_to f) t) (option_map (option_map (type_to f)) o) ≡ is_label same t o
  is_label_to t None = refl
  is_label_to t (Some u) = same_result_to u t

  look_to : {A B : Type 0} (g : A → B) (xs : List A) (k : ℕ) → slice_get (map g xs) k ≡ option_map g (slice_get xs k)
  look_to g xs k = slice_get-map g xs k

  are_labels_to : (C : Context S) (t : Option (ValueType S)) (ks : List ℕ) → are_labels like (context_to f C) (option_map (type_to f) t) ks ≡ are_labels same C t ks
  are_labels_to C t [] = refl
  are_labels_to C t (k ∷ ks) =
      λ i. (ap (is_label like (option_map (type_to f) t)) (look_to (option_map (type_to f)) C.labels k) ∙ is_label_to t (slice_get C.labels k)) i && are_labels_to C t ks i

  is_tag_to : (l : S) (o : Option S) → is_tag like (f l) (option_map f o) ≡ is_tag same l o
  is_tag_to l None = refl
  is_tag_to l (Some m) = agree m l

  replicate_to : (n : ℕ) (t : ValueType S) → replicate n (type_to f t) ≡ map (type_to f) (replicate n t)
  replicate_to zero t = refl
  replicate_to (suc n) t = ap (λ ts. type_to f t ∷ ts) (replicate_to n t)

  operands_of_to : (sig : NumSig) (l : S) → operands sig (f l) ≡ map (type_to f) (operands sig l)
  operands_of_to sig l = replicate_to sig.arity (value_type sig.operand l)

  -- a row where what it takes and gives is carried along
  row_to : (takes gives : List (ValueType S)) (takes' gives' : List (ValueType T)) (s : Operands S) → takes' ≡ map (type_to f) takes → gives' ≡ map (type_to f) gives → moved like takes' gives' (operands_to f s) ≡ option_map (operands_to f) (moved same takes gives s)
  row_to takes gives takes' gives' s p q = (λ i. moved like (p i) (q i) (operands_to f s)) ∙ moved_to takes gives s

  behind : (C : Context S) (ts : List (ValueType S)) (ts' : List (ValueType T)) → ts' ≡ map (type_to f) ts → ts' ++ i32 (context_to f C) ∷ [] ≡ map (type_to f) (ts ++ i32 C ∷ [])
  behind C ts ts' e = ap (λ z. z ++ i32 (context_to f C) ∷ []) e ∙ sym (map-append (type_to f) ts (i32 C ∷ []))

  called_to : (C : Context S) (g : FunctionType S) (s : Operands S) → when (may_call C.trust g.trust) (moved like (map (type_to f) g.params) (optional (option_map (type_to f) g.result)) (operands_to f s)) ≡ option_map (operands_to f) (when (may_call C.trust g.trust) (moved same g.params (optional g.result) s))
  called_to C g s = when_to (operands_to f) (may_call C.trust g.trust) (may_call C.trust g.trust) _ _ refl (row_to g.params (optional g.result) _ _ s refl (optional_to g.result))

  pub step_to : (C : Context S) (i : Leaf S) (s : Operands S) → step like (context_to f C) (leaf_to f i) (operands_to f s) ≡ option_map (operands_to f) (step same C i s)
  step_to C Unreachable s = refl
  step_to C Nop s = refl
  step_to C (Br k) s =
      and_then_to (option_map (type_to f)) (operands_to f) (slice_get C.labels k) (slice_get (map (option_map (type_to f)) C.labels) k) (λ t. left_by same (optional t) s) (λ t. left_by like (optional t) (operands_to f s)) (look_to (option_map (type_to f)) C.labels k)
      (λ t. ap (λ z. left_by like z (operands_to f s)) (optional_to t) ∙ left_to (optional t) s)
  step_to C (BrIf k) s =
      and_then_to (option_map (type_to f)) (operands_to f) (slice_get C.labels k) (slice_get (map (option_map (type_to f)) C.labels) k) _ _ (look_to (option_map (type_to f)) C.labels k)
      (λ t. row_to (optional t ++ i32 C ∷ []) (optional t) _ _ s (behind C (optional t) _ (optional_to t)) (optional_to t))
  step_to C (BrTable ts d) s =
      and_then_to (option_map (type_to f)) (operands_to f) (slice_get C.labels d) (slice_get (map (option_map (type_to f)) C.labels) d) _ _ (look_to (option_map (type_to f)) C.labels d)
      (λ t. when_to (operands_to f) (are_labels same C t ts) (are_labels like (context_to f C) (option_map (type_to f) t) ts) _ _ (are_labels_to C t ts)
      (ap (λ z. left_by like z (operands_to f s)) (behind C (optional t) _ (optional_to t)) ∙ left_to (optional t ++ i32 C ∷ []) s))
  step_to C Return s = ap (λ z. left_by like z (operands_to f s)) (optional_to C.result) ∙ left_to (optional C.result) s
  step_to C (Call k) s =
      and_then_to (function_type_to f) (operands_to f) (slice_get C.functions k) (slice_get (map (function_type_to f) C.functions) k) _ _ (look_to (function_type_to f) C.functions k) (λ g. called_to C g s)
  step_to C (CallIndirect y) s =
      when_to (operands_to f) C.table C.table _ _ refl
      (and_then_to (function_type_to f) (operands_to f) (slice_get C.types y) (slice_get (map (function_type_to f) C.types) y) _ _ (look_to (function_type_to f) C.types y)
      (λ g. when_to (operands_to f) (may_call C.trust g.trust) (may_call C.trust g.trust) _ _ refl (row_to (g.params ++ i32 C ∷ []) (optional g.result) _ _ s (behind C g.params _ refl) (optional_to g.result))))
  step_to C Drop s = dropped_to s
  step_to C (Select l) s =
      and_then_to (operands_to f) (operands_to f) (expect same (value_type W32 l) s) (expect like (value_type W32 (f l)) (operands_to f s)) (chosen same l) (chosen like (f l)) (expect_to (value_type W32 l) s) (chosen_to l)
  step_to C (LocalGet x) s =
      and_then_to (type_to f) (operands_to f) (slice_get C.locals x) (slice_get (map (type_to f) C.locals) x) _ _ (look_to (type_to f) C.locals x) (λ t. moved_to [] (t ∷ []) s)
  step_to C (LocalSet x) s =
      and_then_to (type_to f) (operands_to f) (slice_get C.locals x) (slice_get (map (type_to f) C.locals) x) _ _ (look_to (type_to f) C.locals x) (λ t. moved_to (t ∷ []) [] s)
  step_to C (LocalTee x) s =
      and_then_to (type_to f) (operands_to f) (slice_get C.locals x) (slice_get (map (type_to f) C.locals) x) _ _ (look_to (type_to f) C.locals x) (λ t. moved_to (t ∷ []) (t ∷ []) s)
  step_to C (GlobalGet x) s =
      and_then_to (variable_type_to f) (operands_to f) (slice_get C.globals x) (slice_get (map (variable_type_to f) C.globals) x) _ _ (look_to (variable_type_to f) C.globals x) (λ g. moved_to [] (g.value ∷ []) s)
  step_to C (GlobalSet x) s =
      and_then_to (variable_type_to f) (operands_to f) (slice_get C.globals x) (slice_get (map (variable_type_to f) C.globals) x) _ _ (look_to (variable_type_to f) C.globals x)
      (λ g. when_to (operands_to f) g.mutable g.mutable _ _ refl (moved_to (g.value ∷ []) [] s))
  step_to C (Load w l n b al off) s =
      when_to (operands_to f) (is_load w n b) (is_load w n b) _ _ refl
      (when_to (operands_to f) (is_tag same l C.memory) (is_tag like (f l) (option_map f C.memory)) _ _ (is_tag_to l C.memory) (when_to (operands_to f) (nat_le (2 ^ al) n) (nat_le (2 ^ al) n) _ _ refl (moved_to (i32 C ∷ []) (value_type w l ∷ []) s)))
  step_to C (Store w l n al off) s =
      when_to (operands_to f) (is_store w n) (is_store w n) _ _ refl
      (when_to (operands_to f) (is_tag same l C.memory) (is_tag like (f l) (option_map f C.memory)) _ _ (is_tag_to l C.memory) (when_to (operands_to f) (nat_le (2 ^ al) n) (nat_le (2 ^ al) n) _ _ refl (moved_to (i32 C ∷ value_type w l ∷ []) [] s)))
  step_to C MemorySize s =
      and_then_to f (operands_to f) C.memory (option_map f C.memory) _ _ refl (λ l. moved_to [] (i32 C ∷ []) s)
  step_to C MemoryGrow s =
      and_then_to f (operands_to f) C.memory (option_map f C.memory) _ _ refl (λ l. moved_to (i32 C ∷ []) (i32 C ∷ []) s)
  step_to C (Const w l n) s = when_to (operands_to f) (nat_lt n (2 ^ bit_width w)) (nat_lt n (2 ^ bit_width w)) _ _ refl (moved_to [] (value_type w l ∷ []) s)
  step_to C (Numeric op l) s = signed (num_sig_of op)
    where
      signed : (found : Option NumSig) → and_then found (λ sig. when (not (leaks op C.profile) || like (f l) (f C.public)) (moved like (operands sig (f l)) (value_type sig.result (f l) ∷ []) (operands_to f s)))
          ≡ option_map (operands_to f) (and_then found (λ sig. when (not (leaks op C.profile) || same l C.public) (moved same (operands sig l) (value_type sig.result l ∷ []) s)))
      signed None = refl
      signed (Some sig) =
          when_to (operands_to f) (not (leaks op C.profile) || same l C.public) (not (leaks op C.profile) || like (f l) (f C.public)) _ _ (ap (λ z. not (leaks op C.profile) || z) (agree l C.public))
          (row_to (operands sig l) (value_type sig.result l ∷ []) _ _ s (operands_of_to sig l) refl)
  step_to C (Classify w) s = moved_to (value_type w C.public ∷ []) (value_type w C.secret ∷ []) s
  step_to C (Declassify w) s = when_to (operands_to f) (is_trusted C.trust) (is_trusted C.trust) _ _ refl (moved_to (value_type w C.secret ∷ []) (value_type w C.public ∷ []) s)

  emptied_to : (s : Operands S) → emptied (operands_to f s) ≡ option_map (operands_to f) (emptied s)
  emptied_to s = from s.slots
    where
      from : (xs : List (Slot S)) → when (is_empty (map (slot_to f) xs)) (Some fresh) ≡ option_map (operands_to f) (when (is_empty xs) (Some fresh))
      from [] = refl
      from (x ∷ xs) = refl

  ends_to : (t : Option (ValueType S)) (s : Operands S) → ends_with like (option_map (type_to f) t) (operands_to f s) ≡ option_map (operands_to f) (ends_with same t s)
  ends_to t s =
      and_then_to (operands_to f) (operands_to f) (expects same (optional t) s) (expects like (optional (option_map (type_to f) t)) (operands_to f s)) (emptied) (emptied)
      (ap (λ z. expects like z (operands_to f s)) (optional_to t) ∙ pops_to (optional t) s) emptied_to

  some_to : (r : Option (Operands S)) → is_some (option_map (operands_to f) r) ≡ is_some r
  some_to None = refl
  some_to (Some m) = refl

  pub closes_to : (t : Option (ValueType S)) (r : Option (Operands S)) (r' : Option (Operands T)) → r' ≡ option_map (operands_to f) r → closes like (option_map (type_to f) t) r' ≡ closes same t r
  closes_to t r r' e =
      ap (is_some) (and_then_to (operands_to f) (operands_to f) r r' (ends_with same t) (ends_with like (option_map (type_to f) t)) e (ends_to t)) ∙ some_to (and_then r (ends_with same t))

  pub none_to : (t : Option (ValueType S)) → is_none (option_map (type_to f) t) ≡ is_none t
  none_to None = refl
  none_to (Some t) = refl

  pub pushed_to : (t : Option (ValueType S)) (s : Operands S) → pushes (optional (option_map (type_to f) t)) (operands_to f s) ≡ operands_to f (pushes (optional t) s)
  pushed_to t s = ap (λ z. pushes z (operands_to f s)) (optional_to t) ∙ pushes_to (optional t) s
