-- A step with a test of tags is the step without one, where the table's row for it holds.
use Rattle.std.proofs.Common.{◌≡◌, ◌^◌, ℕ, Bool, true, false, not, List, [], ◌∷◌, ◌++◌, Option, Some, None, refl, sym, ◌∙◌, ap}
use Rattle.std.specs.Prelude.{◌&&◌, ◌||◌, nat_le, slice_get}
use Rattle.ctw_ops.specs.declared.types.Width.TheVariants.{W32}
use Rattle.ctw_ops.specs.Types.{ValueType, value_type}
use Rattle.ctw_ops.specs.Forms.{is_load, is_store}
use Rattle.ctw_ops.specs.Equal.{same_width}
use Rattle.ctw_ops.specs.Numeric.{num_sig_of, leaks}
use Rattle.ctw_ops.specs.Code.{Leaf, Unreachable, Nop, Br, BrIf, BrTable, Return, Call, CallIndirect, Drop, Select, LocalGet, LocalSet, LocalTee, GlobalGet, GlobalSet, Load, Store, MemorySize, MemoryGrow, Const, Numeric, Classify, Declassify}
use Rattle.ctw_ops.specs.Typing.{Context, optional, i32, operands}
use Rattle.ctw_ops.specs.Segments.{and_then}
use Rattle.ctw_stack.specs.declared.slot.Slot.{Slot}
use Rattle.ctw_stack.specs.declared.slot.Slot.TheVariants.{Known, Wide, Unknown}
use Rattle.ctw_stack.specs.Operands.{Operands, killed, push, pop}
use Rattle.ctw_stack.specs.Steps.{when, may_call, pushes, width_of, merged, fits, expect, expects, may_have, joined, chosen, moved, left_by, same_result, is_label, are_labels, is_tag, step}
use Rattle.ctw_stack.specs.Pass.{emptied, ends_with}
use Rattle.ctw_labels.specs.Sited.{yes}
use Rattle.ctw_labels.specs.Links.{Fact, after, joins, wants, wants_all, wants_above, wants_both, result_facts, label_facts, timed_facts, facts_of, facts_of_end}
use Rattle.ctw_labels.proofs.Walk.{IsPlainLeaf}

abbrev pub all_hold : {S : Type 0} → (S → S → Bool) → List (Fact S) → Bool
all_hold same [] = true
all_hold same (q ∷ qs) = same q.left q.right && all_hold same qs

pub when_none : {A : Type 0} (c : Bool) → when {A = A} c None ≡ None
when_none true = refl
when_none false = refl

pub when_and : {A : Type 0} (c d : Bool) (o : Option A) → when (c && d) o ≡ when c (when d o)
when_and true d o = refl
when_and false d o = refl

pub when_comm : {A : Type 0} (c d : Bool) (o : Option A) → when c (when d o) ≡ when d (when c o)
when_comm true d o = refl
when_comm false true o = refl
when_comm false false o = refl

pub and_assoc : (x y z : Bool) → (x && (y && z)) ≡ ((x && y) && z)
and_assoc true y z = refl
and_assoc false y z = refl

swapped : (x y : Bool) → (x && y) ≡ ((y && true) && (x && true))
swapped true true = refl
swapped true false = refl
swapped false true = refl
swapped false false = refl

doubled : (x : Bool) → x ≡ ((x && true) && true)
doubled true = refl
doubled false = refl

swap4 : (p d q e : Bool) → ((p && d) && (q && e)) ≡ ((p && q) && (d && e))
swap4 false d q e = refl
swap4 true true true e = refl
swap4 true true false e = refl
swap4 true false true e = refl
swap4 true false false e = refl

-- the last of a list of values is taken off first
pub expects_end : {S : Type 0} (same : S → S → Bool) (ts : List (ValueType S)) (u : ValueType S) (o : Operands S) → expects same (ts ++ u ∷ []) o ≡ and_then (expect same u o) (expects same ts)
expects_end same [] u o = unit (expect same u o)
  where
    unit : {A : Type 0} (r : Option A) → r ≡ and_then r (λ m. Some m)
    unit None = refl
    unit (Some m) = refl
expects_end same (t ∷ ts) u o = ap (λ z. and_then z (expect same t)) (expects_end same ts u o) ∙ assoc (expect same u o)
  where
    assoc : (r : Option (Operands _)) → and_then (and_then r (expects same ts)) (expect same t) ≡ and_then r (expects same (t ∷ ts))
    assoc None = refl
    assoc (Some m) = refl

module _ {S : Type 0} (same : S → S → Bool) where
  -- r is o where all of fs hold
  abbrev pub IsAsked : {A : Type 0} → List (Fact S) → Option A → Option A → Type 0
  IsAsked fs r o = r ≡ when (all_hold same fs) o

  pub hold_append : (ps qs : List (Fact S)) → all_hold same (ps ++ qs) ≡ (all_hold same ps && all_hold same qs)
  hold_append [] qs = refl
  hold_append (p ∷ ps) qs = ap (λ z. same p.left p.right && z) (hold_append ps qs) ∙ and_assoc (same p.left p.right) (all_hold same ps) (all_hold same qs)

  asked_and_then : {A B : Type 0} (ps : List (Fact S)) (qs : A → List (Fact S)) (r o : Option A) (k g : A → Option B) → IsAsked ps r o → ((x : A) → IsAsked (qs x) (k x) (g x)) → IsAsked (ps ++ after o qs) (and_then r k) (and_then o g)
  asked_and_then ps qs r None k g e h = ap (λ z. and_then z k) (e ∙ when_none (all_hold same ps)) ∙ sym (when_none (all_hold same (ps ++ [])))
  asked_and_then ps qs r (Some x) k g e h =
      ap (λ z. and_then z k) e ∙ under (all_hold same ps) ∙ ap (when (all_hold same ps)) (h x)
      ∙ sym (when_and (all_hold same ps) (all_hold same (qs x)) (g x)) ∙ ap (λ z. when z (g x)) (sym (hold_append ps (qs x)))
    where
      under : (c : Bool) → and_then (when c (Some x)) k ≡ when c (k x)
      under true = refl
      under false = refl

  -- nothing is asked of a look-up
  asked_look : {A B : Type 0} (qs : A → List (Fact S)) (o : Option A) (k g : A → Option B) → ((x : A) → IsAsked (qs x) (k x) (g x)) → IsAsked (after o qs) (and_then o k) (and_then o g)
  asked_look qs o k g h = asked_and_then [] qs o o k g refl h

  -- a test that asks, before the rest
  asked_when : {B : Type 0} (ps qs : List (Fact S)) (c d : Bool) (r o : Option B) → c ≡ (all_hold same ps && d) → IsAsked qs r o → IsAsked (ps ++ qs) (when c r) (when d o)
  asked_when ps qs c d r o t e =
      ap (when c) e ∙ ap (λ z. when z (when (all_hold same qs) o)) t ∙ when_and (all_hold same ps) d (when (all_hold same qs) o) ∙ ap (when (all_hold same ps)) (when_comm d (all_hold same qs) o)
      ∙ sym (when_and (all_hold same ps) (all_hold same qs) (when d o)) ∙ ap (λ z. when z (when d o)) (sym (hold_append ps qs))

  alone : {B : Type 0} (ps : List (Fact S)) (c d : Bool) (o : Option B) → c ≡ (all_hold same ps && d) → IsAsked ps (when c o) (when d o)
  alone ps c d o t = ap (λ z. when z o) t ∙ when_and (all_hold same ps) d o

  -- a test of no tags
  asked_plain : {B : Type 0} (qs : List (Fact S)) (c : Bool) (r o : Option B) → IsAsked qs r o → IsAsked qs (when c r) (when c o)
  asked_plain qs c r o e = ap (when c) e ∙ when_comm c (all_hold same qs) o

  asked_fits : (r : ℕ) (x : Slot S) (t : ValueType S) → fits same x t ≡ (all_hold same (joins r x t.tag) && fits yes x t)
  asked_fits r (Known w a) t = swapped (same_width w t.width) (same a t.tag)
  asked_fits r (Wide a) t = doubled (same a t.tag)
  asked_fits r Unknown t = refl

  pub asked_expect : (r : ℕ) (t : ValueType S) (o : Operands S) → IsAsked (wants r t o) (expect same t o) (expect yes t o)
  asked_expect r t o =
      asked_look (λ p. joins r p.slot t.tag) (pop o) (λ p. when (fits same p.slot t) (Some p.rest)) (λ p. when (fits yes p.slot t) (Some p.rest))
      (λ p. alone (joins r p.slot t.tag) (fits same p.slot t) (fits yes p.slot t) (Some p.rest) (asked_fits r p.slot t))

  asked_expects : (r : ℕ) (ts : List (ValueType S)) (o : Operands S) → IsAsked (wants_all r ts o) (expects same ts o) (expects yes ts o)
  asked_expects r [] o = refl
  asked_expects r (t ∷ ts) o = asked_and_then (wants_all r ts o) (wants r t) (expects same ts o) (expects yes ts o) (expect same t) (expect yes t) (asked_expects r ts o) (asked_expect r t)

  asked_above : (r : ℕ) (u : ValueType S) (q : ℕ) (ts : List (ValueType S)) (o : Operands S) → IsAsked (wants_above r u q ts o) (expects same (ts ++ u ∷ []) o) (expects yes (ts ++ u ∷ []) o)
  asked_above r u q ts o =
      expects_end same ts u o ∙ asked_and_then (wants r u o) (wants_all q ts) (expect same u o) (expect yes u o) (expects same ts) (expects yes ts) (asked_expect r u o) (asked_expects q ts)
      ∙ ap (when (all_hold same (wants_above r u q ts o))) (sym (expects_end yes ts u o))

  -- what goes on without asking
  asked_then : {A B : Type 0} (qs : List (Fact S)) (r o : Option A) (k : A → Option B) → IsAsked qs r o → IsAsked qs (and_then r k) (and_then o k)
  asked_then qs r o k e = ap (λ z. and_then z k) e ∙ under (all_hold same qs)
    where
      under : (c : Bool) → and_then (when c o) k ≡ when c (and_then o k)
      under true = refl
      under false = refl

  asked_moved : (r : ℕ) (takes gives : List (ValueType S)) (o : Operands S) → IsAsked (wants_all r takes o) (moved same takes gives o) (moved yes takes gives o)
  asked_moved r takes gives o = asked_then (wants_all r takes o) (expects same takes o) (expects yes takes o) (λ m. Some (pushes gives m)) (asked_expects r takes o)

  asked_moved_one : (r : ℕ) (t : ValueType S) (gives : List (ValueType S)) (o : Operands S) → IsAsked (wants r t o) (moved same (t ∷ []) gives o) (moved yes (t ∷ []) gives o)
  asked_moved_one r t gives o = asked_then (wants r t o) (expect same t o) (expect yes t o) (λ m. Some (pushes gives m)) (asked_expect r t o)

  asked_moved_above : (r : ℕ) (u : ValueType S) (q : ℕ) (ts gives : List (ValueType S)) (o : Operands S) → IsAsked (wants_above r u q ts o) (moved same (ts ++ u ∷ []) gives o) (moved yes (ts ++ u ∷ []) gives o)
  asked_moved_above r u q ts gives o = asked_then (wants_above r u q ts o) (expects same (ts ++ u ∷ []) o) (expects yes (ts ++ u ∷ []) o) (λ m. Some (pushes gives m)) (asked_above r u q ts o)

  asked_left : (r : ℕ) (takes : List (ValueType S)) (o : Operands S) → IsAsked (wants_all r takes o) (left_by same takes o) (left_by yes takes o)
  asked_left r takes o = asked_then (wants_all r takes o) (expects same takes o) (expects yes takes o) (λ m. Some killed) (asked_expects r takes o)

  asked_left_above : (r : ℕ) (u : ValueType S) (q : ℕ) (ts : List (ValueType S)) (o : Operands S) → IsAsked (wants_above r u q ts o) (left_by same (ts ++ u ∷ []) o) (left_by yes (ts ++ u ∷ []) o)
  asked_left_above r u q ts o = asked_then (wants_above r u q ts o) (expects same (ts ++ u ∷ []) o) (expects yes (ts ++ u ∷ []) o) (λ m. Some killed) (asked_above r u q ts o)

  -- two tests
  both : (ps qs : List (Fact S)) (c d b e : Bool) → c ≡ (all_hold same ps && d) → b ≡ (all_hold same qs && e) → (c && b) ≡ (all_hold same (ps ++ qs) && (d && e))
  both ps qs c d b e p q = (λ i. p i && q i) ∙ swap4 (all_hold same ps) d (all_hold same qs) e ∙ ap (λ z. z && (d && e)) (sym (hold_append ps qs))

  asked_tagged : (r : ℕ) (l : S) (x : Slot S) → may_have same l x ≡ (all_hold same (joins r x l) && may_have yes l x)
  asked_tagged r l (Known w a) = doubled (same a l)
  asked_tagged r l (Wide a) = doubled (same a l)
  asked_tagged r l Unknown = refl

  asked_joined : (r : ℕ) (l : S) (x y : Slot S) → IsAsked (joins r x l ++ joins r y l) (joined same l x y) (joined yes l x y)
  asked_joined r l x y =
      alone (joins r x l ++ joins r y l) (may_have same l x && may_have same l y) (may_have yes l x && may_have yes l y) (merged l (width_of x) (width_of y))
      (both (joins r x l) (joins r y l) _ _ _ _ (asked_tagged r l x) (asked_tagged r l y))

  asked_chosen : (r : ℕ) (l : S) (o : Operands S) → IsAsked (wants_both r l o) (chosen same l o) (chosen yes l o)
  asked_chosen r l o =
      asked_look (λ p. after (pop p.rest) (λ q. joins r p.slot l ++ joins r q.slot l)) (pop o) _ _
      (λ p. asked_look (λ q. joins r p.slot l ++ joins r q.slot l) (pop p.rest) _ _
      (λ q. asked_then (joins r p.slot l ++ joins r q.slot l) (joined same l p.slot q.slot) (joined yes l p.slot q.slot) (λ x. Some (push x q.rest)) (asked_joined r l p.slot q.slot)))

  asked_result : (r : ℕ) (t u : Option (ValueType S)) → same_result same t u ≡ (all_hold same (result_facts r t u) && same_result yes t u)
  asked_result r None None = refl
  asked_result r (Some t) (Some u) = swapped (same_width t.width u.width) (same t.tag u.tag)
  asked_result r None (Some u) = refl
  asked_result r (Some t) None = refl

  asked_label : (r : ℕ) (t : Option (ValueType S)) (o : Option (Option (ValueType S))) → is_label same t o ≡ (all_hold same (after o (λ u. result_facts r u t)) && is_label yes t o)
  asked_label r t None = refl
  asked_label r t (Some u) = asked_result r u t

  asked_labels : (r : ℕ) (C : Context S) (t : Option (ValueType S)) (ks : List ℕ) → are_labels same C t ks ≡ (all_hold same (label_facts r C t ks) && are_labels yes C t ks)
  asked_labels r C t [] = refl
  asked_labels r C t (k ∷ ks) =
      both (after (slice_get C.labels k) (λ u. result_facts r u t)) (label_facts r C t ks) _ _ _ _ (asked_label r t (slice_get C.labels k)) (asked_labels r C t ks)

  asked_timed : (r : ℕ) (t : Bool) (l p : S) → (not t || same l p) ≡ (all_hold same (timed_facts r t l p) && (not t || yes l p))
  asked_timed r true l p = doubled (same l p)
  asked_timed r false l p = refl

  nothing_looked : {A B : Type 0} (o : Option A) (k g : A → Option B) → ((x : A) → k x ≡ g x) → IsAsked [] (and_then o k) (and_then o g)
  nothing_looked None k g h = refl
  nothing_looked (Some x) k g h = h x

  pub asked_end : (t : Option (ValueType S)) (o : Operands S) → IsAsked (facts_of_end t o) (ends_with same t o) (ends_with yes t o)
  asked_end t o = asked_then (facts_of_end t o) (expects same (optional t) o) (expects yes (optional t) o) emptied (asked_expects 10 (optional t) o)

  pub asked_user : (C : Context S) (y : ℕ) (o : Operands S) → IsAsked (facts_of C (CallIndirect y) o) (step same C (CallIndirect y) o) (step yes C (CallIndirect y) o)
  asked_user C y o =
      asked_plain (facts_of C (CallIndirect y) o) C.table _ _
      (asked_look (λ g. wants_above 14 (i32 C) 7 g.params o) (slice_get C.types y) _ _
      (λ g. asked_plain (wants_above 14 (i32 C) 7 g.params o) (may_call C.trust g.trust) _ _ (asked_moved_above 14 (i32 C) 7 g.params (optional g.result) o)))

  module _ (reflexive : (a : S) → same a a ≡ true) where
    own_memory : (l : S) (r : Option S) → ((m : S) → r ≡ Some m → m ≡ l) → is_tag same l r ≡ is_tag yes l r
    own_memory l None h = refl
    own_memory l (Some m) h = ap (same m) (sym (h m refl)) ∙ reflexive m

    -- a row of the table is all that the step asks for
    pub asked_step : (C : Context S) (i : Leaf S) → IsPlainLeaf C.memory i → (o : Operands S) → IsAsked (facts_of C i o) (step same C i o) (step yes C i o)
    asked_step C Unreachable p o = refl
    asked_step C Nop p o = refl
    asked_step C (Br k) p o = asked_look (λ t. wants_all 8 (optional t) o) (slice_get C.labels k) _ _ (λ t. asked_left 8 (optional t) o)
    asked_step C (BrIf k) p o = asked_look (λ t. wants_above 13 (i32 C) 8 (optional t) o) (slice_get C.labels k) _ _ (λ t. asked_moved_above 13 (i32 C) 8 (optional t) (optional t) o)
    asked_step C (BrTable ks k) p o =
        asked_look (λ t. label_facts 9 C t ks ++ wants_above 14 (i32 C) 8 (optional t) o) (slice_get C.labels k) _ _
        (λ t. asked_when (label_facts 9 C t ks) (wants_above 14 (i32 C) 8 (optional t) o) (are_labels same C t ks) (are_labels yes C t ks) _ _ (asked_labels 9 C t ks) (asked_left_above 14 (i32 C) 8 (optional t) o))
    asked_step C Return p o = asked_left 10 (optional C.result) o
    asked_step C (Call f) p o =
        asked_look (λ g. wants_all 7 g.params o) (slice_get C.functions f) _ _
        (λ g. asked_plain (wants_all 7 g.params o) (may_call C.trust g.trust) _ _ (asked_moved 7 g.params (optional g.result) o))
    asked_step C (CallIndirect y) p o = absurd p
    asked_step C Drop p o = refl
    asked_step C (Select l) p o = asked_and_then (wants 3 (value_type W32 l) o) (wants_both 3 l) _ _ (chosen same l) (chosen yes l) (asked_expect 3 (value_type W32 l) o) (asked_chosen 3 l)
    asked_step C (LocalGet x) p o = nothing_looked (slice_get C.locals x) _ _ (λ t. refl)
    asked_step C (LocalSet x) p o = asked_look (λ t. wants 4 t o) (slice_get C.locals x) _ _ (λ t. asked_moved_one 4 t [] o)
    asked_step C (LocalTee x) p o = asked_look (λ t. wants 4 t o) (slice_get C.locals x) _ _ (λ t. asked_moved_one 4 t (t ∷ []) o)
    asked_step C (GlobalGet x) p o = nothing_looked (slice_get C.globals x) _ _ (λ g. refl)
    asked_step C (GlobalSet x) p o = asked_look (λ g. wants 5 g.value o) (slice_get C.globals x) _ _ (λ g. asked_plain (wants 5 g.value o) g.mutable _ _ (asked_moved_one 5 g.value [] o))
    asked_step C (Load w l bytes signed align offset) p o =
        ap (λ z. when (is_load w bytes signed) (when z (when (nat_le (2 ^ align) bytes) (moved same (i32 C ∷ []) (value_type w l ∷ []) o)))) (own_memory l C.memory p)
        ∙ asked_plain (wants 15 (i32 C) o) (is_load w bytes signed) _ _
        (asked_plain (wants 15 (i32 C) o) (is_tag yes l C.memory) _ _ (asked_plain (wants 15 (i32 C) o) (nat_le (2 ^ align) bytes) _ _ (asked_moved_one 15 (i32 C) (value_type w l ∷ []) o)))
    asked_step C (Store w l bytes align offset) p o =
        ap (λ z. when (is_store w bytes) (when z (when (nat_le (2 ^ align) bytes) (moved same (i32 C ∷ value_type w l ∷ []) [] o)))) (own_memory l C.memory p)
        ∙ asked_plain (wants_above 6 (value_type w l) 15 (i32 C ∷ []) o) (is_store w bytes) _ _
        (asked_plain (wants_above 6 (value_type w l) 15 (i32 C ∷ []) o) (is_tag yes l C.memory) _ _ (asked_plain (wants_above 6 (value_type w l) 15 (i32 C ∷ []) o) (nat_le (2 ^ align) bytes) _ _ (asked_moved_above 6 (value_type w l) 15 (i32 C ∷ []) [] o)))
    asked_step C MemorySize p o = nothing_looked C.memory _ _ (λ l. refl)
    asked_step C MemoryGrow p o = by_memory C.memory
      where
        by_memory : (r : Option S) → IsAsked (wants 17 (i32 C) o) (and_then r (λ l. moved same (i32 C ∷ []) (i32 C ∷ []) o)) (and_then r (λ l. moved yes (i32 C ∷ []) (i32 C ∷ []) o))
        by_memory None = sym (when_none (all_hold same (wants 17 (i32 C) o)))
        by_memory (Some l) = asked_moved_one 17 (i32 C) (i32 C ∷ []) o
    asked_step C (Const w l bits) p o = refl
    asked_step C (Numeric op l) p o =
        asked_look (λ sig. timed_facts 16 (leaks op C.profile) l C.public ++ wants_all 2 (operands sig l) o) (num_sig_of op) _ _
        (λ sig. asked_when (timed_facts 16 (leaks op C.profile) l C.public) (wants_all 2 (operands sig l) o) (not (leaks op C.profile) || same l C.public) (not (leaks op C.profile) || yes l C.public) _ _
        (asked_timed 16 (leaks op C.profile) l C.public) (asked_moved 2 (operands sig l) (value_type sig.result l ∷ []) o))
    asked_step C (Classify w) p o = absurd p
    asked_step C (Declassify w) p o = absurd p
