-- The facts of an instruction are its own and those that are asked of its operands.
use Rattle.std.proofs.Common.{◌≡◌, ◌≤◌, ◌<◌, ◌^◌, ℕ, ◌+◌, Bool, true, false, List, [], ◌∷◌, ◌++◌, length, Option, Some, None, ◌⊎◌, inl, inr, refl, sym, ◌∙◌, ap, subst, arith, length-append}
use Rattle.std.specs.Prelude.{IsSome, unwrap_or, option_map, slice_get, nat_le, not, ◌||◌}
use Rattle.std.proofs.lemmas.List.{append-nil, length-replicate}
use Rattle.ctw_ops.specs.declared.types.Width.TheVariants.{W32}
use Rattle.ctw_ops.specs.Types.{ValueType, FunctionType, VariableType, value_type}
use Rattle.ctw_ops.specs.Forms.{is_load, is_store}
use Rattle.ctw_ops.specs.declared.numeric.NumSig.{NumSig}
use Rattle.ctw_ops.specs.Numeric.{num_sig_of, leaks}
use Rattle.ctw_ops.specs.Code.{Leaf, Unreachable, Nop, Br, BrIf, BrTable, Return, Call, CallIndirect, Drop, Select, LocalGet, LocalSet, LocalTee, GlobalGet, GlobalSet, Load, Store, MemorySize, MemoryGrow, Const, Numeric, Classify, Declassify, Op, Plain, Opens, Closes}
use Rattle.ctw_ops.specs.Segments.{and_then}
use Rattle.ctw_ops.specs.Typing.{Context, optional, i32, operands}
use Rattle.ctw_stack.specs.Operands.{Operands, Popped, killed, pop, push}
use Rattle.ctw_stack.specs.Opens.{Open}
use Rattle.ctw_stack.specs.Steps.{when, may_call, pushes, expect, expects, moved, left_by, are_labels, is_tag, joined, chosen}
use Rattle.ctw_labels.specs.declared.tag.Tag.{Tag}
use Rattle.ctw_labels.specs.declared.tag.Tag.TheVariants.{At, Fixed}
use Rattle.ctw_labels.specs.Sited.{yes}
use Rattle.ctw_labels.specs.Links.{Fact, after, joins, wants, wants_all, wants_above, wants_both, label_facts, timed_facts}
use Rattle.ctw_labels.specs.Numbering.{BodyPlace, type_from, named_in, stepped}
use Rattle.ctw_labels.specs.FlatSites.{among, leaf_facts, op_facts, GoesBy}
use Rattle.ctw_sites.specs.Rows.{rest_of, rests, Row, row, branch_row, call_row, numeric_row, is_select}
use Rattle.ctw_sites.specs.Leaves.{IsLeaf, IsRowOf, is_select_op}
use Rattle.ctw_sites.proofs.RowLaws.{expect_rest}
use Rattle.ctw_links.specs.declared.asks.Ask.{Ask}
use Rattle.ctw_links.specs.Asks.{ask, asked, asked_on, asks_all, tags_of, branch_asks, branch_asks_below, call_asks, value_asks, global_asks, numeric_asks, asks, own_facts, asks_of_op, own_facts_of_op}
use Rattle.ctw_links.proofs.AskLaws.{wants_asked, above_asked, asks_length, tags_length}

-- ---- what passes finds its operands

then_some : {A B : Type 0} (x : Option A) (f : A → Option B) → IsSome (and_then x f) → IsSome x
then_some None f e = cc
then_some (Some a) f e = refl

moved_some : (takes gives : List (ValueType Tag)) (o : Operands Tag) → IsSome (moved yes takes gives o) → IsSome (expects yes takes o)
moved_some takes gives o e = then_some (expects yes takes o) (λ rest. Some (pushes gives rest)) e

left_some : (takes : List (ValueType Tag)) (o : Operands Tag) → IsSome (left_by yes takes o) → IsSome (expects yes takes o)
left_some takes o e = then_some (expects yes takes o) (λ (rest : Operands Tag). Some (killed {S = Tag})) e

when_some : {A : Type 0} (c : Bool) (x : Option A) → IsSome (when c x) → IsSome x
when_some true x e = e
when_some false x e = cc

-- ---- by row

one_asked : (r : ℕ) (t : ValueType Tag) (o : Operands Tag) → wants r t o ≡ asked (ask r t.tag ∷ []) o
one_asked r t o = sym (append-nil (wants r t o))

module _ {A : Type 0} (P : BodyPlace A) (C : Context Tag) (n : ℕ) (o : Operands Tag) where
  branch_right : (x : Option (Option (ValueType Tag))) → IsSome (and_then x (λ t. left_by yes (optional t) o)) → after x (λ t. wants_all 8 (optional t) o) ≡ asked (branch_asks x) o
  branch_right None e = refl
  branch_right (Some t) e = wants_asked 8 (optional t) o (left_some (optional t) o e)

  branch_if_right : (x : Option (Option (ValueType Tag))) → IsSome (and_then x (λ t. moved yes (optional t ++ i32 C ∷ []) (optional t) o)) → after x (λ t. wants_above 13 (i32 C) 8 (optional t) o) ≡ asked (branch_asks_below (ask 13 C.public) x) o
  branch_if_right None e = refl
  branch_if_right (Some t) e = above_asked 13 (i32 C) 8 (optional t) o (moved_some (optional t ++ i32 C ∷ []) (optional t) o e)

  table_right : (ks : List ℕ) (x : Option (Option (ValueType Tag))) → IsSome (and_then x (λ t. when (are_labels yes C t ks) (left_by yes (optional t ++ i32 C ∷ []) o)))
      → after x (λ t. label_facts 9 C t ks ++ wants_above 14 (i32 C) 8 (optional t) o) ≡ after x (λ t. label_facts 9 C t ks) ++ asked (branch_asks_below (ask 14 C.public) x) o
  table_right ks None e = refl
  table_right ks (Some t) e =
      ap (λ z. label_facts 9 C t ks ++ z)
      (above_asked 14 (i32 C) 8 (optional t) o (left_some (optional t ++ i32 C ∷ []) o (when_some (are_labels yes C t ks) (left_by yes (optional t ++ i32 C ∷ []) o) e)))

  call_right : (x : Option (FunctionType Tag)) → IsSome (and_then x (λ g. when (may_call C.trust g.trust) (moved yes g.params (optional g.result) o))) → after x (λ g. wants_all 7 g.params o) ≡ asked (call_asks x) o
  call_right None e = refl
  call_right (Some g) e = wants_asked 7 g.params o (moved_some g.params (optional g.result) o (when_some (may_call C.trust g.trust) (moved yes g.params (optional g.result) o) e))

  user_right : (g : FunctionType Tag) → IsSome (when C.table (when (may_call C.trust g.trust) (moved yes (g.params ++ i32 C ∷ []) (optional g.result) o))) → wants_above 14 (i32 C) 7 g.params o ≡ asked (ask 14 C.public ∷ asks_all 7 (tags_of g.params)) o
  user_right g e =
      let m : Option (Operands Tag) = moved yes (g.params ++ i32 C ∷ []) (optional g.result) o in
      above_asked 14 (i32 C) 7 g.params o (moved_some (g.params ++ i32 C ∷ []) (optional g.result) o (when_some (may_call C.trust g.trust) m (when_some C.table (when (may_call C.trust g.trust) m) e)))

  value_right : (r : ℕ) (x : Option (ValueType Tag)) → after x (λ t. wants r t o) ≡ asked (value_asks r x) o
  value_right r None = refl
  value_right r (Some t) = one_asked r t o

  global_right : (x : Option (VariableType Tag)) → after x (λ g. wants 5 g.value o) ≡ asked (global_asks x) o
  global_right None = refl
  global_right (Some g) = one_asked 5 g.value o

  numeric_right : (op : ℕ) (x : Option NumSig) → IsSome (and_then x (λ sig. when (not (leaks op C.profile) || true) (moved yes (operands sig (At n)) (value_type sig.result (At n) ∷ []) o)))
      → after x (λ sig. timed_facts 16 (leaks op C.profile) (At n) C.public ++ wants_all 2 (operands sig (At n)) o) ≡ after x (λ sig. timed_facts 16 (leaks op C.profile) (At n) C.public) ++ asked (numeric_asks n x) o
  numeric_right op None e = refl
  numeric_right op (Some sig) e =
      let m : Option (Operands Tag) = moved yes (operands sig (At n)) (value_type sig.result (At n) ∷ []) o in
      ap (λ z. timed_facts 16 (leaks op C.profile) (At n) C.public ++ z)
      (wants_asked 2 (operands sig (At n)) o (moved_some (operands sig (At n)) (value_type sig.result (At n) ∷ []) o (when_some (not (leaks op C.profile) || true) m e)))

  store_right : (t : ValueType Tag) → IsSome (moved yes (i32 C ∷ t ∷ []) [] o) → wants_above 6 t 15 (i32 C ∷ []) o ≡ asked (ask 6 t.tag ∷ ask 15 C.public ∷ []) o
  store_right t e = above_asked 6 t 15 (i32 C ∷ []) o (moved_some (i32 C ∷ t ∷ []) [] o e)

  pub facts_right : (i : Leaf A) → is_select i ≡ false → IsSome (stepped P C n i o) → leaf_facts P C n i o ≡ own_facts C n i ++ asked (asks P C n i) o
  facts_right Unreachable q e = refl
  facts_right Nop q e = refl
  facts_right (Br k) q e = branch_right (slice_get C.labels k) e
  facts_right (BrIf k) q e = branch_if_right (slice_get C.labels k) e
  facts_right (BrTable ks k) q e = table_right ks (slice_get C.labels k) e
  facts_right Return q e = wants_asked 10 (optional C.result) o (left_some (optional C.result) o e)
  facts_right (Call f) q e = call_right (slice_get C.functions f) e
  facts_right (CallIndirect y) q e = user_right (type_from n (named_in P.types y)) e
  facts_right Drop q e = refl
  facts_right (Select l) q e = cc
  facts_right (LocalGet x) q e = refl
  facts_right (LocalSet x) q e = value_right 4 (slice_get C.locals x)
  facts_right (LocalTee x) q e = value_right 4 (slice_get C.locals x)
  facts_right (GlobalGet x) q e = refl
  facts_right (GlobalSet x) q e = global_right (slice_get C.globals x)
  facts_right (Load w l bytes signed align offset) q e = one_asked 15 (i32 C) o
  facts_right (Store w l bytes align offset) q e =
      let k : Tag = unwrap_or C.memory Fixed in
      let m : Option (Operands Tag) = moved yes (i32 C ∷ value_type w k ∷ []) [] o in
      store_right (value_type w k)
      (when_some (nat_le (2 ^ align) bytes) m (when_some (is_tag yes k C.memory) (when (nat_le (2 ^ align) bytes) m) (when_some (is_store w bytes) (when (is_tag yes k C.memory) (when (nat_le (2 ^ align) bytes) m)) e)))
  facts_right MemorySize q e = refl
  facts_right MemoryGrow q e = one_asked 17 (i32 C) o
  facts_right (Const w l bits) q e = refl
  facts_right (Numeric op l) q e = numeric_right op (num_sig_of op) e
  facts_right (Classify w) q e = refl
  facts_right (Declassify w) q e = refl

  -- ---- `select`

  both_right : (r : ℕ) (l : Tag) (k : Operands Tag) → IsSome (chosen yes l k) → wants_both r l k ≡ asked (ask r l ∷ ask r l ∷ []) k
  both_right r l k e = by_pop (pop k) refl e
    where
      rest_is : (o : Operands Tag) (p : Popped Tag) → pop o ≡ Some p → rest_of o ≡ p.rest
      rest_is o p e = ap (λ (x : Option (Popped Tag)). unwrap_or (option_map (λ p. p.rest) x) o) e

      by_second : (p : Popped Tag) (y : Option (Popped Tag)) → pop p.rest ≡ y → IsSome (and_then y (λ q. and_then (joined yes l p.slot q.slot) (λ s. Some (push s q.rest)))) → after y (λ q. joins r p.slot l ++ joins r q.slot l) ≡ joins r p.slot l ++ after y (λ q. joins r q.slot l)
      by_second p None q e = cc
      by_second p (Some z) q e = refl

      by_pop : (x : Option (Popped Tag)) → pop k ≡ x → IsSome (and_then x (λ p. and_then (pop p.rest) (λ q. and_then (joined yes l p.slot q.slot) (λ s. Some (push s q.rest))))) → after x (λ p. after (pop p.rest) (λ q. joins r p.slot l ++ joins r q.slot l)) ≡ asked (ask r l ∷ ask r l ∷ []) k
      by_pop None q e = cc
      by_pop (Some p) q e =
          by_second p (pop p.rest) refl e
          ∙ (λ i. after (sym q i) (λ p. joins r p.slot l) ++ after (pop (sym (rest_is k p q) i)) (λ q. joins r q.slot l))
          ∙ ap (λ z. wants r (value_type W32 l) k ++ z) (sym (append-nil (wants r (value_type W32 l) (rest_of k))))

  select_found : (l : Tag) (x : Option (Operands Tag)) → ((k : Operands Tag) → x ≡ Some k → rest_of o ≡ k) → IsSome (and_then x (chosen yes l)) → after x (wants_both 3 l) ≡ asked (ask 3 l ∷ ask 3 l ∷ []) (rest_of o)
  select_found l None h e = cc
  select_found l (Some k) h e = both_right 3 l k e ∙ ap (asked (ask 3 l ∷ ask 3 l ∷ [])) (sym (h k refl))

  select_right : (l : A) → IsSome (stepped P C n (Select l) o) → leaf_facts P C n (Select l) o ≡ asked (ask 3 (At n) ∷ ask 3 (At n) ∷ ask 3 (At n) ∷ []) o
  select_right l e = ap (λ z. wants 3 (value_type W32 (At n)) o ++ z) (select_found (At n) (expect yes (value_type W32 (At n)) o) (λ k q. expect_rest (value_type W32 (At n)) o k q) e)

  pub select_facts : (i : Leaf A) → is_select i ≡ true → IsSome (stepped P C n i o) → leaf_facts P C n i o ≡ asked (ask 3 (At n) ∷ ask 3 (At n) ∷ ask 3 (At n) ∷ []) o
  select_facts (Select l) q e = select_right l e
  select_facts _ q e = cc

-- ---- how many operands something is asked of

module _ {A : Type 0} (P : BodyPlace A) (C : Context Tag) (n : ℕ) where
  abbrev IsWithin : List Ask → Row → Type 0
  IsWithin more r = (r.ends ≡ true) ⊎ (length more ≤ r.takes)

  one_long : (t : Option (ValueType Tag)) → length (asks_all 8 (tags_of (optional t))) ≡ length (optional t)
  one_long t = asks_length 8 (tags_of (optional t)) ∙ tags_length (optional t)

  if_within : (x : Option (Option (ValueType Tag))) → length (branch_asks_below (ask 13 C.public) x) ≤ (branch_row x).takes
  if_within None = omega arith
  if_within (Some None) = omega arith
  if_within (Some (Some t)) = omega arith

  call_within : (x : Option (FunctionType Tag)) → length (call_asks x) ≤ (call_row 0 x).takes
  call_within None = omega arith
  call_within (Some g) = let a = asks_length 7 (tags_of g.params) in let b = tags_length g.params in omega (arith, a, b)

  value_within : (r : ℕ) (x : Option (ValueType Tag)) → length (value_asks r x) ≤ 1
  value_within r None = omega arith
  value_within r (Some t) = omega arith

  global_within : (x : Option (VariableType Tag)) → length (global_asks x) ≤ 1
  global_within None = omega arith
  global_within (Some g) = omega arith

  numeric_within : (x : Option NumSig) → length (numeric_asks n x) ≤ (numeric_row n x).takes
  numeric_within None = omega arith
  numeric_within (Some sig) =
      let a = asks_length 2 (tags_of (operands sig (At n))) in
      let b = tags_length (operands sig (At n)) in
      let c = length-replicate sig.arity (value_type sig.operand (At n)) in
      omega (arith, a, b, c)

  pub asks_within : (i : Leaf A) → is_select i ≡ false → IsWithin (asks P C n i) (row P C n i)
  asks_within Unreachable q = inl refl
  asks_within Nop q = inr (omega arith)
  asks_within (Br k) q = inl refl
  asks_within (BrIf k) q = inr (if_within (slice_get C.labels k))
  asks_within (BrTable ks k) q = inl refl
  asks_within Return q = inl refl
  asks_within (Call f) q = inr (call_within (slice_get C.functions f))
  asks_within (CallIndirect y) q =
      let g : FunctionType Tag = type_from n (named_in P.types y) in
      let a = asks_length 7 (tags_of g.params) in
      let b = tags_length g.params in
      inr (omega (arith, a, b))
  asks_within Drop q = inr (omega arith)
  asks_within (Select l) q = inr (omega arith)
  asks_within (LocalGet x) q = inr (omega arith)
  asks_within (LocalSet x) q = inr (value_within 4 (slice_get C.locals x))
  asks_within (LocalTee x) q = inr (value_within 4 (slice_get C.locals x))
  asks_within (GlobalGet x) q = inr (omega arith)
  asks_within (GlobalSet x) q = inr (global_within (slice_get C.globals x))
  asks_within (Load w l bytes signed align offset) q = inr (omega arith)
  asks_within (Store w l bytes align offset) q = inr (omega arith)
  asks_within MemorySize q = inr (omega arith)
  asks_within MemoryGrow q = inr (omega arith)
  asks_within (Const w l bits) q = inr (omega arith)
  asks_within (Numeric op l) q = inr (numeric_within (num_sig_of op))
  asks_within (Classify w) q = inr (omega arith)
  asks_within (Declassify w) q = inr (omega arith)

-- ---- by opcode

module _ {A : Type 0} (P : BodyPlace A) (C : Context Tag) (n : ℕ) where
  pub op_right : (op : Op A) (b : List (Open Tag)) → IsLeaf op → GoesBy P C n op b → is_select_op op ≡ false → op_facts P C n op b ≡ own_facts_of_op (among C b) n op ++ asked_on (asks_of_op P (among C b) n op) b
  op_right (Opens shape t) b l g q = absurd l
  op_right (Closes closer) b l g q = absurd l
  op_right (Plain i) [] l g q = absurd g
  op_right (Plain i) (v ∷ outer) l g q = facts_right P (among C (v ∷ outer)) n v.operands i q g

  pub select_op : (op : Op A) (b : List (Open Tag)) → IsLeaf op → GoesBy P C n op b → is_select_op op ≡ true → op_facts P C n op b ≡ asked_on (ask 3 (At n) ∷ ask 3 (At n) ∷ ask 3 (At n) ∷ []) b
  select_op (Opens shape t) b l g q = absurd l
  select_op (Closes closer) b l g q = absurd l
  select_op (Plain i) [] l g q = absurd g
  select_op (Plain i) (v ∷ outer) l g q = select_facts P (among C (v ∷ outer)) n v.operands i q g

is_row : {A : Type 0} (P : BodyPlace A) (C : Context Tag) (n : ℕ) (i : Leaf A) (r : Row) → is_select i ≡ false → IsRowOf P C n (Plain i) r → r ≡ row P C n i
is_row P C n (Select l) r q h = cc
is_row P C n i r q h = h

-- something is asked of no more operands than its row takes, unless the rest of its block is dead
pub op_within : {A : Type 0} (P : BodyPlace A) (C : Context Tag) (n : ℕ) (op : Op A) (r : Row) → IsLeaf op → is_select_op op ≡ false → IsRowOf P C n op r → (r.ends ≡ true) ⊎ (length (asks_of_op P C n op) ≤ r.takes)
op_within P C n (Opens shape t) r l q h = absurd l
op_within P C n (Closes closer) r l q h = absurd l
op_within P C n (Plain i) r l q h = subst (λ z. (z.ends ≡ true) ⊎ (length (asks P C n i) ≤ z.takes)) (sym (is_row P C n i r q h)) (asks_within P C n i q)

-- where the pass gets past an opcode, a block is open
pub opens_some : {A : Type 0} (P : BodyPlace A) (C : Context Tag) (n : ℕ) (op : Op A) (b : List (Open Tag)) → GoesBy P C n op b → 0 < length b
opens_some P C n op [] g = absurd g
opens_some P C n op (v ∷ outer) g = omega arith
