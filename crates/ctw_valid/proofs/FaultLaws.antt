-- The first fault of a body: where it is none, where it stands, and what it tells of secrets.
use Rattle.std.proofs.Common.{◌≡◌, ℕ, suc, ◌+◌, Bool, true, false, not, List, [], ◌∷◌, ◌++◌, Option, Some, None, ◌⊎◌, inl, inr, take, length, slice_get, refl, sym, ◌∙◌, ap, subst, arith}
use Rattle.std.specs.Prelude.{◌↔◌, ◌&&◌, IfSome, if◌then◌else◌}
use Rattle.std.proofs.Math.Seq.{take-append_seam}
use Rattle.ctw_ops.specs.declared.types.Label.{Label}
use Rattle.ctw_ops.specs.declared.types.Label.TheVariants.{Public, Secret}
use Rattle.ctw_ops.specs.declared.fault.SecretRule.{SecretRule}
use Rattle.ctw_ops.specs.declared.fault.SecretRule.TheVariants.{Condition, TableIndex, CallIndex, Address, Divide, GrowSize}
use Rattle.ctw_ops.specs.declared.numeric.Profile.{Profile}
use Rattle.ctw_ops.specs.Numeric.{leaks}
use Rattle.ctw_ops.specs.Code.{Leaf, Unreachable, Nop, Br, BrIf, BrTable, Return, Call, CallIndirect, Drop, Select, LocalGet, LocalSet, LocalTee, GlobalGet, GlobalSet, Load, Store, MemorySize, MemoryGrow, Const, Numeric, Classify, Declassify, Code, Op, Plain, Opens, Closes, opcodes}
use Rattle.ctw_ops.specs.Typing.{Context, Typed, optional}
use Rattle.ctw_ops.specs.Segments.{and_then}
use Rattle.ctw_ops.specs.CutTyping.{StopsAt}
use Rattle.ctw_stack.specs.declared.slot.Slot.{Slot}
use Rattle.ctw_stack.specs.declared.slot.Slot.TheVariants.{Known, Wide, Unknown}
use Rattle.ctw_stack.specs.Operands.{fresh}
use Rattle.ctw_stack.specs.Steps.{IsExactTest, when}
use Rattle.ctw_stack.specs.Pass.{Level, within, outermost, flat, run}
use Rattle.ctw_stack.specs.Secrets.{IsTagged, IsTaggedAt}
use Rattle.ctw_stack.proofs.TreePass.{closes, pass}
use Rattle.ctw_stack.proofs.FlatLaws.{run_body}
use Rattle.ctw_stack.proofs.BodyLaws.{run_law}
use Rattle.ctw_stack.proofs.PlaceLaws.{tag_place_law}
use Rattle.ctw_stack.proofs.StopLaws.{stops_where_refused, stops_once}
use Rattle.ctw_valid.specs.declared.fault.BodyFault.{BodyFault}
use Rattle.ctw_valid.specs.declared.fault.BodyFault.TheVariants.{Index, Align, Immutable, Trust, SecretPlace, WrongType, NoMemory}
use Rattle.ctw_valid.specs.Faults.{same_label, is_there, is_aligned, is_mutable, is_allowed, Guarded, guards, guarded, is_secret, guarded_secret, broken_rule, by_type, leaf_or, kind_of, slots_of, unless_refused, fault_from}
use Rattle.ctw_valid.specs.Answers.{place_of, NamesTheStop, IsSecretLeak, HasSecretAt, BreaksRule, Fails, NamesNothing, Applies}
use Rattle.ctw_valid.proofs.Prefixes.{level_open}

pub same_label_exact : IsExactTest same_label
same_label_exact Public Public = ((λ e. refl), (λ e. refl))
same_label_exact Secret Secret = ((λ e. refl), (λ e. refl))
same_label_exact Public Secret = ((λ e. cc), (λ e. cc))
same_label_exact Secret Public = ((λ e. cc), (λ e. cc))

some_same : {A : Type 0} {x y : A} → Some x ≡ Some y → x ≡ y
some_same e = cc

none_some : {A : Type 0} {P : Type 0} {x : A} → None ≡ Some x → P
none_some e = cc

-- ---- no fault

-- opcodes without a fault are passed
passed : (C : Context Label) (at : ℕ) (ops : List (Op Label)) (vs : List (Level Label)) → fault_from C at ops vs ≡ None → (ws : List (Level Label)) × (run same_label C ops vs ≡ Some ws)
passed C at [] vs e = (vs, refl)
passed C at (op ∷ ops) vs e = by (flat same_label C op vs) e (passed C (suc at) ops)
  where
    by : (r : Option (List (Level Label))) → unless_refused (kind_of (within C vs) op at (slots_of vs)) (fault_from C (suc at) ops) r ≡ None
        → ((us : List (Level Label)) → fault_from C (suc at) ops us ≡ None → (ws : List (Level Label)) × (run same_label C ops us ≡ Some ws)) → (ws : List (Level Label)) × (and_then r (run same_label C ops) ≡ Some ws)
    by None h f = absurd cc
    by (Some us) h f = f us h

faultless : (C : Context Label) (at : ℕ) (ops : List (Op Label)) (vs ws : List (Level Label)) → run same_label C ops vs ≡ Some ws → fault_from C at ops vs ≡ None
faultless C at [] vs ws e = refl
faultless C at (op ∷ ops) vs ws e = by (flat same_label C op vs) e (faultless C (suc at) ops)
  where
    by : (r : Option (List (Level Label))) → and_then r (run same_label C ops) ≡ Some ws → ((us ts : List (Level Label)) → run same_label C ops us ≡ Some ts → fault_from C (suc at) ops us ≡ None)
        → unless_refused (kind_of (within C vs) op at (slots_of vs)) (fault_from C (suc at) ops) r ≡ None
    by None h f = none_some h
    by (Some us) h f = f us ws h

module _ (C : Context Label) (own : C.labels ≡ C.result ∷ []) where
  -- a body without a fault is typed, and a typed one has none
  pub typed_iff : (code : Code Label) → (fault_from C 0 (opcodes code) (outermost C) ≡ None) ↔ Typed C code [] (optional C.result)
  typed_iff code =
      let law : (run same_label C (opcodes code) (outermost C) ≡ Some []) ↔ Typed C code [] (optional C.result) = run_law same_label same_label_exact C own code in
      let tested : Bool = closes same_label C.result (pass same_label (within C (outermost C)) code fresh) in
      let whole : run same_label C (opcodes code) (outermost C) ≡ when tested (Some []) = run_body same_label C code in (
        (λ e. let p = passed C 0 (opcodes code) (outermost C) e in law.0 (whole ∙ ended tested p.0 (sym whole ∙ p.1))),
        (λ t. faultless C 0 (opcodes code) (outermost C) [] (law.1 t)),
      )
    where
      ended : (b : Bool) (ws : List (Level Label)) → when b (Some []) ≡ Some ws → when {A = List (Level Label)} b (Some []) ≡ Some []
      ended true ws e = refl
      ended false ws e = none_some e

-- ---- where the fault stands

-- the opcode that the pass refuses, what is open before it, and its fault
pub record Found (C : Context Label) (at : ℕ) (ops : List (Op Label)) (vs : List (Level Label)) (fault : BodyFault) : Type 0 where
  pub before : List (Op Label)
  pub op : Op Label
  pub behind : List (Op Label)
  pub now : List (Level Label)
  pub all : ops ≡ before ++ op ∷ behind
  pub ran : run same_label C before vs ≡ Some now
  pub refused : flat same_label C op now ≡ None
  pub is : fault ≡ kind_of (within C now) op (at + length before) (slots_of now)

found : (C : Context Label) (at : ℕ) (ops : List (Op Label)) (vs : List (Level Label)) (fault : BodyFault) → fault_from C at ops vs ≡ Some fault → Found C at ops vs fault
found C at [] vs fault e = none_some e
found C at (op ∷ ops) vs fault e = by (flat same_label C op vs) refl e (found C (suc at) ops)
  where
    by : (r : Option (List (Level Label))) → flat same_label C op vs ≡ r → unless_refused (kind_of (within C vs) op at (slots_of vs)) (fault_from C (suc at) ops) r ≡ Some fault
        → ((us : List (Level Label)) (why : BodyFault) → fault_from C (suc at) ops us ≡ Some why → Found C (suc at) ops us why) → Found C at (op ∷ ops) vs fault
    by None q h f =
        let none : at ≡ at + 0 = omega arith in
        record { before = []; op = op; behind = ops; now = vs; all = refl; ran = refl; refused = q; is = sym (some_same h) ∙ ap (λ n. kind_of (within C vs) op n (slots_of vs)) none }
    by (Some us) q h f =
        let g = f us fault h in
        let next : suc at + length g.before ≡ at + length (op ∷ g.before) = omega arith in
        record {
          before = op ∷ g.before;
          op = g.op;
          behind = g.behind;
          now = g.now;
          all = ap (λ z. op ∷ z) g.all;
          ran = ap (λ r. and_then r (run same_label C g.before)) q ∙ g.ran;
          refused = g.refused;
          is = g.is ∙ ap (λ n. kind_of (within C g.now) g.op n (slots_of g.now)) next;
        }

-- ---- the kinds

by_type_place : (at : ℕ) (r : Option SecretRule) → place_of (by_type at r) ≡ Some at
by_type_place at None = refl
by_type_place at (Some rule) = refl

test_place : (b : Bool) (x y : BodyFault) (at : ℕ) → place_of x ≡ Some at → place_of y ≡ Some at → place_of (if b then x else y) ≡ Some at
test_place true x y at p q = p
test_place false x y at p q = q

leaf_place : (C : Context Label) (leaf : Leaf Label) (at : ℕ) (other : BodyFault) → place_of other ≡ Some at → place_of (leaf_or C leaf at other) ≡ Some at
leaf_place C leaf at other p =
    test_place (not (is_there C leaf)) _ _ at refl (test_place (not (is_aligned leaf)) _ _ at refl (test_place (not (is_mutable C leaf)) _ _ at refl (test_place (not (is_allowed C leaf)) _ _ at refl p)))

pub kind_place : (C : Context Label) (op : Op Label) (at : ℕ) (slots : List (Slot Label)) → place_of (kind_of C op at slots) ≡ Some at
kind_place C (Plain leaf) at slots = leaf_place C leaf at (by_type at (broken_rule C.profile (Plain leaf) slots)) (by_type_place at (broken_rule C.profile (Plain leaf) slots))
kind_place C (Opens shape t) at slots = by_type_place at (broken_rule C.profile (Opens shape t) slots)
kind_place C (Closes closer) at slots = by_type_place at (broken_rule C.profile (Closes closer) slots)

-- what a kind says of its opcode and of the rule that is broken
abbrev Tells : Context Label → Op Label → Option SecretRule → BodyFault → Type 0
Tells C op broken (Index at) = (leaf : Leaf Label) × (op ≡ Plain leaf) × (is_there C leaf ≡ false)
Tells C op broken (Align at) = (leaf : Leaf Label) × (op ≡ Plain leaf) × (is_aligned leaf ≡ false)
Tells C op broken (Immutable at) = (leaf : Leaf Label) × (op ≡ Plain leaf) × (is_mutable C leaf ≡ false)
Tells C op broken (Trust at) = (leaf : Leaf Label) × (op ≡ Plain leaf) × (is_allowed C leaf ≡ false)
Tells C op broken (SecretPlace at rule) = broken ≡ Some rule
Tells C op broken (WrongType at) = broken ≡ None
Tells C op broken NoMemory = Unit {0}

by_type_tells : (C : Context Label) (op : Op Label) (at : ℕ) (r : Option SecretRule) → Tells C op r (by_type at r)
by_type_tells C op at None = refl
by_type_tells C op at (Some rule) = refl

test_tells : (C : Context Label) (op : Op Label) (r : Option SecretRule) (b : Bool) (x y : BodyFault) → (b ≡ false → Tells C op r x) → Tells C op r y → Tells C op r (if not b then x else y)
test_tells C op r true x y p q = q
test_tells C op r false x y p q = p refl

kind_tells : (C : Context Label) (op : Op Label) (at : ℕ) (slots : List (Slot Label)) → Tells C op (broken_rule C.profile op slots) (kind_of C op at slots)
kind_tells C (Plain leaf) at slots =
    let op : Op Label = Plain leaf in
    let r : Option SecretRule = broken_rule C.profile op slots in
    test_tells C op r (is_there C leaf) _ _ (λ e. (leaf, refl, e))
    (test_tells C op r (is_aligned leaf) _ _ (λ e. (leaf, refl, e))
    (test_tells C op r (is_mutable C leaf) _ _ (λ e. (leaf, refl, e))
    (test_tells C op r (is_allowed C leaf) _ _ (λ e. (leaf, refl, e)) (by_type_tells C op at r))))
kind_tells C (Opens shape t) at slots = by_type_tells C (Opens shape t) at (broken_rule C.profile (Opens shape t) slots)
kind_tells C (Closes closer) at slots = by_type_tells C (Closes closer) at (broken_rule C.profile (Closes closer) slots)

-- what holds of an opcode to which no kind before a fault's own applies
abbrev Passed : Context Label → Leaf Label → BodyFault → Type 0
Passed C leaf (Index at) = Unit {0}
Passed C leaf (Align at) = is_there C leaf ≡ true
Passed C leaf (Immutable at) = (is_there C leaf ≡ true) × (is_aligned leaf ≡ true)
Passed C leaf (Trust at) = (is_there C leaf ≡ true) × (is_aligned leaf ≡ true) × (is_mutable C leaf ≡ true)
Passed C leaf (SecretPlace at rule) = (is_there C leaf ≡ true) × (is_aligned leaf ≡ true) × (is_mutable C leaf ≡ true) × (is_allowed C leaf ≡ true)
Passed C leaf (WrongType at) = (is_there C leaf ≡ true) × (is_aligned leaf ≡ true) × (is_mutable C leaf ≡ true) × (is_allowed C leaf ≡ true)
Passed C leaf NoMemory = Unit {0}

by_type_passed : (C : Context Label) (leaf : Leaf Label) (at : ℕ) (r : Option SecretRule) → (is_there C leaf ≡ true) × (is_aligned leaf ≡ true) × (is_mutable C leaf ≡ true) × (is_allowed C leaf ≡ true) → Passed C leaf (by_type at r)
by_type_passed C leaf at None h = h
by_type_passed C leaf at (Some rule) h = h

leaf_passed : (C : Context Label) (leaf : Leaf Label) (at : ℕ) (r : Option SecretRule) → Passed C leaf (leaf_or C leaf at (by_type at r))
leaf_passed C leaf at r = there (is_there C leaf) refl
  where
    allowed : is_there C leaf ≡ true → is_aligned leaf ≡ true → is_mutable C leaf ≡ true → (b : Bool) → is_allowed C leaf ≡ b → Passed C leaf (if not b then Trust at else by_type at r)
    allowed t a m true e = by_type_passed C leaf at r (t, a, m, e)
    allowed t a m false e = (t, a, m)

    mutable : is_there C leaf ≡ true → is_aligned leaf ≡ true → (b : Bool) → is_mutable C leaf ≡ b → Passed C leaf (if not b then Immutable at else if not (is_allowed C leaf) then Trust at else by_type at r)
    mutable t a true e = allowed t a e (is_allowed C leaf) refl
    mutable t a false e = (t, a)

    aligned : is_there C leaf ≡ true → (b : Bool) → is_aligned leaf ≡ b
        → Passed C leaf (if not b then Align at else if not (is_mutable C leaf) then Immutable at else if not (is_allowed C leaf) then Trust at else by_type at r)
    aligned t true e = mutable t e (is_mutable C leaf) refl
    aligned t false e = t

    there : (b : Bool) → is_there C leaf ≡ b
        → Passed C leaf (if not b then Index at else if not (is_aligned leaf) then Align at else if not (is_mutable C leaf) then Immutable at else if not (is_allowed C leaf) then Trust at else by_type at r)
    there true e = aligned e (is_aligned leaf) refl
    there false e = tt

kind_passed : (C : Context Label) (op : Op Label) (at : ℕ) (slots : List (Slot Label)) (leaf : Leaf Label) → op ≡ Plain leaf → Passed C leaf (kind_of C op at slots)
kind_passed C op at slots leaf e = subst (λ o. Passed C leaf (kind_of C o at slots)) (sym e) (leaf_passed C leaf at (broken_rule C.profile (Plain leaf) slots))

-- labels don't matter for these kinds
mutable_within : (C : Context Label) (vs : List (Level Label)) (leaf : Leaf Label) → is_mutable C leaf ≡ is_mutable (within C vs) leaf
mutable_within C vs Unreachable = refl
mutable_within C vs Nop = refl
mutable_within C vs (Br k) = refl
mutable_within C vs (BrIf k) = refl
mutable_within C vs (BrTable ks k) = refl
mutable_within C vs Return = refl
mutable_within C vs (Call f) = refl
mutable_within C vs (CallIndirect y) = refl
mutable_within C vs Drop = refl
mutable_within C vs (Select l) = refl
mutable_within C vs (LocalGet x) = refl
mutable_within C vs (LocalSet x) = refl
mutable_within C vs (LocalTee x) = refl
mutable_within C vs (GlobalGet x) = refl
mutable_within C vs (GlobalSet x) = refl
mutable_within C vs (Load w l n b al off) = refl
mutable_within C vs (Store w l n al off) = refl
mutable_within C vs MemorySize = refl
mutable_within C vs MemoryGrow = refl
mutable_within C vs (Const w l n) = refl
mutable_within C vs (Numeric n l) = refl
mutable_within C vs (Classify w) = refl
mutable_within C vs (Declassify w) = refl

allowed_within : (C : Context Label) (vs : List (Level Label)) (leaf : Leaf Label) → is_allowed C leaf ≡ is_allowed (within C vs) leaf
allowed_within C vs Unreachable = refl
allowed_within C vs Nop = refl
allowed_within C vs (Br k) = refl
allowed_within C vs (BrIf k) = refl
allowed_within C vs (BrTable ks k) = refl
allowed_within C vs Return = refl
allowed_within C vs (Call f) = refl
allowed_within C vs (CallIndirect y) = refl
allowed_within C vs Drop = refl
allowed_within C vs (Select l) = refl
allowed_within C vs (LocalGet x) = refl
allowed_within C vs (LocalSet x) = refl
allowed_within C vs (LocalTee x) = refl
allowed_within C vs (GlobalGet x) = refl
allowed_within C vs (GlobalSet x) = refl
allowed_within C vs (Load w l n b al off) = refl
allowed_within C vs (Store w l n al off) = refl
allowed_within C vs MemorySize = refl
allowed_within C vs MemoryGrow = refl
allowed_within C vs (Const w l n) = refl
allowed_within C vs (Numeric n l) = refl
allowed_within C vs (Classify w) = refl
allowed_within C vs (Declassify w) = refl

-- ---- broken rules

-- an operation has a rule of its own, and any other opcode one for a place of its operands
broken_view : (profile : Profile) (op : Op Label) (slots : List (Slot Label)) → (broken_rule profile op slots ≡ guarded_secret slots (guarded op)) ⊎ ((n : ℕ) × (l : Label) × (op ≡ Plain (Numeric n l)))
broken_view profile (Plain Unreachable) slots = inl refl
broken_view profile (Plain Nop) slots = inl refl
broken_view profile (Plain (Br k)) slots = inl refl
broken_view profile (Plain (BrIf k)) slots = inl refl
broken_view profile (Plain (BrTable ks k)) slots = inl refl
broken_view profile (Plain Return) slots = inl refl
broken_view profile (Plain (Call f)) slots = inl refl
broken_view profile (Plain (CallIndirect y)) slots = inl refl
broken_view profile (Plain Drop) slots = inl refl
broken_view profile (Plain (Select l)) slots = inl refl
broken_view profile (Plain (LocalGet x)) slots = inl refl
broken_view profile (Plain (LocalSet x)) slots = inl refl
broken_view profile (Plain (LocalTee x)) slots = inl refl
broken_view profile (Plain (GlobalGet x)) slots = inl refl
broken_view profile (Plain (GlobalSet x)) slots = inl refl
broken_view profile (Plain (Load w l n b al off)) slots = inl refl
broken_view profile (Plain (Store w l n al off)) slots = inl refl
broken_view profile (Plain MemorySize) slots = inl refl
broken_view profile (Plain MemoryGrow) slots = inl refl
broken_view profile (Plain (Const w l n)) slots = inl refl
broken_view profile (Plain (Numeric n l)) slots = inr (n, l, refl)
broken_view profile (Plain (Classify w)) slots = inl refl
broken_view profile (Plain (Declassify w)) slots = inl refl
broken_view profile (Opens shape t) slots = inl refl
broken_view profile (Closes closer) slots = inl refl

secret_slot : (x : Slot Label) → (is_secret (Some x) ≡ true) ↔ IsTagged Secret x
secret_slot (Known w l) = same_label_exact l Secret
secret_slot (Wide l) = same_label_exact l Secret
secret_slot Unknown = ((λ e. absurd cc), (λ e. absurd e))

-- a slot that is secret stands at a place
secret_at : (slots : List (Slot Label)) (place : ℕ) → (is_secret (slice_get slots place) ≡ true) ↔ IsTaggedAt Secret place slots
secret_at slots place = by (slice_get slots place) refl
  where
    by : (r : Option (Slot Label)) → slice_get slots place ≡ r → (is_secret r ≡ true) ↔ IsTaggedAt Secret place slots
    by None q = ((λ e. absurd cc), (λ i. none_some (sym q ∙ i.1)))
    by (Some x) q = (
      (λ e. (x, q, (secret_slot x).0 e)),
      (λ i. (secret_slot x).1 (subst (IsTagged Secret) (sym (some_same (sym q ∙ i.1))) i.2)),
    )

module _ (C : Context Label) (own : C.labels ≡ C.result ∷ []) (code : Code Label) (at : ℕ) (op : Op Label) (v : Level Label) (outer : List (Level Label))
    (here : slice_get (opcodes code) at ≡ Some op) (ran : run same_label C (take at (opcodes code)) (outermost C) ≡ Some (v ∷ outer)) where
  public_secret : Public ≡ Secret → ⊥
  public_secret e = cc

  tags : (place : ℕ) → IsTaggedAt Secret place v.block.operands.slots ↔ HasSecretAt C code at place
  tags place = tag_place_law same_label same_label_exact C own Secret Public public_secret code at place v outer ran

  abbrev Broken : SecretRule → Type 0
  Broken rule = ((rule ≡ Divide) × IsSecretLeak C.profile op) ⊎ ((place : ℕ) × (guarded op ≡ guards rule place) × HasSecretAt C code at place)

  divides : (n : ℕ) (l : Label) (rule : SecretRule) → op ≡ Plain (Numeric n l) → (if leaks n C.profile && same_label l Secret then Some Divide else None) ≡ Some rule → (rule ≡ Divide) × IsSecretLeak C.profile op
  divides n l rule e b = by (leaks n C.profile) l refl e b
    where
      by : (timed : Bool) (m : Label) → leaks n C.profile ≡ timed → op ≡ Plain (Numeric n m) → (if timed && same_label m Secret then Some Divide else None) ≡ Some rule → (rule ≡ Divide) × IsSecretLeak C.profile op
      by true Secret q p h = (sym (some_same h), (n, p, q))
      by true Public q p h = none_some h
      by false m q p h = none_some h

  guards_it : (g : Option Guarded) (rule : SecretRule) → guarded op ≡ g → guarded_secret v.block.operands.slots g ≡ Some rule → Broken rule
  guards_it None rule e h = none_some h
  guards_it (Some g) rule e h = by (is_secret (slice_get v.block.operands.slots g.place)) refl h
    where
      by : (b : Bool) → is_secret (slice_get v.block.operands.slots g.place) ≡ b → (if b then Some g.rule else None) ≡ Some rule → Broken rule
      by true q k = inr (g.place, e ∙ ap (λ r. guards r g.place) (some_same k), (tags g.place).0 ((secret_at v.block.operands.slots g.place).0 q))
      by false q k = none_some k

  -- a rule is broken just where the pass says so
  pub breaks : (rule : SecretRule) → broken_rule C.profile op v.block.operands.slots ≡ Some rule → BreaksRule C code at rule
  breaks rule e = (op, here, by (broken_view C.profile op v.block.operands.slots))
    where
      by : (broken_rule C.profile op v.block.operands.slots ≡ guarded_secret v.block.operands.slots (guarded op)) ⊎ ((n : ℕ) × (l : Label) × (op ≡ Plain (Numeric n l))) → Broken rule
      by (inl q) = guards_it (guarded op) rule refl (sym q ∙ e)
      by (inr i) = inl (divides i.0 i.1 rule i.2 (sym (ap (λ z. broken_rule C.profile z v.block.operands.slots) i.2) ∙ e))

  broken_leak : IsSecretLeak C.profile op → broken_rule C.profile op v.block.operands.slots ≡ Some Divide
  broken_leak i = ap (λ z. broken_rule C.profile z v.block.operands.slots) i.1 ∙ ap (λ b. if b && true then Some Divide else None) i.2

  broken_guard : (rule : SecretRule) (place : ℕ) → guarded op ≡ guards rule place → HasSecretAt C code at place → broken_rule C.profile op v.block.operands.slots ≡ Some rule
  broken_guard rule place e h = by (broken_view C.profile op v.block.operands.slots)
    where
      secret : is_secret (slice_get v.block.operands.slots place) ≡ true
      secret = (secret_at v.block.operands.slots place).1 ((tags place).1 h)

      by : (broken_rule C.profile op v.block.operands.slots ≡ guarded_secret v.block.operands.slots (guarded op)) ⊎ ((n : ℕ) × (l : Label) × (op ≡ Plain (Numeric n l))) → broken_rule C.profile op v.block.operands.slots ≡ Some rule
      by (inl q) = q ∙ ap (guarded_secret v.block.operands.slots) e ∙ ap (λ b. if b then Some rule else None) secret
      by (inr i) = none_some (sym (ap guarded i.2) ∙ e)

  pub unbroken : broken_rule C.profile op v.block.operands.slots ≡ None → (rule : SecretRule) → BreaksRule C code at rule → ⊥
  unbroken n rule b = by b.2
    where
      one : b.0 ≡ op
      one = some_same (sym b.1 ∙ here)

      by : ((rule ≡ Divide) × IsSecretLeak C.profile b.0) ⊎ ((place : ℕ) × (guarded b.0 ≡ guards rule place) × HasSecretAt C code at place) → ⊥
      by (inl i) = none_some (sym n ∙ broken_leak (subst (IsSecretLeak C.profile) one i.1))
      by (inr i) = none_some (sym n ∙ broken_guard rule i.0 (sym (ap guarded one) ∙ i.1) i.2)

-- ---- all together

module _ (C : Context Label) (own : C.labels ≡ C.result ∷ []) (code : Code Label) (fault : BodyFault) (e : fault_from C 0 (opcodes code) (outermost C) ≡ Some fault) where
  it : Found C 0 (opcodes code) (outermost C) fault
  it = found C 0 (opcodes code) (outermost C) fault e

  at_is : place_of fault ≡ Some (length it.before)
  at_is = ap place_of it.is ∙ kind_place (within C it.now) it.op (0 + length it.before) (slots_of it.now) ∙ ap Some (omega arith)

  stops : StopsAt C code (length it.before)
  stops = stops_where_refused same_label same_label_exact C own code it.before it.behind it.op it.now it.all it.ran it.refused

  -- the typing stops at the fault's opcode
  pub names_the_stop : NamesTheStop C code fault
  names_the_stop = by (place_of fault) at_is
    where
      by : (p : Option ℕ) → p ≡ Some (length it.before) → IfSome p (λ at. (k : ℕ) → StopsAt C code k ↔ (k ≡ at))
      by None q = none_some q
      by (Some at) q = λ k. (
        (λ s. stops_once same_label same_label_exact C own code k (length it.before) s stops ∙ sym (some_same q)),
        (λ p. subst (StopsAt C code) (sym (p ∙ some_same q)) stops),
      )

  seam : (before behind : List (Op Label)) (op : Op Label) → slice_get (before ++ op ∷ behind) (length before) ≡ Some op
  seam [] behind op = refl
  seam (b ∷ before) behind op = seam before behind op

  kept : take (length it.before) (opcodes code) ≡ it.before
  kept = ap (take (length it.before)) it.all ∙ take-append_seam it.before (it.op ∷ it.behind)

  here : slice_get (opcodes code) (length it.before) ≡ Some it.op
  here = ap (λ z. slice_get z (length it.before)) it.all ∙ seam it.before it.behind it.op

  told : Tells (within C it.now) it.op (broken_rule C.profile it.op (slots_of it.now)) fault
  told = subst (Tells (within C it.now) it.op (broken_rule C.profile it.op (slots_of it.now))) (sym it.is) (kind_tells (within C it.now) it.op (0 + length it.before) (slots_of it.now))

  passed_kinds : (leaf : Leaf Label) → it.op ≡ Plain leaf → Passed (within C it.now) leaf fault
  passed_kinds leaf e = subst (Passed (within C it.now) leaf) (sym it.is) (kind_passed (within C it.now) it.op (0 + length it.before) (slots_of it.now) leaf e)

  fails : (test : Leaf Label → Bool) (at : ℕ) → Some at ≡ Some (length it.before) → (leaf : Leaf Label) → it.op ≡ Plain leaf → test leaf ≡ false → Fails test code at
  fails test at p leaf q e = (leaf, ap (slice_get (opcodes code)) (some_same p) ∙ here ∙ ap Some q, e)

  -- a test that the opcode passes doesn't fail
  holds : (test : Leaf Label → Bool) (at : ℕ) → Some at ≡ Some (length it.before) → ((leaf : Leaf Label) → it.op ≡ Plain leaf → test leaf ≡ true) → Fails test code at → ⊥
  holds test at p h f = true_false (sym (h f.0 (some_same (sym here ∙ ap (slice_get (opcodes code)) (sym (some_same p)) ∙ f.1))) ∙ f.2)
    where
      true_false : true ≡ false → ⊥
      true_false q = cc

  named : (v : Level Label) (outer : List (Level Label)) (at : ℕ) → Some at ≡ Some (length it.before) → run same_label C (take (length it.before) (opcodes code)) (outermost C) ≡ Some (v ∷ outer)
      → ((leaf : Leaf Label) → it.op ≡ Plain leaf → is_there (within C (v ∷ outer)) leaf ≡ true) → NamesNothing C code at → ⊥
  named v outer at p r h n =
      let same : v ∷ outer ≡ n.0 = some_same (sym r ∙ ap (λ k. run same_label C (take k (opcodes code)) (outermost C)) (sym (some_same p)) ∙ n.1) in
      holds (is_there (within C n.0)) at p (λ leaf e. subst (λ vs. is_there (within C vs) leaf ≡ true) same (h leaf e)) n.2

  module _ (v : Level Label) (outer : List (Level Label)) (r : run same_label C (take (length it.before) (opcodes code)) (outermost C) ≡ Some (v ∷ outer)) where
    mutable : (at : ℕ) → Some at ≡ Some (length it.before) → ((leaf : Leaf Label) → it.op ≡ Plain leaf → is_mutable (within C (v ∷ outer)) leaf ≡ true) → Fails (is_mutable C) code at → ⊥
    mutable at p h = holds (is_mutable C) at p (λ leaf e. mutable_within C (v ∷ outer) leaf ∙ h leaf e)

    allowed : (at : ℕ) → Some at ≡ Some (length it.before) → ((leaf : Leaf Label) → it.op ≡ Plain leaf → is_allowed (within C (v ∷ outer)) leaf ≡ true) → Fails (is_allowed C) code at → ⊥
    allowed at p h = holds (is_allowed C) at p (λ leaf e. allowed_within C (v ∷ outer) leaf ∙ h leaf e)

    kept_rule : (at : ℕ) → Some at ≡ Some (length it.before) → broken_rule C.profile it.op v.block.operands.slots ≡ None → (rule : SecretRule) → BreaksRule C code at rule → ⊥
    kept_rule at p t rule b = unbroken C own code (length it.before) it.op v outer here r t rule (subst (λ z. BreaksRule C code z rule) (some_same p) b)

    by_fault : (f : BodyFault) → place_of f ≡ Some (length it.before) → Tells (within C (v ∷ outer)) it.op (broken_rule C.profile it.op v.block.operands.slots) f
        → ((leaf : Leaf Label) → it.op ≡ Plain leaf → Passed (within C (v ∷ outer)) leaf f) → Applies C code f
    by_fault (Index at) p t h = record {
      says = (v ∷ outer, subst (λ z. run same_label C (take z (opcodes code)) (outermost C) ≡ Some (v ∷ outer)) (sym (some_same p)) r, fails (is_there (within C (v ∷ outer))) at p t.0 t.1 t.2);
      first = tt;
    }
    by_fault (Align at) p t h = record {
      says = fails is_aligned at p t.0 t.1 t.2;
      first = (named v outer at p r h, tt);
    }
    by_fault (Immutable at) p t h = record {
      says = fails (is_mutable C) at p t.0 t.1 (mutable_within C (v ∷ outer) t.0 ∙ t.2);
      first = (named v outer at p r (λ leaf e. (h leaf e).0), (holds is_aligned at p (λ leaf e. (h leaf e).1), tt));
    }
    by_fault (Trust at) p t h = record {
      says = fails (is_allowed C) at p t.0 t.1 (allowed_within C (v ∷ outer) t.0 ∙ t.2);
      first = (named v outer at p r (λ leaf e. (h leaf e).0), (holds is_aligned at p (λ leaf e. (h leaf e).1), (mutable at p (λ leaf e. (h leaf e).2), tt)));
    }
    by_fault (SecretPlace at rule) p t h = record {
      says = subst (λ z. BreaksRule C code z rule) (sym (some_same p)) (breaks C own code (length it.before) it.op v outer here r rule t);
      first = (named v outer at p r (λ leaf e. (h leaf e).0), (holds is_aligned at p (λ leaf e. (h leaf e).1), (mutable at p (λ leaf e. (h leaf e).2), (allowed at p (λ leaf e. (h leaf e).3), tt))));
    }
    by_fault (WrongType at) p t h = record {
      says = tt;
      first = (
        named v outer at p r (λ leaf e. (h leaf e).0),
        (
          holds is_aligned at p (λ leaf e. (h leaf e).1),
          (
            mutable at p (λ leaf e. (h leaf e).2),
            (
              allowed at p (λ leaf e. (h leaf e).3),
              (kept_rule at p t Condition, (kept_rule at p t TableIndex, (kept_rule at p t CallIndex, (kept_rule at p t Address, (kept_rule at p t Divide, (kept_rule at p t GrowSize, tt)))))),
            ),
          ),
        ),
      );
    }
    by_fault NoMemory p t h = none_some p

  by_levels : (now : List (Level Label)) → run same_label C it.before (outermost C) ≡ Some now → Tells (within C now) it.op (broken_rule C.profile it.op (slots_of now)) fault
      → ((leaf : Leaf Label) → it.op ≡ Plain leaf → Passed (within C now) leaf fault) → Applies C code fault
  by_levels [] r t h = absurd (level_open same_label same_label_exact C own code it.before it.behind it.op it.all r)
  by_levels (v ∷ outer) r t h = by_fault v outer (ap (λ z. run same_label C z (outermost C)) kept ∙ r) fault at_is t h

  -- its kind applies to that opcode, and none before it does
  pub applies : Applies C code fault
  applies = by_levels it.now it.ran told passed_kinds
