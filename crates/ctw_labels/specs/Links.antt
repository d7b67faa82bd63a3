-- The link table: which tags each form of instruction joins, and by which rule.
use Rattle.std.specs.Prelude.{◌≡◌, ℕ, Bool, true, false, List, [], ◌∷◌, ◌++◌, Option, Some, None, slice_get, unwrap_or}
use Rattle.std.specs.List.{AllByRecursion}
use Rattle.ctw_ops.specs.declared.types.Width.TheVariants.{W32}
use Rattle.ctw_ops.specs.declared.types.Label.{Label}
use Rattle.ctw_ops.specs.declared.types.Label.TheVariants.{Public, Secret}
use Rattle.ctw_ops.specs.Types.{ValueType, value_type}
use Rattle.ctw_ops.specs.Numeric.{num_sig_of, leaks}
use Rattle.ctw_ops.specs.Code.{Leaf, Br, BrIf, BrTable, Return, Call, CallIndirect, Select, LocalSet, LocalTee, GlobalSet, Load, Store, MemoryGrow, Numeric}
use Rattle.ctw_ops.specs.Typing.{Context, optional, i32, inside, operands}
use Rattle.ctw_stack.specs.declared.slot.Slot.{Slot}
use Rattle.ctw_stack.specs.declared.slot.Slot.TheVariants.{Known, Wide, Unknown}
use Rattle.ctw_stack.specs.Operands.{Operands, fresh, pop}
use Rattle.ctw_stack.specs.Steps.{pushes, expect, expects, step}
use Rattle.ctw_labels.specs.Names.{Tag, At, Fixed}
use Rattle.ctw_labels.specs.Sited.{yes, Lift, Sited, Done, Does, Uses, Blocks, Loops, Ifs, IfElses, lifted, with_user}
use Rattle.ctw_labels.specs.Numbering.{after_lift}

-- two tags that have to have one label, and the rule that says so
pub record Fact (S : Type 0) : Type 0 where
  pub rule : ℕ
  pub left : S
  pub right : S

abbrev pub fact : {S : Type 0} → ℕ → S → S → List (Fact S)
fact r a b = record { rule = r; left = a; right = b } ∷ []

abbrev pub after : {A W : Type 0} → Option A → (A → List W) → List W
after None f = []
after (Some x) f = f x

-- an operand's tag and another one; an unknown operand has none
abbrev pub joins : {S : Type 0} → ℕ → Slot S → S → List (Fact S)
joins r (Known w a) b = fact r a b
joins r (Wide a) b = fact r a b
joins r Unknown b = []

-- the last operand and the type that is wanted of it
abbrev pub wants : {S : Type 0} → ℕ → ValueType S → Operands S → List (Fact S)
wants r t o = after (pop o) (λ p. joins r p.slot t.tag)

-- the operands and the types that are wanted of them, the first one first
abbrev pub wants_all : {S : Type 0} → ℕ → List (ValueType S) → Operands S → List (Fact S)
wants_all r [] o = []
wants_all r (t ∷ ts) o = wants_all r ts o ++ after (expects yes ts o) (wants r t)

-- the same, where one more operand of another rule lies above them
abbrev pub wants_above : {S : Type 0} → ℕ → ValueType S → ℕ → List (ValueType S) → Operands S → List (Fact S)
wants_above r u q ts o = wants r u o ++ after (expect yes u o) (wants_all q ts)

-- the last two operands and a tag
abbrev pub wants_both : {S : Type 0} → ℕ → S → Operands S → List (Fact S)
wants_both r l o = after (pop o) (λ p. after (pop p.rest) (λ q. joins r p.slot l ++ joins r q.slot l))

abbrev pub result_facts : {S : Type 0} → ℕ → Option (ValueType S) → Option (ValueType S) → List (Fact S)
result_facts r (Some t) (Some u) = fact r t.tag u.tag
result_facts r _ _ = []

-- each target of a table and the default's
abbrev pub label_facts : {S : Type 0} → ℕ → Context S → Option (ValueType S) → List ℕ → List (Fact S)
label_facts r C t [] = []
label_facts r C t (k ∷ ks) = after (slice_get C.labels k) (λ u. result_facts r u t) ++ label_facts r C t ks

abbrev pub timed_facts : {S : Type 0} → ℕ → Bool → S → S → List (Fact S)
timed_facts r true l p = fact r l p
timed_facts r false l p = []

-- ---- the table

-- operand 2, select 3, local 4, global 5, memory 6, argument 7, branch 8, targets 9, leave 10;
-- condition 13, index 14, address 15, divide 16, grow 17
abbrev pub facts_of : {S : Type 0} → Context S → Leaf S → Operands S → List (Fact S)
facts_of C (Br k) o = after (slice_get C.labels k) (λ t. wants_all 8 (optional t) o)
facts_of C (BrIf k) o = after (slice_get C.labels k) (λ t. wants_above 13 (i32 C) 8 (optional t) o)
facts_of C (BrTable ks k) o =
    after (slice_get C.labels k) (λ t. label_facts 9 C t ks ++ wants_above 14 (i32 C) 8 (optional t) o)
facts_of C Return o = wants_all 10 (optional C.result) o
facts_of C (Call f) o = after (slice_get C.functions f) (λ g. wants_all 7 g.params o)
facts_of C (CallIndirect y) o = after (slice_get C.types y) (λ g. wants_above 14 (i32 C) 7 g.params o)
facts_of C (Select l) o = wants 3 (value_type W32 l) o ++ after (expect yes (value_type W32 l) o) (wants_both 3 l)
facts_of C (LocalSet x) o = after (slice_get C.locals x) (λ t. wants 4 t o)
facts_of C (LocalTee x) o = after (slice_get C.locals x) (λ t. wants 4 t o)
facts_of C (GlobalSet x) o = after (slice_get C.globals x) (λ g. wants 5 g.value o)
facts_of C (Load w l bytes signed align offset) o = wants 15 (i32 C) o
facts_of C (Store w l bytes align offset) o = wants_above 6 (value_type w l) 15 (i32 C ∷ []) o
facts_of C MemoryGrow o = wants 17 (i32 C) o
facts_of C (Numeric op l) o =
    after (num_sig_of op) (λ sig. timed_facts 16 (leaks op C.profile) l C.public ++ wants_all 2 (operands sig l) o)
facts_of C _ o = []

-- the end of a block with a result
abbrev pub facts_of_end : {S : Type 0} → Option (ValueType S) → Operands S → List (Fact S)
facts_of_end t o = wants_all 10 (optional t) o

-- ---- the facts of a sequence, in the order of its opcodes

-- the operands behind a sequence
abbrev pub ending : {S : Type 0} → Context S → Sited S → Operands S → Operands S
ending C Done o = o
ending C (Does i l rest) o = ending C rest (after_lift l (step yes C i o))
ending C (Uses y g l rest) o = ending C rest (after_lift l (step yes (with_user g C) (CallIndirect 0) o))
ending C (Blocks t l body rest) o = ending C rest (lifted l (pushes (optional t) o))
ending C (Loops t l body rest) o = ending C rest (lifted l (pushes (optional t) o))
ending C (Ifs t l arm rest) o = ending C rest (lifted l (pushes (optional t) (unwrap_or (expect yes (i32 C) o) fresh)))
ending C (IfElses t l arm other rest) o =
    ending C rest (lifted l (pushes (optional t) (unwrap_or (expect yes (i32 C) o) fresh)))

abbrev pub facts : {S : Type 0} → Context S → Sited S → Operands S → List (Fact S)
facts C Done o = []
facts C (Does i l rest) o = facts_of C i o ++ facts C rest (after_lift l (step yes C i o))
facts C (Uses y g l rest) o =
    facts_of (with_user g C) (CallIndirect 0) o
    ++ facts C rest (after_lift l (step yes (with_user g C) (CallIndirect 0) o))
facts C (Blocks t l body rest) o =
    facts (inside t C) body fresh
    ++ (facts_of_end t (ending (inside t C) body fresh) ++ facts C rest (lifted l (pushes (optional t) o)))
facts C (Loops t l body rest) o =
    facts (inside None C) body fresh
    ++ (facts_of_end t (ending (inside None C) body fresh) ++ facts C rest (lifted l (pushes (optional t) o)))
facts C (Ifs t l arm rest) o =
    wants 13 (i32 C) o
    ++ (facts (inside t C) arm fresh
    ++ (facts_of_end t (ending (inside t C) arm fresh)
    ++ facts C rest (lifted l (pushes (optional t) (unwrap_or (expect yes (i32 C) o) fresh)))))
facts C (IfElses t l arm other rest) o =
    wants 13 (i32 C) o ++ (facts (inside t C) arm fresh ++ (facts_of_end t (ending (inside t C) arm fresh)
    ++ (facts (inside t C) other fresh
    ++ (facts_of_end t (ending (inside t C) other fresh)
    ++ facts C rest (lifted l (pushes (optional t) (unwrap_or (expect yes (i32 C) o) fresh)))))))

-- the lifts of a sequence
abbrev pub lift_list : {S : Type 0} → Option (Lift S) → List (Lift S)
lift_list None = []
lift_list (Some l) = l ∷ []

abbrev pub lifts : {S : Type 0} → Sited S → List (Lift S)
lifts Done = []
lifts (Does i l rest) = lift_list l ++ lifts rest
lifts (Uses y g l rest) = lift_list l ++ lifts rest
lifts (Blocks t l body rest) = lift_list l ++ (lifts body ++ lifts rest)
lifts (Loops t l body rest) = lift_list l ++ (lifts body ++ lifts rest)
lifts (Ifs t l arm rest) = lift_list l ++ (lifts arm ++ lifts rest)
lifts (IfElses t l arm other rest) = lift_list l ++ (lifts arm ++ (lifts other ++ lifts rest))

-- ---- links between sites, and sites that have to be public

-- where `from` is secret, `to` is
pub record Link : Type 0 where
  pub from : ℕ
  pub to : ℕ
  pub rule : ℕ

pub record Must : Type 0 where
  pub site : ℕ
  pub rule : ℕ

-- two sites are linked both ways; a site and what is always public make a public site
abbrev pub fact_links : ℕ → Tag → Tag → List Link
fact_links r (At a) (At b) = record { from = a; to = b; rule = r } ∷ record { from = b; to = a; rule = r } ∷ []
fact_links r _ _ = []

abbrev pub fact_musts : ℕ → Tag → Tag → List Must
fact_musts r (At a) Fixed = record { site = a; rule = r } ∷ []
fact_musts r Fixed (At b) = record { site = b; rule = r } ∷ []
fact_musts r _ _ = []

-- yield 1: a yield's site and its push
abbrev pub lift_links : Bool → Tag → Tag → List Link
lift_links false (At y) (At p) = record { from = y; to = p; rule = 1 } ∷ []
lift_links free _ _ = []

abbrev pub links_of : List (Fact Tag) → List Link
links_of [] = []
links_of (q ∷ qs) = fact_links q.rule q.left q.right ++ links_of qs

abbrev pub musts_of : List (Fact Tag) → List Must
musts_of [] = []
musts_of (q ∷ qs) = fact_musts q.rule q.left q.right ++ musts_of qs

abbrev pub links_up : List (Lift Tag) → List Link
links_up [] = []
links_up (l ∷ ls) = lift_links l.free l.source l.target ++ links_up ls

-- a labelling of sites, at tags
abbrev pub at_tag : (ℕ → Label) → Tag → Label
at_tag L (At n) = L n
at_tag L Fixed = Public

abbrev pub Obeys : (ℕ → Label) → List Link → List Must → Type 0
Obeys L links musts =
    AllByRecursion (λ k. L k.from ≡ Secret → L k.to ≡ Secret) links × AllByRecursion (λ k. L k.site ≡ Public) musts
