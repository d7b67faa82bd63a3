-- What the rows of the link table ask of an instruction's operands, the last operand first.
use Rattle.std.specs.Prelude.{◌≤◌, ◌<◌, ◌^◌, ℕ, zero, suc, ◌+◌, ◌-◌, List, [], ◌∷◌, ◌++◌, map, Option, Some, None, slice_get, unwrap_or}
use Rattle.ctw_ops.specs.declared.types.Width.TheVariants.{W32}
use Rattle.ctw_ops.specs.Types.{ValueType, FunctionType, VariableType, value_type}
use Rattle.ctw_ops.specs.declared.numeric.NumSig.{NumSig}
use Rattle.ctw_ops.specs.Numeric.{num_sig_of, leaks}
use Rattle.ctw_ops.specs.Code.{Leaf, Br, BrIf, BrTable, Return, Call, CallIndirect, LocalSet, LocalTee, GlobalSet, Load, Store, MemoryGrow, Numeric, Op, Plain, Opens, Closes}
use Rattle.ctw_ops.specs.Typing.{Context, optional, operands}
use Rattle.ctw_stack.specs.Operands.{Operands}
use Rattle.ctw_stack.specs.Opens.{Open, target_of}
use Rattle.ctw_labels.specs.declared.tag.Tag.{Tag}
use Rattle.ctw_labels.specs.declared.tag.Tag.TheVariants.{At, Fixed}
use Rattle.ctw_labels.specs.Links.{Fact, fact, after, wants, label_facts, timed_facts}
use Rattle.ctw_labels.specs.Numbering.{BodyPlace, type_from, named_in}
use Rattle.ctw_sites.specs.Rows.{rest_of, Row}
use Rattle.ctw_links.specs.declared.asks.Ask.{Ask}
use Rattle.ctw_links.specs.declared.asks.Asks.{Asks}
use Rattle.ctw_links.specs.declared.asks.Asks.TheVariants.{Nothing, One, Two, Alike, Params, Indexed}

abbrev pub ask : ℕ → Tag → Ask
ask rule tag = record { rule = rule; tag = tag }

-- the facts that asks of operands give; an unknown operand gives none
abbrev pub asked : List Ask → Operands Tag → List (Fact Tag)
asked [] o = []
asked (a ∷ more) o = wants a.rule (value_type W32 a.tag) o ++ asked more (rest_of o)

-- the same of the innermost block
abbrev pub asked_on : List Ask → List (Open Tag) → List (Fact Tag)
asked_on more [] = []
asked_on more (v ∷ outer) = asked more v.operands

-- operands that are to have the labels of these tags, the tag of the first one first
abbrev pub asks_all : ℕ → List Tag → List Ask
asks_all r [] = []
asks_all r (a ∷ more) = asks_all r more ++ ask r a ∷ []

abbrev pub tags_of : List (ValueType Tag) → List Tag
tags_of ts = map (λ t. t.tag) ts

-- ---- the lists that values stand for

-- parameters whose sites begin at `first`
abbrev pub param_asks : ℕ → ℕ → List Ask
param_asks first zero = []
param_asks first (suc k) = ask 7 (At (first + k)) ∷ param_asks first k

abbrev pub alike_asks : Ask → ℕ → List Ask
alike_asks a zero = []
alike_asks a (suc k) = a ∷ alike_asks a k

abbrev pub listed : Asks → List Ask
listed Nothing = []
listed (One last) = last ∷ []
listed (Two last below) = last ∷ below ∷ []
listed (Alike each count) = alike_asks each count
listed (Params first count) = param_asks first count
listed (Indexed first count) = ask 14 Fixed ∷ param_asks first count

-- the sites of parameters fit into 32 bits
abbrev pub HasRoom : Asks → Type 0
HasRoom (Params first count) = first + count < 2 ^ 32
HasRoom (Indexed first count) = first + count < 2 ^ 32
HasRoom _ = Unit {0}

-- ---- the rows

-- what a branch carries
abbrev pub branch_asks : Option (Option (ValueType Tag)) → List Ask
branch_asks None = []
branch_asks (Some t) = asks_all 8 (tags_of (optional t))

-- the same below an operand of another rule
abbrev pub branch_asks_below : Ask → Option (Option (ValueType Tag)) → List Ask
branch_asks_below a None = []
branch_asks_below a (Some t) = a ∷ asks_all 8 (tags_of (optional t))

abbrev pub call_asks : Option (FunctionType Tag) → List Ask
call_asks None = []
call_asks (Some g) = asks_all 7 (tags_of g.params)

abbrev pub value_asks : ℕ → Option (ValueType Tag) → List Ask
value_asks r None = []
value_asks r (Some t) = ask r t.tag ∷ []

abbrev pub global_asks : Option (VariableType Tag) → List Ask
global_asks None = []
global_asks (Some g) = ask 5 g.value.tag ∷ []

abbrev pub numeric_asks : ℕ → Option NumSig → List Ask
numeric_asks n None = []
numeric_asks n (Some sig) = asks_all 2 (tags_of (operands sig (At n)))

abbrev pub asks : {A : Type 0} → BodyPlace A → Context Tag → ℕ → Leaf A → List Ask
asks P C n (Br k) = branch_asks (slice_get C.labels k)
asks P C n (BrIf k) = branch_asks_below (ask 13 C.public) (slice_get C.labels k)
asks P C n (BrTable ks k) = branch_asks_below (ask 14 C.public) (slice_get C.labels k)
asks P C n Return = asks_all 10 (tags_of (optional C.result))
asks P C n (Call f) = call_asks (slice_get C.functions f)
asks P C n (CallIndirect y) = ask 14 C.public ∷ asks_all 7 (tags_of (type_from n (named_in P.types y)).params)
asks P C n (LocalSet x) = value_asks 4 (slice_get C.locals x)
asks P C n (LocalTee x) = value_asks 4 (slice_get C.locals x)
asks P C n (GlobalSet x) = global_asks (slice_get C.globals x)
asks P C n (Load w l bytes signed align offset) = ask 15 C.public ∷ []
asks P C n (Store w l bytes align offset) = ask 6 (unwrap_or C.memory Fixed) ∷ ask 15 C.public ∷ []
asks P C n MemoryGrow = ask 17 C.public ∷ []
asks P C n (Numeric op l) = numeric_asks n (num_sig_of op)
asks P C n _ = []

-- the facts of an instruction that aren't asked of an operand: targets of a table, and what leaks
abbrev pub own_facts : {A : Type 0} → Context Tag → ℕ → Leaf A → List (Fact Tag)
own_facts C n (BrTable ks k) = after (slice_get C.labels k) (λ t. label_facts 9 C t ks)
own_facts C n (Numeric op l) = after (num_sig_of op) (λ sig. timed_facts 16 (leaks op C.profile) (At n) C.public)
own_facts C n _ = []

-- the label that a target of a table carries, and that of the default
abbrev pub target_told : Tag → Option (Option (ValueType Tag)) → List (Fact Tag)
target_told tag None = []
target_told tag (Some None) = []
target_told tag (Some (Some t)) = fact 9 t.tag tag

abbrev pub targets_told : Tag → List ℕ → List (Open Tag) → List (Fact Tag)
targets_told tag [] b = []
targets_told tag (k ∷ ks) b = target_told tag (target_of k b) ++ targets_told tag ks b

abbrev pub told_under : Option (Option (ValueType Tag)) → List ℕ → List (Open Tag) → List (Fact Tag)
told_under None ks b = []
told_under (Some None) ks b = []
told_under (Some (Some t)) ks b = targets_told t.tag ks b

abbrev pub table_told : ℕ → List ℕ → List (Open Tag) → List (Fact Tag)
table_told k ks b = told_under (target_of k b) ks b

-- the same of an opcode; one that opens or closes a block asks otherwise
abbrev pub asks_of_op : {A : Type 0} → BodyPlace A → Context Tag → ℕ → Op A → List Ask
asks_of_op P C n (Plain i) = asks P C n i
asks_of_op P C n (Opens shape t) = []
asks_of_op P C n (Closes closer) = []

abbrev pub own_facts_of_op : {A : Type 0} → Context Tag → ℕ → Op A → List (Fact Tag)
own_facts_of_op C n (Plain i) = own_facts C n i
own_facts_of_op C n (Opens shape t) = []
own_facts_of_op C n (Closes closer) = []

-- a row without so many of the operands that it takes
abbrev pub left : ℕ → Row → Row
left k r = record { takes = r.takes - k; ends = r.ends; gives = r.gives; lifts = r.lifts }
