-- Tags of sites below a number: the facts of code have none but those, where what it may name has none but those.
use Rattle.std.proofs.Common.{◌≡◌, ◌≤◌, ◌<◌, ℕ, zero, suc, ◌+◌, ◌-◌, Bool, true, false, List, [], ◌∷◌, ◌++◌, length, map, Option, Some, None, refl, sym, ◌∙◌, ap, subst, arith, length-append}
use Rattle.std.specs.Prelude.{slice_get, unwrap_or, option_map, replicate, IsSome, if◌then◌else◌}
use Rattle.std.specs.List.{AllByRecursion}
use Rattle.std.proofs.lemmas.List.{length-replicate}
use Rattle.ctw_ops.specs.declared.types.Width.{Width}
use Rattle.ctw_ops.specs.declared.types.Width.TheVariants.{W32}
use Rattle.ctw_ops.specs.declared.numeric.NumSig.{NumSig}
use Rattle.ctw_ops.specs.Types.{ValueType, FunctionType, VariableType, value_type}
use Rattle.ctw_ops.specs.Numeric.{num_sig_of, leaks}
use Rattle.ctw_ops.specs.Code.{Leaf, Unreachable, Nop, Br, BrIf, BrTable, Return, Call, CallIndirect, Drop, Select, LocalGet, LocalSet, LocalTee, GlobalGet, GlobalSet, Load, Store, MemorySize, MemoryGrow, Const, Numeric, Classify, Declassify, OfBlock, OfLoop, OfIf, ByEnd, ByElse, Op, Plain, Opens, Closes}
use Rattle.ctw_ops.specs.Typing.{Context, optional, i32, operands}
use Rattle.ctw_stack.specs.declared.slot.Slot.{Slot}
use Rattle.ctw_stack.specs.declared.slot.Slot.TheVariants.{Known, Wide, Unknown}
use Rattle.ctw_stack.specs.Operands.{Operands, fresh, killed, pop, pop_from, push}
use Rattle.ctw_stack.specs.Opens.{Open, opened, with_operands, label_from, label_of}
use Rattle.ctw_stack.specs.Steps.{pushes, expect}
use Rattle.ctw_labels.specs.declared.tag.Tag.{Tag}
use Rattle.ctw_labels.specs.declared.tag.Tag.TheVariants.{At, Fixed}
use Rattle.ctw_labels.specs.declared.name.SiteName.{SiteName}
use Rattle.ctw_labels.specs.declared.name.SiteName.TheVariants.{Push, IParam, IResult}
use Rattle.ctw_labels.specs.Names.{Site, push_site, site_number}
use Rattle.ctw_labels.specs.Sited.{yes, Lift, lifted, relabel}
use Rattle.ctw_labels.specs.Links.{Fact, fact, after, joins, wants, wants_all, result_facts, label_facts, timed_facts, facts_of_end}
use Rattle.ctw_labels.specs.Numbering.{BodyPlace, params_from, result_from, type_from, named_in, sites_for, site_if, own_sites, block_sites}
use Rattle.ctw_labels.specs.FlatSites.{among, result_lift, handed, opens_behind, op_sites, flat_sites, op_facts, flat_facts, GoesBy, Goes}
use Rattle.ctw_labels.proofs.Contexts.{type_length}
use Rattle.ctw_labels.proofs.NumberLaws.{all_append_to}
use Rattle.ctw_sites.specs.Rows.{rest_of, rests, Row, given_at, done, push_by, push_of, row, branch_row, call_row, numeric_row, is_select}
use Rattle.ctw_sites.specs.Leaves.{IsRowOf, IsLeaf, is_select_op, own_of, either, chosen_width, chosen_slot, chosen_push, selected}
use Rattle.ctw_sites.specs.Stacks.{on_innermost}
use Rattle.ctw_sites.proofs.PassLaws.{row_behind, row_sites, chosen_law, chosen_own, own_within}
use Rattle.ctw_sites.proofs.LeafLaws.{own_length}
use Rattle.ctw_sites.proofs.StepLaws.{if_rest}
use Rattle.ctw_links.specs.declared.asks.Ask.{Ask}
use Rattle.ctw_links.specs.declared.user.User.{User}
use Rattle.ctw_links.specs.Collected.{TagIn, FactIn}
use Rattle.ctw_links.specs.Asks.{ask, asked, asked_on, asks_all, tags_of, branch_asks, branch_asks_below, call_asks, value_asks, global_asks, numeric_asks, asks, own_facts, asks_of_op, own_facts_of_op}
use Rattle.ctw_links.specs.Uses.{op_users, flat_users, type_of_user}
use Rattle.ctw_links.proofs.RowFacts.{op_right, select_op}

-- an item that is found in a list has what all have
pub found : {X : Type 0} (P : X → Type 0) (xs : List X) → AllByRecursion P xs → (k : ℕ) (x : X) → slice_get xs k ≡ Some x → P x
found P [] h k x e = absurd (none_here e)
  where
    none_here : {Y : Type 0} {y : Y} → slice_get {X = Y} [] k ≡ Some y → ⊥
    none_here e = cc
found P (y ∷ xs) h zero x e = let q : y ≡ x = cc in subst P q h.0
found P (y ∷ xs) h (suc k) x e = found P xs h.1 k x e

abbrev pub ResultIn : ℕ → Option (ValueType Tag) → Type 0
ResultIn N None = Unit {0}
ResultIn N (Some t) = TagIn N t.tag

abbrev pub ValuesIn : ℕ → List (ValueType Tag) → Type 0
ValuesIn N ts = AllByRecursion (λ t. TagIn N t.tag) ts

pub record TypeIn (N : ℕ) (g : FunctionType Tag) : Type 0 where
  pub params : AllByRecursion (λ t. TagIn N t.tag) g.params
  pub result : ResultIn N g.result

abbrev pub FactsIn : ℕ → List (Fact Tag) → Type 0
FactsIn N qs = AllByRecursion (FactIn N) qs

abbrev SlotIn : ℕ → Slot Tag → Type 0
SlotIn N (Known w a) = TagIn N a
SlotIn N (Wide a) = TagIn N a
SlotIn N Unknown = Unit {0}

abbrev OpsIn : ℕ → Operands Tag → Type 0
OpsIn N o = AllByRecursion (SlotIn N) o.slots

abbrev BlockIn : ℕ → Open Tag → Type 0
BlockIn N v = OpsIn N v.operands × ResultIn N v.yields

abbrev pub BlocksIn : ℕ → List (Open Tag) → Type 0
BlocksIn N b = AllByRecursion (BlockIn N) b

abbrev AsksIn : ℕ → List Ask → Type 0
AsksIn N more = AllByRecursion (λ a. TagIn N a.tag × (0 < a.rule)) more

-- what a body may name
pub record ScopeIn (N : ℕ) (C : Context Tag) : Type 0 where
  pub functions : AllByRecursion (TypeIn N) C.functions
  pub globals : AllByRecursion (λ g. TagIn N g.value.tag) C.globals
  pub locals : AllByRecursion (λ t. TagIn N t.tag) C.locals
  pub memory : TagIn N (unwrap_or C.memory Fixed)
  pub result : ResultIn N C.result
  pub public : TagIn N C.public
  pub secret : TagIn N C.secret

-- the site of a block's result inside another one, and that of its push
abbrev NextTag : ℕ → Tag → Type 0
NextTag N (At k) = k + 1 < N
NextTag N Fixed = Unit {0}

abbrev NextIn : ℕ → Option (ValueType Tag) → Type 0
NextIn N None = Unit {0}
NextIn N (Some t) = NextTag N t.tag

abbrev HasNext : ℕ → Option (ValueType Tag) → List (Open Tag) → Type 0
HasNext N t [] = Unit {0}
HasNext N t (w ∷ outer) = NextIn N t

abbrev pub AreInner : ℕ → List (Open Tag) → Type 0
AreInner N [] = Unit {0}
AreInner N (v ∷ outer) = HasNext N v.yields outer × AreInner N outer

-- the site that a site yields
abbrev YieldOf : ℕ → Option ℕ → Type 0
YieldOf N None = Unit {0}
YieldOf N (Some y) = y < N

abbrev pub YieldIn : ℕ → Site → Type 0
YieldIn N s = YieldOf N s.yields

abbrev pub YieldsIn : ℕ → List Site → Type 0
YieldsIn N ss = AllByRecursion (YieldIn N) ss

module _ (N : ℕ) where
  pub facts_both : (xs ys : List (Fact Tag)) → FactsIn N xs → FactsIn N ys → FactsIn N (xs ++ ys)
  facts_both xs ys h k = all_append_to (FactIn N) xs ys h k

  -- ---- operands

  rest_in : (o : Operands Tag) → OpsIn N o → OpsIn N (rest_of o)
  rest_in o h = by_slots o.dead o.slots h
    where
      by_slots : (d : Bool) (xs : List (Slot Tag)) → AllByRecursion (SlotIn N) xs → OpsIn N (unwrap_or (option_map (λ p. p.rest) (pop_from {S = Tag} d xs)) (record { dead = d; slots = xs }))
      by_slots d (x ∷ xs) h = h.1
      by_slots true [] h = tt
      by_slots false [] h = tt

  rests_in : (k : ℕ) (o : Operands Tag) → OpsIn N o → OpsIn N (rests k o)
  rests_in zero o h = h
  rests_in (suc k) o h = rest_in (rests k o) (rests_in k o h)

  wants_in : (r : ℕ) → 0 < r → (t : ValueType Tag) (o : Operands Tag) → OpsIn N o → TagIn N t.tag → FactsIn N (wants r t o)
  wants_in r p t o h k = by_slots o.dead o.slots h
    where
      one : (x : Slot Tag) → SlotIn N x → FactsIn N (joins r x t.tag)
      one (Known w a) h = ((h, k, p), tt)
      one (Wide a) h = ((h, k, p), tt)
      one Unknown h = tt

      by_slots : (d : Bool) (xs : List (Slot Tag)) → AllByRecursion (SlotIn N) xs → FactsIn N (after (pop_from {S = Tag} d xs) (λ p. joins r p.slot t.tag))
      by_slots d (x ∷ xs) h = one x h.0
      by_slots true [] h = tt
      by_slots false [] h = tt

  asked_in : (more : List Ask) (o : Operands Tag) → OpsIn N o → AsksIn N more → FactsIn N (asked more o)
  asked_in [] o h k = tt
  asked_in (a ∷ more) o h k = facts_both (wants a.rule (value_type W32 a.tag) o) (asked more (rest_of o)) (wants_in a.rule k.0.1 (value_type W32 a.tag) o h k.0.0) (asked_in more (rest_of o) (rest_in o h) k.1)

  asked_on_in : (more : List Ask) (b : List (Open Tag)) → BlocksIn N b → AsksIn N more → FactsIn N (asked_on more b)
  asked_on_in more [] h k = tt
  asked_on_in more (v ∷ outer) h k = asked_in more v.operands h.0.0 k

  all_in : (r : ℕ) → 0 < r → (more : List Tag) → AllByRecursion (TagIn N) more → AsksIn N (asks_all r more)
  all_in r p [] h = tt
  all_in r p (a ∷ more) h = all_append_to (λ a. TagIn N a.tag × (0 < a.rule)) (asks_all r more) (ask r a ∷ []) (all_in r p more h.1) ((h.0, p), tt)

  tags_in : (ts : List (ValueType Tag)) → ValuesIn N ts → AllByRecursion (TagIn N) (tags_of ts)
  tags_in [] h = tt
  tags_in (t ∷ ts) h = (h.0, tags_in ts h.1)

  optional_in : (t : Option (ValueType Tag)) → ResultIn N t → ValuesIn N (optional t)
  optional_in None h = tt
  optional_in (Some t) h = (h, tt)

  -- ---- types under sites

  pub params_in : {A : Type 0} (n : ℕ) (ts : List (ValueType A)) → n + length ts ≤ N → ValuesIn N (params_from n ts)
  params_in n [] le = tt
  params_in n (t ∷ ts) le = (omega (arith, le), params_in (n + 1) ts (omega (arith, le)))

  pub result_in : {A : Type 0} (n : ℕ) (t : Option (ValueType A)) → n + length (optional t) ≤ N → ResultIn N (result_from n t)
  result_in n None le = tt
  result_in n (Some t) le = omega (arith, le)

  pub type_in : {A : Type 0} (n : ℕ) (g : FunctionType A) → n + (length g.params + length (optional g.result)) ≤ N → TypeIn N (type_from n g)
  type_in n g le = record { params = params_in n g.params (omega (arith, le)); result = result_in (n + length g.params) g.result (omega (arith, le)) }

  -- ---- labels of blocks

  label_in : (loops : Bool) (t : Option (ValueType Tag)) → ResultIn N t → ResultIn N (label_from loops t)
  label_in true t h = tt
  label_in false t h = h

  labels_in : (b : List (Open Tag)) → BlocksIn N b → AllByRecursion (ResultIn N) (map label_of b)
  labels_in [] h = tt
  labels_in (v ∷ outer) h = (label_in v.loops v.yields h.0.1, labels_in outer h.1)

  module _ (b : List (Open Tag)) (hb : BlocksIn N b) (C : Context Tag) (h : ScopeIn N C) where
    target_in : (k : ℕ) (t : Option (ValueType Tag)) → slice_get (map label_of b) k ≡ Some t → ResultIn N t
    target_in k t e = found (ResultIn N) (map label_of b) (labels_in b hb) k t e

    branch_in : (x : Option (Option (ValueType Tag))) → ((t : Option (ValueType Tag)) → x ≡ Some t → ResultIn N t) → AsksIn N (branch_asks x)
    branch_in None f = tt
    branch_in (Some t) f = all_in 8 (omega arith) (tags_of (optional t)) (tags_in (optional t) (optional_in t (f t refl)))

    below_in : (a : Ask) (x : Option (Option (ValueType Tag))) → TagIn N a.tag × (0 < a.rule) → ((t : Option (ValueType Tag)) → x ≡ Some t → ResultIn N t) → AsksIn N (branch_asks_below a x)
    below_in a None k f = tt
    below_in a (Some t) k f = (k, all_in 8 (omega arith) (tags_of (optional t)) (tags_in (optional t) (optional_in t (f t refl))))

    call_in : (x : Option (FunctionType Tag)) → ((g : FunctionType Tag) → x ≡ Some g → TypeIn N g) → AsksIn N (call_asks x)
    call_in None f = tt
    call_in (Some g) f = all_in 7 (omega arith) (tags_of g.params) (tags_in g.params (f g refl).params)

    value_in : (r : ℕ) → 0 < r → (x : Option (ValueType Tag)) → ((t : ValueType Tag) → x ≡ Some t → TagIn N t.tag) → AsksIn N (value_asks r x)
    value_in r p None f = tt
    value_in r p (Some t) f = ((f t refl, p), tt)

    global_in : (x : Option (VariableType Tag)) → ((g : VariableType Tag) → x ≡ Some g → TagIn N g.value.tag) → AsksIn N (global_asks x)
    global_in None f = tt
    global_in (Some g) f = ((f g refl, omega arith), tt)

    alike_in : (k : ℕ) (t : ValueType Tag) → TagIn N t.tag → ValuesIn N (replicate k t)
    alike_in zero t h = tt
    alike_in (suc k) t h = (h, alike_in k t h)

    numeric_in : (n : ℕ) (x : Option NumSig) → n < N → AsksIn N (numeric_asks n x)
    numeric_in n None lt = tt
    numeric_in n (Some sig) lt = all_in 2 (omega arith) (tags_of (operands sig (At n))) (tags_in (operands sig (At n)) (alike_in sig.arity (value_type sig.operand (At n)) lt))

    targets_in : (t : Option (ValueType Tag)) (ks : List ℕ) → ResultIn N t → FactsIn N (label_facts 9 (among C b) t ks)
    targets_in t [] k = tt
    targets_in t (j ∷ ks) k = facts_both (after (slice_get (map label_of b) j) (λ u. result_facts 9 u t)) (label_facts 9 (among C b) t ks) (one (slice_get (map label_of b) j) (λ u e. target_in j u e)) (targets_in t ks k)
      where
        two : (u t : Option (ValueType Tag)) → ResultIn N u → ResultIn N t → FactsIn N (result_facts 9 u t)
        two (Some u) (Some t) p q = ((p, q, omega arith), tt)
        two (Some u) None p q = tt
        two None t p q = tt

        one : (x : Option (Option (ValueType Tag))) → ((u : Option (ValueType Tag)) → x ≡ Some u → ResultIn N u) → FactsIn N (after x (λ u. result_facts 9 u t))
        one None f = tt
        one (Some u) f = two u t (f u refl) k

    table_in : (ks : List ℕ) (x : Option (Option (ValueType Tag))) → ((t : Option (ValueType Tag)) → x ≡ Some t → ResultIn N t) → FactsIn N (after x (λ t. label_facts 9 (among C b) t ks))
    table_in ks None f = tt
    table_in ks (Some t) f = targets_in t ks (f t refl)

    leak_in : (n : ℕ) (c : Bool) → n < N → FactsIn N (timed_facts 16 c (At n) C.public)
    leak_in n true lt = ((lt, h.public, omega arith), tt)
    leak_in n false lt = tt

    numeric_facts_in : (n op : ℕ) (x : Option NumSig) → n < N → FactsIn N (after x (λ sig. timed_facts 16 (leaks op C.profile) (At n) C.public))
    numeric_facts_in n op None lt = tt
    numeric_facts_in n op (Some sig) lt = leak_in n (leaks op C.profile) lt

    module _ {A : Type 0} (P : BodyPlace A) (n : ℕ) where
      asks_in : (at : ℕ) (i : Leaf A) → n + length (own_sites P at i) ≤ N → AsksIn N (asks P (among C b) n i)
      asks_in at (Br k) le = branch_in (slice_get (map label_of b) k) (λ t e. target_in k t e)
      asks_in at (BrIf k) le = below_in (ask 13 C.public) (slice_get (map label_of b) k) (h.public, omega arith) (λ t e. target_in k t e)
      asks_in at (BrTable ks k) le = below_in (ask 14 C.public) (slice_get (map label_of b) k) (h.public, omega arith) (λ t e. target_in k t e)
      asks_in at Return le = all_in 10 (omega arith) (tags_of (optional C.result)) (tags_in (optional C.result) (optional_in C.result h.result))
      asks_in at (Call f) le = call_in (slice_get C.functions f) (λ g e. found (TypeIn N) C.functions h.functions f g e)
      asks_in at (CallIndirect y) le =
          let g : FunctionType A = named_in P.types y in
          let l = type_length (IParam P.func at) (IResult P.func at) g in
          ((h.public, omega arith), all_in 7 (omega arith) (tags_of (type_from n g).params) (tags_in (type_from n g).params (params_in n g.params (omega (arith, l, le)))))
      asks_in at (LocalSet x) le = value_in 4 (omega arith) (slice_get C.locals x) (λ t e. found (λ t. TagIn N t.tag) C.locals h.locals x t e)
      asks_in at (LocalTee x) le = value_in 4 (omega arith) (slice_get C.locals x) (λ t e. found (λ t. TagIn N t.tag) C.locals h.locals x t e)
      asks_in at (GlobalSet x) le = global_in (slice_get C.globals x) (λ g e. found (λ g. TagIn N g.value.tag) C.globals h.globals x g e)
      asks_in at (Load w l bytes signed align offset) le = ((h.public, omega arith), tt)
      asks_in at (Store w l bytes align offset) le = ((h.memory, omega arith), ((h.public, omega arith), tt))
      asks_in at MemoryGrow le = ((h.public, omega arith), tt)
      asks_in at (Numeric op l) le = numeric_in n (num_sig_of op) (omega (arith, le))
      asks_in at Unreachable le = tt
      asks_in at Nop le = tt
      asks_in at Drop le = tt
      asks_in at (Select l) le = tt
      asks_in at (LocalGet x) le = tt
      asks_in at (GlobalGet x) le = tt
      asks_in at MemorySize le = tt
      asks_in at (Const w l bits) le = tt
      asks_in at (Classify w) le = tt
      asks_in at (Declassify w) le = tt

      own_facts_in : (at : ℕ) (i : Leaf A) → n + length (own_sites P at i) ≤ N → FactsIn N (own_facts (among C b) n i)
      own_facts_in at (BrTable ks k) le = table_in ks (slice_get (map label_of b) k) (λ t e. target_in k t e)
      own_facts_in at (Numeric op l) le = numeric_facts_in n op (num_sig_of op) (omega (arith, le))
      own_facts_in at _ le = tt

      -- what is given
      gives_in : (at : ℕ) (i : Leaf A) → n + length (own_sites P at i) ≤ N → ResultIn N (row P (among C b) n i).gives
      gives_in at Unreachable le = tt
      gives_in at Nop le = tt
      gives_in at (Br k) le = tt
      gives_in at (BrIf k) le = by_label (slice_get (map label_of b) k) (λ t e. target_in k t e)
        where
          by_label : (x : Option (Option (ValueType Tag))) → ((t : Option (ValueType Tag)) → x ≡ Some t → ResultIn N t) → ResultIn N (branch_row x).gives
          by_label None f = tt
          by_label (Some None) f = tt
          by_label (Some (Some t)) f = f (Some t) refl
      gives_in at (BrTable ks k) le = tt
      gives_in at Return le = tt
      gives_in at (Call f) le = by_function (slice_get C.functions f) (λ g e. (found (TypeIn N) C.functions h.functions f g e).result)
        where
          by_function : (x : Option (FunctionType Tag)) → ((g : FunctionType Tag) → x ≡ Some g → ResultIn N g.result) → ResultIn N (call_row 0 x).gives
          by_function None f = tt
          by_function (Some g) f = f g refl
      gives_in at (CallIndirect y) le =
          let l = type_length (IParam P.func at) (IResult P.func at) (named_in P.types y) in
          (type_in n (named_in P.types y) (omega (arith, l, le))).result
      gives_in at Drop le = tt
      gives_in at (Select l) le = tt
      gives_in at (LocalGet x) le = by_local (slice_get C.locals x) (λ t e. found (λ t. TagIn N t.tag) C.locals h.locals x t e)
        where
          by_local : (x : Option (ValueType Tag)) → ((t : ValueType Tag) → x ≡ Some t → TagIn N t.tag) → ResultIn N x
          by_local None f = tt
          by_local (Some t) f = f t refl
      gives_in at (LocalSet x) le = tt
      gives_in at (LocalTee x) le = by_local (slice_get C.locals x) (λ t e. found (λ t. TagIn N t.tag) C.locals h.locals x t e)
        where
          by_local : (x : Option (ValueType Tag)) → ((t : ValueType Tag) → x ≡ Some t → TagIn N t.tag) → ResultIn N x
          by_local None f = tt
          by_local (Some t) f = f t refl
      gives_in at (GlobalGet x) le = by_global (slice_get C.globals x) (λ g e. found (λ g. TagIn N g.value.tag) C.globals h.globals x g e)
        where
          by_global : (x : Option (VariableType Tag)) → ((g : VariableType Tag) → x ≡ Some g → TagIn N g.value.tag) → ResultIn N (option_map (λ g. g.value) x)
          by_global None f = tt
          by_global (Some g) f = f g refl
      gives_in at (GlobalSet x) le = tt
      gives_in at (Load w l bytes signed align offset) le = h.memory
      gives_in at (Store w l bytes align offset) le = tt
      gives_in at MemorySize le = h.public
      gives_in at MemoryGrow le = h.public
      gives_in at (Const w l bits) le = omega (arith, le)
      gives_in at (Numeric op l) le = by_sig (num_sig_of op) (omega (arith, le))
        where
          by_sig : (x : Option NumSig) → n < N → ResultIn N (numeric_row n x).gives
          by_sig None lt = tt
          by_sig (Some sig) lt = lt
      gives_in at (Classify w) le = h.secret
      gives_in at (Declassify w) le = h.public

  -- ---- behind an opcode

  given_in : (name : SiteName) (p : ℕ) (r : Row) → p + length (push_by name r) ≤ N → ResultIn N r.gives → ResultIn N (given_at p r)
  given_in name p r le f = by_row r.lifts r.gives f le
    where
      by_row : (lifts : Bool) (t : Option (ValueType Tag)) → ResultIn N t → p + length (if lifts then push_of name t else []) ≤ N → ResultIn N (if lifts then option_map (λ t. value_type t.width (At p)) t else t)
      by_row true None f le = tt
      by_row true (Some t) f le = omega (arith, le)
      by_row false t f le = f

  -- ---- what sites yield

  pub named_yields : {A : Type 0} (name : ℕ → SiteName) (i : ℕ) (xs : List A) → YieldsIn N (sites_for name i xs)
  named_yields name i [] = tt
  named_yields name i (x ∷ xs) = (tt, named_yields name (i + 1) xs)

  pub if_yields : {A : Type 0} (name : SiteName) (x : Option A) → YieldsIn N (site_if name x)
  if_yields name None = tt
  if_yields name (Some x) = (tt, tt)

  pub yields_both : (xs ys : List Site) → YieldsIn N xs → YieldsIn N ys → YieldsIn N (xs ++ ys)
  yields_both xs ys h k = all_append_to (YieldIn N) xs ys h k

  own_yields : {A : Type 0} (P : BodyPlace A) (at : ℕ) (i : Leaf A) → YieldsIn N (own_sites P at i)
  own_yields P at (Numeric op l) = (tt, tt)
  own_yields P at (Select l) = (tt, tt)
  own_yields P at (Const w l bits) = (tt, tt)
  own_yields P at (CallIndirect y) =
      let g = named_in P.types y in
      yields_both (sites_for (IParam P.func at) 0 g.params) (site_if (IResult P.func at) g.result) (named_yields (IParam P.func at) 0 g.params) (if_yields (IResult P.func at) g.result)
  own_yields P at _ = tt

  push_yields : (name : SiteName) (r : Row) → ResultIn N r.gives → YieldsIn N (push_by name r)
  push_yields name r f = by_row r.lifts r.gives f
    where
      by_tag : (a : Tag) → TagIn N a → YieldIn N (push_site name (site_number a))
      by_tag (At k) h = h
      by_tag Fixed h = tt

      by_row : (lifts : Bool) (t : Option (ValueType Tag)) → ResultIn N t → YieldsIn N (if lifts then push_of name t else [])
      by_row true None f = tt
      by_row true (Some t) f = (by_tag t.tag f, tt)
      by_row false t f = tt

  chosen_yields : (n : ℕ) (name : SiteName) (w : Option Width) → n < N → YieldsIn N (chosen_push n name w)
  chosen_yields n name None lt = tt
  chosen_yields n name (Some w) lt = (lt, tt)

  block_yields : {A : Type 0} (f at n : ℕ) (t : Option (ValueType A)) → n + length (block_sites f at n t) ≤ N → YieldsIn N (block_sites f at n t)
  block_yields f at n None le = tt
  block_yields f at n (Some t) le = (tt, (omega (arith, le), tt))

  pushes_in : (t : Option (ValueType Tag)) (o : Operands Tag) → ResultIn N t → OpsIn N o → OpsIn N (pushes (optional t) o)
  pushes_in None o k h = h
  pushes_in (Some t) o k h = (k, h)

  ended_in : (e : Bool) (k : ℕ) (o : Operands Tag) → OpsIn N o → OpsIn N (if e then killed else rests k o)
  ended_in true k o h = tt
  ended_in false k o h = rests_in k o h

  done_in : (p : ℕ) (r : Row) (o : Operands Tag) → OpsIn N o → ResultIn N (given_at p r) → OpsIn N (done p r o)
  done_in p r o h k = pushes_in (given_at p r) (if r.ends then killed else rests r.takes o) k (ended_in r.ends r.takes o h)

  slot_in : (n : ℕ) (name : SiteName) (w : Option Width) → n + (1 + length (chosen_push n name w)) ≤ N → SlotIn N (chosen_slot n w)
  slot_in n name None le = omega (arith, le)
  slot_in n name (Some w) le = omega (arith, le)

  lifted_in : (t : Option (ValueType Tag)) (o : Operands Tag) → NextIn N t → OpsIn N o → OpsIn N (lifted (result_lift t) (pushes (optional t) o))
  lifted_in None o k h = h
  lifted_in (Some t) o k h = by_tag t.width t.tag k
    where
      by_tag : (w : Width) (a : Tag) → NextIn N (Some (value_type w a)) → OpsIn N (lifted (result_lift (Some (value_type w a))) (pushes (value_type w a ∷ []) o))
      by_tag w (At j) k = (k, h)
      by_tag w Fixed k = (tt, h)

  block_next : {A : Type 0} (f at n : ℕ) (t : Option (ValueType A)) → n + length (block_sites f at n t) ≤ N → NextIn N (result_from n t)
  block_next f at n None le = tt
  block_next f at n (Some t) le = omega (arith, le)

  block_in : {A : Type 0} (f at n : ℕ) (t : Option (ValueType A)) → n + length (block_sites f at n t) ≤ N → ResultIn N (result_from n t)
  block_in f at n None le = tt
  block_in f at n (Some t) le = omega (arith, le)

  handed_in : (v : Open Tag) (outer : List (Open Tag)) → BlocksIn N (v ∷ outer) → AreInner N (v ∷ outer) → BlocksIn N (handed v outer) × AreInner N (handed v outer)
  handed_in v [] hb hi = (tt, tt)
  handed_in v (w ∷ outer) hb hi = (((lifted_in v.yields w.operands hi.0 hb.1.0.0, hb.1.0.1), hb.1.1), hi.1)

  row_self : {A : Type 0} (P : BodyPlace A) (C : Context Tag) (n : ℕ) (i : Leaf A) → is_select i ≡ false → IsRowOf P C n (Plain i) (row P C n i)
  row_self P C n (Select l) q = cc
  row_self P C n i q = refl

  module _ {A : Type 0} (P : BodyPlace A) (C : Context Tag) (h : ScopeIn N C) (n at : ℕ) where
    leaf_behind : (i : Leaf A) (v : Open Tag) (outer : List (Open Tag)) (c : Bool) → is_select i ≡ c → GoesBy P C n (Plain i) (v ∷ outer) → BlocksIn N (v ∷ outer) → n + length (op_sites P C n at (Plain i) (v ∷ outer)) ≤ N → BlocksIn N (opens_behind P C n at (Plain i) (v ∷ outer))
    leaf_behind i v outer true q g hb le =
        let e = chosen_law P C n at (Plain i) (v ∷ outer) tt g q in
        let o = chosen_own P at (Plain i) q in
        let s = ap length e.1 in
        let l = length-append (own_sites P at i) (chosen_push n (Push P.func at) (chosen_width v.operands)) in
        let room : n + (1 + length (chosen_push n (Push P.func at) (chosen_width v.operands))) ≤ N = omega (arith, o, s, l, le) in
        subst (BlocksIn N) e.0 (((slot_in n (Push P.func at) (chosen_width v.operands) room, rests_in 3 v.operands hb.0.0), hb.0.1), hb.1)
    leaf_behind i v outer false q g hb le =
        let D : Context Tag = among C (v ∷ outer) in
        let r : Row = row P D n i in
        let own = own_sites P at i in
        let s = ap length (row_sites P C n at (Plain i) (v ∷ outer) r tt g q (row_self P D n i q)) in
        let l = length-append own (push_by (Push P.func at) r) in
        let p : n + length own + length (push_by (Push P.func at) r) ≤ N = omega (arith, s, l, le) in
        let k = given_in (Push P.func at) (n + length own) r p (gives_in (v ∷ outer) hb C h P n at i (omega (arith, p))) in
        subst (BlocksIn N) (row_behind P C n at (Plain i) (v ∷ outer) r tt g q (row_self P D n i q)) ((done_in (n + length own) r v.operands hb.0.0 k, hb.0.1), hb.1)

    pub behind_in : (op : Op A) (b : List (Open Tag)) → GoesBy P C n op b → BlocksIn N b → AreInner N b → n + length (op_sites P C n at op b) ≤ N → BlocksIn N (opens_behind P C n at op b) × AreInner N (opens_behind P C n at op b)
    behind_in op [] g hb hi le = (tt, tt)
    behind_in (Plain i) (v ∷ outer) g hb hi le = (leaf_behind i v outer (is_select i) refl g hb le, hi)
    behind_in (Opens OfBlock t) (v ∷ outer) g hb hi le = (((tt, block_in P.func at n t le), hb), (block_next P.func at n t le, hi))
    behind_in (Opens OfLoop t) (v ∷ outer) g hb hi le = (((tt, block_in P.func at n t le), hb), (block_next P.func at n t le, hi))
    behind_in (Opens OfIf t) (v ∷ outer) g hb hi le =
        let o = subst (OpsIn N) (if_rest v.operands (i32 C) g) (rest_in v.operands hb.0.0) in
        (((tt, block_in P.func at n t le), ((o, hb.0.1), hb.1)), (block_next P.func at n t le, hi))
    behind_in (Closes ByElse) (v ∷ outer) g hb hi le = (((tt, hb.0.1), hb.1), hi)
    behind_in (Closes ByEnd) (v ∷ outer) g hb hi le = handed_in v outer hb hi

    leaf_yields : (i : Leaf A) (v : Open Tag) (outer : List (Open Tag)) (c : Bool) → is_select i ≡ c → GoesBy P C n (Plain i) (v ∷ outer) → BlocksIn N (v ∷ outer) → n + length (own_sites P at i) ≤ N → YieldsIn N (op_sites P C n at (Plain i) (v ∷ outer))
    leaf_yields i v outer true q g hb le =
        let e = chosen_law P C n at (Plain i) (v ∷ outer) tt g q in
        let o = chosen_own P at (Plain i) q in
        let w = chosen_width v.operands in
        subst (YieldsIn N) e.1 (yields_both (own_sites P at i) (chosen_push n (Push P.func at) w) (own_yields P at i) (chosen_yields n (Push P.func at) w (omega (arith, o, le))))
    leaf_yields i v outer false q g hb le =
        let D : Context Tag = among C (v ∷ outer) in
        let r : Row = row P D n i in
        subst (YieldsIn N) (row_sites P C n at (Plain i) (v ∷ outer) r tt g q (row_self P D n i q))
        (yields_both (own_sites P at i) (push_by (Push P.func at) r) (own_yields P at i) (push_yields (Push P.func at) r (gives_in (v ∷ outer) hb C h P n at i le)))

    pub op_yields : (op : Op A) (b : List (Open Tag)) → GoesBy P C n op b → BlocksIn N b → n + length (op_sites P C n at op b) ≤ N → YieldsIn N (op_sites P C n at op b)
    op_yields op [] g hb le = tt
    op_yields (Plain i) (v ∷ outer) g hb le =
        let w = own_within P C n at (Plain i) (v ∷ outer) tt g in
        let o = own_length P at (Plain i) in
        leaf_yields i v outer (is_select i) refl g hb (omega (arith, w, o, le))
    op_yields (Opens shape t) (v ∷ outer) g hb le = block_yields P.func at n t le
    op_yields (Closes closer) (v ∷ outer) g hb le = tt

    leaf_facts_in : (i : Leaf A) (v : Open Tag) (outer : List (Open Tag)) (c : Bool) → is_select i ≡ c → GoesBy P C n (Plain i) (v ∷ outer) → BlocksIn N (v ∷ outer) → n + length (own_sites P at i) ≤ N → FactsIn N (op_facts P C n (Plain i) (v ∷ outer))
    leaf_facts_in i v outer true q g hb le =
        let o = chosen_own P at (Plain i) q in
        let lt : n < N = omega (arith, o, le) in
        subst (FactsIn N) (sym (select_op P C n (Plain i) (v ∷ outer) tt g q)) (asked_in (ask 3 (At n) ∷ ask 3 (At n) ∷ ask 3 (At n) ∷ []) v.operands hb.0.0 ((lt, omega arith), ((lt, omega arith), ((lt, omega arith), tt))))
    leaf_facts_in i v outer false q g hb le =
        let D : Context Tag = among C (v ∷ outer) in
        subst (FactsIn N) (sym (op_right P C n (Plain i) (v ∷ outer) tt g q))
        (facts_both (own_facts D n i) (asked (asks P D n i) v.operands) (own_facts_in (v ∷ outer) hb C h P n at i le) (asked_in (asks P D n i) v.operands hb.0.0 (asks_in (v ∷ outer) hb C h P n at i le)))

    end_in : (t : Option (ValueType Tag)) (o : Operands Tag) → ResultIn N t → OpsIn N o → FactsIn N (facts_of_end t o)
    end_in None o k h = tt
    end_in (Some t) o k h = wants_in 10 (omega arith) t o h k

    pub op_facts_in : (op : Op A) (b : List (Open Tag)) → GoesBy P C n op b → BlocksIn N b → n + length (op_sites P C n at op b) ≤ N → FactsIn N (op_facts P C n op b)
    op_facts_in op [] g hb le = tt
    op_facts_in (Plain i) (v ∷ outer) g hb le =
        let w = own_within P C n at (Plain i) (v ∷ outer) tt g in
        let o = own_length P at (Plain i) in
        leaf_facts_in i v outer (is_select i) refl g hb (omega (arith, w, o, le))
    op_facts_in (Opens OfBlock t) (v ∷ outer) g hb le = tt
    op_facts_in (Opens OfLoop t) (v ∷ outer) g hb le = tt
    op_facts_in (Opens OfIf t) (v ∷ outer) g hb le = wants_in 13 (omega arith) (i32 C) v.operands hb.0.0 h.public
    op_facts_in (Closes closer) (v ∷ outer) g hb le = end_in v.yields v.operands hb.0.1 hb.0.0

    user_in : (i : Leaf A) → n + length (own_sites P at i) ≤ N → AllByRecursion (λ u. TypeIn N (type_of_user P.types u)) (op_users n (Plain i))
    user_in (CallIndirect y) le =
        let l = type_length (IParam P.func at) (IResult P.func at) (named_in P.types y) in
        (type_in n (named_in P.types y) (omega (arith, l, le)), tt)
    user_in _ le = tt

    pub users_in : (op : Op A) (b : List (Open Tag)) → GoesBy P C n op b → n + length (op_sites P C n at op b) ≤ N → AllByRecursion (λ u. TypeIn N (type_of_user P.types u)) (op_users n op)
    users_in op [] g le = absurd g
    users_in (Plain i) (v ∷ outer) g le =
        let w = own_within P C n at (Plain i) (v ∷ outer) tt g in
        let o = own_length P at (Plain i) in
        user_in i (omega (arith, w, o, le))
    users_in (Opens shape t) (v ∷ outer) g le = tt
    users_in (Closes closer) (v ∷ outer) g le = tt

  -- ---- one opcode after another

  module _ {A : Type 0} (P : BodyPlace A) (C : Context Tag) (h : ScopeIn N C) where
    abbrev UserIn : User → Type 0
    UserIn u = TypeIn N (type_of_user P.types u)

    pub flat_in : (ops : List (Op A)) (b : List (Open Tag)) (n at : ℕ) → Goes P C ops b n at → BlocksIn N b → AreInner N b → n + length (flat_sites P C ops b n at) ≤ N
        → FactsIn N (flat_facts P C ops b n at) × AllByRecursion (λ u. TypeIn N (type_of_user P.types u)) (flat_users P C ops b n at) × YieldsIn N (flat_sites P C ops b n at)
    flat_in [] b n at g hb hi le = (tt, tt, tt)
    flat_in (op ∷ ops) b n at g hb hi le =
        let own = op_sites P C n at op b in
        let next = opens_behind P C n at op b in
        let l = length-append own (flat_sites P C ops next (n + length own) (at + 1)) in
        let lo : n + length own ≤ N = omega (arith, l, le) in
        let w = behind_in P C h n at op b g.0 hb hi lo in
        let r = flat_in ops next (n + length own) (at + 1) g.1 w.0 w.1 (omega (arith, l, le)) in (
          facts_both (op_facts P C n op b) (flat_facts P C ops next (n + length own) (at + 1)) (op_facts_in P C h n at op b g.0 hb lo) r.0,
          all_append_to UserIn (op_users n op) (flat_users P C ops next (n + length own) (at + 1)) (users_in P C h n at op b g.0 lo) r.1,
          yields_both own (flat_sites P C ops next (n + length own) (at + 1)) (op_yields P C h n at op b g.0 hb lo) r.2,
        )
