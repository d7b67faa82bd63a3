-- Placed code is typed just where the facts of the sited code hold of the labels.
use Rattle.std.proofs.Common.{ℕ, ◌≡◌, Bool, true, false, List, [], ◌∷◌, ◌++◌, Option, Some, None, refl, sym, ◌∙◌, ap}
use Rattle.std.specs.Prelude.{◌&&◌, ◌↔◌, option_map, map, slice_get, is_some, is_none, unwrap_or}
use Rattle.ctw_ops.specs.declared.types.Width.{Width}
use Rattle.ctw_ops.specs.declared.types.Width.TheVariants.{W32, W64}
use Rattle.ctw_ops.specs.declared.types.Label.{Label}
use Rattle.ctw_ops.specs.declared.types.Label.TheVariants.{Public, Secret}
use Rattle.ctw_ops.specs.declared.types.Trust.TheVariants.{Trusted}
use Rattle.ctw_ops.specs.Equal.{same_label}
use Rattle.ctw_ops.specs.Types.{ValueType, FunctionType, value_type}
use Rattle.ctw_ops.specs.Code.{Leaf, CallIndirect, Classify, Declassify, Code}
use Rattle.ctw_ops.specs.Typing.{Context, Typed, optional, i32, inside}
use Rattle.ctw_ops.specs.Segments.{and_then}
use Rattle.ctw_stack.specs.declared.slot.Slot.{Slot}
use Rattle.ctw_stack.specs.declared.slot.Slot.TheVariants.{Known}
use Rattle.ctw_stack.specs.Operands.{Operands, fresh}
use Rattle.ctw_stack.specs.Steps.{IsExactTest, when, may_call, is_trusted, expect, pushes, step, moved}
use Rattle.ctw_stack.specs.Pass.{ends_with}
use Rattle.ctw_stack.specs.Tags.{type_to, slot_to, operands_to}
use Rattle.ctw_stack.proofs.TreePass.{closes, pass}
use Rattle.ctw_stack.proofs.PassLaws.{body_law}
use Rattle.ctw_ops.specs.TagMaps.{function_type_to, context_to, leaf_to}
use Rattle.ctw_labels.specs.Sited.{yes, Lift, Sited, Done, Does, Uses, with_user, Blocks, Loops, Ifs, IfElses, relabel, lifted, raised_from, raised, placed_code, labelled, Rises, IsOrderlyAt, IsOrderlyCode}
use Rattle.ctw_labels.specs.Numbering.{after_lift}
use Rattle.ctw_labels.specs.Links.{Fact, wants, facts_of, facts_of_end, ending, facts}
use Rattle.ctw_labels.proofs.Walk.{walk, OnSome, IsTop, IsLift, IsPlainLeaf, IsSited}
use Rattle.ctw_labels.proofs.TagPass.{step_to, expect_to, closes_to, pushed_to, none_to}
use Rattle.ctw_labels.proofs.FactLaws.{all_hold, when_none, when_and, when_comm, hold_append, asked_expect, asked_end, asked_user, asked_step}

on_some : {A : Type 0} (o : Option A) (P Q : A → Type 0) → OnSome o P → ((x : A) → P x → Q x) → OnSome o Q
on_some None P Q p f = tt
on_some (Some x) P Q p f = f x p

map_when : {A B : Type 0} (F : A → B) (c : Bool) (o : Option A) → option_map F (when c o) ≡ when c (option_map F o)
map_when F true o = refl
map_when F false o = refl

pub same_label_iff : IsExactTest same_label
same_label_iff Public Public = ((λ e. refl), (λ e. refl))
same_label_iff Secret Secret = ((λ e. refl), (λ e. refl))
same_label_iff Public Secret = ((λ e. cc), (λ e. cc))
same_label_iff Secret Public = ((λ e. cc), (λ e. cc))

pub and_true : (x : Bool) → (x && true) ≡ x
and_true true = refl
and_true false = refl

pub and_false : (x : Bool) → (x && false) ≡ false
and_false true = refl
and_false false = refl

-- ---- the operands behind a sequence are those of the pass without tests

when_gives : {A : Type 0} (c : Bool) (o : Option A) (r : A) → when c o ≡ Some r → (c ≡ true) × (o ≡ Some r)
when_gives true o r e = (refl, e)
when_gives false o r e = cc

ends_after : {S : Type 0} (l : Option (Lift S)) (o : Option (Operands S)) (k : Operands S → Option (Operands S)) (f : Operands S → Operands S) (r : Operands S) → ((m : Operands S) → k m ≡ Some r → f m ≡ r) → and_then o (λ m. k (lifted l m)) ≡ Some r → f (after_lift l o) ≡ r
ends_after l None k f r h e = cc
ends_after l (Some m) k f r h e = h (lifted l m) e

ends_behind : {S : Type 0} (g : Operands S → Operands S) (o : Option (Operands S)) (k : Operands S → Option (Operands S)) (f : Operands S → Operands S) (r : Operands S) → ((m : Operands S) → k m ≡ Some r → f m ≡ r) → and_then o (λ m. k (g m)) ≡ Some r → f (g (unwrap_or o fresh)) ≡ r
ends_behind g None k f r h e = cc
ends_behind g (Some m) k f r h e = h (g m) e

pub ending_law : {S : Type 0} (C : Context S) (sc : Sited S) (s r : Operands S) → walk C sc s ≡ Some r → ending C sc s ≡ r
ending_law C Done s r e = cc
ending_law C (Does i l rest) s r e = ends_after l (step yes C i s) (walk C rest) (ending C rest) r (λ m q. ending_law C rest m r q) e
ending_law C (Uses y g l rest) s r e = ends_after l (step yes (with_user g C) (CallIndirect 0) s) (walk C rest) (ending C rest) r (λ m q. ending_law C rest m r q) e
ending_law C (Blocks t l body rest) s r e = ending_law C rest _ r (when_gives _ _ r e).1
ending_law C (Loops t l body rest) s r e = ending_law C rest _ r (when_gives _ _ r e).1
ending_law C (Ifs t l arm rest) s r e =
    ends_behind (λ m. lifted l (pushes (optional t) m)) (expect yes (i32 C) s) (walk C rest) (ending C rest) r (λ m q. ending_law C rest m r q) (when_gives _ _ r (when_gives _ _ r e).1).1
ending_law C (IfElses t l arm other rest) s r e =
    ends_behind (λ m. lifted l (pushes (optional t) m)) (expect yes (i32 C) s) (walk C rest) (ending C rest) r (λ m q. ending_law C rest m r q) (when_gives _ _ r (when_gives _ _ r e).1).1

module _ {S : Type 0} (L : S → Label) (types : List (FunctionType Label)) (name : ℕ → FunctionType Label → ℕ) where
  -- equal labels
  abbrev pub alike : S → S → Bool
  alike a b = same_label (L a) (L b)

  alike_refl : (a : S) → alike a a ≡ true
  alike_refl a = (same_label_iff (L a) (L a)).1 refl

  -- the labels' answer is the sites' one, where all of fs hold
  abbrev IsPlaced : List (Fact S) → Option (Operands Label) → Option (Operands S) → Type 0
  IsPlaced fs r o = r ≡ when (all_hold alike fs) (option_map (operands_to L) o)

  placed_and_then : (ps : List (Fact S)) (fs : Option (Operands S) → List (Fact S)) (r : Option (Operands Label)) (o : Option (Operands S)) (k : Operands Label → Option (Operands Label)) (g : Operands S → Option (Operands S)) →
      IsPlaced ps r o → OnSome o (λ x. IsPlaced (fs (Some x)) (k (operands_to L x)) (g x)) → IsPlaced (ps ++ fs o) (and_then r k) (and_then o g)
  placed_and_then ps fs r None k g e h = ap (λ z. and_then z k) (e ∙ when_none (all_hold alike ps)) ∙ sym (when_none (all_hold alike (ps ++ fs None)))
  placed_and_then ps fs r (Some x) k g e h =
      ap (λ z. and_then z k) e ∙ under (all_hold alike ps) ∙ ap (when (all_hold alike ps)) h
      ∙ sym (when_and (all_hold alike ps) (all_hold alike (fs (Some x))) (option_map (operands_to L) (g x))) ∙ ap (λ z. when z (option_map (operands_to L) (g x))) (sym (hold_append alike ps (fs (Some x))))
    where
      under : (c : Bool) → and_then (when c (Some (operands_to L x))) k ≡ when c (k (operands_to L x))
      under true = refl
      under false = refl

  placed_when : (ps qs : List (Fact S)) (c d : Bool) (r : Option (Operands Label)) (o : Option (Operands S)) → c ≡ (all_hold alike ps && d) → IsPlaced qs r o → IsPlaced (ps ++ qs) (when c r) (when d o)
  placed_when ps qs c d r o t e =
      let G : Option (Operands Label) = option_map (operands_to L) o in
      ap (when c) e ∙ ap (λ z. when z (when (all_hold alike qs) G)) t ∙ when_and (all_hold alike ps) d (when (all_hold alike qs) G)
      ∙ ap (when (all_hold alike ps)) (when_comm d (all_hold alike qs) G)
      ∙ sym (when_and (all_hold alike ps) (all_hold alike qs) (when d G)) ∙ sym (λ i. when (hold_append alike ps qs i) (map_when (operands_to L) d o i))

  placed_plain : (qs : List (Fact S)) (b c : Bool) (r : Option (Operands Label)) (o : Option (Operands S)) → b ≡ c → IsPlaced qs r o → IsPlaced qs (when b r) (when c o)
  placed_plain qs b c r o t e =
      (λ i. when (t i) (e i)) ∙ when_comm c (all_hold alike qs) (option_map (operands_to L) o) ∙ ap (when (all_hold alike qs)) (sym (map_when (operands_to L) c o))

  -- the same facts in another order
  placed_turned : (ps qs : List (Fact S)) (r : Option (Operands Label)) (o : Option (Operands S)) → all_hold alike ps ≡ all_hold alike qs → IsPlaced ps r o → IsPlaced qs r o
  placed_turned ps qs r o t e = e ∙ ap (λ z. when z (option_map (operands_to L) o)) t

  -- plain instructions don't look at the two labels' names but by `public`
  same_step : (C : Context S) → L C.public ≡ Public → (i : Leaf S) → IsPlainLeaf C.memory i → (s : Operands Label) → step same_label (labelled L types C) (leaf_to L i) s ≡ step same_label (context_to L C) (leaf_to L i) s
  same_step C p i h s = ap (λ z. step same_label (record (context_to L C) { types = types; public = z; secret = Secret }) (leaf_to L i) s) (sym p) ∙ by_leaf i h
    where
      by_leaf : (i : Leaf S) → IsPlainLeaf C.memory i → step same_label (record (context_to L C) { types = types; secret = Secret }) (leaf_to L i) s ≡ step same_label (context_to L C) (leaf_to L i) s
      by_leaf (Classify w) h = absurd h
      by_leaf (Declassify w) h = absurd h
      by_leaf (CallIndirect y) h = absurd h
      by_leaf _ h = refl

  placed_step : (C : Context S) → L C.public ≡ Public → (i : Leaf S) → IsPlainLeaf C.memory i → (s : Operands S) → IsPlaced (facts_of C i s) (step same_label (labelled L types C) (leaf_to L i) (operands_to L s)) (step yes C i s)
  placed_step C p i h s =
      same_step C p i h (operands_to L s) ∙ step_to L alike same_label (λ a b. refl) C i s ∙ ap (option_map (operands_to L)) (asked_step alike alike_refl C i h s) ∙ map_when (operands_to L) (all_hold alike (facts_of C i s)) (step yes C i s)

  -- an indirect call, whose type stands among the types under the index that it is given
  placed_user : (C : Context S) → L C.public ≡ Public → (y : ℕ) (g : FunctionType S) → slice_get types (name y (function_type_to L g)) ≡ Some (function_type_to L g) → (s : Operands S) →
      IsPlaced (facts_of (with_user g C) (CallIndirect 0) s) (step same_label (labelled L types C) (CallIndirect (name y (function_type_to L g))) (operands_to L s)) (step yes (with_user g C) (CallIndirect 0) s)
  placed_user C p y g e s =
      ap (λ z. when C.table (and_then z (λ q. when (may_call C.trust q.trust) (moved same_label (q.params ++ i32 (labelled L types C) ∷ []) (optional q.result) (operands_to L s))))) e
      ∙ ap (λ z. step same_label (record (context_to L (with_user g C)) { public = z; secret = Secret }) (CallIndirect 0) (operands_to L s)) (sym p)
      ∙ step_to L alike same_label (λ a b. refl) (with_user g C) (CallIndirect 0) s ∙ ap (option_map (operands_to L)) (asked_user alike (with_user g C) 0 s) ∙ map_when (operands_to L) (all_hold alike (facts_of (with_user g C) (CallIndirect 0) s)) (step yes (with_user g C) (CallIndirect 0) s)

  placed_expect : (r : ℕ) (C : Context S) → L C.public ≡ Public → (s : Operands S) → IsPlaced (wants r (i32 C) s) (expect same_label (i32 (labelled L types C)) (operands_to L s)) (expect yes (i32 C) s)
  placed_expect r C p s =
      ap (λ z. expect same_label (value_type W32 z) (operands_to L s)) (sym p) ∙
      expect_to L alike same_label (λ a b. refl) (i32 C) s ∙ ap (option_map (operands_to L)) (asked_expect alike r (i32 C) s) ∙ map_when (operands_to L) (all_hold alike (wants r (i32 C) s)) (expect yes (i32 C) s)

  some_when : {A : Type 0} (c : Bool) (o : Option A) → is_some (when c o) ≡ (c && is_some o)
  some_when true o = refl
  some_when false o = refl

  -- the end of a block: the facts of its end are about the operands that the untested pass leaves
  closed_where : (t : Option (ValueType S)) (c : Bool) (o : Option (Operands S)) (m : Operands S) → ((k : Operands S) → o ≡ Some k → m ≡ k) → closes alike t (when c o) ≡ ((c && all_hold alike (facts_of_end t m)) && closes yes t o)
  closed_where t false o m h = refl
  closed_where t true None m h = sym (and_false (all_hold alike (facts_of_end t m)))
  closed_where t true (Some k) m h =
      ap is_some (asked_end alike t k) ∙ some_when (all_hold alike (facts_of_end t k)) (ends_with yes t k)
      ∙ ap (λ z. all_hold alike (facts_of_end t z) && closes yes t (Some k)) (sym (h k refl))

  placed_closes : (t : Option (ValueType S)) (fs : List (Fact S)) (r : Option (Operands Label)) (o : Option (Operands S)) (m : Operands S) → ((k : Operands S) → o ≡ Some k → m ≡ k) → IsPlaced fs r o → closes same_label (option_map (type_to L) t) r ≡ (all_hold alike (fs ++ facts_of_end t m) && closes yes t o)
  placed_closes t fs r o m h e =
      closes_to L alike same_label (λ a b. refl) t (when (all_hold alike fs) o) r (e ∙ sym (map_when (operands_to L) (all_hold alike fs) o))
      ∙ closed_where t (all_hold alike fs) o m h ∙ ap (λ z. z && closes yes t o) (sym (hold_append alike fs (facts_of_end t m)))

  abbrev pub Plain : Context S → Type 0
  Plain C = L C.public ≡ Public

  raise_law : (D : Context Label) → D.public ≡ Public → D.secret ≡ Secret → (a b : Label) (free : Bool) → (free ≡ true → D.trust ≡ Trusted) → (w : Width) (c : Code Label) (dead : Bool) (xs : List (Slot Label)) → Rises a b free →
      pass same_label D (raised_from a b free w c) (record { dead = dead; slots = Known w a ∷ xs }) ≡ pass same_label D c (record { dead = dead; slots = Known w b ∷ xs })
  raise_law D p q Public Public free tr w c dead xs o = refl
  raise_law D p q Secret Secret free tr w c dead xs o = refl
  raise_law D p q Secret Public false tr w c dead xs o = absurd o
  raise_law D p q Secret Public true tr w c dead xs o = ap (λ z. and_then (when (is_trusted z) (moved same_label (value_type w D.secret ∷ []) (value_type w D.public ∷ []) (record { dead = dead; slots = Known w Secret ∷ xs }))) (pass same_label D c)) (tr refl) ∙ ap (λ z. and_then z (pass same_label D c)) (rewritten ∙ by_width w)
    where
      rewritten : moved same_label (value_type w D.secret ∷ []) (value_type w D.public ∷ []) (record { dead = dead; slots = Known w Secret ∷ xs }) ≡ moved same_label (value_type w Secret ∷ []) (value_type w Public ∷ []) (record { dead = dead; slots = Known w Secret ∷ xs })
      rewritten = λ i. moved same_label (value_type w (q i) ∷ []) (value_type w (p i) ∷ []) (record { dead = dead; slots = Known w Secret ∷ xs })

      by_width : (v : Width) → moved same_label (value_type v Secret ∷ []) (value_type v Public ∷ []) (record { dead = dead; slots = Known v Secret ∷ xs }) ≡ Some (record { dead = dead; slots = Known v Public ∷ xs })
      by_width W32 = refl
      by_width W64 = refl
  raise_law D p q Public Secret free tr w c dead xs o = ap (λ z. and_then z (pass same_label D c)) (rewritten ∙ by_width w)
    where
      rewritten : step same_label D (Classify w) (record { dead = dead; slots = Known w Public ∷ xs }) ≡ moved same_label (value_type w Public ∷ []) (value_type w Secret ∷ []) (record { dead = dead; slots = Known w Public ∷ xs })
      rewritten = λ i. moved same_label (value_type w (p i) ∷ []) (value_type w (q i) ∷ []) (record { dead = dead; slots = Known w Public ∷ xs })

      by_width : (v : Width) → moved same_label (value_type v Public ∷ []) (value_type v Secret ∷ []) (record { dead = dead; slots = Known v Public ∷ xs }) ≡ Some (record { dead = dead; slots = Known v Secret ∷ xs })
      by_width W32 = refl
      by_width W64 = refl

  lift_from : (C : Context S) → Plain C → (l : Lift S) → (l.free ≡ true → C.trust ≡ Trusted) → (c : Code Label) (dead : Bool) (xs : List (Slot S)) → IsTop l xs → Rises (L l.source) (L l.target) l.free →
      pass same_label (labelled L types C) (raised_from (L l.source) (L l.target) l.free l.width c) (operands_to L (record { dead = dead; slots = xs })) ≡ pass same_label (labelled L types C) c (operands_to L (record { dead = dead; slots = relabel l xs }))
  lift_from C p l tr c dead [] h o = absurd h
  lift_from C p l tr c dead (x ∷ xs) h o =
      ap (λ z. pass same_label (labelled L types C) (raised_from (L l.source) (L l.target) l.free l.width c) (record { dead = dead; slots = slot_to L z ∷ map (slot_to L) xs })) h
      ∙ raise_law (labelled L types C) refl refl (L l.source) (L l.target) l.free tr l.width c dead (map (slot_to L) xs) o

  lift_law : (C : Context S) → Plain C → (l : Option (Lift S)) (c : Code Label) (m : Operands S) → IsLift C l m → IsOrderlyAt L l → pass same_label (labelled L types C) (raised L l c) (operands_to L m) ≡ pass same_label (labelled L types C) c (operands_to L (lifted l m))
  lift_law C p None c m h o = refl
  lift_law C p (Some l) c m h o = lift_from C p l h.1 c m.dead m.slots h.0 o

  -- the indirect calls' types stand among the types
  abbrev pub IsNamed : Sited S → Type 0
  IsNamed Done = Unit {0}
  IsNamed (Does i l rest) = IsNamed rest
  IsNamed (Uses y g l rest) = (slice_get types (name y (function_type_to L g)) ≡ Some (function_type_to L g)) × IsNamed rest
  IsNamed (Blocks t l body rest) = IsNamed body × IsNamed rest
  IsNamed (Loops t l body rest) = IsNamed body × IsNamed rest
  IsNamed (Ifs t l arm rest) = IsNamed arm × IsNamed rest
  IsNamed (IfElses t l arm other rest) = IsNamed arm × IsNamed other × IsNamed rest

  -- behind a block or an instruction that pushes
  behind_law : (C : Context S) → Plain C → (l : Option (Lift S)) (rest : Sited S) (m : Operands S) (qs : List (Fact S)) → IsOrderlyAt L l → IsLift C l m → IsPlaced qs (pass same_label (labelled L types C) (placed_code L name rest) (operands_to L (lifted l m))) (walk C rest (lifted l m)) →
      IsPlaced qs (pass same_label (labelled L types C) (raised L l (placed_code L name rest)) (operands_to L m)) (walk C rest (lifted l m))
  behind_law C p l rest m qs o h e = lift_law C p l (placed_code L name rest) m h o ∙ e

  pushed_law : (C : Context S) → Plain C → (t : Option (ValueType S)) (l : Option (Lift S)) (rest : Sited S) (s : Operands S) (qs : List (Fact S)) → IsOrderlyAt L l → IsLift C l (pushes (optional t) s) →
      IsPlaced qs (pass same_label (labelled L types C) (placed_code L name rest) (operands_to L (lifted l (pushes (optional t) s)))) (walk C rest (lifted l (pushes (optional t) s))) →
      IsPlaced qs (pass same_label (labelled L types C) (raised L l (placed_code L name rest)) (pushes (optional (option_map (type_to L) t)) (operands_to L s))) (walk C rest (lifted l (pushes (optional t) s)))
  pushed_law C p t l rest s qs o h e =
      ap (pass same_label (labelled L types C) (raised L l (placed_code L name rest))) (pushed_to L alike same_label (λ a b. refl) t s) ∙ behind_law C p l rest (pushes (optional t) s) qs o h e

  turn_block : (fb fe fr : List (Fact S)) → all_hold alike ((fb ++ fe) ++ fr) ≡ all_hold alike (fb ++ (fe ++ fr))
  turn_block fb fe fr =
      hold_append alike (fb ++ fe) fr ∙ ap (λ z. z && all_hold alike fr) (hold_append alike fb fe) ∙ sym (assoc (all_hold alike fb) (all_hold alike fe) (all_hold alike fr))
      ∙ sym (hold_append alike fb (fe ++ fr) ∙ ap (λ z. all_hold alike fb && z) (hold_append alike fe fr))
    where
      assoc : (x y z : Bool) → (x && (y && z)) ≡ ((x && y) && z)
      assoc true y z = refl
      assoc false y z = refl

  turn_two : (fa fx fr : List (Fact S)) → all_hold alike (fa ++ (fx ++ fr)) ≡ all_hold alike (fx ++ (fa ++ fr))
  turn_two fa fx fr =
      hold_append alike fa (fx ++ fr) ∙ ap (λ z. all_hold alike fa && z) (hold_append alike fx fr) ∙ swap (all_hold alike fa) (all_hold alike fx) (all_hold alike fr)
      ∙ sym (hold_append alike fx (fa ++ fr) ∙ ap (λ z. all_hold alike fx && z) (hold_append alike fa fr))
    where
      swap : (x y z : Bool) → (x && (y && z)) ≡ (y && (x && z))
      swap true y z = refl
      swap false true z = refl
      swap false false z = refl

  under_hold : (ps qs rs : List (Fact S)) → all_hold alike qs ≡ all_hold alike rs → all_hold alike (ps ++ qs) ≡ all_hold alike (ps ++ rs)
  under_hold ps qs rs e = hold_append alike ps qs ∙ ap (λ z. all_hold alike ps && z) e ∙ sym (hold_append alike ps rs)

  -- the condition of an if stands before its arm in the code, and behind it in the pass over the tree
  turn_if : (fx fb fe fr : List (Fact S)) → all_hold alike ((fb ++ fe) ++ (fx ++ fr)) ≡ all_hold alike (fx ++ (fb ++ (fe ++ fr)))
  turn_if fx fb fe fr = turn_two (fb ++ fe) fx fr ∙ under_hold fx ((fb ++ fe) ++ fr) (fb ++ (fe ++ fr)) (turn_block fb fe fr)

  turn_arms : (fx fb fe fc fd fr : List (Fact S)) → all_hold alike ((fb ++ fe) ++ ((fc ++ fd) ++ (fx ++ fr))) ≡ all_hold alike (fx ++ (fb ++ (fe ++ (fc ++ (fd ++ fr)))))
  turn_arms fx fb fe fc fd fr =
      under_hold (fb ++ fe) ((fc ++ fd) ++ (fx ++ fr)) (fx ++ (fc ++ (fd ++ fr))) (turn_if fx fc fd fr)
      ∙ turn_if fx fb fe (fc ++ (fd ++ fr))

  pub place_law : (C : Context S) → Plain C → (sc : Sited S) (s : Operands S) → IsSited C sc s → IsOrderlyCode L sc → IsNamed sc → IsPlaced (facts C sc s) (pass same_label (labelled L types C) (placed_code L name sc) (operands_to L s)) (walk C sc s)
  place_law C p Done s h o q = refl
  place_law C p (Does i l rest) s h o q =
      placed_and_then (facts_of C i s) (λ z. facts C rest (after_lift l z)) _ (step yes C i s) (pass same_label (labelled L types C) (raised L l (placed_code L name rest))) (λ m. walk C rest (lifted l m)) (placed_step C p i h.0 s)
      (on_some (step yes C i s) (λ m. IsLift C l m × IsSited C rest (lifted l m)) _ h.1 (λ m k. behind_law C p l rest m (facts C rest (lifted l m)) o.0 k.0 (place_law C p rest (lifted l m) k.1 o.1 q)))
  place_law C p (Uses y g l rest) s h o q =
      placed_and_then (facts_of (with_user g C) (CallIndirect 0) s) (λ z. facts C rest (after_lift l z)) _ (step yes (with_user g C) (CallIndirect 0) s) (pass same_label (labelled L types C) (raised L l (placed_code L name rest))) (λ m. walk C rest (lifted l m)) (placed_user C p y g q.0 s)
      (on_some (step yes (with_user g C) (CallIndirect 0) s) (λ m. IsLift C l m × IsSited C rest (lifted l m)) _ h (λ m k. behind_law C p l rest m (facts C rest (lifted l m)) o.0 k.0 (place_law C p rest (lifted l m) k.1 o.1 q.1)))
  place_law C p (Blocks t l body rest) s h o q =
      let D : Context S = inside t C in
      let fb : List (Fact S) = facts D body fresh in
      let fe : List (Fact S) = facts_of_end t (ending D body fresh) in
      let fr : List (Fact S) = facts C rest (lifted l (pushes (optional t) s)) in
      placed_turned ((fb ++ fe) ++ fr) (fb ++ (fe ++ fr)) _ _ (turn_block fb fe fr)
      (placed_when (fb ++ fe) fr _ _ _ _
      (placed_closes t fb _ (walk D body fresh) (ending D body fresh) (ending_law D body fresh) (place_law D p body fresh h.0 o.1 q.0))
      (pushed_law C p t l rest s fr o.0 h.1 (place_law C p rest (lifted l (pushes (optional t) s)) h.2 o.2 q.1)))
  place_law C p (Loops t l body rest) s h o q =
      let D : Context S = inside None C in
      let fb : List (Fact S) = facts D body fresh in
      let fe : List (Fact S) = facts_of_end t (ending D body fresh) in
      let fr : List (Fact S) = facts C rest (lifted l (pushes (optional t) s)) in
      placed_turned ((fb ++ fe) ++ fr) (fb ++ (fe ++ fr)) _ _ (turn_block fb fe fr)
      (placed_when (fb ++ fe) fr _ _ _ _
      (placed_closes t fb _ (walk D body fresh) (ending D body fresh) (ending_law D body fresh) (place_law D p body fresh h.0 o.1 q.0))
      (pushed_law C p t l rest s fr o.0 h.1 (place_law C p rest (lifted l (pushes (optional t) s)) h.2 o.2 q.1)))
  place_law C p (Ifs t l arm rest) s h o q =
      let D : Context S = inside t C in
      let fx : List (Fact S) = wants 13 (i32 C) s in
      let fb : List (Fact S) = facts D arm fresh in
      let fe : List (Fact S) = facts_of_end t (ending D arm fresh) in
      let f : Option (Operands S) → List (Fact S) = λ z. facts C rest (lifted l (pushes (optional t) (unwrap_or z fresh))) in
      let fr : List (Fact S) = f (expect yes (i32 C) s) in
      placed_turned ((fb ++ fe) ++ (fx ++ fr)) (fx ++ (fb ++ (fe ++ fr))) _ _ (turn_if fx fb fe fr)
      (placed_plain ((fb ++ fe) ++ (fx ++ fr)) (is_none (option_map (type_to L) t)) (is_none t) _ _ (none_to L alike same_label (λ a b. refl) t)
      (placed_when (fb ++ fe) (fx ++ fr) _ _ _ _
      (placed_closes t fb _ (walk D arm fresh) (ending D arm fresh) (ending_law D arm fresh) (place_law D p arm fresh h.0 o.1 q.0))
      (placed_and_then fx f _ (expect yes (i32 C) s) (λ m. pass same_label (labelled L types C) (raised L l (placed_code L name rest)) (pushes (optional (option_map (type_to L) t)) m)) (λ m. walk C rest (lifted l (pushes (optional t) m))) (placed_expect 13 C p s)
      (on_some (expect yes (i32 C) s) (λ m. IsLift C l (pushes (optional t) m) × IsSited C rest (lifted l (pushes (optional t) m))) _ h.1
      (λ m k. pushed_law C p t l rest m (facts C rest (lifted l (pushes (optional t) m))) o.0 k.0 (place_law C p rest (lifted l (pushes (optional t) m)) k.1 o.2 q.1))))))
  place_law C p (IfElses t l arm other rest) s h o q =
      let D : Context S = inside t C in
      let fx : List (Fact S) = wants 13 (i32 C) s in
      let fb : List (Fact S) = facts D arm fresh in
      let fe : List (Fact S) = facts_of_end t (ending D arm fresh) in
      let fc : List (Fact S) = facts D other fresh in
      let fd : List (Fact S) = facts_of_end t (ending D other fresh) in
      let f : Option (Operands S) → List (Fact S) = λ z. facts C rest (lifted l (pushes (optional t) (unwrap_or z fresh))) in
      let fr : List (Fact S) = f (expect yes (i32 C) s) in
      placed_turned ((fb ++ fe) ++ ((fc ++ fd) ++ (fx ++ fr))) (fx ++ (fb ++ (fe ++ (fc ++ (fd ++ fr))))) _ _ (turn_arms fx fb fe fc fd fr)
      (placed_when (fb ++ fe) ((fc ++ fd) ++ (fx ++ fr)) _ _ _ _
      (placed_closes t fb _ (walk D arm fresh) (ending D arm fresh) (ending_law D arm fresh) (place_law D p arm fresh h.0 o.1 q.0))
      (placed_when (fc ++ fd) (fx ++ fr) _ _ _ _
      (placed_closes t fc _ (walk D other fresh) (ending D other fresh) (ending_law D other fresh) (place_law D p other fresh h.1 o.2 q.1))
      (placed_and_then fx f _ (expect yes (i32 C) s) (λ m. pass same_label (labelled L types C) (raised L l (placed_code L name rest)) (pushes (optional (option_map (type_to L) t)) m)) (λ m. walk C rest (lifted l (pushes (optional t) m))) (placed_expect 13 C p s)
      (on_some (expect yes (i32 C) s) (λ m. IsLift C l (pushes (optional t) m) × IsSited C rest (lifted l (pushes (optional t) m))) _ h.2
      (λ m k. pushed_law C p t l rest m (facts C rest (lifted l (pushes (optional t) m))) o.0 k.0 (place_law C p rest (lifted l (pushes (optional t) m)) k.1 o.3 q.2))))))

  -- all facts of a body
  abbrev pub body_facts_of : Context S → Sited S → List (Fact S)
  body_facts_of C sc = facts C sc fresh ++ facts_of_end C.result (ending C sc fresh)

  -- a body that the collector gets through: its placed code is typed just where its facts hold of the labels
  pub placed_typed : (C : Context S) → Plain C → (sc : Sited S) → IsSited C sc fresh → IsOrderlyCode L sc → IsNamed sc → closes yes C.result (walk C sc fresh) ≡ true →
      Typed (labelled L types C) (placed_code L name sc) [] (optional (option_map (type_to L) C.result)) ↔ (all_hold alike (body_facts_of C sc) ≡ true)
  placed_typed C p sc h o n v =
      let D : Context Label = labelled L types C in
      let b = body_law same_label same_label_iff D (placed_code L name sc) in
      let e : closes same_label D.result (pass same_label D (placed_code L name sc) fresh) ≡ all_hold alike (body_facts_of C sc) =
      placed_closes C.result (facts C sc fresh) _ (walk C sc fresh) (ending C sc fresh) (ending_law C sc fresh) (place_law C p sc fresh h o n) ∙ ap (λ z. all_hold alike (body_facts_of C sc) && z) v ∙ and_true (all_hold alike (body_facts_of C sc)) in
      ((λ d. sym e ∙ b.1 d), (λ q. b.0 (e ∙ q)))

-- the plain body is the placed one where each site is public
abbrev pub all_public : {S : Type 0} → S → Label
all_public a = Public

module _ {S : Type 0} (types : List (FunctionType Label)) (name : ℕ → FunctionType Label → ℕ) where
  all_hold_public : (qs : List (Fact S)) → all_hold (alike (all_public {S = S}) types name) qs ≡ true
  all_hold_public [] = refl
  all_hold_public (q ∷ qs) = all_hold_public qs

  orderly_at : (l : Option (Lift S)) → IsOrderlyAt (all_public {S = S}) l
  orderly_at None = tt
  orderly_at (Some l) = tt

  orderly_public : (sc : Sited S) → IsOrderlyCode (all_public {S = S}) sc
  orderly_public Done = tt
  orderly_public (Does i l rest) = (orderly_at l, orderly_public rest)
  orderly_public (Uses y g l rest) = (orderly_at l, orderly_public rest)
  orderly_public (Blocks t l body rest) = (orderly_at l, orderly_public body, orderly_public rest)
  orderly_public (Loops t l body rest) = (orderly_at l, orderly_public body, orderly_public rest)
  orderly_public (Ifs t l arm rest) = (orderly_at l, orderly_public arm, orderly_public rest)
  orderly_public (IfElses t l arm other rest) = (orderly_at l, orderly_public arm, orderly_public other, orderly_public rest)

  -- where the plain body is typed, the collector gets through
  pub walked : (C : Context S) (sc : Sited S) → IsSited C sc fresh → IsNamed all_public types name sc → Typed (labelled all_public types C) (placed_code all_public name sc) [] (optional (option_map (type_to all_public) C.result)) → closes yes C.result (walk C sc fresh) ≡ true
  walked C sc h n d =
      let qs : List (Fact S) = body_facts_of all_public types name C sc in
      let e : closes same_label (option_map (type_to all_public) C.result) (pass same_label (labelled all_public types C) (placed_code all_public name sc) fresh) ≡ (all_hold (alike (all_public {S = S}) types name) qs && closes yes C.result (walk C sc fresh)) =
      placed_closes all_public types name C.result (facts C sc fresh) _ (walk C sc fresh) (ending C sc fresh) (ending_law C sc fresh) (place_law all_public types name C refl sc fresh h (orderly_public sc) n) in
      let b = body_law same_label same_label_iff (labelled all_public types C) (placed_code all_public name sc) in
      ap (λ z. z && closes yes C.result (walk C sc fresh)) (sym (all_hold_public qs)) ∙ sym e ∙ b.1 d

-- The table is right for a body: where the plain body is typed, an orderly labelling's placed body is typed just where the body's facts hold.
pub table_law : {S : Type 0} (plain : List (FunctionType Label)) (first : ℕ → FunctionType Label → ℕ) (C : Context S) (sc : Sited S) → IsSited C sc fresh → IsNamed all_public plain first sc →
    Typed (labelled all_public plain C) (placed_code all_public first sc) [] (optional (option_map (type_to all_public) C.result)) →
    (L : S → Label) (types : List (FunctionType Label)) (name : ℕ → FunctionType Label → ℕ) → L C.public ≡ Public → IsOrderlyCode L sc → IsNamed L types name sc →
    Typed (labelled L types C) (placed_code L name sc) [] (optional (option_map (type_to L) C.result)) ↔ (all_hold (alike L types name) (body_facts_of L types name C sc) ≡ true)
table_law plain first C sc h n d L types name p o k = placed_typed L types name C p sc h o k (walked plain first C sc h n d)
