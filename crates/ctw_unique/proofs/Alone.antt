-- Only one activation with operands as its bodies lead to them has the words of a running call.
use Rattle.std.proofs.Common.{◌≡◌, ◌⊎◌, ℕ, zero, suc, ◌+◌, List, [], ◌∷◌, ◌++◌, map, length, Option, Some, None, slice_get, inl, inr, ⊎_elim, refl, sym, ap, ◌∙◌, subst, arith}
use Rattle.ctw_ops.specs.declared.types.Label.{Label}
use Rattle.ctw_ops.specs.Types.{ValueType}
use Rattle.ctw_ops.specs.Code.{Code, Stop, Then, Block, Loop, If, IfElse, Closer, ByEnd, ByElse}
use Rattle.ctw_ops.specs.Typing.{Context, Typed, optional, upon}
use Rattle.ctw_semantics.specs.Values.{Value}
use Rattle.ctw_semantics.specs.Instances.{FunctionInstance, Functions}
use Rattle.ctw_semantics.specs.Activations.{Open, Frame, Activation}
use Rattle.ctw_semantics.specs.Machine.{target_type}
use Rattle.ctw_semantics.specs.Places.{behind, Opens}
use Rattle.ctw_semantics.specs.Sound.{Shape, context, FunctionTyped, HasTypes, target_types, CallersTyped, ActivationTyped, SoundCall}
use Rattle.ctw_step.specs.declared.running.Opened.{Opened}
use Rattle.ctw_step.specs.Shown.{Shown}
use Rattle.ctw_step.specs.Stands.{Codes, number_of, numbers, operands_of, all_operands, all_locals, LabelsStand, FrameRecords, FrameStands, FramesStand, Stands}
use Rattle.ctw_unique.specs.Leading.{Leads}
use Rattle.ctw_unique.specs.ByBodies.{types_of, ClosedBy, OutsideHold, LabelsHold, FrameHolds, CallersHold, HoldsByBodies}
use Rattle.ctw_unique.specs.StandsByBodies.{frame_closers, StandsByBodies}
use Rattle.ctw_unique.proofs.Leading.{leads_last, leads_typed, leads_same, upon_same}
use Rattle.ctw_unique.proofs.Sequences.{outside_typed}
use Rattle.ctw_unique.proofs.Records.{locals_same, operands_same, frames_split, labels_split, code_same, fronts_same, records_same, closers_same}

-- ---- where a rest stands in a sequence

-- how many instructions a sequence has
abbrev count : Code Label → ℕ
count Stop = 0
count (Then leaf rest) = suc (count rest)
count (Block t body rest) = suc (count rest)
count (Loop t body rest) = suc (count rest)
count (If t arm rest) = suc (count rest)
count (IfElse t arm other rest) = suc (count rest)

counted : (C : Context Label) (n : ℕ) (a b : Code Label) (from to : List (ValueType Label)) → Leads C n a from b to → count a ≡ n + count b
counted C zero a b from to h = let e = ap count h.0 in omega (arith, e)
counted C (suc n) Stop b from to h = absurd h
counted C (suc n) (Then leaf after) b from to h = let e = counted C n after b h.1 to h.3 in omega (arith, e)
counted C (suc n) (Block t body after) b from to h = let e = counted C n after b (upon (optional t) from) to h in omega (arith, e)
counted C (suc n) (Loop t body after) b from to h = let e = counted C n after b (upon (optional t) from) to h in omega (arith, e)
counted C (suc n) (If t arm after) b from to h = let e = counted C n after b (upon (optional t) h.0) to h.2 in omega (arith, e)
counted C (suc n) (IfElse t arm other after) b from to h = let e = counted C n after b (upon (optional t) h.0) to h.2 in omega (arith, e)

place_same : (C D : Context Label) (n m : ℕ) (a b : Code Label) (from to start end : List (ValueType Label)) → Leads C n a from b to → Leads D m a start b end → n ≡ m
place_same C D n m a b from to start end h i =
    let p = counted C n a b from to h in
    let q = counted D m a b start end i in
    omega (arith, p, q)

-- ---- what an instruction opens

-- two sequences that one instruction opens with one closer: an `if` without `else` has an empty other arm
abbrev Alike : Option (ValueType Label) → Code Label → Code Label → Type 0
Alike t inside arm = (inside ≡ arm) ⊎ ((t ≡ None) × ((inside ≡ Stop) ⊎ (arm ≡ Stop)))

record OpenedAlike (t u : Option (ValueType Label)) (again loop : Option (Code Label)) (inside arm : Code Label) : Type 0 where
  results : t ≡ u
  loops : again ≡ loop
  insides : Alike t inside arm

opens_alike : (C : Context Label) (c : Code Label) (closer : Closer) (from to : List (ValueType Label)) → Typed C c from to → (t u : Option (ValueType Label)) (again loop : Option (Code Label)) (inside arm rest after : Code Label) → Opens c t again inside rest → ClosedBy closer c inside → Opens c u loop arm after → ClosedBy closer c arm → OpenedAlike t u again loop inside arm
opens_alike C Stop closer from to h t u again loop inside arm rest after o k p l = absurd o
opens_alike C (Then leaf r) closer from to h t u again loop inside arm rest after o k p l = absurd o
opens_alike C (Block v body r) closer from to h t u again loop inside arm rest after o k p l =
    record { results = sym o.0 ∙ p.0; loops = o.1 ∙ sym p.1; insides = inl (o.2 ∙ sym p.2) }
opens_alike C (Loop v body r) closer from to h t u again loop inside arm rest after o k p l =
    record { results = sym o.0 ∙ p.0; loops = o.1 ∙ sym p.1; insides = inl (o.2 ∙ sym p.2) }
opens_alike C (If v first r) closer from to h t u again loop inside arm rest after o k p l =
    record {
      results = sym o.0 ∙ p.0;
      loops = o.1 ∙ sym p.1;
      insides = ⊎_elim (λ e. ⊎_elim (λ f. inl (e ∙ sym f)) (λ f. inr (sym o.0 ∙ h.0, inr f)) p.2) (λ e. inr (sym o.0 ∙ h.0, inl e)) o.2;
    }
opens_alike C (IfElse v first other r) ByEnd from to h t u again loop inside arm rest after o k p l =
    record { results = sym o.0 ∙ p.0; loops = o.1 ∙ sym p.1; insides = inl (k ∙ sym l) }
opens_alike C (IfElse v first other r) ByElse from to h t u again loop inside arm rest after o k p l =
    record { results = sym o.0 ∙ p.0; loops = o.1 ∙ sym p.1; insides = inl (k ∙ sym l) }

-- a sequence in which an instruction stands is the same
alike_same : (C D : Context Label) (n m : ℕ) (t : Option (ValueType Label)) (a b c d : Code Label) (from to start end : List (ValueType Label)) → Alike t a b → Leads C (suc n) a from c to → Leads D (suc m) b start d end → a ≡ b
alike_same C D n m t a b c d from to start end h l k =
    ⊎_elim (λ e. e)
    (λ e. ⊎_elim (λ f. absurd (subst (λ a. Leads C (suc n) a from c to) f l)) (λ f. absurd (subst (λ b. Leads D (suc m) b start d end) f k)) e.1) h

open_same : (o p : Open) → o.values ≡ p.values → o.code ≡ p.code → o.result ≡ p.result → o.again ≡ p.again → o ≡ p
open_same o p a b c d =
    ap (λ x. record { values = x; code = o.code; result = o.result; again = o.again }) a
    ∙ ap (λ x. record { values = p.values; code = x; result = o.result; again = o.again }) b
    ∙ ap (λ x. record { values = p.values; code = p.code; result = x; again = o.again }) c
    ∙ ap (λ x. record { values = p.values; code = p.code; result = p.result; again = x }) d

frame_same : (f g : Frame) → f.func ≡ g.func → f.locals ≡ g.locals → f.labels ≡ g.labels → f ≡ g
frame_same f g a b c =
    ap (λ x. record { func = x; locals = f.locals; labels = f.labels }) a
    ∙ ap (λ x. record { func = g.func; locals = x; labels = f.labels }) b
    ∙ ap (λ x. record { func = g.func; locals = g.locals; labels = x }) c

-- ---- the labels of a frame

module _ (fns : Functions) (shape : Shape) (fn : FunctionInstance) (typed also : FunctionTyped fns shape fn) where
  abbrev context_of : List (Option (ValueType Label)) → Context Label
  context_of ls = context typed.names fn ls

  abbrev context_also : List (Option (ValueType Label)) → Context Label
  context_also ls = context also.names fn ls

  abbrev labels_of : Open → List Open → List (Option (ValueType Label))
  labels_of o os = target_type o.again o.result ∷ target_types os

  -- the instructions in front of a place of one sequence lead to one stack
  pub stacks_same : (ls : List (Option (ValueType Label))) (n m : ℕ) (a c : Code Label) (to end : List (ValueType Label)) → Leads (context_of ls) n a [] c to → Leads (context_also ls) m a [] c end → to ≡ end
  stacks_same ls n m a c to end h i =
      let e = place_same (context_of ls) (context_also ls) n m a c [] to [] end h i in
      leads_same fns shape fn typed.names also.names typed.leads also.leads ls m a c c [] to end (subst (λ n. Leads (context_of ls) n a [] c to) e h) i

  -- in front of the end of an empty arm there is nothing, as in front of the end of the other arm
  empty : (C : Context Label) (n : ℕ) (a c : Code Label) (to : List (ValueType Label)) → a ≡ Stop → Leads C n a [] c to → (c ≡ Stop) × (to ≡ [])
  empty C zero a c to e h = (sym h.0 ∙ e, sym h.1)
  empty C (suc n) a c to e h = absurd (subst (λ a. Leads C (suc n) a [] c to) e h)

  ended : (C : Context Label) (c : Code Label) (to : List (ValueType Label)) (t : Option (ValueType Label)) → c ≡ Stop → t ≡ None → Typed C c to (optional t) → to ≡ []
  ended C c to t e f h = let g : Typed C Stop to (optional None) = subst (λ t. Typed C Stop to (optional t)) f (subst (λ c. Typed C c to (optional t)) e h) in g

  alike_stacks : (ls : List (Option (ValueType Label))) (n m : ℕ) (t : Option (ValueType Label)) (a b c : Code Label) (to end : List (ValueType Label)) → Alike t a b → Typed (context_of ls) a [] (optional t) → Typed (context_also ls) b [] (optional t) → Leads (context_of ls) n a [] c to → Leads (context_also ls) m b [] c end → to ≡ end
  alike_stacks ls n m t a b c to end h x y l k =
      ⊎_elim (λ e. stacks_same ls n m a c to end l (subst (λ b. Leads (context_also ls) m b [] c end) (sym e) k))
      (λ e. ⊎_elim
      (λ f. let q = empty (context_of ls) n a c to f l in
      q.1 ∙ sym (ended (context_also ls) c end t q.0 e.0 (leads_typed fns shape fn also.names also.names also.leads also.leads ls m b c [] end (optional t) y k)))
      (λ f. let q = empty (context_also ls) m b c end f k in
      ended (context_of ls) c to t q.0 e.0 (leads_typed fns shape fn typed.names typed.names typed.leads typed.leads ls n a c [] to (optional t) x l) ∙ sym q.1) e.1) h

  record SameOutside (os ps : List Open) (t u : Option (ValueType Label)) (again loop : Option (Code Label)) (inside arm : Code Label) : Type 0 where
    outside : os ≡ ps
    within : OpenedAlike t u again loop inside arm

  context_same : (o p : Open) (os ps : List Open) → OpenedAlike o.result p.result o.again p.again o.code o.code → os ≡ ps → labels_of o os ≡ labels_of p ps
  context_same o p os ps a e = let r = a.results in let l = a.loops in cc

  -- the instruction that opens a label is typed, so what it opens is alike
  openers_alike : (o : Open) (os : List Open) (k closer : Closer) (ks : List Closer) (t u : Option (ValueType Label)) (again loop : Option (Code Label)) (inside arm after : Code Label) → (h : OutsideHold typed.names fn closer t again inside (k ∷ ks) (o ∷ os)) → Opens (behind h.1 h.0) u loop arm after → ClosedBy closer (behind h.1 h.0) arm → OpenedAlike t u again loop inside arm
  openers_alike o os k closer ks t u again loop inside arm after h p l =
      let ls = labels_of o os in
      let sequence = outside_typed fns shape fn typed k o.result o.again h.0 ks os h.5 in
      let last = leads_last (context_of ls) h.1 h.0 o.code [] (upon (optional t) (types_of o.values)) h.4 in
      let opener_typed = leads_typed fns shape fn typed.names typed.names typed.leads typed.leads ls h.1 h.0 (behind h.1 h.0) [] last.mid (optional o.result) sequence last.front in
      opens_alike (context_of ls) (behind h.1 h.0) closer last.mid (optional o.result) opener_typed t u again loop inside arm o.code after h.2 h.3 p l

  -- one label more: its words and code are the same, and so are the labels outside it
  outside_step : (o p : Open) (os ps : List Open) (k closer : Closer) (ks : List Closer) (t u : Option (ValueType Label)) (again loop : Option (Code Label)) (inside arm : Code Label)
      → (h : OutsideHold typed.names fn closer t again inside (k ∷ ks) (o ∷ os)) (i : OutsideHold also.names fn closer u loop arm (k ∷ ks) (p ∷ ps)) → numbers o.values ≡ numbers p.values → o.code ≡ p.code → SameOutside os ps o.result p.result o.again p.again h.0 i.0 → SameOutside (o ∷ os) (p ∷ ps) t u again loop inside arm
  outside_step o p os ps k closer ks t u again loop inside arm h i words code out =
      let w = out.within in
      let os_same = out.outside in
      let result_same = w.results in
      let again_same = w.loops in
      let ls = labels_of o os in
      let ls_same : labels_of p ps ≡ ls = cc in
      let theirs : Leads (context_also ls) (suc i.1) i.0 [] o.code (upon (optional u) (types_of p.values)) =
      subst (λ c. Leads (context_also ls) (suc i.1) i.0 [] c (upon (optional u) (types_of p.values))) (sym code) (subst (λ ls. Leads (context_also ls) (suc i.1) i.0 [] p.code (upon (optional u) (types_of p.values))) ls_same i.4) in
      let whole = alike_same (context_of ls) (context_also ls) h.1 i.1 o.result h.0 i.0 o.code o.code [] (upon (optional t) (types_of o.values)) [] (upon (optional u) (types_of p.values)) w.insides h.4 theirs in
      let here : Leads (context_also ls) (suc i.1) h.0 [] o.code (upon (optional u) (types_of p.values)) = subst (λ a. Leads (context_also ls) (suc i.1) a [] o.code (upon (optional u) (types_of p.values))) (sym whole) theirs in
      let places : suc h.1 ≡ suc i.1 = place_same (context_of ls) (context_also ls) (suc h.1) (suc i.1) h.0 o.code [] (upon (optional t) (types_of o.values)) [] (upon (optional u) (types_of p.values)) h.4 here in
      let place : i.1 ≡ h.1 = omega (arith, places) in
      let opener : behind i.1 i.0 ≡ behind h.1 h.0 = ap (λ n. behind n i.0) place ∙ ap (behind h.1) (sym whole) in
      let opened = openers_alike o os k closer ks t u again loop inside arm p.code h (subst (λ c. Opens c u loop arm p.code) opener i.2) (subst (λ c. ClosedBy closer c arm) opener i.3) in
      let stacks = stacks_same ls (suc h.1) (suc i.1) h.0 o.code (upon (optional t) (types_of o.values)) (upon (optional u) (types_of p.values)) h.4 here in
      let types : types_of o.values ≡ types_of p.values = upon_same (optional t) (types_of o.values) (types_of p.values) (stacks ∙ ap (λ t. upon (optional t) (types_of p.values)) (sym opened.results)) in
      let first : o ≡ p = open_same o p (operands_same o.values p.values types words) code result_same again_same in
      record { outside = cc; within = opened }

  outside_same : (bytes : List ℕ) (under at : ℕ) (rs : List Opened) (ks : List Closer) (os ps : List Open) (closer : Closer) (t u : Option (ValueType Label)) (again loop : Option (Code Label)) (inside arm : Code Label)
      → OutsideHold typed.names fn closer t again inside ks os → OutsideHold also.names fn closer u loop arm ks ps → LabelsStand bytes under at rs os → LabelsStand bytes under at rs ps → operands_of os ≡ operands_of ps → SameOutside os ps t u again loop inside arm
  outside_same bytes under at rs [] [] [] closer t u again loop inside arm h i s z e =
      record { outside = refl; within = record { results = h.1 ∙ sym i.1; loops = h.2 ∙ sym i.2; insides = inl (h.3 ∙ sym i.3) } }
  outside_same bytes under at rs [] (o ∷ os) ps closer t u again loop inside arm h i s z e = absurd h
  outside_same bytes under at rs [] [] (p ∷ ps) closer t u again loop inside arm h i s z e = absurd i
  outside_same bytes under at rs (k ∷ ks) [] ps closer t u again loop inside arm h i s z e = absurd h
  outside_same bytes under at rs (k ∷ ks) (o ∷ os) [] closer t u again loop inside arm h i s z e = absurd i
  outside_same bytes under at [] (k ∷ ks) (o ∷ os) (p ∷ ps) closer t u again loop inside arm h i s z e = absurd s
  outside_same bytes under at (r ∷ rs) (k ∷ ks) (o ∷ os) (p ∷ ps) closer t u again loop inside arm h i s z e =
      let words = labels_split bytes under at r o p os ps s.0 z.0 e in
      outside_step o p os ps k closer ks t u again loop inside arm h i words.1 (code_same bytes at o p s.0.code z.0.code).0
      (outside_same bytes under r.after rs ks os ps k o.result p.result o.again p.again h.0 i.0 h.5 i.5 s.1 z.1 words.0)

  pub labels_same : (bytes : List ℕ) (under at : ℕ) (rs : List Opened) (ks : List Closer) (os ps : List Open) (arrives : List (ValueType Label)) → LabelsHold typed.names fn arrives ks os → LabelsHold also.names fn arrives ks ps → LabelsStand bytes under at rs os → LabelsStand bytes under at rs ps → operands_of os ≡ operands_of ps → os ≡ ps
  labels_same bytes under at rs [] os ps arrives h i s z e = absurd h
  labels_same bytes under at rs (k ∷ ks) [] ps arrives h i s z e = absurd h
  labels_same bytes under at rs (k ∷ ks) (o ∷ os) [] arrives h i s z e = absurd i
  labels_same bytes under at [] (k ∷ ks) (o ∷ os) (p ∷ ps) arrives h i s z e = absurd s
  labels_same bytes under at (r ∷ rs) (k ∷ ks) (o ∷ os) (p ∷ ps) arrives h i s z e =
      let words = labels_split bytes under at r o p os ps s.0 z.0 e in
      let outer_labels = outside_same bytes under r.after rs ks os ps k o.result p.result o.again p.again h.0 i.0 h.3 i.3 s.1 z.1 words.0 in
      let w = outer_labels.within in
      let os_same = outer_labels.outside in
      let result_same = w.results in
      let again_same = w.loops in
      let ls = labels_of o os in
      let ls_same : labels_of p ps ≡ ls = cc in
      let code = (code_same bytes at o p s.0.code z.0.code).0 in
      let theirs : Leads (context_also ls) i.1 i.0 [] o.code (upon arrives (types_of p.values)) =
      subst (λ c. Leads (context_also ls) i.1 i.0 [] c (upon arrives (types_of p.values))) (sym code) (subst (λ ls. Leads (context_also ls) i.1 i.0 [] p.code (upon arrives (types_of p.values))) ls_same i.2) in
      let mine = outside_typed fns shape fn typed k o.result o.again h.0 ks os h.3 in
      let other = outside_typed fns shape fn also k p.result p.again i.0 ks ps i.3 in
      let other_typed : Typed (context_also ls) i.0 [] (optional o.result) =
      subst (λ t. Typed (context_also ls) i.0 [] (optional t)) (sym result_same) (subst (λ ls. Typed (context_also ls) i.0 [] (optional p.result)) ls_same other) in
      let stacks = alike_stacks ls h.1 i.1 o.result h.0 i.0 o.code (upon arrives (types_of o.values)) (upon arrives (types_of p.values)) w.insides mine other_typed h.2 theirs in
      let types : types_of o.values ≡ types_of p.values = upon_same arrives (types_of o.values) (types_of p.values) stacks in
      let first : o ≡ p = open_same o p (operands_same o.values p.values types words.1) code result_same again_same in
      cc

-- ---- frames

has_types : (ts : List (ValueType Label)) (vs : List Value) → HasTypes ts vs → types_of vs ≡ ts
has_types [] [] h = refl
has_types [] (v ∷ vs) h = absurd h
has_types (t ∷ ts) [] h = absurd h
has_types (t ∷ ts) (v ∷ vs) h = let first = h.0 in let rest = has_types ts vs h.2 in cc

module _ (fns : Functions) (shape : Shape) where
  -- the locals of each frame have the types that its function declares
  abbrev LocalsTyped : List Frame → Type 0
  LocalsTyped [] = Unit {0}
  LocalsTyped (f ∷ fs) =
      ((fn : FunctionInstance) × (slice_get fns f.func ≡ Some fn) × HasTypes (fn.type.params ++ fn.locals) f.locals) × LocalsTyped fs

  callers_typed : (last t : Option (ValueType Label)) (fs : List Frame) → CallersTyped fns shape last t fs → LocalsTyped fs
  callers_typed last t [] h = tt
  callers_typed last t (f ∷ fs) h = ((h.0, h.1.found, h.1.locals), callers_typed last h.0.type.result fs h.2)

  call_typed : (last : Option (ValueType Label)) (fs : List Frame) → ActivationTyped fns shape last fs → LocalsTyped fs
  call_typed last [] h = tt
  call_typed last (f ∷ fs) h = ((h.0, h.1.found, h.1.locals), callers_typed last h.0.type.result fs h.2)

  -- what holds of two frames with the same words, whose callers have the same words
  record SameFrames (f g : Frame) (fs gs : List Frame) (fn gn : FunctionInstance) : Type 0 where
    frame : f ≡ g
    function : fn ≡ gn
    operands : all_operands fs ≡ all_operands gs
    locals : all_locals fs ≡ all_locals gs

  frame_locals : (f g : Frame) (fs gs : List Frame) → f.func ≡ g.func → LocalsTyped (f ∷ fs) → LocalsTyped (g ∷ gs) → map number_of f.locals ≡ map number_of g.locals → f.locals ≡ g.locals
  frame_locals f g fs gs e h i words =
      let a = h.0.1 in
      let b = i.0.1 in
      let one : h.0.0 ≡ i.0.0 = cc in
      let p = has_types (h.0.0.type.params ++ h.0.0.locals) f.locals h.0.2 in
      let q = has_types (i.0.0.type.params ++ i.0.0.locals) g.locals i.0.2 in
      locals_same f.locals g.locals (p ∙ ap (λ (fn : FunctionInstance). fn.type.params ++ fn.locals) one ∙ sym q) words

  frame_alone : (codes : Codes) (at : ℕ) (r : FrameRecords) (rs : List FrameRecords) (f g : Frame) (fs gs : List Frame) (ks : List Closer) (fn gn : FunctionInstance) (arrives : List (ValueType Label)) → FrameStands codes at r rs f fs → FrameStands codes at r rs g gs → FrameHolds fns shape arrives ks fn f → FrameHolds fns shape arrives ks gn g
      → LocalsTyped (f ∷ fs) → LocalsTyped (g ∷ gs) → all_operands fs ++ operands_of f.labels ≡ all_operands gs ++ operands_of g.labels → all_locals fs ++ map number_of f.locals ≡ all_locals gs ++ map number_of g.locals → SameFrames f g fs gs fn gn
  frame_alone codes at r rs f g fs gs ks fn gn arrives s t h i x y eo el =
      let func : f.func ≡ g.func = sym s.func ∙ t.func in
      let a = h.found in
      let b = i.found in
      let one : fn ≡ gn = cc in
      let locals = fronts_same (all_locals fs) (all_locals gs) (map number_of f.locals) (map number_of g.locals) (sym s.locals ∙ t.locals) el in
      let operands = frames_split (codes f.func) (codes g.func) at at r.labels f.labels g.labels fs gs s.some s.labels t.labels eo in
      let theirs : LabelsStand (codes f.func) (length (all_operands fs)) at r.labels g.labels =
      subst (λ n. LabelsStand (codes n) (length (all_operands fs)) at r.labels g.labels) (sym func) (subst (λ l. LabelsStand (codes g.func) (length l) at r.labels g.labels) (sym operands.0) t.labels) in
      let other : FrameHolds fns shape arrives ks fn g = subst (λ n. FrameHolds fns shape arrives ks n g) (sym one) i in
      record {
        frame = frame_same f g func (frame_locals f g fs gs func x y locals.1)
            (labels_same fns shape fn h.typed other.typed (codes f.func) (length (all_operands fs)) at r.labels ks f.labels g.labels arrives h.labels other.labels s.labels theirs operands.1);
        function = one;
        operands = operands.0;
        locals = locals.0;
      }

  callers_alone : (codes : Codes) (at : ℕ) (rs : List FrameRecords) (kss : List (List Closer)) (t u : Option (ValueType Label)) (fs gs : List Frame) → t ≡ u → FramesStand codes at rs fs → FramesStand codes at rs gs → CallersHold fns shape t kss fs → CallersHold fns shape u kss gs
      → LocalsTyped fs → LocalsTyped gs → all_operands fs ≡ all_operands gs → all_locals fs ≡ all_locals gs → fs ≡ gs
  callers_alone codes at rs [] t u [] [] q s z h i x y eo el = refl
  callers_alone codes at rs [] t u [] (g ∷ gs) q s z h i x y eo el = absurd i
  callers_alone codes at rs [] t u (f ∷ fs) gs q s z h i x y eo el = absurd h
  callers_alone codes at rs (ks ∷ kss) t u [] gs q s z h i x y eo el = absurd h
  callers_alone codes at rs (ks ∷ kss) t u (f ∷ fs) [] q s z h i x y eo el = absurd i
  callers_alone codes at [] (ks ∷ kss) t u (f ∷ fs) (g ∷ gs) q s z h i x y eo el = absurd s
  callers_alone codes at (r ∷ rs) (ks ∷ kss) t u (f ∷ fs) (g ∷ gs) q s z h i x y eo el =
      let first = frame_alone codes at r rs f g fs gs ks h.0 i.0 (optional u) s.0 z.0 (subst (λ t. FrameHolds fns shape (optional t) ks h.0 f) q h.1) i.1 x y eo el in
      let frame = first.frame in
      let rest : fs ≡ gs = callers_alone codes r.frame.back rs kss h.0.type.result i.0.type.result fs gs (ap (λ (fn : FunctionInstance). fn.type.result) first.function) s.1 z.1 h.2 i.2 x.1 y.1 first.operands first.locals in
      cc

  frames_alone : (codes : Codes) (at : ℕ) (rs : List FrameRecords) (kss : List (List Closer)) (fs gs : List Frame) → FramesStand codes at rs fs → FramesStand codes at rs gs → HoldsByBodies fns shape kss fs → HoldsByBodies fns shape kss gs → LocalsTyped fs → LocalsTyped gs → all_operands fs ≡ all_operands gs → all_locals fs ≡ all_locals gs → fs ≡ gs
  frames_alone codes at rs [] fs gs s z h i x y eo el = absurd h
  frames_alone codes at rs (ks ∷ kss) [] gs s z h i x y eo el = absurd h
  frames_alone codes at rs (ks ∷ kss) (f ∷ fs) [] s z h i x y eo el = absurd i
  frames_alone codes at [] (ks ∷ kss) (f ∷ fs) (g ∷ gs) s z h i x y eo el = absurd s
  frames_alone codes at (r ∷ rs) (ks ∷ kss) (f ∷ fs) (g ∷ gs) s z h i x y eo el =
      let first = frame_alone codes at r rs f g fs gs ks h.0 i.0 [] s.0 z.0 h.1 i.1 x y eo el in
      let frame = first.frame in
      let rest : fs ≡ gs = callers_alone codes r.frame.back rs kss h.0.type.result i.0.type.result fs gs (ap (λ (fn : FunctionInstance). fn.type.result) first.function) s.1 z.1 h.2 i.2 x.1 y.1 first.operands first.locals in
      cc

  -- with the same closers
  pub alone : (codes : Codes) (c : Shown) (last other : Option (ValueType Label)) (kss : List (List Closer)) (a b : Activation) → Stands codes c a → Stands codes c b → SoundCall fns shape last a → SoundCall fns shape other b → HoldsByBodies fns shape kss a → HoldsByBodies fns shape kss b → a ≡ b
  alone codes c last other kss a b s t x y h i =
      let records : t.records ≡ s.records = records_same codes c.at c.at t.records s.records b a t.places s.places (sym t.frames ∙ s.frames) (sym t.labels ∙ s.labels) in
      frames_alone codes c.at s.records kss a b s.places (subst (λ rs. FramesStand codes c.at rs b) records t.places) h i (call_typed last a x.typed) (call_typed other b y.typed)
      (sym s.operands ∙ t.operands) (sym s.locals ∙ t.locals)

  -- with the closers that stand in the bytes
  pub alone_there : (codes : Codes) (c : Shown) (last other : Option (ValueType Label)) (a b : Activation) → StandsByBodies fns shape codes c a → StandsByBodies fns shape codes c b → SoundCall fns shape last a → SoundCall fns shape other b → a ≡ b
  alone_there codes c last other a b s t x y =
      let records : t.stands.records ≡ s.stands.records = records_same codes c.at c.at t.stands.records s.stands.records b a t.stands.places s.stands.places (sym t.stands.frames ∙ s.stands.frames) (sym t.stands.labels ∙ s.stands.labels) in
      alone codes c last other (frame_closers codes c.at s.stands.records a s.stands.places) a b s.stands t.stands x y s.holds
      (subst (λ kss. HoldsByBodies fns shape kss b) (closers_same codes c.at t.stands.records s.stands.records b a records t.stands.places s.stands.places) t.holds)
