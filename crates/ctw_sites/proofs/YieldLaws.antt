-- The sites of a body's code are named after its function and its opcodes, and what they yield from is a site that fits.
use Rattle.std.proofs.Common.{◌≡◌, ◌≤◌, ◌<◌, ◌^◌, ℕ, zero, suc, ◌+◌, Bool, true, false, List, [], ◌∷◌, ◌++◌, length, Option, Some, None, refl, subst, arith, length-append}
use Rattle.std.specs.List.{AllByRecursion}
use Rattle.std.specs.Prelude.{not, ◌||◌, nat_le, is_some, option_map, slice_get, unwrap_or}
use Rattle.ctw_ops.specs.declared.types.Width.{Width}
use Rattle.ctw_ops.specs.declared.types.Width.TheVariants.{W32}
use Rattle.ctw_ops.specs.Types.{ValueType, FunctionType, value_type}
use Rattle.ctw_ops.specs.Equal.{same_width}
use Rattle.ctw_ops.specs.Forms.{is_load}
use Rattle.ctw_ops.specs.Numeric.{num_sig_of, leaks}
use Rattle.ctw_ops.specs.Code.{Leaf, Unreachable, Nop, Br, BrIf, BrTable, Return, Call, CallIndirect, Drop, Select, LocalGet, LocalSet, LocalTee, GlobalGet, GlobalSet, Load, Store, MemorySize, MemoryGrow, Const, Numeric, Classify, Declassify, Code, Stop, Then, Block, Loop, If, IfElse}
use Rattle.ctw_ops.specs.Segments.{and_then}
use Rattle.ctw_ops.specs.Typing.{Context, optional, i32, inside, operands}
use Rattle.ctw_stack.specs.declared.slot.Slot.{Slot}
use Rattle.ctw_stack.specs.declared.slot.Slot.TheVariants.{Known, Wide, Unknown}
use Rattle.ctw_stack.specs.Operands.{Operands, fresh, push, pop}
use Rattle.ctw_stack.specs.Steps.{when, is_tag, pushes, expect, expects, moved, merged, chosen, width_of}
use Rattle.ctw_labels.specs.declared.tag.Tag.{Tag}
use Rattle.ctw_labels.specs.declared.tag.Tag.TheVariants.{At, Fixed}
use Rattle.ctw_labels.specs.declared.name.SiteName.{SiteName}
use Rattle.ctw_labels.specs.declared.name.SiteName.TheVariants.{Block as BlockOf, Op as OpOf, Push as PushOf, IParam, IResult}
use Rattle.ctw_labels.specs.Names.{Site, site_number}
use Rattle.ctw_labels.specs.Sited.{yes}
use Rattle.ctw_labels.specs.Numbering.{BodyPlace, opcode_count, result_from, type_from, named_in, sites_for, site_if, push_if, own_sites, has_push, top_lift, lift_of, stepped, leaf_lift, after_lift, leaf_sites, block_sites, behind_block, number}
use Rattle.ctw_labels.proofs.NumberLaws.{all_append_to}
use Rattle.ctw_labels.proofs.Contexts.{type_length}

-- ---- tags that fit into a word

abbrev pub TagFits : Tag → Type 0
TagFits (At k) = k + 1 < 2 ^ 25
TagFits Fixed = Unit {0}

abbrev pub ResultFits : Option (ValueType Tag) → Type 0
ResultFits None = Unit {0}
ResultFits (Some t) = TagFits t.tag

-- what a body may name fits
pub record ContextFits (C : Context Tag) : Type 0 where
  pub functions : AllByRecursion (λ g. ResultFits g.result) C.functions
  pub globals : AllByRecursion (λ g. TagFits g.value.tag) C.globals
  pub locals : AllByRecursion (λ t. TagFits t.tag) C.locals
  pub memory : TagFits (unwrap_or C.memory Fixed)
  pub labels : AllByRecursion ResultFits C.labels
  pub public : TagFits C.public

pub result_fits : {A : Type 0} (n : ℕ) (t : Option (ValueType A)) → n + length (optional t) < 2 ^ 25 → ResultFits (result_from n t)
result_fits n None lt = tt
result_fits n (Some t) lt = omega (arith, lt)

inside_fits : {A : Type 0} (C : Context Tag) (f at n : ℕ) (t : Option (ValueType A)) → ContextFits C → n + length (block_sites f at n t) < 2 ^ 25 → ContextFits (inside (result_from n t) C)
inside_fits {A} C f at n t h lt = record {
  functions = h.functions;
  globals = h.globals;
  locals = h.locals;
  memory = h.memory;
  labels = (own t lt, h.labels);
  public = h.public;
}
  where
    own : (t : Option (ValueType A)) → n + length (block_sites f at n t) < 2 ^ 25 → ResultFits (result_from n t)
    own None lt = tt
    own (Some t) lt = omega (arith, lt)

loop_fits : (C : Context Tag) → ContextFits C → ContextFits (inside None C)
loop_fits C h = record {
  functions = h.functions;
  globals = h.globals;
  locals = h.locals;
  memory = h.memory;
  labels = (tt, h.labels);
  public = h.public;
}

found : {X : Type 0} (P : X → Type 0) (xs : List X) → AllByRecursion P xs → (k : ℕ) (x : X) → slice_get xs k ≡ Some x → P x
found P [] h k x e = absurd (none_here e)
  where
    none_here : {Y : Type 0} {y : Y} → slice_get {X = Y} [] k ≡ Some y → ⊥
    none_here e = cc
found P (y ∷ xs) h zero x e = let q : y ≡ x = cc in subst P q h.0
found P (y ∷ xs) h (suc k) x e = found P xs h.1 k x e

-- ---- the tag of the value on top

abbrev TopFits : List (Slot Tag) → Type 0
TopFits (Known w a ∷ xs) = TagFits a
TopFits _ = Unit {0}

abbrev SomeTop : Option (Operands Tag) → Type 0
SomeTop None = Unit {0}
SomeTop (Some m) = TopFits m.slots

when_top : (c : Bool) (x : Option (Operands Tag)) → SomeTop x → SomeTop (when c x)
when_top true x h = h
when_top false x h = tt

found_top : {X : Type 0} (x : Option X) (f : X → Option (Operands Tag)) → ((y : X) → x ≡ Some y → SomeTop (f y)) → SomeTop (and_then x f)
found_top None f h = tt
found_top (Some y) f h = h y refl

moved_top : (takes : List (ValueType Tag)) (t : ValueType Tag) (o : Operands Tag) → TagFits t.tag → SomeTop (moved yes takes (t ∷ []) o)
moved_top takes t o h = found_top (expects yes takes o) (λ rest. Some (pushes (t ∷ []) rest)) (λ y e. h)

given_top : (takes : List (ValueType Tag)) (t : Option (ValueType Tag)) (o : Operands Tag) → ResultFits t → is_some t ≡ true → SomeTop (moved yes takes (optional t) o)
given_top takes None o h e = absurd (none_some e)
  where
    none_some : false ≡ true → ⊥
    none_some e = cc
given_top takes (Some t) o h e = moved_top takes t o h

joined_top : (n : ℕ) (c : Bool) (a b : Option Width) (rest : Operands Tag) → n + 1 < 2 ^ 25 → SomeTop (and_then (when c (merged (At n) a b)) (λ slot. Some (push slot rest)))
joined_top n false a b rest lt = tt
joined_top n true None None rest lt = tt
joined_top n true (Some w) None rest lt = lt
joined_top n true None (Some v) rest lt = lt
joined_top n true (Some w) (Some v) rest lt = same (same_width w v)
  where
    same : (c : Bool) → SomeTop (and_then (when c (Some (Known w (At n)))) (λ slot. Some (push slot rest)))
    same true = lt
    same false = tt

no_push : {P : Type 0} → false ≡ true → P
no_push e = absurd cc

module _ {A : Type 0} (P : BodyPlace A) (C : Context Tag) (h : ContextFits C) (n at : ℕ) (o : Operands Tag) where
  branch_top : (x : Option (Option (ValueType Tag))) → ((t : Option (ValueType Tag)) → x ≡ Some t → ResultFits t) → unwrap_or (option_map is_some x) false ≡ true
      → SomeTop (and_then x (λ t. moved yes (optional t ++ i32 C ∷ []) (optional t) o))
  branch_top None f e = tt
  branch_top (Some t) f e = given_top (optional t ++ i32 C ∷ []) t o (f t refl) e

  call_top : (x : Option (FunctionType Tag)) (may : FunctionType Tag → Bool) → ((g : FunctionType Tag) → x ≡ Some g → ResultFits g.result) → unwrap_or (option_map (λ g. is_some g.result) x) false ≡ true
      → SomeTop (and_then x (λ g. when (may g) (moved yes g.params (optional g.result) o)))
  call_top None may f e = tt
  call_top (Some g) may f e = when_top (may g) (moved yes g.params (optional g.result) o) (given_top g.params g.result o (f g refl) e)

  some_result : (k : ℕ) (t : Option (ValueType A)) → is_some t ≡ true → is_some (result_from k t) ≡ true
  some_result k None e = e
  some_result k (Some t) e = refl

  -- what a leaf pushes comes from a site that fits
  leaf_top : (i : Leaf A) → n + length (own_sites P at i) + 1 < 2 ^ 25 → has_push P C i ≡ true → SomeTop (stepped P C n i o)
  leaf_top Unreachable lt e = no_push e
  leaf_top Nop lt e = no_push e
  leaf_top (Br k) lt e = no_push e
  leaf_top (BrIf k) lt e = branch_top (slice_get C.labels k) (λ t q. found ResultFits C.labels h.labels k t q) e
  leaf_top (BrTable ks k) lt e = no_push e
  leaf_top Return lt e = no_push e
  leaf_top (Call f) lt e = call_top (slice_get C.functions f) (λ g. _) (λ g q. found (λ g. ResultFits g.result) C.functions h.functions f g q) e
  leaf_top (CallIndirect y) lt e =
      let g : FunctionType A = named_in P.types y in
      let u : FunctionType Tag = type_from n g in
      let l = type_length (IParam P.func at) (IResult P.func at) g in
      when_top C.table _ (when_top _ (moved yes (u.params ++ i32 C ∷ []) (optional u.result) o)
      (given_top (u.params ++ i32 C ∷ []) u.result o (result_fits (n + length g.params) g.result (omega (arith, l, lt))) (some_result (n + length g.params) g.result e)))
  leaf_top Drop lt e = no_push e
  leaf_top (Select l) lt e =
      found_top (expect yes (value_type W32 (At n)) o) (chosen yes (At n)) (λ a q.
      found_top (pop a) _ (λ b r.
      found_top (pop b.rest) _ (λ d s. joined_top n _ (width_of b.slot) (width_of d.slot) d.rest (omega (arith, lt)))))
  leaf_top (LocalGet x) lt e = found_top (slice_get C.locals x) (λ t. moved yes [] (t ∷ []) o) (λ t q. moved_top [] t o (found (λ t. TagFits t.tag) C.locals h.locals x t q))
  leaf_top (LocalSet x) lt e = no_push e
  leaf_top (LocalTee x) lt e = found_top (slice_get C.locals x) (λ t. moved yes (t ∷ []) (t ∷ []) o) (λ t q. moved_top (t ∷ []) t o (found (λ t. TagFits t.tag) C.locals h.locals x t q))
  leaf_top (GlobalGet x) lt e = found_top (slice_get C.globals x) (λ g. moved yes [] (g.value ∷ []) o) (λ g q. moved_top [] g.value o (found (λ g. TagFits g.value.tag) C.globals h.globals x g q))
  leaf_top (GlobalSet x) lt e = no_push e
  leaf_top (Load w l bytes signed align offset) lt e =
      let k : Tag = unwrap_or C.memory Fixed in
      let m : Option (Operands Tag) = moved yes (i32 C ∷ []) (value_type w k ∷ []) o in
      when_top (is_load w bytes signed) (when (is_tag yes k C.memory) (when (nat_le (2 ^ align) bytes) m))
      (when_top (is_tag yes k C.memory) (when (nat_le (2 ^ align) bytes) m) (when_top (nat_le (2 ^ align) bytes) m (moved_top (i32 C ∷ []) (value_type w k) o h.memory)))
  leaf_top (Store w l bytes align offset) lt e = no_push e
  leaf_top MemorySize lt e = found_top C.memory (λ l. moved yes [] (i32 C ∷ []) o) (λ l q. moved_top [] (i32 C) o h.public)
  leaf_top MemoryGrow lt e = found_top C.memory (λ l. moved yes (i32 C ∷ []) (i32 C ∷ []) o) (λ l q. moved_top (i32 C ∷ []) (i32 C) o h.public)
  leaf_top (Const w l bits) lt e = no_push e
  leaf_top (Numeric op l) lt e =
      found_top (num_sig_of op) (λ sig. when (not (leaks op C.profile) || true) (moved yes (operands sig (At n)) (value_type sig.result (At n) ∷ []) o)) (λ sig q.
      when_top (not (leaks op C.profile) || true) (moved yes (operands sig (At n)) (value_type sig.result (At n) ∷ []) o) (moved_top (operands sig (At n)) (value_type sig.result (At n)) o (omega (arith, lt))))
  leaf_top (Classify w) lt e = no_push e
  leaf_top (Declassify w) lt e = no_push e

-- ---- the sites of code

abbrev pub YieldFits : Option ℕ → Type 0
YieldFits None = Unit {0}
YieldFits (Some y) = y + 1 < 2 ^ 25

-- a site inside the code of function `f`, whose word has room for it
abbrev pub InCode : ℕ → SiteName → Option ℕ → Type 0
InCode f (BlockOf g a) y = (g ≡ f) × (a < 2 ^ 21) × (y ≡ None)
InCode f (OpOf g a) y = (g ≡ f) × (a < 2 ^ 21) × (y ≡ None)
InCode f (PushOf g a) y = (g ≡ f) × (a < 2 ^ 21) × YieldFits y
InCode f (IParam g a i) y = (g ≡ f) × (a < 2 ^ 21) × (i < 2 ^ 25) × (y ≡ None)
InCode f (IResult g a) y = (g ≡ f) × (a < 2 ^ 21) × (y ≡ None)
InCode f _ y = ⊥

abbrev pub IsInCode : ℕ → Site → Type 0
IsInCode f s = InCode f s.name s.yields

block_in : {A : Type 0} (f n at : ℕ) (t : Option (ValueType A)) → at < 2 ^ 21 → n + length (block_sites f at n t) < 2 ^ 25 → AllByRecursion (IsInCode f) (block_sites f at n t)
block_in f n at None la lt = tt
block_in f n at (Some t) la lt = ((refl, la, refl), ((refl, la, omega (arith, lt)), tt))

tag_yields : (a : Tag) → TagFits a → YieldFits (site_number a)
tag_yields (At k) h = h
tag_yields Fixed h = tt

module _ {A : Type 0} (P : BodyPlace A) (few : (y : ℕ) → length (named_in P.types y).params < 2 ^ 25) where
  params_in : (at i : ℕ) (ts : List (ValueType A)) → at < 2 ^ 21 → i + length ts < 2 ^ 25 → AllByRecursion (IsInCode P.func) (sites_for (IParam P.func at) i ts)
  params_in at i [] la lt = tt
  params_in at i (t ∷ ts) la lt = ((refl, la, omega (arith, lt), refl), params_in at (i + 1) ts la (omega (arith, lt)))

  if_in : (at : ℕ) (t : Option (ValueType A)) → at < 2 ^ 21 → AllByRecursion (IsInCode P.func) (site_if (IResult P.func at) t)
  if_in at None la = tt
  if_in at (Some t) la = ((refl, la, refl), tt)

  own_in : (at : ℕ) (i : Leaf A) → at < 2 ^ 21 → AllByRecursion (IsInCode P.func) (own_sites P at i)
  own_in at (Numeric op l) la = ((refl, la, refl), tt)
  own_in at (Select l) la = ((refl, la, refl), tt)
  own_in at (Const w l bits) la = ((refl, la, tt), tt)
  own_in at (CallIndirect y) la =
      let g : FunctionType A = named_in P.types y in
      all_append_to (IsInCode P.func) (sites_for (IParam P.func at) 0 g.params) (site_if (IResult P.func at) g.result)
      (params_in at 0 g.params la (omega (arith, few y))) (if_in at g.result la)
  own_in at _ la = tt

  push_in : (at : ℕ) (b free : Bool) (p : ℕ) (s : Option (Operands Tag)) → at < 2 ^ 21 → (b ≡ true → SomeTop s) → AllByRecursion (IsInCode P.func) (push_if (PushOf P.func at) (lift_of b free p s))
  push_in at false free p s la h = tt
  push_in at true free p None la h = tt
  push_in at true free p (Some m) la h = by_slots m.slots (h refl)
    where
      by_slots : (xs : List (Slot Tag)) → TopFits xs → AllByRecursion (IsInCode P.func) (push_if (PushOf P.func at) (top_lift free p xs))
      by_slots [] w = tt
      by_slots (Known v a ∷ xs) w = ((refl, la, tag_yields a w), tt)
      by_slots (Wide a ∷ xs) w = tt
      by_slots (Unknown ∷ xs) w = tt

  leaf_in : (C : Context Tag) → ContextFits C → (n at : ℕ) (i : Leaf A) (o : Operands Tag) → at < 2 ^ 21 → n + length (own_sites P at i) + 1 < 2 ^ 25 → AllByRecursion (IsInCode P.func) (leaf_sites P C n at i o)
  leaf_in C h n at i o la lt =
      all_append_to (IsInCode P.func) (own_sites P at i) (push_if (PushOf P.func at) (leaf_lift P C n at i o)) (own_in at i la)
      (push_in at (has_push P C i) (P.free at) (n + length (own_sites P at i)) (stepped P C n i o) la (leaf_top P C h n at o i lt))

  abbrev Kept : Context Tag → Code A → ℕ → ℕ → Operands Tag → Type 0
  Kept C c n at o = AllByRecursion (IsInCode P.func) (number P C c n at o).sites

  -- all sites of code are in it, and fit
  pub number_in : (C : Context Tag) → ContextFits C → (c : Code A) (n at : ℕ) (o : Operands Tag) → at + opcode_count c ≤ 2 ^ 21 → n + length (number P C c n at o).sites + 1 < 2 ^ 25 → Kept C c n at o
  number_in C h Stop n at o la lt = tt
  number_in C h (Then i rest) n at o la lt =
      let own : List Site = leaf_sites P C n at i o in
      let s = after_lift (leaf_lift P C n at i o) (stepped P C n i o) in
      let R : List Site = (number P C rest (n + length own) (at + 1) s).sites in
      let a = length-append own R in
      let b = length-append (own_sites P at i) (push_if (PushOf P.func at) (leaf_lift P C n at i o)) in
      all_append_to (IsInCode P.func) own R (leaf_in C h n at i o (omega (arith, la)) (omega (arith, a, b, lt)))
      (number_in C h rest (n + length own) (at + 1) s (omega (arith, la)) (omega (arith, a, lt)))
  number_in C h (Block t body rest) n at o la lt =
      let own : List Site = block_sites P.func at n t in
      let B : List Site = (number P (inside (result_from n t) C) body (n + length own) (at + 1) fresh).sites in
      let s = behind_block (P.free at) n t o in
      let R : List Site = (number P C rest (n + length own + length B) (at + opcode_count body + 2) s).sites in
      let a = length-append (own ++ B) R in
      let b = length-append own B in
      let lo : n + length own < 2 ^ 25 = omega (arith, a, b, lt) in
      all_append_to (IsInCode P.func) (own ++ B) R
      (all_append_to (IsInCode P.func) own B (block_in P.func n at t (omega (arith, la)) lo)
      (number_in (inside (result_from n t) C) (inside_fits C P.func at n t h lo) body (n + length own) (at + 1) fresh (omega (arith, la)) (omega (arith, a, b, lt))))
      (number_in C h rest (n + length own + length B) (at + opcode_count body + 2) s (omega (arith, la)) (omega (arith, a, b, lt)))
  number_in C h (Loop t body rest) n at o la lt =
      let own : List Site = block_sites P.func at n t in
      let B : List Site = (number P (inside None C) body (n + length own) (at + 1) fresh).sites in
      let s = behind_block (P.free at) n t o in
      let R : List Site = (number P C rest (n + length own + length B) (at + opcode_count body + 2) s).sites in
      let a = length-append (own ++ B) R in
      let b = length-append own B in
      let lo : n + length own < 2 ^ 25 = omega (arith, a, b, lt) in
      all_append_to (IsInCode P.func) (own ++ B) R
      (all_append_to (IsInCode P.func) own B (block_in P.func n at t (omega (arith, la)) lo)
      (number_in (inside None C) (loop_fits C h) body (n + length own) (at + 1) fresh (omega (arith, la)) (omega (arith, a, b, lt))))
      (number_in C h rest (n + length own + length B) (at + opcode_count body + 2) s (omega (arith, la)) (omega (arith, a, b, lt)))
  number_in C h (If t arm rest) n at o la lt =
      let own : List Site = block_sites P.func at n t in
      let B : List Site = (number P (inside (result_from n t) C) arm (n + length own) (at + 1) fresh).sites in
      let s = behind_block (P.free at) n t (unwrap_or (expect yes (i32 C) o) fresh) in
      let R : List Site = (number P C rest (n + length own + length B) (at + opcode_count arm + 2) s).sites in
      let a = length-append (own ++ B) R in
      let b = length-append own B in
      let lo : n + length own < 2 ^ 25 = omega (arith, a, b, lt) in
      all_append_to (IsInCode P.func) (own ++ B) R
      (all_append_to (IsInCode P.func) own B (block_in P.func n at t (omega (arith, la)) lo)
      (number_in (inside (result_from n t) C) (inside_fits C P.func at n t h lo) arm (n + length own) (at + 1) fresh (omega (arith, la)) (omega (arith, a, b, lt))))
      (number_in C h rest (n + length own + length B) (at + opcode_count arm + 2) s (omega (arith, la)) (omega (arith, a, b, lt)))
  number_in C h (IfElse t arm other rest) n at o la lt =
      let own : List Site = block_sites P.func at n t in
      let D : Context Tag = inside (result_from n t) C in
      let B : List Site = (number P D arm (n + length own) (at + 1) fresh).sites in
      let O : List Site = (number P D other (n + length own + length B) (at + opcode_count arm + 2) fresh).sites in
      let s = behind_block (P.free at) n t (unwrap_or (expect yes (i32 C) o) fresh) in
      let R : List Site = (number P C rest (n + length own + length B + length O) (at + opcode_count arm + opcode_count other + 3) s).sites in
      let a = length-append (own ++ B ++ O) R in
      let b = length-append (own ++ B) O in
      let d = length-append own B in
      let lo : n + length own < 2 ^ 25 = omega (arith, a, b, d, lt) in
      let k = inside_fits C P.func at n t h lo in
      all_append_to (IsInCode P.func) (own ++ B ++ O) R
      (all_append_to (IsInCode P.func) (own ++ B) O
      (all_append_to (IsInCode P.func) own B (block_in P.func n at t (omega (arith, la)) lo)
      (number_in D k arm (n + length own) (at + 1) fresh (omega (arith, la)) (omega (arith, a, b, d, lt))))
      (number_in D k other (n + length own + length B) (at + opcode_count arm + 2) fresh (omega (arith, la)) (omega (arith, a, b, d, lt))))
      (number_in C h rest (n + length own + length B + length O) (at + opcode_count arm + opcode_count other + 3) s (omega (arith, la)) (omega (arith, a, b, d, lt)))
