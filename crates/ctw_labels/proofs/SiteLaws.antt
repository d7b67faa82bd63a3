-- The sites don't depend on points, and say from where the yield's links come.
use Rattle.std.proofs.Common.{◌≡◌, ℕ, zero, suc, ◌+◌, Bool, true, false, List, [], ◌∷◌, ◌++◌, length, Option, Some, None, refl, sym, ◌∙◌, ap, append_assoc, arith}
use Rattle.std.specs.Prelude.{slice_get, unwrap_or, if◌then◌else◌}
use Rattle.std.specs.List.{AllByRecursion}
use Rattle.std.proofs.lemmas.List.{length-append}
use Rattle.std.proofs.lemmas.List.Elements.{recursion_from_All}
use Rattle.ctw_ops.specs.declared.types.Label.{Label}
use Rattle.ctw_ops.specs.declared.types.Trust.{Trust}
use Rattle.ctw_ops.specs.declared.types.Trust.TheVariants.{Untrusted, Trusted}
use Rattle.ctw_ops.specs.Types.{ValueType, FunctionType}
use Rattle.ctw_ops.specs.Code.{Leaf, Call, CallIndirect, Select, Const, Numeric, Classify, Declassify, Code, Stop, Then, Block, Loop, If, IfElse}
use Rattle.ctw_ops.specs.Tree.{Module, Function, function_entries, global_types, memory_among, imported_functions, type_named}
use Rattle.ctw_ops.specs.Typing.{Context, optional, i32, inside}
use Rattle.ctw_ops.specs.Segments.{and_then}
use Rattle.ctw_stack.specs.declared.slot.Slot.{Slot}
use Rattle.ctw_stack.specs.declared.slot.Slot.TheVariants.{Known, Wide, Unknown}
use Rattle.ctw_stack.specs.Operands.{Operands, fresh}
use Rattle.ctw_stack.specs.Steps.{when, may_call, moved, expect}
use Rattle.ctw_labels.specs.Names.{Tag, At, Fixed, SiteName, Param, Result, GlobalOf, MemoryOf, Local, BlockOf, OpOf, PushOf, IParam, IResult, Site, site, site_number}
use Rattle.ctw_labels.specs.Points.{Points, no_points, trust_at, is_released}
use Rattle.ctw_labels.specs.Sited.{yes, Lift, Sited, lifted}
use Rattle.ctw_labels.specs.Numbering.{params_from, result_from, type_from, sites_for, site_if, push_if, type_sites, BodyPlace, named_in, own_sites, has_push, top_lift, lift_of, after_lift, stepped, leaf_lift, leaf_sites, leaf_node, block_sites, block_lift, behind_block, Numbered, number, opcode_count}
use Rattle.ctw_labels.specs.Links.{lift_links, links_up, lift_list, lifts}
use Rattle.ctw_labels.specs.SitedModule.{site_count, types_from, function_sites, sited_functions, site_context, place_of, head_sites, SitedBody, body_from, bodies_from, bodies, body_sites, first_defined, sites}
use Rattle.ctw_ops.specs.Plain.{IsPlainFunction, IsPlainModule}
use Rattle.ctw_labels.proofs.NumberLaws.{IsPlainInstr, IsPlainCode}
use Rattle.ctw_labels.proofs.PlainLaws.{plain_body}
use Rattle.ctw_labels.specs.ModuleLinks.{lifts_within, yield_link, yield_links}

may_any : (t : Trust) → may_call t Untrusted ≡ true
may_any Untrusted = refl
may_any Trusted = refl

abbrev pub AreUntrusted : List (FunctionType Tag) → Type 0
AreUntrusted gs = (k : ℕ) (g : FunctionType Tag) → slice_get gs k ≡ Some g → g.trust ≡ Untrusted

-- ---- the numbering in a function of another trust, with other releases

module _ {A : Type 0} (P : BodyPlace A) (free : ℕ → Bool) (t : Trust) where
  abbrev Q : BodyPlace A
  Q = record P { free = free }

  pub under : (C : Context Tag) → AreUntrusted C.functions → (n : ℕ) (i : Leaf A) → IsPlainInstr i → (o : Operands Tag) → stepped P C n i o ≡ stepped Q (record C { trust = t }) n i o
  under C u n (Call f) q o = by_found (slice_get C.functions f) refl
    where
      by_found : (r : Option (FunctionType Tag)) → slice_get C.functions f ≡ r → and_then r (λ g. when (may_call C.trust g.trust) (moved yes g.params (optional g.result) o)) ≡ and_then r (λ g. when (may_call t g.trust) (moved yes g.params (optional g.result) o))
      by_found None e = refl
      by_found (Some g) e = ap (λ z. when z (moved yes g.params (optional g.result) o)) (ap (may_call C.trust) (u f g e) ∙ may_any C.trust ∙ sym (may_any t) ∙ ap (may_call t) (sym (u f g e)))
  under C u n (CallIndirect y) q o =
      let g : FunctionType Tag = type_from n (named_in P.types y) in
      ap (λ z. when C.table (when z (moved yes (g.params ++ i32 C ∷ []) (optional g.result) o))) (may_any C.trust ∙ sym (may_any t))
  under C u n (Classify w) q o = absurd q
  under C u n (Declassify w) q o = absurd q
  under C u n i q o = refl

  pub same_push : (name : SiteName) (b f g : Bool) (k : ℕ) (r : Option (Operands Tag)) → push_if name (lift_of b f k r) ≡ push_if name (lift_of b g k r)
  same_push name false f g k r = refl
  same_push name true f g k None = refl
  same_push name true f g k (Some m) = by_slots m.slots
    where
      by_slots : (xs : List (Slot Tag)) → push_if name (top_lift f k xs) ≡ push_if name (top_lift g k xs)
      by_slots [] = refl
      by_slots (Known w a ∷ xs) = refl
      by_slots (Wide a ∷ xs) = refl
      by_slots (Unknown ∷ xs) = refl

  pub same_after : (b f g : Bool) (k : ℕ) (r : Option (Operands Tag)) → after_lift (lift_of b f k r) r ≡ after_lift (lift_of b g k r) r
  same_after false f g k r = refl
  same_after true f g k None = refl
  same_after true f g k (Some m) = by_slots m.dead m.slots
    where
      by_slots : (d : Bool) (xs : List (Slot Tag)) → lifted (top_lift f k xs) (record { dead = d; slots = xs }) ≡ lifted (top_lift g k xs) (record { dead = d; slots = xs })
      by_slots d [] = refl
      by_slots d (Known w a ∷ xs) = refl
      by_slots d (Wide a ∷ xs) = refl
      by_slots d (Unknown ∷ xs) = refl

  same_behind : (f g : Bool) (n : ℕ) (r : Option (ValueType A)) (o : Operands Tag) → behind_block f n r o ≡ behind_block g n r o
  same_behind f g n None o = refl
  same_behind f g n (Some r) o = refl

  abbrev IsSame : Numbered → Numbered → Type 0
  IsSame a b = (a.sites ≡ b.sites) × (a.last ≡ b.last)

  at_same : (D : Context Tag) (c : Code A) (a : Numbered) (n m at : ℕ) (o s : Operands Tag) → n ≡ m → o ≡ s → IsSame a (number Q D c n at o) → IsSame a (number Q D c m at s)
  at_same D c a n m at o s e f h = (h.0 ∙ (λ i. (number Q D c (e i) at (f i)).sites), h.1 ∙ (λ i. (number Q D c (e i) at (f i)).last))

  pub number_same : (C : Context Tag) → AreUntrusted C.functions → (c : Code A) → IsPlainCode c → (n at : ℕ) (o : Operands Tag) → IsSame (number P C c n at o) (number Q (record C { trust = t }) c n at o)
  number_same C u Stop q n at o = (refl, refl)
  number_same C u (Then i rest) q n at o =
      let D : Context Tag = record C { trust = t } in
      let k : ℕ = n + length (own_sites P at i) in
      let e : stepped P C n i o ≡ stepped Q D n i o = under C u n i q.0 o in
      let own : leaf_sites P C n at i o ≡ leaf_sites Q D n at i o = ap (λ z. own_sites P at i ++ z) (same_push (PushOf P.func at) (has_push P C i) (P.free at) (free at) k (stepped P C n i o) ∙ ap (λ z. push_if (PushOf P.func at) (lift_of (has_push P C i) (free at) k z)) e) in
      let s : after_lift (leaf_lift P C n at i o) (stepped P C n i o) ≡ after_lift (leaf_lift Q D n at i o) (stepped Q D n i o) = same_after (has_push P C i) (P.free at) (free at) k (stepped P C n i o) ∙ ap (λ z. after_lift (lift_of (has_push P C i) (free at) k z) z) e in
      let r = at_same D rest (number P C rest (n + length (leaf_sites P C n at i o)) (at + 1) (after_lift (leaf_lift P C n at i o) (stepped P C n i o))) _ (n + length (leaf_sites Q D n at i o)) (at + 1) _ (after_lift (leaf_lift Q D n at i o) (stepped Q D n i o)) (ap (λ z. n + length z) own) s (number_same C u rest q.1 _ _ _) in
      ((λ j. own j ++ r.0 j), r.1)
  number_same C u (Block r body rest) q n at o =
      let D : Context Tag = record C { trust = t } in
      let own : List Site = block_sites P.func at n r in
      let b = number_same (inside (result_from n r) C) u body q.0 (n + length own) (at + 1) fresh in
      let w = at_same D rest (number P C rest (n + length own + length (number P (inside (result_from n r) C) body (n + length own) (at + 1) fresh).sites) (at + opcode_count body + 2) (behind_block (P.free at) n r o)) _ (n + length own + length (number Q (inside (result_from n r) D) body (n + length own) (at + 1) fresh).sites) (at + opcode_count body + 2) _ (behind_block (free at) n r o) (ap (λ z. n + length own + length z) b.0) (same_behind (P.free at) (free at) n r o) (number_same C u rest q.1 _ _ _) in
      ((λ j. own ++ b.0 j ++ w.0 j), w.1)
  number_same C u (Loop r body rest) q n at o =
      let D : Context Tag = record C { trust = t } in
      let own : List Site = block_sites P.func at n r in
      let b = number_same (inside None C) u body q.0 (n + length own) (at + 1) fresh in
      let w = at_same D rest (number P C rest (n + length own + length (number P (inside None C) body (n + length own) (at + 1) fresh).sites) (at + opcode_count body + 2) (behind_block (P.free at) n r o)) _ (n + length own + length (number Q (inside None D) body (n + length own) (at + 1) fresh).sites) (at + opcode_count body + 2) _ (behind_block (free at) n r o) (ap (λ z. n + length own + length z) b.0) (same_behind (P.free at) (free at) n r o) (number_same C u rest q.1 _ _ _) in
      ((λ j. own ++ b.0 j ++ w.0 j), w.1)
  number_same C u (If r arm rest) q n at o =
      let D : Context Tag = record C { trust = t } in
      let own : List Site = block_sites P.func at n r in
      let m : Operands Tag = unwrap_or (expect yes (i32 C) o) fresh in
      let b = number_same (inside (result_from n r) C) u arm q.0 (n + length own) (at + 1) fresh in
      let w = at_same D rest (number P C rest (n + length own + length (number P (inside (result_from n r) C) arm (n + length own) (at + 1) fresh).sites) (at + opcode_count arm + 2) (behind_block (P.free at) n r m)) _ (n + length own + length (number Q (inside (result_from n r) D) arm (n + length own) (at + 1) fresh).sites) (at + opcode_count arm + 2) _ (behind_block (free at) n r m) (ap (λ z. n + length own + length z) b.0) (same_behind (P.free at) (free at) n r m) (number_same C u rest q.1 _ _ _) in
      ((λ j. own ++ b.0 j ++ w.0 j), w.1)
  number_same C u (IfElse r arm other rest) q n at o =
      let D : Context Tag = record C { trust = t } in
      let own : List Site = block_sites P.func at n r in
      let m : Operands Tag = unwrap_or (expect yes (i32 C) o) fresh in
      let b = number_same (inside (result_from n r) C) u arm q.0 (n + length own) (at + 1) fresh in
      let B : List Site = (number P (inside (result_from n r) C) arm (n + length own) (at + 1) fresh).sites in
      let B' : List Site = (number Q (inside (result_from n r) D) arm (n + length own) (at + 1) fresh).sites in
      let c = at_same (inside (result_from n r) D) other (number P (inside (result_from n r) C) other (n + length own + length B) (at + opcode_count arm + 2) fresh) _ (n + length own + length B') (at + opcode_count arm + 2) fresh fresh (ap (λ z. n + length own + length z) b.0) refl (number_same (inside (result_from n r) C) u other q.1 _ _ fresh) in
      let E : List Site = (number P (inside (result_from n r) C) other (n + length own + length B) (at + opcode_count arm + 2) fresh).sites in
      let E' : List Site = (number Q (inside (result_from n r) D) other (n + length own + length B') (at + opcode_count arm + 2) fresh).sites in
      let w = at_same D rest (number P C rest (n + length own + length B + length E) (at + opcode_count arm + opcode_count other + 3) (behind_block (P.free at) n r m)) _ (n + length own + length B' + length E') (at + opcode_count arm + opcode_count other + 3) _ (behind_block (free at) n r m) (λ i. n + length own + length (b.0 i) + length (c.0 i)) (same_behind (P.free at) (free at) n r m) (number_same C u rest q.2 _ _ _) in
      ((λ j. own ++ b.0 j ++ c.0 j ++ w.0 j), w.1)

pub sited_untrusted : (m : Module Label) → AreUntrusted (sited_functions m)
sited_untrusted m = from 0 (function_entries m)
  where
    from : (n : ℕ) (ys : List ℕ) → AreUntrusted (types_from m n ys)
    from n [] k g e = cc
    from n (y ∷ ys) zero g e = let x : type_from n (type_named m y) ≡ g = cc in ap (λ z. z.trust) (sym x)
    from n (y ∷ ys) (suc k) g e = from (n + site_count (type_named m y)) ys k g e

bodies_same : (m : Module Label) (p p' : Points) (q k n : ℕ) (fs : List (Function Label)) → AllByRecursion IsPlainFunction fs → body_sites (bodies_from m p q k n fs) ≡ body_sites (bodies_from m p' q k n fs)
bodies_same m p p' q k n [] h = refl
bodies_same m p p' q k n (f ∷ fs) h =
    let g : FunctionType Tag = type_from q (type_named m f.type) in
    let one : (body_from m p q k n f).sites ≡ (body_from m p' q k n f).sites =
    ap (λ z. sites_for (Local k) (length (type_named m f.type).params) f.locals ++ z) (number_same (place_of m p k) (is_released p' k) (trust_at p' k) (site_context m (trust_at p k) g (params_from n f.locals)) (sited_untrusted m) f.body (plain_body f h.0).1 (n + length f.locals) 0 fresh).0 in
    (λ i. one i ++ body_sites (bodies_from m p (q + site_count (type_named m f.type)) (k + 1) (n + length (one i)) fs))
    ∙ ap (λ z. (body_from m p' q k n f).sites ++ z) (bodies_same m p p' (q + site_count (type_named m f.type)) (k + 1) (n + length (body_from m p' q k n f).sites) fs h.1)

-- whatever the points, the sites are those of the module
pub sites_same : (m : Module Label) → IsPlainModule m → (p : Points) → head_sites m ++ body_sites (bodies m p) ≡ sites m
sites_same m pl p = ap (λ z. head_sites m ++ z) (bodies_same m p no_points (first_defined m) (length (imported_functions m.imports)) (length (head_sites m)) m.functions (recursion_from_All IsPlainFunction m.functions pl.functions))

-- ---- the yield's links

yields_append : (p : Points) (n : ℕ) (xs ys : List Site) → yield_links p n (xs ++ ys) ≡ yield_links p n xs ++ yield_links p (n + length xs) ys
yields_append p n [] ys = let e : n ≡ n + 0 = omega arith in ap (λ z. yield_links p z ys) e
yields_append p n (x ∷ xs) ys =
    let e : (n + 1) + length xs ≡ n + length (x ∷ xs) = omega arith in
    ap (λ z. yield_link p n x.name x.yields ++ z) (yields_append p (n + 1) xs ys ∙ ap (λ z. yield_links p (n + 1) xs ++ yield_links p z ys) e) ∙ sym (append_assoc (yield_link p n x.name x.yields) (yield_links p (n + 1) xs) (yield_links p (n + length (x ∷ xs)) ys))

links_append : (xs ys : List (Lift Tag)) → links_up (xs ++ ys) ≡ links_up xs ++ links_up ys
links_append [] ys = refl
links_append (x ∷ xs) ys = ap (λ z. lift_links x.free x.source x.target ++ z) (links_append xs ys) ∙ sym (append_assoc (lift_links x.free x.source x.target) (links_up xs) (links_up ys))

-- sites that are no push come from nowhere
abbrev Silent : Points → List Site → Type 0
Silent p xs = (n : ℕ) → yield_links p n xs ≡ []

no_yield : (p : Points) (n : ℕ) (name : SiteName) → yield_link p n name None ≡ []
no_yield p n (Param f i) = refl
no_yield p n (Result f) = refl
no_yield p n (GlobalOf g) = refl
no_yield p n MemoryOf = refl
no_yield p n (Local f i) = refl
no_yield p n (BlockOf f at) = refl
no_yield p n (OpOf f at) = refl
no_yield p n (PushOf f at) = refl
no_yield p n (IParam f at i) = refl
no_yield p n (IResult f at) = refl

silent_for : {A : Type 0} (p : Points) (name : ℕ → SiteName) (i : ℕ) (xs : List A) → Silent p (sites_for name i xs)
silent_for p name i [] n = refl
silent_for p name i (x ∷ xs) n = λ j. no_yield p n (name i) j ++ silent_for p name (i + 1) xs (n + 1) j

silent_one : (p : Points) (name : SiteName) → Silent p (site name ∷ [])
silent_one p name n = ap (λ z. z ++ []) (no_yield p n name)

silent_if : {A : Type 0} (p : Points) (name : SiteName) (r : Option A) → Silent p (site_if name r)
silent_if p name None n = refl
silent_if p name (Some x) n = silent_one p name n

silent_append : (p : Points) (xs ys : List Site) → Silent p xs → Silent p ys → Silent p (xs ++ ys)
silent_append p xs ys h k n = yields_append p n xs ys ∙ (λ i. h n i ++ k (n + length xs) i)

silent_type : {A : Type 0} (p : Points) (param : ℕ → SiteName) (result : SiteName) (g : FunctionType A) → Silent p (type_sites param result g)
silent_type p param result g = silent_append p (sites_for param 0 g.params) (site_if result g.result) (silent_for p param 0 g.params) (silent_if p result g.result)

silent_own : {A : Type 0} (p : Points) (P : BodyPlace A) (at : ℕ) (i : Leaf A) → Silent p (own_sites P at i)
silent_own p P at (Numeric op l) = silent_one p (OpOf P.func at)
silent_own p P at (Select l) = silent_one p (OpOf P.func at)
silent_own p P at (Const w l bits) = silent_one p (PushOf P.func at)
silent_own p P at (CallIndirect y) = silent_type p (IParam P.func at) (IResult P.func at) (named_in P.types y)
silent_own p P at _ = λ n. refl

module _ {A : Type 0} (p : Points) (P : BodyPlace A) (own : (at : ℕ) → P.free at ≡ is_released p P.func at) where
  lift_yield : (at n : ℕ) (w : Lift Tag) → w.target ≡ At n → w.free ≡ is_released p P.func at → yield_links p n (push_if (PushOf P.func at) (Some w)) ≡ links_up (lift_list (Some w))
  lift_yield at n w e f = by_source w.source ∙ ap (λ z. lift_links z w.source (At n) ++ []) (sym f) ∙ ap (λ z. lift_links w.free w.source z ++ []) (sym e)
    where
      by_test : (b : Bool) (y : ℕ) → (if b then [] else record { from = y; to = n; rule = 1 } ∷ []) ≡ lift_links b (At y) (At n)
      by_test true y = refl
      by_test false y = refl

      by_fixed : (b : Bool) → [] ≡ lift_links b Fixed (At n)
      by_fixed true = refl
      by_fixed false = refl

      by_source : (a : Tag) → yield_link p n (PushOf P.func at) (site_number a) ++ [] ≡ lift_links (is_released p P.func at) a (At n) ++ []
      by_source (At y) = ap (λ z. z ++ []) (by_test (is_released p P.func at) y)
      by_source Fixed = ap (λ z. z ++ []) (by_fixed (is_released p P.func at))

  top_yield : (at n : ℕ) (b : Bool) (r : Option (Operands Tag)) → yield_links p n (push_if (PushOf P.func at) (lift_of b (P.free at) n r)) ≡ links_up (lift_list (lift_of b (P.free at) n r))
  top_yield at n false r = refl
  top_yield at n true None = refl
  top_yield at n true (Some m) = by_slots m.slots
    where
      by_slots : (xs : List (Slot Tag)) → yield_links p n (push_if (PushOf P.func at) (top_lift (P.free at) n xs)) ≡ links_up (lift_list (top_lift (P.free at) n xs))
      by_slots [] = refl
      by_slots (Known w a ∷ xs) = lift_yield at n (record { width = w; source = a; target = At n; free = P.free at }) refl (own at)
      by_slots (Wide a ∷ xs) = refl
      by_slots (Unknown ∷ xs) = refl

  block_yield : (at n : ℕ) (r : Option (ValueType A)) → yield_links p n (block_sites P.func at n r) ≡ links_up (lift_list (block_lift (P.free at) n r))
  block_yield at n None = refl
  block_yield at n (Some t) = lift_yield at (n + 1) (record { width = t.width; source = At n; target = At (n + 1); free = P.free at }) refl (own at)

  node_yield : (C : Context Tag) (n : ℕ) (i : Leaf A) (l : Option (Lift Tag)) (rest : Sited Tag) → lifts (leaf_node P C n i l rest) ≡ lift_list l ++ lifts rest
  node_yield C n (CallIndirect y) l rest = refl
  node_yield C n _ l rest = refl

  -- own sites, those of a block, and those behind it
  three : (n at : ℕ) (r : Option (ValueType A)) (b : Numbered) (f : ℕ → Numbered) → yield_links p (n + length (block_sites P.func at n r)) b.sites ≡ links_up (lifts b.code) → ((k : ℕ) → yield_links p k (f k).sites ≡ links_up (lifts (f k).code)) →
      yield_links p n (block_sites P.func at n r ++ b.sites ++ (f (n + length (block_sites P.func at n r) + length b.sites)).sites) ≡ links_up (lift_list (block_lift (P.free at) n r) ++ (lifts b.code ++ lifts (f (n + length (block_sites P.func at n r) + length b.sites)).code))
  three n at r b f hb hf =
      let own : List Site = block_sites P.func at n r in
      let k : ℕ = n + length own + length b.sites in
      let l : List (Lift Tag) = lift_list (block_lift (P.free at) n r) in
      let e : n + length (own ++ b.sites) ≡ n + length own + length b.sites = let h = length-append own b.sites in omega (arith, h) in
      yields_append p n (own ++ b.sites) (f k).sites
      ∙ (λ i. yields_append p n own b.sites i ++ yield_links p (e i) (f k).sites)
      ∙ (λ i. (block_yield at n r i ++ hb i) ++ hf k i)
      ∙ append_assoc (links_up l) (links_up (lifts b.code)) (links_up (lifts (f k).code))
      ∙ ap (λ z. links_up l ++ z) (sym (links_append (lifts b.code) (lifts (f k).code)))
      ∙ sym (links_append l (lifts b.code ++ lifts (f k).code))

  four : (n at : ℕ) (r : Option (ValueType A)) (b : Numbered) (g f : ℕ → Numbered) → yield_links p (n + length (block_sites P.func at n r)) b.sites ≡ links_up (lifts b.code) → ((k : ℕ) → yield_links p k (g k).sites ≡ links_up (lifts (g k).code)) → ((k : ℕ) → yield_links p k (f k).sites ≡ links_up (lifts (f k).code)) →
      yield_links p n (block_sites P.func at n r ++ b.sites ++ (g (n + length (block_sites P.func at n r) + length b.sites)).sites ++ (f (n + length (block_sites P.func at n r) + length b.sites + length (g (n + length (block_sites P.func at n r) + length b.sites)).sites)).sites)
      ≡ links_up (lift_list (block_lift (P.free at) n r) ++ (lifts b.code ++ (lifts (g (n + length (block_sites P.func at n r) + length b.sites)).code ++ lifts (f (n + length (block_sites P.func at n r) + length b.sites + length (g (n + length (block_sites P.func at n r) + length b.sites)).sites)).code)))
  four n at r b g f hb hg hf =
      let own : List Site = block_sites P.func at n r in
      let j : ℕ = n + length own + length b.sites in
      let k : ℕ = j + length (g j).sites in
      let l : List (Lift Tag) = lift_list (block_lift (P.free at) n r) in
      let e : n + length (own ++ b.sites) ≡ j = let h = length-append own b.sites in omega (arith, h) in
      let d : n + length (own ++ b.sites ++ (g j).sites) ≡ k = let h = length-append (own ++ b.sites) (g j).sites in let i = length-append own b.sites in omega (arith, h, i) in
      yields_append p n (own ++ b.sites ++ (g j).sites) (f k).sites
      ∙ (λ i. yields_append p n (own ++ b.sites) (g j).sites i ++ yield_links p (d i) (f k).sites)
      ∙ (λ i. (yields_append p n own b.sites i ++ yield_links p (e i) (g j).sites) ++ yield_links p k (f k).sites)
      ∙ (λ i. ((block_yield at n r i ++ hb i) ++ hg j i) ++ hf k i)
      ∙ append_assoc (links_up l ++ links_up (lifts b.code)) (links_up (lifts (g j).code)) (links_up (lifts (f k).code))
      ∙ append_assoc (links_up l) (links_up (lifts b.code)) (links_up (lifts (g j).code) ++ links_up (lifts (f k).code))
      ∙ ap (λ z. links_up l ++ (links_up (lifts b.code) ++ z)) (sym (links_append (lifts (g j).code) (lifts (f k).code)))
      ∙ ap (λ z. links_up l ++ z) (sym (links_append (lifts b.code) (lifts (g j).code ++ lifts (f k).code)))
      ∙ sym (links_append l (lifts b.code ++ (lifts (g j).code ++ lifts (f k).code)))

  -- the lifts of a body are the yields of its sites
  pub number_yields : (C : Context Tag) (c : Code A) (n at : ℕ) (o : Operands Tag) → yield_links p n (number P C c n at o).sites ≡ links_up (lifts (number P C c n at o).code)
  number_yields C Stop n at o = refl
  number_yields C (Then i rest) n at o =
      let l : Option (Lift Tag) = leaf_lift P C n at i o in
      let own : List Site = own_sites P at i in
      let mine : List Site = leaf_sites P C n at i o in
      let r : Numbered = number P C rest (n + length mine) (at + 1) (after_lift l (stepped P C n i o)) in
      let first : yield_links p n mine ≡ links_up (lift_list l) = yields_append p n own (push_if (PushOf P.func at) l) ∙ ap (λ z. z ++ yield_links p (n + length own) (push_if (PushOf P.func at) l)) (silent_own p P at i n) ∙ top_yield at (n + length own) (has_push P C i) (stepped P C n i o) in
      yields_append p n mine r.sites ∙ (λ j. first j ++ number_yields C rest (n + length mine) (at + 1) (after_lift l (stepped P C n i o)) j) ∙ sym (links_append (lift_list l) (lifts r.code)) ∙ ap links_up (sym (node_yield C n i l r.code))
  number_yields C (Block r body rest) n at o = three n at r (number P (inside (result_from n r) C) body (n + length (block_sites P.func at n r)) (at + 1) fresh) (λ k. number P C rest k (at + opcode_count body + 2) (behind_block (P.free at) n r o)) (number_yields (inside (result_from n r) C) body _ _ fresh) (λ k. number_yields C rest k _ _)
  number_yields C (Loop r body rest) n at o = three n at r (number P (inside None C) body (n + length (block_sites P.func at n r)) (at + 1) fresh) (λ k. number P C rest k (at + opcode_count body + 2) (behind_block (P.free at) n r o)) (number_yields (inside None C) body _ _ fresh) (λ k. number_yields C rest k _ _)
  number_yields C (If r arm rest) n at o = three n at r (number P (inside (result_from n r) C) arm (n + length (block_sites P.func at n r)) (at + 1) fresh) (λ k. number P C rest k (at + opcode_count arm + 2) (behind_block (P.free at) n r (unwrap_or (expect yes (i32 C) o) fresh))) (number_yields (inside (result_from n r) C) arm _ _ fresh) (λ k. number_yields C rest k _ _)
  number_yields C (IfElse r arm other rest) n at o = four n at r (number P (inside (result_from n r) C) arm (n + length (block_sites P.func at n r)) (at + 1) fresh) (λ k. number P (inside (result_from n r) C) other k (at + opcode_count arm + 2) fresh) (λ k. number P C rest k (at + opcode_count arm + opcode_count other + 3) (behind_block (P.free at) n r (unwrap_or (expect yes (i32 C) o) fresh)))
      (number_yields (inside (result_from n r) C) arm _ _ fresh) (λ k. number_yields (inside (result_from n r) C) other k _ fresh) (λ k. number_yields C rest k _ _)

-- ---- the module

functions_silent : (p : Points) (m : Module Label) (k : ℕ) (ys : List ℕ) → Silent p (function_sites m k ys)
functions_silent p m k [] n = refl
functions_silent p m k (y ∷ ys) n = silent_append p (type_sites (Param k) (Result k) (type_named m y)) (function_sites m (k + 1) ys) (silent_type p (Param k) (Result k) (type_named m y)) (functions_silent p m (k + 1) ys) n

head_silent : (p : Points) (m : Module Label) → Silent p (head_sites m)
head_silent p m = silent_append p (function_sites m 0 (function_entries m)) _ (functions_silent p m 0 (function_entries m)) (silent_append p (sites_for GlobalOf 0 (global_types m)) (site_if MemoryOf (memory_among m.imports m.memory)) (silent_for p GlobalOf 0 (global_types m)) (silent_if p MemoryOf (memory_among m.imports m.memory)))

local_length : {A : Type 0} (name : ℕ → SiteName) (i : ℕ) (xs : List A) → length (sites_for name i xs) ≡ length xs
local_length name i [] = refl
local_length name i (x ∷ xs) = let h = local_length name (i + 1) xs in omega (arith, h)

bodies_yields : (p : Points) (m : Module Label) (q k n : ℕ) (fs : List (Function Label)) → yield_links p n (body_sites (bodies_from m p q k n fs)) ≡ links_up (lifts_within (bodies_from m p q k n fs))
bodies_yields p m q k n [] = refl
bodies_yields p m q k n (f ∷ fs) =
    let b : SitedBody = body_from m p q k n f in
    let bs : List SitedBody = bodies_from m p (q + site_count (type_named m f.type)) (k + 1) (n + length b.sites) fs in
    let ls : List Site = sites_for (Local k) (length (type_named m f.type).params) f.locals in
    let C : Context Tag = site_context m (trust_at p k) (type_from q (type_named m f.type)) (params_from n f.locals) in
    let r : Numbered = number (place_of m p k) C f.body (n + length f.locals) 0 fresh in
    let e : n + length ls ≡ n + length f.locals = ap (λ z. n + z) (local_length (Local k) (length (type_named m f.type).params) f.locals) in
    let one : yield_links p n b.sites ≡ links_up (lifts b.code) =
    yields_append p n ls r.sites ∙ (λ i. silent_for p (Local k) (length (type_named m f.type).params) f.locals n i ++ yield_links p (e i) r.sites) ∙ number_yields p (place_of m p k) (λ at. refl) C f.body (n + length f.locals) 0 fresh in
    yields_append p n b.sites (body_sites bs) ∙ (λ i. one i ++ bodies_yields p m (q + site_count (type_named m f.type)) (k + 1) (n + length b.sites) fs i) ∙ sym (links_append (lifts b.code) (lifts_within bs))

-- rule 1 is what the sites say of their yields
pub sites_yield : (m : Module Label) → IsPlainModule m → (p : Points) → yield_links p 0 (sites m) ≡ links_up (lifts_within (bodies m p))
sites_yield m pl p =
    let e : 0 + length (head_sites m) ≡ length (head_sites m) = omega arith in
    ap (yield_links p 0) (sym (sites_same m pl p)) ∙ yields_append p 0 (head_sites m) (body_sites (bodies m p))
    ∙ (λ i. head_silent p m 0 i ++ yield_links p (e i) (body_sites (bodies m p))) ∙ bodies_yields p m (first_defined m) (length (imported_functions m.imports)) (length (head_sites m)) m.functions
