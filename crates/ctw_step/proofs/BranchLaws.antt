-- Branches by their instructions.
use Rattle.std.specs.Prelude.{if◌then◌else◌, ◌==◌}
use Rattle.std.proofs.Common.{◌≡◌, ◌≢◌, ℕ, ◌+◌, ◌-◌, ◌<◌, ◌^◌, Bool, true, false, List, [], ◌∷◌, ◌++◌, length, Option, Some, None, slice_get, refl, sym, ap, ◌∙◌, subst, arith, length-append}
use Rattle.ctw_ops.specs.declared.types.Label.{Label}
use Rattle.ctw_ops.specs.Types.{ValueType, FitsWidth}
use Rattle.ctw_ops.specs.Code as ops
use Rattle.ctw_ops.specs.Code.{Code, Then, Leaf}
use Rattle.ctw_flat.specs.declared.instr.Instr.{Instr}
use Rattle.ctw_flat.specs.declared.instr.Instr.TheVariants as instr
use Rattle.ctw_flat.specs.Instructions.{op_of}
use Rattle.ctw_script.specs.declared.event.Event.{Event}
use Rattle.ctw_script.specs.declared.event.Event.TheVariants as Events
use Rattle.ctw_semantics.specs.Values.{Value, i32}
use Rattle.ctw_semantics.specs.Activations.{Open}
use Rattle.ctw_semantics.specs.Stores.{Storage}
use Rattle.ctw_semantics.specs.Instances.{FunctionInstance, Functions}
use Rattle.ctw_semantics.specs.Answers.{Stuck, Reduced, Goes, noting}
use Rattle.ctw_semantics.specs.Machine as Machine
use Rattle.ctw_semantics.specs.Machine.{Here, put, branch, pass, innermost, table_place}
use Rattle.ctw_step.specs.declared.running.Opened.{Opened}
use Rattle.ctw_step.specs.declared.running.Caller.{Caller}
use Rattle.ctw_step.specs.declared.running.Stepped.{Stepped}
use Rattle.ctw_step.specs.declared.running.Stepped.TheVariants as Steppeds
use Rattle.ctw_step.specs.Shown.{Shown}
use Rattle.ctw_step.specs.Leaving.{Leaves, LeavesBy, BranchedBy}
use Rattle.ctw_step.specs.Stands.{Codes, numbers, Stands}
use Rattle.ctw_step.specs.Told.{Tells, Meets, AllFit, with_operands}
use Rattle.ctw_step.proofs.Inside.{under, operands_are}
use Rattle.ctw_step.proofs.Moves.{moves}
use Rattle.ctw_step.proofs.Views.{noted, given_is, popped, AtLeaf, leaf_view, last_is}
use Rattle.ctw_step.proofs.Branches.{branch_done, branch_ready, pass_is, back_ready, back_done}

module _ (codes : Codes) (bytes : List ℕ) (c : Shown) (next : ℕ) (fns : Functions) (fn : FunctionInstance) (s : Storage) (h : Here) (code : Code Label) (vs : List Value) where
  abbrev Told : Shown → Stepped → Type 0
  Told c' r = Tells codes s c' r (Machine.next fns fn s h code vs).answer (Machine.next fns fn s h code vs).event

  -- the reduction is a branch, from a call that stands behind the instruction
  pub record Branches (b : Shown) (k : ℕ) (e : Option Event) : Type 0 where
    pub rest : Code Label
    pub ws : List Value
    pub stands : Stands codes b (put h rest ws)
    pub gives : Machine.next fns fn s h code vs ≡ branch (noted e) s h k (innermost h rest ws ∷ h.outer) ws
    pub going : (branch (noted e) s h k (innermost h rest ws ∷ h.outer) ws).answer ≢ Stuck

  pub way_ready : (b : Shown) (k : ℕ) (e : Option Event) → Branches b k e
      → (k < length b.labels) × ((index : ℕ) → index + 1 + k ≡ length b.labels → (label : Opened) → slice_get b.labels index ≡ Some label → label.is_loop ≡ false → Leaves b index)
  way_ready b k e x = branch_ready codes b s h x.rest x.ws k e x.stands x.going

  pub way_done : (b : Shown) (k : ℕ) (e : Option Event) → Branches b k e → (r : Stepped) (c' : Shown) → ((index : ℕ) → index + 1 + k ≡ length b.labels → BranchedBy b index e r c') → Told c' r
  way_done b k e x r c' y =
      let l = (way_ready b k e x).0 in
      let n = less k (length b.labels) l in
      subst (λ (x : Reduced). Tells codes s c' r x.answer x.event) (sym x.gives) (branch_done codes b s h x.rest x.ws k e x.stands x.going n.0 n.1 r c' (y n.0 n.1))
    where
      less : (k m : ℕ) → k < m → (i : ℕ) × (i + 1 + k ≡ m)
      less k m l = (m - 1 - k, omega (arith, l))

  pub br_way : (k : ℕ) → Meets codes bytes c (instr.Br k) next fns fn s h code vs → (b : Shown) → b ≡ with_operands c c.operands next → Branches b k None
  br_way k m b e =
      let a = leaf_view codes bytes c next fns fn s h code vs (instr.Br k) (ops.Br k) refl m in
      record {
        rest = a.rest;
        ws = vs;
        stands = subst (λ (b : Shown). Stands codes b (put h a.rest vs)) (sym e) (moves codes c h (Then (ops.Br k) a.rest) a.rest vs vs next a.inner a.stands c.operands (operands_are codes c h (Then (ops.Br k) a.rest) vs a.inner));
        gives = ap (λ d. Machine.next fns fn s h d vs) a.is;
        going = a.going;
      }

  -- ---- branches on an operand

  pub record Took (l : Leaf Label) : Type 0 where
    pub at : AtLeaf codes bytes c next fns fn s h code vs l
    pub v : Value
    pub below : List Value
    pub are : vs ≡ v ∷ below
    pub typed : v.type ≡ i32
    pub operands : c.operands ≡ (under h ++ numbers below) ++ v.number ∷ []

  pub took_there : (l : Leaf Label) (t : Took l) → 0 < length c.operands
  took_there l t = omega (arith, ap length t.operands, length-append (under h ++ numbers t.below) (t.v.number ∷ []))

  pub took_small : (l : Leaf Label) (t : Took l) → AllFit vs → t.v.number < 2 ^ 32
  took_small l t f =
      let g : AllFit (t.v ∷ t.below) = subst AllFit t.are f in
      subst (λ (u : ValueType Label). FitsWidth u.width t.v.number) t.typed g.0

  took_stands : (l : Leaf Label) (t : Took l) (b : Shown) → b ≡ with_operands c (under h ++ numbers t.below) next → Stands codes b (put h t.at.rest t.below)
  took_stands l t b e = subst (λ (b : Shown). Stands codes b (put h t.at.rest t.below)) (sym e) (moves codes c h (Then l t.at.rest) t.at.rest vs t.below next t.at.inner t.at.stands (under h ++ numbers t.below) refl)

  pub record BrIf (k : ℕ) (t : Took (ops.BrIf k)) : Type 0 where
    pub passes : (b : Shown) → b ≡ with_operands c (under h ++ numbers t.below) next → (t.v.number == 0) ≡ true → Told b (Steppeds.Went (Some (Events.Branch false)))
    pub takes : (b : Shown) → b ≡ with_operands c (under h ++ numbers t.below) next → (t.v.number == 0) ≡ false → Branches b k (Some (Events.Branch true))

  pub br_if_way : (k : ℕ) → Meets codes bytes c (instr.BrIf k) next fns fn s h code vs → (t : Took (ops.BrIf k)) × BrIf k t
  br_if_way k m =
      let a = leaf_view codes bytes c next fns fn s h code vs (instr.BrIf k) (ops.BrIf k) refl m in
      let p = popped i32 vs _ a.going in
      let t : Took (ops.BrIf k) = record { at = a; v = p.v; below = p.below; are = p.are; typed = p.typed; operands = last_is codes bytes c next fns fn s h code vs (ops.BrIf k) a p.v p.below p.are } in
      let labels : List Open = innermost h a.rest p.below ∷ h.outer in
      let g : Bool → Reduced = λ z. if z then pass (noting (Events.Branch false) (Goes s (put h a.rest p.below))) k labels p.below else branch (noting (Events.Branch true)) s h k labels p.below in (
        t,
        record {
          passes = λ b e z.
              let q = pass_is (noting (Events.Branch false) (Goes s (put h a.rest p.below))) k labels p.below (subst (λ z. (g z).answer ≢ Stuck) z p.going) in
              subst (λ (x : Reduced). Tells codes s b (Steppeds.Went (Some (Events.Branch false))) x.answer x.event) (sym (ap (λ d. Machine.next fns fn s h d vs) a.is ∙ p.gives ∙ ap g z ∙ q)) (refl, took_stands (ops.BrIf k) t b e, refl);
          takes = λ b e z. record {
            rest = a.rest;
            ws = p.below;
            stands = took_stands (ops.BrIf k) t b e;
            gives = ap (λ d. Machine.next fns fn s h d vs) a.is ∙ p.gives ∙ ap g z;
            going = subst (λ z. (g z).answer ≢ Stuck) z p.going;
          };
        },
      )

  pub record BrTable (targets : List ℕ) (otherwise : ℕ) (t : Took (ops.BrTable targets otherwise)) : Type 0 where
    pub k : ℕ
    pub is : slice_get (targets ++ otherwise ∷ []) (table_place t.v.number targets) ≡ Some k
    pub takes : (b : Shown) → b ≡ with_operands c (under h ++ numbers t.below) next → Branches b k (Some (Events.Table t.v.number))

  pub br_table_way : (i : Instr) (targets : List ℕ) (otherwise : ℕ) → op_of i ≡ ops.Plain (ops.BrTable targets otherwise) → Meets codes bytes c i next fns fn s h code vs → (t : Took (ops.BrTable targets otherwise)) × BrTable targets otherwise t
  br_table_way i targets otherwise io m =
      let l = ops.BrTable targets otherwise in
      let a = leaf_view codes bytes c next fns fn s h code vs i l io m in
      let p = popped i32 vs _ a.going in
      let g = given_is (slice_get (targets ++ otherwise ∷ []) (table_place p.v.number targets)) _ p.going in
      let t : Took l = record { at = a; v = p.v; below = p.below; are = p.are; typed = p.typed; operands = last_is codes bytes c next fns fn s h code vs l a p.v p.below p.are } in (
        t,
        record {
          k = g.x;
          is = g.is;
          takes = λ b e. record {
            rest = a.rest;
            ws = p.below;
            stands = took_stands l t b e;
            gives = ap (λ d. Machine.next fns fn s h d vs) a.is ∙ p.gives ∙ g.gives;
            going = g.going;
          };
        },
      )

  -- ---- return

  pub return_ready : Meets codes bytes c instr.Return next fns fn s h code vs → (front : List Caller) (f : Caller) → c.frames ≡ front ++ f ∷ [] → Leaves c f.labels
  return_ready m front f e =
      let a = leaf_view codes bytes c next fns fn s h code vs instr.Return ops.Return refl m in
      back_ready codes c s h code vs m.stands fn.type.result m.own front f e a.going

  pub return_done : Meets codes bytes c instr.Return next fns fn s h code vs → (front : List Caller) (f : Caller) → c.frames ≡ front ++ f ∷ [] → (r : Stepped) (c' : Shown) → LeavesBy c f.labels None r c' → Told c' r
  return_done m front f e r c' l =
      let a = leaf_view codes bytes c next fns fn s h code vs instr.Return ops.Return refl m in
      subst (λ d. Tells codes s c' r (Machine.next fns fn s h d vs).answer (Machine.next fns fn s h d vs).event) (sym a.is) (back_done codes c s h code vs m.stands fn.type.result m.own front f e a.going r c' l)
