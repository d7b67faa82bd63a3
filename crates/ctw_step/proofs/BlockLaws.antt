-- Blocks, loops and ifs.
use Rattle.std.specs.Prelude.{if◌then◌else◌, ◌==◌, not}
use Rattle.std.proofs.Common.{◌≡◌, ◌≢◌, ℕ, ◌<◌, Bool, true, false, List, [], ◌∷◌, ◌++◌, length, Option, Some, None, refl, sym, ap, ◌∙◌, subst, arith, append_assoc, append-nil, length-append, is_some}
use Rattle.ctw_ops.specs.declared.types.Label.{Label}
use Rattle.ctw_ops.specs.Types.{ValueType}
use Rattle.ctw_ops.specs.Code as ops
use Rattle.ctw_ops.specs.Code.{Code, Stop, Closer, ByEnd, ByElse, Op}
use Rattle.ctw_ops.specs.Segments.{Segment, segment}
use Rattle.ctw_flat.specs.Places.{instr_in}
use Rattle.ctw_flat.specs.declared.instr.Instr.{Instr}
use Rattle.ctw_flat.specs.declared.instr.Instr.TheVariants as instr
use Rattle.ctw_flat.specs.Blocks.{ends_in}
use Rattle.ctw_flat.specs.declared.blocks.Block.{Block}
use Rattle.ctw_flat.specs.Positions.{At, TellsEnds, EndsAlone}
use Rattle.ctw_flat.proofs.Positions.{at_closer}
use Rattle.ctw_script.specs.declared.event.Event.TheVariants as Events
use Rattle.ctw_semantics.specs.Values.{Value, i32}
use Rattle.ctw_semantics.specs.Activations.{Open}
use Rattle.ctw_semantics.specs.Stores.{Storage}
use Rattle.ctw_semantics.specs.Instances.{FunctionInstance, Functions}
use Rattle.ctw_semantics.specs.Answers.{Stuck, Reduced, Goes}
use Rattle.ctw_semantics.specs.Machine as Machine
use Rattle.ctw_semantics.specs.Machine.{Here, put, enter, innermost, choose}
use Rattle.ctw_step.specs.declared.running.Opened.{Opened}
use Rattle.ctw_step.specs.declared.running.Stepped.{Stepped}
use Rattle.ctw_step.specs.declared.running.Stepped.TheVariants as Steppeds
use Rattle.ctw_step.specs.Shown.{Shown}
use Rattle.ctw_step.specs.Stands.{Codes, numbers, all_operands, all_labels, upward, AgainStands, operands_of, CodeStands, Stands}
use Rattle.ctw_step.specs.Told.{Tells, Meets, EndsBehind, IsBehind, OtherArm, with_operands, with_label, opened}
use Rattle.ctw_step.proofs.Reading.{on_block, on_loop, on_if, same_next}
use Rattle.ctw_step.proofs.Inside.{Inner, inner, under, operands_are, stands_again}
use Rattle.ctw_step.proofs.Numbers.{numbers_top}
use Rattle.ctw_step.proofs.Views.{popped, noted}

module _ (codes : Codes) (bytes : List ℕ) (c : Shown) (next : ℕ) (fns : Functions) (fn : FunctionInstance) (s : Storage) (h : Here) (code : Code Label) (vs : List Value) where
  abbrev Tells' : Shown → Stepped → Reduced → Type 0
  Tells' c' r x = Tells codes s c' r x.answer x.event

  abbrev Here' : Instr → Type 0
  Here' i = Meets codes bytes c i next fns fn s h code vs

  -- where the block at this place ends, behind which the label outside goes on
  abbrev Ends : (List Block) → Type 0
  Ends blocks = TellsEnds (codes h.func) (ends_in blocks)

  opens : (c' : Shown) (t : Option (ValueType Label)) (again : Option (Code Label)) (body rest code' : Code Label) (i : Inner codes c h code' vs) (r : Opened) → c' ≡ with_label c r next → r.height ≡ length c.operands → r.has_result ≡ is_some t
      → AgainStands (codes h.func) r again t (innermost h rest vs ∷ h.outer) → CodeStands (codes h.func) next body → CodeStands (codes h.func) r.after rest → Stands codes c' (enter h rest vs t again body)
  opens c' t again body rest code' i r e eh er ag sb sr =
      let o : Open = record { values = []; code = body; result = t; again = again } in
      let f = i.framed in
      let place : c'.at ≡ next = ap (λ (c : Shown). c.at) e in
      stands_again codes c c' h (innermost h code' vs ∷ h.outer) (o ∷ innermost h rest vs ∷ h.outer) h.locals f (r ∷ i.record_of ∷ i.records) (omega arith) (
        record { code = subst (λ n. CodeStands (codes h.func) n body) (sym place) sb; height = eh ∙ ap length f.operands ∙ length-append (all_operands h.callers) (operands_of h.outer ++ numbers vs); has_result = er; again = ag },
        (record { code = sr; height = i.head.height; has_result = i.head.has_result; again = i.head.again }, i.tail),
      )
      (ap (λ (c : Shown). c.operands) e ∙ f.operands ∙ ap (λ l. all_operands h.callers ++ l) (sym (append-nil (operands_of h.outer ++ numbers vs))))
      (ap (λ (c : Shown). c.locals) e ∙ f.locals)
      (ap (λ (c : Shown). c.labels) e ∙ ap (λ l. l ++ r ∷ []) (f.labels ∙ ap (λ rs. all_labels f.others ++ upward rs) i.are) ∙ append_assoc (all_labels f.others) (upward (i.record_of ∷ i.records)) (r ∷ []))
      (ap (λ (c : Shown). c.frames) e)

  -- the place behind a block's end, and what stands there
  behind_alone : (blocks : List Block) (rest : Code Label) (closer : Closer) (tail : List (Segment Label)) → EndsAlone (codes h.func) (ends_in blocks c.at) (segment rest closer ∷ tail)
      → (after : ℕ) × EndsBehind (codes h.func) blocks c.at after × CodeStands (codes h.func) after rest
  behind_alone blocks rest closer tail a =
      let m = at_closer (codes h.func) a.0 ByEnd (segment rest closer ∷ tail) a.2 in
      (m.next, record { end = a.0; other = None; ends = a.1; inside = a.2.inside; reads = m.reads }, record { closer = closer; tail = tail; stands = m.after })

  one_behind : (blocks : List Block) (a b : ℕ) → EndsBehind (codes h.func) blocks c.at a → EndsBehind (codes h.func) blocks c.at b → a ≡ b
  one_behind blocks a b x y =
      let p : (x.end, x.other) ≡ (y.end, y.other) = let e = x.ends in let f = y.ends in cc in
      let q : x.end ≡ y.end = ap (λ (p : ℕ × Option ℕ). p.0) p in
      same_next (instr_in (codes h.func) y.end) (ops.Closes ByEnd) (ops.Closes ByEnd) a b (ap (instr_in (codes h.func)) (sym q) ∙ x.reads) y.reads

  pub block_ends : (t : Option (ValueType Label)) (blocks : List Block) → Here' (instr.Block t) → Ends blocks → (after : ℕ) × EndsBehind (codes h.func) blocks c.at after
  block_ends t blocks m ends =
      on_block (codes h.func) c.at next (λ _. (after : ℕ) × EndsBehind (codes h.func) blocks c.at after) t m.reads code (inner codes c h code vs m.stands).head.code
      (λ body rest closer tail a sb. let b = behind_alone blocks rest closer tail (ends.blocks c.at t body rest closer tail a) in (b.0, b.1))

  pub block_entered : (t : Option (ValueType Label)) (blocks : List Block) → Here' (instr.Block t) → Ends blocks → (r : Opened) (c' : Shown) → c' ≡ with_label c r next → EndsBehind (codes h.func) blocks c.at r.after → r.height ≡ length c.operands → r.has_result ≡ is_some t → r.is_loop ≡ false
      → Tells' c' (Steppeds.Went None) (Machine.next fns fn s h code vs)
  block_entered t blocks m ends r c' e eb eh er el =
      on_block (codes h.func) c.at next (λ code. Inner codes c h code vs → Tells' c' (Steppeds.Went None) (Machine.next fns fn s h code vs)) t m.reads code (inner codes c h code vs m.stands).head.code
      (λ body rest closer tail a sb i.
      let b = behind_alone blocks rest closer tail (ends.blocks c.at t body rest closer tail a) in
      let q : b.0 ≡ r.after = one_behind blocks b.0 r.after b.1 eb in
      (refl, opens c' t None body rest (ops.Block t body rest) i r e eh er el sb (subst (λ n. CodeStands (codes h.func) n rest) q b.2), refl))
      (inner codes c h code vs m.stands)

  pub loop_ends : (t : Option (ValueType Label)) (blocks : List Block) → Here' (instr.Loop t) → Ends blocks → (after : ℕ) × EndsBehind (codes h.func) blocks c.at after
  loop_ends t blocks m ends =
      on_loop (codes h.func) c.at next (λ _. (after : ℕ) × EndsBehind (codes h.func) blocks c.at after) t m.reads code (inner codes c h code vs m.stands).head.code
      (λ body rest closer tail a sb. let b = behind_alone blocks rest closer tail (ends.loops c.at t body rest closer tail a) in (b.0, b.1))

  pub loop_entered : (t : Option (ValueType Label)) (blocks : List Block) → Here' (instr.Loop t) → Ends blocks → (r : Opened) (c' : Shown) → c' ≡ with_label c r next → EndsBehind (codes h.func) blocks c.at r.after → r.height ≡ length c.operands → r.has_result ≡ is_some t → r.is_loop ≡ true → r.start ≡ c.at
      → Tells' c' (Steppeds.Went None) (Machine.next fns fn s h code vs)
  loop_entered t blocks m ends r c' e eb eh er el es =
      on_loop (codes h.func) c.at next (λ code. Inner codes c h code vs → Tells' c' (Steppeds.Went None) (Machine.next fns fn s h code vs)) t m.reads code (inner codes c h code vs m.stands).head.code
      (λ body rest closer tail a sb i.
      let b = behind_alone blocks rest closer tail (ends.loops c.at t body rest closer tail a) in
      let q : b.0 ≡ r.after = one_behind blocks b.0 r.after b.1 eb in
      let again : AgainStands (codes h.func) r (Some body) t (innermost h rest vs ∷ h.outer) = (closer, tail, el, subst (λ n. At (codes h.func) n (segment (ops.Loop t body rest) closer ∷ tail)) (sym es) a) in
      (refl, opens c' t (Some body) body rest (ops.Loop t body rest) i r e eh er again sb (subst (λ n. CodeStands (codes h.func) n rest) q b.2), refl))
      (inner codes c h code vs m.stands)

  -- ---- if

  -- what is met at an `if`: its operand, where both arms and the code behind it stand
  pub record IfMet (blocks : List Block) : Type 0 where
    pub arm : Code Label
    pub other : Code Label
    pub rest : Code Label
    pub v : Value
    pub below : List Value
    pub inner : Inner codes c h code vs
    pub are : c.operands ≡ (under h ++ numbers below) ++ v.number ∷ []
    pub armed : CodeStands (codes h.func) next arm
    pub end : ℕ
    pub parting : Option ℕ
    pub ends : ends_in blocks c.at ≡ Some (end, parting)
    pub after : ℕ
    pub behind : IsBehind (codes h.func) end after
    pub rests : CodeStands (codes h.func) after rest
    pub at : ℕ
    pub begins : OtherArm (codes h.func) end parting at
    pub others : CodeStands (codes h.func) at other

  pub record IfGives (blocks : List Block) (t : Option (ValueType Label)) (i : IfMet blocks) : Type 0 where
    pub gives : Machine.next fns fn s h code vs ≡ noted (Some (Events.Branch (not (i.v.number == 0)))) (Goes s (enter h i.rest i.below t None (if i.v.number == 0 then i.other else i.arm)))

  pub if_met : (t : Option (ValueType Label)) (blocks : List Block) → Here' (instr.If t) → Ends blocks → (i : IfMet blocks) × IfGives blocks t i
  if_met t blocks m ends =
      on_if (codes h.func) c.at next (λ d. code ≡ d → (i : IfMet blocks) × IfGives blocks t i) t m.reads code (inner codes c h code vs m.stands).head.code
      (λ arm rest closer tail a sb q.
      let e = ends.ifs c.at t arm rest closer tail a in
      let x = at_closer (codes h.func) e.0 ByEnd (segment rest closer ∷ tail) e.2 in
      let p = popped i32 vs _ (subst (λ d. (Machine.next fns fn s h d vs).answer ≢ Stuck) q m.going) in
      let i = inner codes c h code vs m.stands in (
        record {
          arm = arm;
          other = Stop;
          rest = rest;
          v = p.v;
          below = p.below;
          inner = i;
          are = operands_are codes c h code vs i ∙ ap (λ vs. under h ++ numbers vs) p.are ∙ numbers_top (under h) p.v p.below;
          armed = sb;
          end = e.0;
          parting = None;
          ends = e.1;
          after = x.next;
          behind = (ops.Closes ByEnd, e.2.inside, x.reads);
          rests = record { closer = closer; tail = tail; stands = x.after };
          at = e.0;
          begins = refl;
          others = record { closer = ByEnd; tail = segment rest closer ∷ tail; stands = e.2 };
        },
        record { gives = ap (λ d. Machine.next fns fn s h d vs) q ∙ p.gives },
      ))
      (λ arm other rest closer tail a sb q.
      let e = ends.if_elses c.at t arm other rest closer tail a in
      let x = at_closer (codes h.func) e.0 ByEnd (segment rest closer ∷ tail) e.4 in
      let y = at_closer (codes h.func) e.1 ByElse (segment other ByEnd ∷ segment rest closer ∷ tail) e.3 in
      let p = popped i32 vs _ (subst (λ d. (Machine.next fns fn s h d vs).answer ≢ Stuck) q m.going) in
      let i = inner codes c h code vs m.stands in (
        record {
          arm = arm;
          other = other;
          rest = rest;
          v = p.v;
          below = p.below;
          inner = i;
          are = operands_are codes c h code vs i ∙ ap (λ vs. under h ++ numbers vs) p.are ∙ numbers_top (under h) p.v p.below;
          armed = sb;
          end = e.0;
          parting = Some e.1;
          ends = e.2;
          after = x.next;
          behind = (ops.Closes ByEnd, e.4.inside, x.reads);
          rests = record { closer = closer; tail = tail; stands = x.after };
          at = y.next;
          begins = (ops.Closes ByElse, e.3.inside, y.reads);
          others = record { closer = ByEnd; tail = segment rest closer ∷ tail; stands = y.after };
        },
        record { gives = ap (λ d. Machine.next fns fn s h d vs) q ∙ p.gives },
      )) refl

  pub if_there : (blocks : List Block) (i : IfMet blocks) → 0 < length c.operands
  if_there blocks i = omega (arith, ap length i.are, length-append (under h ++ numbers i.below) (i.v.number ∷ []))

  -- the operand was taken, and the label opened around the arm that it chose
  pub if_done : (t : Option (ValueType Label)) (blocks : List Block) → Here' (instr.If t) → (i : IfMet blocks) → IfGives blocks t i → (b c' : Shown) (n at : ℕ) → n ≡ i.v.number → at ≡ (if n == 0 then i.at else next)
      → b ≡ with_operands c (under h ++ numbers i.below) c.at → c' ≡ with_label b (opened b (is_some t) i.after false) at
      → Tells' c' (Steppeds.Went (Some (Events.Branch (not (n == 0))))) (Machine.next fns fn s h code vs)
  if_done t blocks m i g b c' n at en ea eb ec =
      subst (λ (x : Reduced). Tells codes s c' (Steppeds.Went (Some (Events.Branch (not (n == 0))))) x.answer x.event) (sym g.gives)
      (refl, arm_stands (i.v.number == 0) (ea ∙ ap (λ (n : ℕ). if n == 0 then i.at else next) en), ap (λ (n : ℕ). Some (Events.Branch (not (n == 0)))) en)
    where
      rec : Opened
      rec = opened b (is_some t) i.after false

      f : Inner codes c h code vs
      f = i.inner

      stood : (body : Code Label) → CodeStands (codes h.func) at body → Stands codes c' (enter h i.rest i.below t None body)
      stood body sb =
          let o : Open = record { values = []; code = body; result = t; again = None } in
          let place : c'.at ≡ at = ap (λ (c : Shown). c.at) ec in
          let ops' : b.operands ≡ under h ++ numbers i.below = ap (λ (c : Shown). c.operands) eb in
          stands_again codes c c' h (innermost h code vs ∷ h.outer) (o ∷ innermost h i.rest i.below ∷ h.outer) h.locals f.framed (rec ∷ f.record_of ∷ f.records) (omega arith) (
            record { code = subst (λ n. CodeStands (codes h.func) n body) (sym place) sb; height = ap length ops' ∙ ap length (append_assoc (all_operands h.callers) (operands_of h.outer) (numbers i.below)) ∙ length-append (all_operands h.callers) (operands_of h.outer ++ numbers i.below); has_result = refl; again = refl },
            (record { code = i.rests; height = f.head.height; has_result = f.head.has_result; again = f.head.again }, f.tail),
          )
          (ap (λ (c : Shown). c.operands) ec ∙ ops' ∙ append_assoc (all_operands h.callers) (operands_of h.outer) (numbers i.below) ∙ ap (λ l. all_operands h.callers ++ l) (sym (append-nil (operands_of h.outer ++ numbers i.below))))
          (ap (λ (c : Shown). c.locals) ec ∙ ap (λ (c : Shown). c.locals) eb ∙ f.framed.locals)
          (ap (λ (c : Shown). c.labels) ec ∙ ap (λ l. l ++ rec ∷ []) (ap (λ (c : Shown). c.labels) eb ∙ f.framed.labels ∙ ap (λ rs. all_labels f.framed.others ++ upward rs) f.are) ∙ append_assoc (all_labels f.framed.others) (upward (f.record_of ∷ f.records)) (rec ∷ []))
          (ap (λ (c : Shown). c.frames) ec ∙ ap (λ (c : Shown). c.frames) eb)

      arm_stands : (z : Bool) → at ≡ (if z then i.at else next) → Stands codes c' (enter h i.rest i.below t None (if z then i.other else i.arm))
      arm_stands true e = stood i.other (subst (λ n. CodeStands (codes h.func) n i.other) (sym e) i.others)
      arm_stands false e = stood i.arm (subst (λ n. CodeStands (codes h.func) n i.arm) (sym e) i.armed)

-- the same over the bytes of the body in hand
module _ (codes : Codes) (bytes : List ℕ) (c : Shown) (next : ℕ) (fns : Functions) (fn : FunctionInstance) (s : Storage) (h : Here) (code : Code Label) (vs : List Value) (blocks : List Block) (ends : TellsEnds bytes (ends_in blocks)) where
  abbrev Met' : Instr → Type 0
  Met' i = Meets codes bytes c i next fns fn s h code vs

  abbrev AtEnd : List ℕ → ℕ → Type 0
  AtEnd bytes after = EndsBehind bytes blocks c.at after

  pub block_end_there : (i : Instr) (t : Option (ValueType Label)) → i ≡ instr.Block t → Met' i → (after : ℕ) × AtEnd bytes after
  block_end_there i t e m =
      subst (λ b. (after : ℕ) × AtEnd b after) m.body (block_ends codes bytes c next fns fn s h code vs t blocks (subst Met' e m) (subst (λ b. TellsEnds b (ends_in blocks)) (sym m.body) ends))

  pub loop_end_there : (i : Instr) (t : Option (ValueType Label)) → i ≡ instr.Loop t → Met' i → (after : ℕ) × AtEnd bytes after
  loop_end_there i t e m =
      subst (λ b. (after : ℕ) × AtEnd b after) m.body (loop_ends codes bytes c next fns fn s h code vs t blocks (subst Met' e m) (subst (λ b. TellsEnds b (ends_in blocks)) (sym m.body) ends))

  pub block_done : (i : Instr) (t : Option (ValueType Label)) → i ≡ instr.Block t → Met' i → (after : ℕ) → AtEnd bytes after → (c' : Shown) → c' ≡ with_label c (opened c (is_some t) after false) next → Tells codes s c' (Steppeds.Went None) (Machine.next fns fn s h code vs).answer (Machine.next fns fn s h code vs).event
  block_done i t e m after a c' q =
      block_entered codes bytes c next fns fn s h code vs t blocks (subst Met' e m) (subst (λ b. TellsEnds b (ends_in blocks)) (sym m.body) ends) (opened c (is_some t) after false) c' q (subst (λ b. AtEnd b after) (sym m.body) a) refl refl refl

  pub loop_done : (i : Instr) (t : Option (ValueType Label)) → i ≡ instr.Loop t → Met' i → (after : ℕ) → AtEnd bytes after → (c' : Shown) → c' ≡ with_label c (opened c (is_some t) after true) next → Tells codes s c' (Steppeds.Went None) (Machine.next fns fn s h code vs).answer (Machine.next fns fn s h code vs).event
  loop_done i t e m after a c' q =
      loop_entered codes bytes c next fns fn s h code vs t blocks (subst Met' e m) (subst (λ b. TellsEnds b (ends_in blocks)) (sym m.body) ends) (opened c (is_some t) after true) c' q (subst (λ b. AtEnd b after) (sym m.body) a) refl refl refl refl

  -- what is met at an `if`, in the bytes in hand
  pub if_here : (t : Option (ValueType Label)) → Met' (instr.If t) → (i : IfMet codes bytes c next fns fn s h code vs blocks) × IfGives codes bytes c next fns fn s h code vs blocks t i
  if_here t m = if_met codes bytes c next fns fn s h code vs t blocks m (subst (λ b. TellsEnds b (ends_in blocks)) (sym m.body) ends)

  pub if_behind : (t : Option (ValueType Label)) → Met' (instr.If t) → (i : IfMet codes bytes c next fns fn s h code vs blocks) → IsBehind bytes i.end i.after
  if_behind t m i = subst (λ b. IsBehind b i.end i.after) m.body i.behind

  pub if_begins : (t : Option (ValueType Label)) → Met' (instr.If t) → (i : IfMet codes bytes c next fns fn s h code vs blocks) → OtherArm bytes i.end i.parting i.at
  if_begins t m i = subst (λ b. OtherArm b i.end i.parting i.at) m.body i.begins
