-- The instructions that work on operands and locals alone.
use Rattle.std.specs.Prelude.{if◌then◌else◌, ◌==◌}
use Rattle.std.proofs.Common.{◌≡◌, ℕ, ◌+◌, ◌<◌, List, [], ◌∷◌, ◌++◌, map, length, Some, None, slice_get, slice_set, refl, sym, ap, ◌∙◌, arith, append_assoc, length-append}
use Rattle.std.proofs.lemmas.Option.{slice_get_within}
use Rattle.ctw_ops.specs.declared.types.Label.{Label}
use Rattle.ctw_ops.specs.declared.types.Width.{Width}
use Rattle.ctw_ops.specs.declared.types.Width.TheVariants.{W32}
use Rattle.ctw_ops.specs.Types.{value_type}
use Rattle.ctw_ops.specs.Code as ops
use Rattle.ctw_ops.specs.Code.{Code, Then}
use Rattle.ctw_ops.specs.Equal.{same_label}
use Rattle.ctw_flat.specs.declared.instr.Instr.TheVariants as instr
use Rattle.ctw_script.specs.declared.trap.TrapCode.TheVariants as TrapCode
use Rattle.ctw_semantics.specs.Values.{Value, value}
use Rattle.ctw_semantics.specs.Stores.{Storage}
use Rattle.ctw_semantics.specs.Instances.{FunctionInstance, Functions}
use Rattle.ctw_semantics.specs.Machine as Machine
use Rattle.ctw_semantics.specs.Machine.{Here}
use Rattle.ctw_step.specs.declared.running.Caller.{Caller}
use Rattle.ctw_step.specs.declared.running.Stepped.{Stepped}
use Rattle.ctw_step.specs.declared.running.Stepped.TheVariants as Steppeds
use Rattle.ctw_step.specs.Shown.{Shown}
use Rattle.ctw_step.specs.Stands.{Codes, number_of, numbers, all_locals, all_frames}
use Rattle.ctw_step.specs.Told.{Tells, Meets, with_operands, with_locals}
use Rattle.ctw_step.proofs.Inside.{under, operands_are}
use Rattle.ctw_step.proofs.Numbers.{numbers_push, numbers_top}
use Rattle.ctw_step.proofs.Moves.{local_word, last_same, set_behind}
use Rattle.ctw_step.proofs.Views.{given_is, provided_is, popped, popped_any, AtLeaf, leaf_view, last_is, went, went_with, trapped}

module _ (codes : Codes) (bytes : List ℕ) (c : Shown) (next : ℕ) (fns : Functions) (fn : FunctionInstance) (s : Storage) (h : Here) (code : Code Label) (vs : List Value) where
  abbrev Told : Storage → Shown → Stepped → Type 0
  Told s' c' r = Tells codes s' c' r (Machine.next fns fn s h code vs).answer (Machine.next fns fn s h code vs).event

  pub passed : Meets codes bytes c instr.Nop next fns fn s h code vs → (c' : Shown) → c' ≡ with_operands c c.operands next → Told s c' (Steppeds.Went None)
  passed m c' e =
      let a = leaf_view codes bytes c next fns fn s h code vs instr.Nop ops.Nop refl m in
      went_with codes bytes c next fns fn s h code vs ops.Nop a c' None s vs c.operands refl e (operands_are codes c h (Then ops.Nop a.rest) vs a.inner)

  pub unreached : Meets codes bytes c instr.Unreachable next fns fn s h code vs → (c' : Shown) → Told s c' (Steppeds.Trapped TrapCode.Unreachable None)
  unreached m c' =
      let a = leaf_view codes bytes c next fns fn s h code vs instr.Unreachable ops.Unreachable refl m in
      trapped codes bytes c next fns fn s h code vs ops.Unreachable a c' None s TrapCode.Unreachable refl

  pub constant_put : (w : Width) (l : Label) (n : ℕ) → Meets codes bytes c (instr.Const w l n) next fns fn s h code vs → (c' : Shown) → c' ≡ with_operands c (c.operands ++ n ∷ []) next → Told s c' (Steppeds.Went None)
  constant_put w l n m c' e =
      let a = leaf_view codes bytes c next fns fn s h code vs (instr.Const w l n) (ops.Const w l n) refl m in
      let v : Value = value (value_type w l) n in
      went_with codes bytes c next fns fn s h code vs (ops.Const w l n) a c' None s (v ∷ vs) (c.operands ++ n ∷ []) refl e
      (ap (λ l. l ++ n ∷ []) (operands_are codes c h (Then (ops.Const w l n) a.rest) vs a.inner) ∙ numbers_push (under h) v vs)

  -- ---- drop and select

  pub drop_there : Meets codes bytes c instr.Drop next fns fn s h code vs → 0 < length c.operands
  drop_there m =
      let a = leaf_view codes bytes c next fns fn s h code vs instr.Drop ops.Drop refl m in
      let p = popped_any vs _ a.going in
      let o = last_is codes bytes c next fns fn s h code vs ops.Drop a p.v p.below p.are in
      omega (arith, ap length o, length-append (under h ++ numbers p.below) (p.v.number ∷ []))

  pub dropped : Meets codes bytes c instr.Drop next fns fn s h code vs → (c' : Shown) → ((front more : List ℕ) → c.operands ≡ front ++ more → length more ≡ 1 → c' ≡ with_operands c front next) → Told s c' (Steppeds.Went None)
  dropped m c' f =
      let a = leaf_view codes bytes c next fns fn s h code vs instr.Drop ops.Drop refl m in
      let p = popped_any vs _ a.going in
      let o = last_is codes bytes c next fns fn s h code vs ops.Drop a p.v p.below p.are in
      went_with codes bytes c next fns fn s h code vs ops.Drop a c' None s p.below (under h ++ numbers p.below) p.gives (f (under h ++ numbers p.below) (p.v.number ∷ []) o refl) refl

  record Three (l : Label) : Type 0 where
    at : AtLeaf codes bytes c next fns fn s h code vs (ops.Select l)
    u : Value
    v : Value
    w : Value
    below : List Value
    are : c.operands ≡ (under h ++ numbers below) ++ u.number ∷ v.number ∷ w.number ∷ []
    gives : Machine.next fns fn s h (Then (ops.Select l) at.rest) vs ≡ Machine.next fns fn s h (Then ops.Nop at.rest) (value v.type (if w.number == 0 then v.number else u.number) ∷ below)

  three : (l : Label) → Meets codes bytes c (instr.Select l) next fns fn s h code vs → Three l
  three l m =
      let a = leaf_view codes bytes c next fns fn s h code vs (instr.Select l) (ops.Select l) refl m in
      let p = popped (value_type W32 l) vs _ a.going in
      let q = popped_any p.below _ p.going in
      let b = provided_is (same_label l q.v.type.tag) _ q.going in
      let r = popped q.v.type q.below _ b.going in
      record {
        at = a;
        u = r.v;
        v = q.v;
        w = p.v;
        below = r.below;
        are = last_is codes bytes c next fns fn s h code vs (ops.Select l) a p.v p.below p.are
            ∙ ap (λ l. l ++ p.v.number ∷ []) (ap (λ vs. under h ++ numbers vs) q.are ∙ numbers_top (under h) q.v q.below ∙ ap (λ l. l ++ q.v.number ∷ []) (ap (λ vs. under h ++ numbers vs) r.are ∙ numbers_top (under h) r.v r.below))
            ∙ ap (λ l. l ++ p.v.number ∷ []) (append_assoc (under h ++ numbers r.below) (r.v.number ∷ []) (q.v.number ∷ []))
            ∙ append_assoc (under h ++ numbers r.below) (r.v.number ∷ q.v.number ∷ []) (p.v.number ∷ []);
        gives = p.gives ∙ q.gives ∙ b.gives ∙ r.gives;
      }

  pub select_there : (l : Label) → Meets codes bytes c (instr.Select l) next fns fn s h code vs → 2 < length c.operands
  select_there l m = let t = three l m in omega (arith, ap length t.are, length-append (under h ++ numbers t.below) (t.u.number ∷ t.v.number ∷ t.w.number ∷ []))

  pub selected : (l : Label) → Meets codes bytes c (instr.Select l) next fns fn s h code vs → (c' : Shown)
      → ((front : List ℕ) (a b n : ℕ) → c.operands ≡ front ++ a ∷ b ∷ n ∷ [] → c' ≡ with_operands c (front ++ (if n == 0 then b else a) ∷ []) next) → Told s c' (Steppeds.Went None)
  selected l m c' f =
      let t = three l m in
      let x : Value = value t.v.type (if t.w.number == 0 then t.v.number else t.u.number) in
      went_with codes bytes c next fns fn s h code vs (ops.Select l) t.at c' None s (x ∷ t.below) ((under h ++ numbers t.below) ++ x.number ∷ []) t.gives
      (f (under h ++ numbers t.below) t.u.number t.v.number t.w.number t.are) (numbers_push (under h) x t.below)

  -- ---- locals

  pub local_there : (x : ℕ) → Meets codes bytes c (instr.LocalGet x) next fns fn s h code vs → (front : List Caller) (f : Caller) → c.frames ≡ front ++ f ∷ [] → f.locals + x < length c.locals
  local_there x m front f e =
      let a = leaf_view codes bytes c next fns fn s h code vs (instr.LocalGet x) (ops.LocalGet x) refl m in
      let g = given_is (slice_get h.locals x) _ a.going in
      let i = a.inner.framed in
      let same : f ≡ i.frame = last_same front (all_frames i.others) f i.frame (sym e ∙ i.frames) in
      slice_get_within c.locals (f.locals + x) g.x.number (ap (λ (f : Caller). slice_get c.locals (f.locals + x)) same ∙ local_word c.locals (all_locals h.callers) h.locals i.frame.locals x g.x i.locals i.first g.is)

  pub local_got : (x : ℕ) → Meets codes bytes c (instr.LocalGet x) next fns fn s h code vs → (c' : Shown)
      → ((front : List Caller) (f : Caller) (n : ℕ) → c.frames ≡ front ++ f ∷ [] → slice_get c.locals (f.locals + x) ≡ Some n → c' ≡ with_operands c (c.operands ++ n ∷ []) next) → Told s c' (Steppeds.Went None)
  local_got x m c' f =
      let a = leaf_view codes bytes c next fns fn s h code vs (instr.LocalGet x) (ops.LocalGet x) refl m in
      let g = given_is (slice_get h.locals x) _ a.going in
      let i = a.inner.framed in
      let v : Value = g.x in
      went_with codes bytes c next fns fn s h code vs (ops.LocalGet x) a c' None s (v ∷ vs) (c.operands ++ v.number ∷ []) g.gives
      (f (all_frames i.others) i.frame v.number i.frames (local_word c.locals (all_locals h.callers) h.locals i.frame.locals x v i.locals i.first g.is))
      (ap (λ l. l ++ v.number ∷ []) (operands_are codes c h (Then (ops.LocalGet x) a.rest) vs a.inner) ∙ numbers_push (under h) v vs)

  -- a local that is written
  record Written (l : ops.Leaf Label) (x : ℕ) : Type 0 where
    at : AtLeaf codes bytes c next fns fn s h code vs l
    old : Value
    v : Value
    below : List Value
    local : slice_get h.locals x ≡ Some old
    are : c.operands ≡ (under h ++ numbers below) ++ v.number ∷ []

  abbrev set_value : Value → Value → Value
  set_value old v = value old.type v.number

  set_view : (x : ℕ) → Meets codes bytes c (instr.LocalSet x) next fns fn s h code vs
      → (w : Written (ops.LocalSet x) x) × (Machine.next fns fn s h (Then (ops.LocalSet x) w.at.rest) vs ≡ Machine.next fns fn s (record h { locals = slice_set h.locals x (set_value w.old w.v) }) (Then ops.Nop w.at.rest) w.below)
  set_view x m =
      let a = leaf_view codes bytes c next fns fn s h code vs (instr.LocalSet x) (ops.LocalSet x) refl m in
      let g = given_is (slice_get h.locals x) _ a.going in
      let p = popped g.x.type vs _ g.going in
      (record { at = a; old = g.x; v = p.v; below = p.below; local = g.is; are = last_is codes bytes c next fns fn s h code vs (ops.LocalSet x) a p.v p.below p.are }, g.gives ∙ p.gives)

  tee_view : (x : ℕ) → Meets codes bytes c (instr.LocalTee x) next fns fn s h code vs
      → (w : Written (ops.LocalTee x) x) × (Machine.next fns fn s h (Then (ops.LocalTee x) w.at.rest) vs ≡ Machine.next fns fn s (record h { locals = slice_set h.locals x (set_value w.old w.v) }) (Then ops.Nop w.at.rest) (set_value w.old w.v ∷ w.below))
  tee_view x m =
      let a = leaf_view codes bytes c next fns fn s h code vs (instr.LocalTee x) (ops.LocalTee x) refl m in
      let g = given_is (slice_get h.locals x) _ a.going in
      let p = popped g.x.type vs _ g.going in
      (record { at = a; old = g.x; v = p.v; below = p.below; local = g.is; are = last_is codes bytes c next fns fn s h code vs (ops.LocalTee x) a p.v p.below p.are }, g.gives ∙ p.gives)

  written_there : (l : ops.Leaf Label) (x : ℕ) (w : Written l x) → (0 < length c.operands) × ((front : List Caller) (f : Caller) → c.frames ≡ front ++ f ∷ [] → f.locals + x < length c.locals)
  written_there l x w =
      let i = w.at.inner.framed in (
        omega (arith, ap length w.are, length-append (under h ++ numbers w.below) (w.v.number ∷ [])),
        λ front f e.
            let same : f ≡ i.frame = last_same front (all_frames i.others) f i.frame (sym e ∙ i.frames) in
            slice_get_within c.locals (f.locals + x) w.old.number (ap (λ (f : Caller). slice_get c.locals (f.locals + x)) same ∙ local_word c.locals (all_locals h.callers) h.locals i.frame.locals x w.old i.locals i.first w.local),
      )

  written_locals : (l : ops.Leaf Label) (x : ℕ) (w : Written l x) → slice_set c.locals (w.at.inner.framed.frame.locals + x) w.v.number ≡ all_locals h.callers ++ map number_of (slice_set h.locals x (set_value w.old w.v))
  written_locals l x w = let i = w.at.inner.framed in set_behind c.locals (all_locals h.callers) h.locals i.frame.locals x (set_value w.old w.v) i.locals i.first

  pub set_there : (x : ℕ) → Meets codes bytes c (instr.LocalSet x) next fns fn s h code vs → (0 < length c.operands) × ((front : List Caller) (f : Caller) → c.frames ≡ front ++ f ∷ [] → f.locals + x < length c.locals)
  set_there x m = written_there (ops.LocalSet x) x (set_view x m).0

  pub tee_there : (x : ℕ) → Meets codes bytes c (instr.LocalTee x) next fns fn s h code vs → (0 < length c.operands) × ((front : List Caller) (f : Caller) → c.frames ≡ front ++ f ∷ [] → f.locals + x < length c.locals)
  tee_there x m = written_there (ops.LocalTee x) x (tee_view x m).0

  abbrev Writes : ℕ → Shown → Type 0
  Writes x b = (front : List Caller) (f : Caller) (below : List ℕ) (y : ℕ) → c.frames ≡ front ++ f ∷ [] → c.operands ≡ below ++ y ∷ [] → b ≡ with_locals c (slice_set c.locals (f.locals + x) y)

  pub local_written : (x : ℕ) → Meets codes bytes c (instr.LocalSet x) next fns fn s h code vs → (b c' : Shown) → Writes x b
      → ((front more : List ℕ) → b.operands ≡ front ++ more → length more ≡ 1 → c' ≡ with_operands b front next) → Told s c' (Steppeds.Went None)
  local_written x m b c' wr f =
      let w' = set_view x m in
      let w = w'.0 in
      let i = w.at.inner.framed in
      let eb = wr (all_frames i.others) i.frame (under h ++ numbers w.below) w.v.number i.frames w.are in
      let e = f (under h ++ numbers w.below) (w.v.number ∷ []) (ap (λ (c : Shown). c.operands) eb ∙ w.are) refl in
      went codes bytes c next fns fn s h code vs (ops.LocalSet x) w.at c' None s (slice_set h.locals x (set_value w.old w.v)) w.below w'.1
      (ap (λ (c : Shown). c.at) e) (ap (λ (c : Shown). c.operands) e)
      (ap (λ (c : Shown). c.locals) e ∙ ap (λ (c : Shown). c.locals) eb ∙ written_locals (ops.LocalSet x) x w)
      (ap (λ (c : Shown). c.labels) e ∙ ap (λ (c : Shown). c.labels) eb) (ap (λ (c : Shown). c.frames) e ∙ ap (λ (c : Shown). c.frames) eb)

  pub local_teed : (x : ℕ) → Meets codes bytes c (instr.LocalTee x) next fns fn s h code vs → (b c' : Shown) → Writes x b → c' ≡ with_operands b b.operands next → Told s c' (Steppeds.Went None)
  local_teed x m b c' wr e =
      let w' = tee_view x m in
      let w = w'.0 in
      let i = w.at.inner.framed in
      let eb = wr (all_frames i.others) i.frame (under h ++ numbers w.below) w.v.number i.frames w.are in
      went codes bytes c next fns fn s h code vs (ops.LocalTee x) w.at c' None s (slice_set h.locals x (set_value w.old w.v)) (set_value w.old w.v ∷ w.below) w'.1
      (ap (λ (c : Shown). c.at) e) (ap (λ (c : Shown). c.operands) e ∙ ap (λ (c : Shown). c.operands) eb ∙ w.are ∙ numbers_push (under h) (set_value w.old w.v) w.below)
      (ap (λ (c : Shown). c.locals) e ∙ ap (λ (c : Shown). c.locals) eb ∙ written_locals (ops.LocalTee x) x w)
      (ap (λ (c : Shown). c.labels) e ∙ ap (λ (c : Shown). c.labels) eb) (ap (λ (c : Shown). c.frames) e ∙ ap (λ (c : Shown). c.frames) eb)
