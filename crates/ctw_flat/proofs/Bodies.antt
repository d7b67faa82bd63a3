-- The reader of bodies is exact.
use Rattle.std.proofs.Common.{◌≡◌, ℕ, ◌+◌, ◌<◌, ◌≤◌, Bool, true, false, leb, ◌⊎◌, inl, inr, List, [], ◌∷◌, ◌++◌, length, Option, Some, None, Ok, Err, refl, sym, ap, subst, ◌∙◌, arith}
use Rattle.std.specs.Prelude.{◌&&◌}
use Rattle.std.proofs.lemmas.Bool.{leb-true, ltb-true, lt-ltb, and_parts}
use Rattle.ctw_ops.specs.declared.types.Label.{Label}
use Rattle.ctw_ops.specs.Numeric.{within}
use Rattle.ctw_ops.specs.Code.{Code, Stop, Then, Block, Loop, If, IfElse, Shape, Op, Opens, Closes, ByEnd, ByElse, onto, opcodes}
use Rattle.ctw_ops.specs.Segments.{nested}
use Rattle.ctw_ops.proofs.Segments.{nested_opcodes, opcodes_nested}
use Rattle.ctw_leb.specs.Input.{Input}
use Rattle.ctw_leb.specs.Grammar.{Items}
use Rattle.ctw_leb.specs.Reading.{Exact, Whole, items, chain}
use Rattle.ctw_leb.proofs.Exact.{ok_is, err_ok, chosen, chain_ok}
use Rattle.ctw_leb.proofs.Combinators.{IsFilled, whole_items}
use Rattle.ctw_flat.specs.declared.fault.CodeFault.{CodeFault}
use Rattle.ctw_flat.specs.declared.fault.CodeKind.{CodeKind}
use Rattle.ctw_flat.specs.declared.fault.CodeKind.TheVariants.{Unbalanced, TooDeep}
use Rattle.ctw_flat.specs.declared.opcode.Opener.{Opener}
use Rattle.ctw_flat.specs.declared.opcode.Opener.TheVariants as opener
use Rattle.ctw_ops.specs.ValueType.{ValueType}
use Rattle.ctw_flat.specs.declared.opcode.First.{First}
use Rattle.ctw_flat.specs.declared.opcode.First.TheVariants.{Direct}
use Rattle.ctw_flat.specs.declared.opcode.Form.TheVariants as form
use Rattle.ctw_flat.specs.Opcodes.{opcode, is_float, form as form_of, control_form}
use Rattle.ctw_ops.specs.Numeric.{is_numeric}
use Rattle.ctw_flat.specs.Spelled.{IsOp, IsOps, Behind, shape_of, height, IsLimitedBody}
use Rattle.ctw_flat.specs.Read.{fault, op_at}
use Rattle.ctw_flat.specs.Bodies.{is_full, allows, opened_by, own_body, IsStep, opens_block, stepped, step_at, settled, body_at}
use Rattle.ctw_flat.proofs.Ops.{exact_op, op_filled}

-- ---- the bytes that open a block
abbrev pub OpensSome : First → Type 0
OpensSome f = (o : Opener) × (f ≡ Direct (form.Opens o))

opening_byte : (b : ℕ) → 2 ≤ b → b ≤ 4 → (b ≡ 2) ⊎ ((b ≡ 3) ⊎ (b ≡ 4))
opening_byte b low high = grind arith

opening_two : (f : First) → opcode 2 ≡ Ok f → OpensSome f
unfolding opcode form_of is_float is_numeric control_form
opening_two f e = (opener.Block, sym (ok_is {F = CodeKind} _ f e))

opening_three : (f : First) → opcode 3 ≡ Ok f → OpensSome f
unfolding opcode form_of is_float is_numeric control_form
opening_three f e = (opener.Loop, sym (ok_is {F = CodeKind} _ f e))

opening_four : (f : First) → opcode 4 ≡ Ok f → OpensSome f
unfolding opcode form_of is_float is_numeric control_form
opening_four f e = (opener.If, sym (ok_is {F = CodeKind} _ f e))

pub opening_form : (b : ℕ) (f : First) → within 0x02 0x04 b ≡ true → opcode b ≡ Ok f → OpensSome f
opening_form b f w e =
    let parts = and_parts (leb 2 b) (leb b 4) w in
    let low : 2 ≤ b = leb-true 2 b parts.0 in
    let high : b ≤ 4 = leb-true b 4 parts.1 in
    elim (opening_byte b low high) [
      | inl q ↦ opening_two f (ap opcode (sym q) ∙ e)
      | inr r ↦ elim r [
        | inl q ↦ opening_three f (ap opcode (sym q) ∙ e)
        | inr q ↦ opening_four f (ap opcode (sym q) ∙ e)
      ]
    ]

behind_opening : (f : First) (o : Opener) (text : List ℕ) (op : Op Label) → f ≡ Direct (form.Opens o) → Behind f text op → (t : Option (ValueType Label)) × (op ≡ Opens (shape_of o) t)
behind_opening f o text op e m =
    let n = subst (λ (g : First). Behind g text op) e m in
    (n.0, sym n.4.1)

-- an opcode whose first byte opens a block is an opener
opening_op : (text rest : List ℕ) (op : Op Label) → IsOp text op → opens_block (text ++ rest) ≡ true → (s : Shape) × (t : Option (ValueType Label)) × (op ≡ Opens s t)
opening_op text rest op m w =
    let whole : text ++ rest ≡ m.3.0 ∷ (m.2 ++ rest) = ap (λ (l : List ℕ). l ++ rest) m.5 ∙ ap (λ (l : List ℕ). (l ++ m.2) ++ rest) m.3.1 in
    let first : within 0x02 0x04 m.3.0 ≡ true = ap opens_block (sym whole) ∙ w in
    let o = opening_form m.3.0 m.0 first m.3.2 in
    let b = behind_opening m.0 o.0 m.2 op o.1 m.4 in
    (shape_of o.0, b.0, b.1)

-- where a block opens, not as many are open as may be
full_not_allowed : (b : Bool) (outer : List Bool) (s : Shape) (t : Option (ValueType Label)) → is_full (b ∷ outer) ≡ true → allows (b ∷ outer) (Opens s t) ≡ true → ⊥
full_not_allowed b outer s t f a =
    let le : 4096 ≤ length outer = leb-true 4096 (length outer) f in
    let lt : length outer < 4096 = ltb-true (length outer) 4096 a in
    omega arith

pub not_deep : (b : Bool) (outer : List Bool) (text rest : List ℕ) (op : Op Label) → IsOp text op → allows (b ∷ outer) op ≡ true → (is_full (b ∷ outer) && opens_block (text ++ rest)) ≡ false
not_deep b outer text rest op m a = go (is_full (b ∷ outer)) (opens_block (text ++ rest)) refl refl
  where
    go : (full opens : Bool) → is_full (b ∷ outer) ≡ full → opens_block (text ++ rest) ≡ opens → (full && opens) ≡ false
    go false opens f w = refl
    go true false f w = refl
    go true true f w =
        let o = opening_op text rest op m w in
        absurd (full_not_allowed b outer o.0 o.1 f (ap (allows (b ∷ outer)) (sym o.2) ∙ a))

-- ---- one step
stepped_ok : (around : List Bool) (at : ℕ) (x : Op Label × Input) (y : Op Label × Input) → stepped around at x ≡ Ok y → (allows around x.0 ≡ true) × (x ≡ y)
stepped_ok around at x y e =
    elim (chosen (allows around x.0) (Ok x) (Err (fault Unbalanced at)) (Ok y) e) [
      | inl p ↦ (p.0, ok_is {F = CodeFault} x y p.1)
      | inr p ↦ absurd (err_ok (fault Unbalanced at) y p.1)
    ]

-- a step that is read is an opcode that may stand there
step_read : (b : Bool) (outer : List Bool) (i : Input) (op : Op Label) (o : Input) → step_at (b ∷ outer) i ≡ Ok (op, o) → (op_at i ≡ Ok (op, o)) × (allows (b ∷ outer) op ≡ true)
step_read b outer i op o e =
    elim (chosen (is_full (b ∷ outer) && opens_block i.rest) (Err (fault TooDeep i.at)) (chain (op_at i) (stepped (b ∷ outer) i.at)) (Ok (op, o)) e) [
      | inl p ↦ absurd (err_ok (fault TooDeep i.at) (op, o) p.1)
      | inr p ↦
          let c = chain_ok (op_at i) (stepped (b ∷ outer) i.at) (op, o) p.1 in
          let k = stepped_ok (b ∷ outer) i.at c.0 (op, o) c.2 in
          (c.1 ∙ ap (λ (x : Op Label × Input). Ok x) k.1, ap (λ (x : Op Label × Input). allows (b ∷ outer) x.0) (sym k.1) ∙ k.0)
    ]

pub step_op : (around : List Bool) (i : Input) (op : Op Label) (o : Input) → step_at around i ≡ Ok (op, o) → op_at i ≡ Ok (op, o)
step_op [] i op o e = absurd (err_ok (fault Unbalanced i.at) (op, o) e)
step_op (b ∷ outer) i op o e = (step_read b outer i op o e).0

pub exact_step : (around : List Bool) → Exact (IsStep around) (step_at around)
exact_step [] = record { sound = λ i a o e. absurd (err_ok (fault Unbalanced i.at) (a, o) e); complete = λ text rest at a m. absurd (no m.1) }
  where
    no : false ≡ true → ⊥
    no q = cc
exact_step (b ∷ outer) = record {
  sound = λ i op o e.
      let k = step_read b outer i op o e in
      let s = exact_op.sound i op o k.0 in
      (s.0, (s.1, k.1), s.2, s.3);
  complete = λ text rest at op m. rw (not_deep b outer text rest op m.0 m.1, exact_op.complete text rest at op m.0, m.1) refl;
}

pub step_filled : (around : List Bool) → IsFilled (IsStep around)
step_filled around op m = op_filled op m.0

pub whole_steps : Whole (Items IsStep opened_by own_body) (items step_at opened_by own_body)
whole_steps = whole_items IsStep step_at opened_by exact_step step_filled own_body

-- steps are opcodes
pub steps_are : (around : List Bool) (text : List ℕ) (ops : List (Op Label)) → Items IsStep opened_by around text ops → IsOps text ops
steps_are around text [] m = m
steps_are around text (op ∷ ops) m = (m.0, m.1, m.2.0, steps_are (opened_by around op) m.1 ops m.3, m.4)

-- ---- the opcodes of a body are allowed exactly where it keeps the limit
abbrev pub Allowed : List Bool → List (Op Label) → Type 0
Allowed around [] = Unit {0}
Allowed around (op ∷ ops) = (allows around op ≡ true) × Allowed (opened_by around op) ops

pub allowed_onto : (c : Code Label) (b : Bool) (outer : List Bool) (k : List (Op Label)) → height c + length outer ≤ 4096 → Allowed (b ∷ outer) k → Allowed (b ∷ outer) (onto c k)
allowed_onto Stop b outer k le h = h
allowed_onto (Then l r) b outer k le h = (refl, allowed_onto r b outer k le h)
allowed_onto (Block t c r) b outer k le h =
    (lt-ltb (length outer) 4096 (omega arith), allowed_onto c false (b ∷ outer) (Closes ByEnd ∷ onto r k) (omega arith) (refl, allowed_onto r b outer k (omega arith) h))
allowed_onto (Loop t c r) b outer k le h =
    (lt-ltb (length outer) 4096 (omega arith), allowed_onto c false (b ∷ outer) (Closes ByEnd ∷ onto r k) (omega arith) (refl, allowed_onto r b outer k (omega arith) h))
allowed_onto (If t c r) b outer k le h =
    (lt-ltb (length outer) 4096 (omega arith), allowed_onto c true (b ∷ outer) (Closes ByEnd ∷ onto r k) (omega arith) (refl, allowed_onto r b outer k (omega arith) h))
allowed_onto (IfElse t c d r) b outer k le h = (
  lt-ltb (length outer) 4096 (omega arith),
  allowed_onto c true (b ∷ outer) (Closes ByElse ∷ onto d (Closes ByEnd ∷ onto r k)) (omega arith)
      (refl, allowed_onto d false (b ∷ outer) (Closes ByEnd ∷ onto r k) (omega arith) (refl, allowed_onto r b outer k (omega arith) h)),
)

pub allowed_height : (c : Code Label) (b : Bool) (outer : List Bool) (k : List (Op Label)) → length outer ≤ 4096 → Allowed (b ∷ outer) (onto c k) → (height c + length outer ≤ 4096) × Allowed (b ∷ outer) k
allowed_height Stop b outer k le h = (omega arith, h)
allowed_height (Then l r) b outer k le h = allowed_height r b outer k le h.1
allowed_height (Block t c r) b outer k le h =
    let lt : length outer < 4096 = ltb-true (length outer) 4096 h.0 in
    let inner = allowed_height c false (b ∷ outer) (Closes ByEnd ∷ onto r k) (omega arith) h.1 in
    let after = allowed_height r b outer k le inner.1.1 in
    (omega (arith, inner.0, after.0), after.1)
allowed_height (Loop t c r) b outer k le h =
    let lt : length outer < 4096 = ltb-true (length outer) 4096 h.0 in
    let inner = allowed_height c false (b ∷ outer) (Closes ByEnd ∷ onto r k) (omega arith) h.1 in
    let after = allowed_height r b outer k le inner.1.1 in
    (omega (arith, inner.0, after.0), after.1)
allowed_height (If t c r) b outer k le h =
    let lt : length outer < 4096 = ltb-true (length outer) 4096 h.0 in
    let inner = allowed_height c true (b ∷ outer) (Closes ByEnd ∷ onto r k) (omega arith) h.1 in
    let after = allowed_height r b outer k le inner.1.1 in
    (omega (arith, inner.0, after.0), after.1)
allowed_height (IfElse t c d r) b outer k le h =
    let lt : length outer < 4096 = ltb-true (length outer) 4096 h.0 in
    let first = allowed_height c true (b ∷ outer) (Closes ByElse ∷ onto d (Closes ByEnd ∷ onto r k)) (omega arith) h.1 in
    let second = allowed_height d false (b ∷ outer) (Closes ByEnd ∷ onto r k) (omega arith) first.1.1 in
    let after = allowed_height r b outer k le second.1.1 in
    (omega (arith, first.0, second.0, after.0), after.1)

pub allowed_body : (c : Code Label) → height c ≤ 4096 → Allowed own_body (opcodes c)
allowed_body c le = allowed_onto c false [] (Closes ByEnd ∷ []) (omega arith) (refl, tt)

pub body_limited : (c : Code Label) → Allowed own_body (opcodes c) → height c ≤ 4096
body_limited c h = let r = allowed_height c false [] (Closes ByEnd ∷ []) (omega arith) h in omega (arith, r.0)

pub are_steps : (around : List Bool) (text : List ℕ) (ops : List (Op Label)) → IsOps text ops → Allowed around ops → Items IsStep opened_by around text ops
are_steps around text [] m h = m
are_steps around text (op ∷ ops) m h = (m.0, m.1, (m.2, h.0), are_steps (opened_by around op) m.1 ops m.3 h.1, m.4)

pub allowed_steps : (around : List Bool) (text : List ℕ) (ops : List (Op Label)) → Items IsStep opened_by around text ops → Allowed around ops
allowed_steps around text [] m = tt
allowed_steps around text (op ∷ ops) m = (m.2.1, allowed_steps (opened_by around op) m.1 ops m.3)

settled_ok : (at : ℕ) (o : Option (Code Label)) (c : Code Label) → settled at o ≡ Ok c → o ≡ Some c
settled_ok at (Some d) c e = ap (λ (x : Code Label). Some x) (ok_is {F = CodeFault} d c e)
settled_ok at None c e = absurd (err_ok (fault Unbalanced at) c e)

pub whole_body : Whole IsLimitedBody body_at
unfolding body_at
whole_body = record {
  sound = λ i c e.
      let h = chain_ok (items step_at opened_by own_body i) (λ ops. settled (i.at + length i.rest) (nested ops)) c e in
      let n = settled_ok (i.at + length i.rest) (nested h.0) c h.2 in
      let read = whole_steps.sound i h.0 h.1 in
      let same = opcodes_nested h.0 c n in
      let m = subst (λ (ops : List (Op Label)). IsOps i.rest ops) same (steps_are own_body i.rest h.0 read) in
      let a = subst (λ (ops : List (Op Label)). Allowed own_body ops) same (allowed_steps own_body i.rest h.0 read) in
      (m, body_limited c a);
  complete = λ i c m.
      let h = whole_steps.complete i (opcodes c) (are_steps own_body i.rest (opcodes c) m.0 (allowed_body c m.1)) in
      rw (h, nested_opcodes c) refl;
}
