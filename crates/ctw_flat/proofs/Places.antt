-- Opcodes by their places in a body's bytes.
use Rattle.std.proofs.Common.{◌≡◌, ℕ, ◌+◌, ◌-◌, ◌<◌, ◌≤◌, List, [], ◌∷◌, ◌++◌, length, drop, Result, Ok, Err, refl, sym, ap, subst, ◌∙◌, arith, rules}
use Rattle.std.proofs.lemmas.List.{length-append, length-drop, drop-drop, drop_at}
use Rattle.std.specs.Prelude.{IfOk, IsOk}
use Rattle.ctw_ops.specs.declared.types.Label.{Label}
use Rattle.ctw_ops.specs.Code.{Code, Op, opcodes}
use Rattle.ctw_ops.proofs.Segments.{one_code}
use Rattle.ctw_leb.specs.Input.{Input, behind}
use Rattle.ctw_leb.specs.Calls.{Gives}
use Rattle.ctw_leb.proofs.Exact.{ok_is, err_ok, chain_ok}
use Rattle.ctw_leb.proofs.Combinators.{whole_items}
use Rattle.ctw_flat.specs.declared.fault.CodeFault.{CodeFault}
use Rattle.ctw_flat.specs.declared.instr.Instr.{Instr}
use Rattle.ctw_flat.specs.Spelled.{IsOp, IsOps, IsBody}
use Rattle.ctw_flat.specs.Read.{op_at}
use Rattle.ctw_flat.specs.Instructions.{op_of}
use Rattle.ctw_flat.specs.Places.{from, instr_in, Placed, ops_of, Stand}
use Rattle.ctw_flat.proofs.Ops.{exact_op, op_filled}

-- ---- one opcode

-- reading goes on in the same bytes
pub moves : (code : List ℕ) (at : ℕ) (op : Op Label) (o : Input) → at ≤ length code → op_at (from code at) ≡ Ok (op, o)
    → (at < o.at) × (o.at ≤ length code) × (o ≡ from code o.at)
moves code at op o le e =
    let s = exact_op.sound (from code at) op o e in
    let some : 0 < length s.0 = filled s.0 s.1 in
    let sizes : length code - at ≡ length s.0 + length o.rest = omega (arith, length-drop at code, ap length s.2, length-append s.0 o.rest) in
    let rests : drop o.at code ≡ o.rest = ap (λ (n : ℕ). drop n code) s.3 ∙ sym (drop-drop (length s.0) at code) ∙ ap (drop (length s.0)) s.2 ∙ drop_at s.0 o.rest (length s.0) refl in
    (omega (arith, s.3), omega (arith, s.3), ap (λ (l : List ℕ). record { at = o.at; rest = l }) (sym rests))
  where
    filled : (text : List ℕ) → IsOp text op → 0 < length text
    filled [] m = absurd (op_filled op m)
    filled (t ∷ ts) m = omega arith

instr_moves : (code : List ℕ) (at : ℕ) (op : Op Label) (next : ℕ) → instr_in code at ≡ Ok (op, next) → (o : Input) × (op_at (from code at) ≡ Ok (op, o)) × (o.at ≡ next)
unfolding instr_in
instr_moves code at op next e =
    let c = chain_ok (op_at (from code at)) (λ x. Ok (x.0, x.1.at)) (op, next) e in
    let p = ok_is {F = CodeFault} (c.0.0, c.0.1.at) (op, next) c.2 in
    (c.0.1, c.1 ∙ ap (λ (z : Op Label × ℕ). Ok (z.0, c.0.1)) p, ap (λ (z : Op Label × ℕ). z.1) p)

-- what is read by a second cursor at a place of a body
read_here : (code : List ℕ) (i ahead : Input) (r : Result (Op Label × Input) CodeFault) → ahead ≡ i → i ≡ from code i.at → op_at ahead ≡ r → op_at (from code i.at) ≡ r
read_here code i ahead r s e h = ap op_at (sym (s ∙ e)) ∙ h

pub walks : (code : List ℕ) (i ahead o : Input) (op : Op Label) → ahead ≡ i → i ≡ from code i.at → op_at ahead ≡ Ok (op, o) → instr_in code i.at ≡ Ok (op, o.at)
unfolding instr_in
walks code i ahead o op s e h = rw (read_here code i ahead (Ok (op, o)) s e h) refl

pub walk_stops : (code : List ℕ) (i ahead : Input) (f : CodeFault) → ahead ≡ i → i ≡ from code i.at → op_at ahead ≡ Err f → instr_in code i.at ≡ Err f
unfolding instr_in
walk_stops code i ahead f s e h = rw (read_here code i ahead (Err f) s e h) refl

pub walk_stays : (code : List ℕ) (i ahead o : Input) (op : Op Label) → ahead ≡ i → i ≡ from code i.at → i.at ≤ length code → op_at ahead ≡ Ok (op, o) → (o ≡ from code o.at) × (o.at ≤ length code)
walk_stays code i ahead o op s e le h =
    let m = moves code i.at op o le (read_here code i ahead (Ok (op, o)) s e h) in
    (m.2, m.1)

pub instr_behind : (code : List ℕ) (at : ℕ) (op : Op Label) (next : ℕ) → at ≤ length code → instr_in code at ≡ Ok (op, next) → (at < next) × (next ≤ length code)
instr_behind code at op next le e =
    let i = instr_moves code at op next e in
    let m = moves code at op i.0 le i.1 in
    (omega (arith, m.0, i.2), omega (arith, m.1, i.2))

-- the instruction at a place is spelled there
pub instr_spelled : (code : List ℕ) (at : ℕ) (op : Op Label) (next : ℕ) → instr_in code at ≡ Ok (op, next)
    → (text after : List ℕ) × IsOp text op × (drop at code ≡ text ++ after) × (next ≡ at + length text)
instr_spelled code at op next e =
    let i = instr_moves code at op next e in
    let s = exact_op.sound (from code at) op i.0 i.1 in
    (s.0, i.0.rest, s.1, s.2, sym i.2 ∙ s.3)

-- what is spelled at a place is the instruction there
pub spelled_instr : (code : List ℕ) (at : ℕ) (text after : List ℕ) (op : Op Label) → IsOp text op → drop at code ≡ text ++ after → instr_in code at ≡ Ok (op, at + length text)
unfolding instr_in
spelled_instr code at text after op m e =
    let read : op_at (from code at) ≡ Ok (op, behind at text after) = ap (λ (l : List ℕ). op_at (record { at = at; rest = l })) e ∙ exact_op.complete text after at op m in
    rw read refl

-- ---- what the call says of its answer

pub gives_behind : (code : List ℕ) (at : ℕ) (r : Result (Instr × ℕ) CodeFault) → Gives (λ x. (op_of x.0, x.1)) r (instr_in code at) → at ≤ length code → IfOk r (λ x. (at < x.1) × (x.1 ≤ length code))
gives_behind code at (Ok x) e le = instr_behind code at (op_of x.0) x.1 le e
gives_behind code at (Err f) e le = tt

pub gives_spelled : (code : List ℕ) (at : ℕ) (r : Result (Instr × ℕ) CodeFault) → Gives (λ x. (op_of x.0, x.1)) r (instr_in code at)
    → IfOk r (λ x. (text after : List ℕ) × IsOp text (op_of x.0) × (drop at code ≡ text ++ after) × (x.1 ≡ at + length text))
gives_spelled code at (Ok x) e = instr_spelled code at (op_of x.0) x.1 e
gives_spelled code at (Err f) e = tt

pub gives_found : (code : List ℕ) (at : ℕ) (r : Result (Instr × ℕ) CodeFault) → Gives (λ x. (op_of x.0, x.1)) r (instr_in code at)
    → (text after : List ℕ) (op : Op Label) → IsOp text op → drop at code ≡ text ++ after → IsOk r
gives_found code at (Ok x) e text after op m d = search rules
gives_found code at (Err f) e text after op m d = absurd (err_ok f (op, at + length text) (sym e ∙ spelled_instr code at text after op m d))

-- ---- opcodes one after another

-- what is spelled stands
pub stands : (code : List ℕ) (at : ℕ) (ops : List (Op Label)) → at ≤ length code → IsOps (drop at code) ops → (ps : List Placed) × Stand code at ps × (ops_of ps ≡ ops)
unfolding instr_in
stands code at [] le m = ([], m, refl)
stands code at (op ∷ ops) le m =
    let read : op_at (from code at) ≡ Ok (op, behind at m.0 m.1) = ap (λ (l : List ℕ). op_at (record { at = at; rest = l })) m.4 ∙ exact_op.complete m.0 m.1 at op m.2 in
    let next : ℕ = at + length m.0 in
    let go = moves code at op (behind at m.0 m.1) le read in
    let rest : IsOps (drop next code) ops = subst (λ (l : List ℕ). IsOps l ops) (ap (λ (i : Input). i.rest) go.2) m.3 in
    let others = stands code next ops go.1 rest in
    let here : instr_in code at ≡ Ok (op, next) = rw read refl in
    (record { at = at; op = op } ∷ others.0, (next, refl, here, others.1), ap (λ (l : List (Op Label)). op ∷ l) others.2)

-- what stands is spelled
pub spelled : (code : List ℕ) (at : ℕ) (ps : List Placed) → at ≤ length code → Stand code at ps → IsOps (drop at code) (ops_of ps)
spelled code at [] le s = s
spelled code at (p ∷ ps) le s =
    let i = instr_moves code at p.op s.0 s.2 in
    let e = exact_op.sound (from code at) p.op i.0 i.1 in
    let b = instr_behind code at p.op s.0 le s.2 in
    let m = moves code at p.op i.0 le i.1 in
    let rest : drop s.0 code ≡ i.0.rest = ap (λ (n : ℕ). drop n code) (sym i.2) ∙ ap (λ (z : Input). z.rest) (sym m.2) in
    (e.0, i.0.rest, e.1, subst (λ (l : List ℕ). IsOps l (ops_of ps)) rest (spelled code s.0 ps b.1 s.3), e.2)

-- bytes spell one list of opcodes, and one body
pub one_ops : (code : List ℕ) (ops others : List (Op Label)) → IsOps code ops → IsOps code others → ops ≡ others
one_ops code ops others m n =
    let whole = whole_items {S = Unit {0}} (λ u. IsOp) (λ u. op_at) (λ u op. u) (λ u. exact_op) (λ u. op_filled) tt in
    let input : Input = record { at = 0; rest = code } in
    ok_is {F = CodeFault} ops others (sym (whole.complete input ops m) ∙ whole.complete input others n)

pub one_body : (code : List ℕ) (c d : Code Label) → IsBody code c → IsBody code d → c ≡ d
one_body code c d m n = one_code c d (one_ops code (opcodes c) (opcodes d) m n)

pub ended : (code : List ℕ) (at : ℕ) (ps : List Placed) → at ≤ length code → length code ≤ at → Stand code at ps → ps ≡ []
ended code at [] le ge s = refl
ended code at (p ∷ ps) le ge s =
    let b = instr_behind code at p.op s.0 le s.2 in
    absurd (omega arith)

-- one opcode on
pub step : (code : List ℕ) (at : ℕ) (ps : List Placed) (op : Op Label) (next : ℕ) → at < length code → Stand code at ps → instr_in code at ≡ Ok (op, next)
    → (qs : List Placed) × Stand code next qs × (ps ≡ record { at = at; op = op } ∷ qs)
step code at [] op next lt s e = absurd (omega (arith, ap length s, length-drop at code))
step code at (p ∷ ps) op next lt s e =
    let same = ok_is {F = CodeFault} (p.op, s.0) (op, next) (sym s.2 ∙ e) in
    (ps, subst (λ (n : ℕ). Stand code n ps) (ap (λ (z : Op Label × ℕ). z.1) same) s.3, rw (s.1, ap (λ (z : Op Label × ℕ). z.0) same) refl)

pub no_fault : (code : List ℕ) (at : ℕ) (ps : List Placed) (f : CodeFault) → at < length code → Stand code at ps → instr_in code at ≡ Err f → ⊥
no_fault code at [] f lt s e = absurd (omega (arith, ap length s, length-drop at code))
no_fault code at (p ∷ ps) f lt s e = err_ok f (p.op, s.0) (sym e ∙ s.2)

-- bytes have one list of places
pub one_standing : (code : List ℕ) (at : ℕ) (ps qs : List Placed) → at ≤ length code → Stand code at ps → Stand code at qs → ps ≡ qs
one_standing code at [] qs le s u = sym (ended code at qs le (past s) u)
  where
    past : drop at code ≡ [] → length code ≤ at
    past e = omega (arith, ap length e, length-drop at code)
one_standing code at (p ∷ ps) [] le s u = ended code at (p ∷ ps) le (omega (arith, ap length u, length-drop at code)) s
one_standing code at (p ∷ ps) (q ∷ qs) le s u =
    let same = ok_is {F = CodeFault} (p.op, s.0) (q.op, u.0) (sym s.2 ∙ u.2) in
    let nexts : u.0 ≡ s.0 = ap (λ (z : Op Label × ℕ). z.1) (sym same) in
    let b = instr_behind code at p.op s.0 le s.2 in
    let tails = one_standing code s.0 ps qs b.1 s.3 (subst (λ (n : ℕ). Stand code n qs) nexts u.3) in
    let heads : p ≡ q = ap (λ (n : ℕ). record { at = n; op = p.op }) (s.1 ∙ sym u.1) ∙ ap (λ (z : Op Label × ℕ). record { at = q.at; op = z.0 }) same in
    ap (λ (x : Placed). x ∷ ps) heads ∙ ap (λ (l : List Placed). q ∷ l) tails

-- places rise
pub below : (code : List ℕ) (at : ℕ) (front : List Placed) (p : Placed) (qs : List Placed) → at ≤ length code → Stand code at (front ++ p ∷ qs) → at ≤ p.at
below code at [] p qs le s = omega (arith, s.1)
below code at (x ∷ front) p qs le s =
    let b = instr_behind code at x.op s.0 le s.2 in
    omega (arith, b.0, below code s.0 front p qs b.1 s.3)
