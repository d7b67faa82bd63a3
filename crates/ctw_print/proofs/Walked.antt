-- A body printed opcode by opcode.
use Rattle.std.proofs.Common.{◌≡◌, ℕ, ◌+◌, ◌-◌, ◌<◌, ◌≤◌, Bool, true, false, List, [], ◌∷◌, ◌++◌, length, drop, cond, Result, Ok, Err, refl, sym, ap, subst, ◌∙◌, append_assoc, append-nil, arith, length-append}
use Rattle.std.proofs.lemmas.List.{drop_at, drop_all, drop-drop, length-drop}
use Rattle.std.specs.Prelude.{OnOk, is_ok}
use Rattle.std.specs.List.{All}
use Rattle.std.proofs.lemmas.List.Elements.{All-head, All-tail}
use Rattle.ctw_ops.specs.declared.types.Label.{Label}
use Rattle.ctw_ops.specs.Code.{Op, Code, opcodes}
use Rattle.ctw_leb.proofs.Exact.{one_spelling}
use Rattle.ctw_flat.specs.Spelled.{IsOp, IsOps, IsBody}
use Rattle.ctw_flat.specs.Read.{op_at}
use Rattle.ctw_flat.proofs.Ops.{exact_op}
use Rattle.ctw_flat.proofs.Places.{one_body}
use Rattle.ctw_print.specs.Texts.{op_line, lines_text, HasAlign}

-- the opcodes that are left, and what is printed, with their lines, is the whole
pub record LinesAhead (bytes : List ℕ) (at : ℕ) (written start : List ℕ) : Type 0 where
  pub code : Code Label
  pub body : IsBody bytes code
  pub ops : List (Op Label)
  pub spelled : IsOps (drop at bytes) ops
  pub aligned : All HasAlign ops
  pub together : written ++ lines_text ops ≡ start ++ lines_text (opcodes code)
  pub within : at ≤ length bytes

pub lines_begin : (bytes start : List ℕ) (code : Code Label) → IsBody bytes code → All HasAlign (opcodes code) → LinesAhead bytes 0 start start
lines_begin bytes start code m a = record { code = code; body = m; ops = opcodes code; spelled = m; aligned = a; together = refl; within = omega arith }

-- what is printed of an opcode
abbrev pub line_unless : Bool → Op Label → List ℕ
line_unless last op = cond last [] (op_line op)

-- one more of them
pub record LineAhead (bytes : List ℕ) (at : ℕ) (written start : List ℕ) : Type 0 where
  pub op : Op Label
  pub text : List ℕ
  pub after : List ℕ
  pub spelled : IsOp text op
  pub front : drop at bytes ≡ text ++ after
  pub aligned : HasAlign op
  pub next : (last : Bool) (then : List ℕ) → (last ≡ true → at + length text ≡ length bytes) → (last ≡ false → at + length text < length bytes)
      → then ≡ written ++ line_unless last op → LinesAhead bytes (at + length text) then start

nil_cons : {A : Type 0} (x : A) (xs : List A) → x ∷ xs ≡ [] → ⊥
nil_cons x xs e = cc

op_filled : (x y : List ℕ) (op : Op Label) → IsOp x op → [] ≡ x ++ y → ⊥
op_filled x y op m e =
    let first : [] ≡ m.3.0 ∷ (m.2 ++ y) = e ∙ ap (λ (l : List ℕ). l ++ y) m.5 ∙ ap (λ (l : List ℕ). (l ++ m.2) ++ y) m.3.1 in
    nil_cons m.3.0 (m.2 ++ y) (sym first)

-- the lines from one opcode on, by whether it is the last one
lines_from : (bytes : List ℕ) (at : ℕ) (op : Op Label) (ops : List (Op Label)) (last : Bool) → IsOps (drop at bytes) ops → (last ≡ true → at ≡ length bytes) → (last ≡ false → at < length bytes)
    → lines_text (op ∷ ops) ≡ line_unless last op ++ lines_text ops
lines_from bytes at op [] true m done more = refl
lines_from bytes at op [] false m done more = absurd (omega (arith, more refl, ap length m, length-drop at bytes))
lines_from bytes at op (o ∷ ops) true m done more =
    let place : at ≡ length bytes = done refl in
    absurd (op_filled m.0 m.1 o m.2 (sym (drop_all at bytes (omega (arith, place))) ∙ m.4))
lines_from bytes at op (o ∷ ops) false m done more = refl

pub line_ahead : (bytes : List ℕ) (at : ℕ) (written start : List ℕ) → at < length bytes → LinesAhead bytes at written start → LineAhead bytes at written start
line_ahead bytes at written start lt h = go h.ops h.spelled h.aligned h.together
  where
    go : (ops : List (Op Label)) → IsOps (drop at bytes) ops → All HasAlign ops → written ++ lines_text ops ≡ start ++ lines_text (opcodes h.code) → LineAhead bytes at written start
    go [] m a e = absurd (omega (arith, ap length m, length-drop at bytes))
    go (op ∷ ops) m a e =
        let rest : drop (at + length m.0) bytes ≡ m.1 = sym (drop-drop (length m.0) at bytes) ∙ ap (drop (length m.0)) m.4 ∙ drop_at m.0 m.1 (length m.0) refl in
        let sum : length bytes - at ≡ length m.0 + length m.1 = sym (length-drop at bytes) ∙ ap length m.4 ∙ length-append m.0 m.1 in
        let others : IsOps (drop (at + length m.0) bytes) ops = subst (λ (l : List ℕ). IsOps l ops) (sym rest) m.3 in
        record {
          op = op;
          text = m.0;
          after = m.1;
          spelled = m.2;
          front = m.4;
          aligned = All-head HasAlign op ops a;
          next = λ last then done more q. record {
            code = h.code;
            body = h.body;
            ops = ops;
            spelled = others;
            aligned = All-tail HasAlign op ops a;
            together = ap (λ (l : List ℕ). l ++ lines_text ops) q ∙ append_assoc written (line_unless last op) (lines_text ops)
                ∙ ap (λ (l : List ℕ). written ++ l) (sym (lines_from bytes (at + length m.0) op ops last others done more)) ∙ e;
            within = omega arith;
          };
        }

-- what was read there is that opcode
pub op_read : (bytes : List ℕ) (at : ℕ) (written start : List ℕ) (h : LineAhead bytes at written start) (text after : List ℕ) (op : Op Label) → IsOp text op → drop at bytes ≡ text ++ after → (text ≡ h.text) × (op ≡ h.op)
op_read bytes at written start h text after op m e = one_spelling IsOp op_at exact_op text h.text after h.after op h.op m h.spelled (sym e ∙ h.front)

pub lines_next : (bytes : List ℕ) (at next : ℕ) (written start then text after : List ℕ) (op : Op Label) (last : Bool) → LineAhead bytes at written start → IsOp text op → drop at bytes ≡ text ++ after → next ≡ at + length text
    → (last ≡ true → next ≡ length bytes) → (last ≡ false → next < length bytes) → then ≡ written ++ line_unless last op → LinesAhead bytes next then start
lines_next bytes at next written start then text after op last h m e n done more q =
    let r = op_read bytes at written start h text after op m e in
    let place : at + length h.text ≡ next = ap (λ (l : List ℕ). at + length l) (sym r.0) ∙ sym n in
    subst (λ (k : ℕ). LinesAhead bytes k then start) place
    (h.next last then (λ t. place ∙ done t) (λ t. omega (arith, place, more t)) (q ∙ ap (λ (o : Op Label). written ++ line_unless last o) r.1))

pub lines_end : (bytes : List ℕ) (at : ℕ) (written start : List ℕ) → length bytes ≤ at → LinesAhead bytes at written start → (code : Code Label) → IsBody bytes code → written ≡ start ++ lines_text (opcodes code)
lines_end bytes at written start le h code m = go h.ops h.spelled h.together
  where
    go : (ops : List (Op Label)) → IsOps (drop at bytes) ops → written ++ lines_text ops ≡ start ++ lines_text (opcodes h.code) → written ≡ start ++ lines_text (opcodes code)
    go [] q e = sym (append-nil written) ∙ e ∙ ap (λ (c : Code Label). start ++ lines_text (opcodes c)) (one_body bytes h.code code h.body m)
    go (op ∷ ops) q e = absurd (op_filled q.0 q.1 op q.2 (sym (drop_all at bytes le) ∙ q.4))

-- what is printed after an answer Ok
pub on_ok : {A E P Q : Type 0} (r : Result A E) → (P → Q) → OnOk r P → OnOk r Q
on_ok (Ok x) f p = f p
on_ok (Err e) f p = tt

-- what is pushed after an answer Ok
pub pushed_on : {A E : Type 0} (r : Result A E) (new old text whole : List ℕ) → new ≡ cond (is_ok r) (old ++ text) old → text ≡ whole → OnOk r (new ≡ old ++ whole)
pushed_on (Ok x) new old text whole e f = e ∙ ap (λ (l : List ℕ). old ++ l) f
pushed_on (Err x) new old text whole e f = tt
