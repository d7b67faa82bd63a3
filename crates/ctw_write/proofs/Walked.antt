-- What is read for writing it again: numbers and opcodes one after another.
use Rattle.std.proofs.Common.{◌≡◌, ℕ, ◌+◌, ◌-◌, ◌<◌, ◌≤◌, List, [], ◌∷◌, ◌++◌, length, drop, Result, Ok, Err, refl, sym, ap, subst, ◌∙◌, append_assoc, append-nil, arith, length-append}
use Rattle.std.proofs.lemmas.List.{drop_at, drop_all, drop-drop, length-drop}
use Rattle.std.specs.Prelude.{OnOk, is_ok, cond}
use Rattle.ctw_ops.specs.declared.types.Label.{Label}
use Rattle.ctw_ops.specs.Code.{Op, Plain, BrTable, Code, opcodes}
use Rattle.ctw_leb.specs.Spelling.{u32_text}
use Rattle.ctw_leb.proofs.Exact.{one_spelling}
use Rattle.ctw_flat.specs.Spelled.{IsOp, IsOps, IsBody}
use Rattle.ctw_flat.specs.Read.{op_at}
use Rattle.ctw_flat.proofs.Ops.{exact_op}
use Rattle.ctw_flat.proofs.Places.{one_body}
use Rattle.ctw_write.proofs.Pieces.{nil_cons}
use Rattle.ctw_write.specs.Canon.{all_texts, op_text}

-- ---- opcodes

-- the opcodes that are left, and what is written, with their texts, is the whole
pub record OpsAhead (w : Op Label → List ℕ) (bytes : List ℕ) (at : ℕ) (written start : List ℕ) : Type 0 where
  pub code : Code Label
  pub body : IsBody bytes code
  pub ops : List (Op Label)
  pub spelled : IsOps (drop at bytes) ops
  pub together : written ++ all_texts w ops ≡ start ++ all_texts w (opcodes code)
  pub within : at ≤ length bytes

pub ops_begin : (w : Op Label → List ℕ) (bytes start : List ℕ) (code : Code Label) → IsBody bytes code → OpsAhead w bytes 0 start start
ops_begin w bytes start code m = record { code = code; body = m; ops = opcodes code; spelled = m; together = refl; within = omega arith }

-- one more of them
pub record OpAhead (w : Op Label → List ℕ) (bytes : List ℕ) (at : ℕ) (written start : List ℕ) : Type 0 where
  pub op : Op Label
  pub text : List ℕ
  pub after : List ℕ
  pub spelled : IsOp text op
  pub front : drop at bytes ≡ text ++ after
  pub next : (then : List ℕ) → then ≡ written ++ w op → OpsAhead w bytes (at + length text) then start

pub op_ahead : (w : Op Label → List ℕ) (bytes : List ℕ) (at : ℕ) (written start : List ℕ) → at < length bytes → OpsAhead w bytes at written start → OpAhead w bytes at written start
op_ahead w bytes at written start lt h = go h.ops h.spelled h.together
  where
    go : (ops : List (Op Label)) → IsOps (drop at bytes) ops → written ++ all_texts w ops ≡ start ++ all_texts w (opcodes h.code) → OpAhead w bytes at written start
    go [] m e = absurd (omega (arith, ap length m, length-drop at bytes))
    go (op ∷ ops) m e =
        let rest : drop (at + length m.0) bytes ≡ m.1 = sym (drop-drop (length m.0) at bytes) ∙ ap (drop (length m.0)) m.4 ∙ drop_at m.0 m.1 (length m.0) refl in
        let sum : length bytes - at ≡ length m.0 + length m.1 = sym (length-drop at bytes) ∙ ap length m.4 ∙ length-append m.0 m.1 in
        record {
          op = op;
          text = m.0;
          after = m.1;
          spelled = m.2;
          front = m.4;
          next = λ then q. record {
            code = h.code;
            body = h.body;
            ops = ops;
            spelled = subst (λ (l : List ℕ). IsOps l ops) (sym rest) m.3;
            together = ap (λ (l : List ℕ). l ++ all_texts w ops) q ∙ append_assoc written (w op) (all_texts w ops) ∙ e;
            within = omega arith;
          };
        }

-- what was read there is that opcode
pub op_read : (w : Op Label → List ℕ) (bytes : List ℕ) (at : ℕ) (written start : List ℕ) (h : OpAhead w bytes at written start) (text after : List ℕ) (op : Op Label) → IsOp text op → drop at bytes ≡ text ++ after → (text ≡ h.text) × (op ≡ h.op)
op_read w bytes at written start h text after op m e = one_spelling IsOp op_at exact_op text h.text after h.after op h.op m h.spelled (sym e ∙ h.front)

pub ops_next : (w : Op Label → List ℕ) (bytes : List ℕ) (at next : ℕ) (written start then text after : List ℕ) (op : Op Label) → (h : OpAhead w bytes at written start) → IsOp text op → drop at bytes ≡ text ++ after → next ≡ at + length text → then ≡ written ++ w op → OpsAhead w bytes next then start
ops_next w bytes at next written start then text after op h m e n q =
    let r = op_read w bytes at written start h text after op m e in
    let place : at + length h.text ≡ next = ap (λ (l : List ℕ). at + length l) (sym r.0) ∙ sym n in
    subst (λ (k : ℕ). OpsAhead w bytes k then start) place (h.next then (q ∙ ap (λ (o : Op Label). written ++ w o) r.1))

op_filled : (x y : List ℕ) (op : Op Label) → IsOp x op → [] ≡ x ++ y → ⊥
op_filled x y op m e =
    let first : [] ≡ m.3.0 ∷ (m.2 ++ y) = e ∙ ap (λ (l : List ℕ). l ++ y) m.5 ∙ ap (λ (l : List ℕ). (l ++ m.2) ++ y) m.3.1 in
    nil_cons m.3.0 (m.2 ++ y) (sym first)

pub ops_end : (w : Op Label → List ℕ) (bytes : List ℕ) (at : ℕ) (written start : List ℕ) → length bytes ≤ at → OpsAhead w bytes at written start → (code : Code Label) → IsBody bytes code → written ≡ start ++ all_texts w (opcodes code)
ops_end w bytes at written start le h code m = go h.ops h.spelled h.together
  where
    go : (ops : List (Op Label)) → IsOps (drop at bytes) ops → written ++ all_texts w ops ≡ start ++ all_texts w (opcodes h.code) → written ≡ start ++ all_texts w (opcodes code)
    go [] q e = sym (append-nil written) ∙ e ∙ ap (λ (c : Code Label). start ++ all_texts w (opcodes c)) (one_body bytes h.code code h.body m)
    go (op ∷ ops) q e = absurd (op_filled q.0 q.1 op q.2 (sym (drop_all at bytes le) ∙ q.4))

-- what is written after an answer Ok
pub on_ok : {A E P Q : Type 0} (r : Result A E) → (P → Q) → OnOk r P → OnOk r Q
on_ok (Ok x) f p = f p
on_ok (Err e) f p = tt

-- a branch table, piece by piece
pub table_joined : (start one two three four : List ℕ) (count otherwise : ℕ) (targets : List ℕ) → length targets ≡ count → one ≡ start ++ 0x0E ∷ [] → two ≡ one ++ u32_text count → three ≡ two ++ all_texts u32_text targets → four ≡ three ++ u32_text otherwise
    → four ≡ start ++ op_text (Plain (BrTable targets otherwise))
table_joined start one two three four count otherwise targets n a b d e =
    e ∙ ap (λ (l : List ℕ). l ++ u32_text otherwise) (d ∙ ap (λ (l : List ℕ). l ++ all_texts u32_text targets) (b ∙ ap (λ (l : List ℕ). l ++ u32_text count) a))
    ∙ ap (λ (k : ℕ). (((start ++ 0x0E ∷ []) ++ u32_text k) ++ all_texts u32_text targets) ++ u32_text otherwise) (sym n)
    ∙ simp append_assoc

-- what is appended after an answer Ok
pub extended : {A E : Type 0} (r : Result A E) (new old other whole : List ℕ) → new ≡ cond (is_ok r) (old ++ other) old → old ++ other ≡ whole → OnOk r (new ≡ whole)
extended (Ok x) new old other whole e f = e ∙ f
extended (Err x) new old other whole e f = tt
