-- The indirect calls of a body's bytes, opcode by opcode.
use Rattle.std.proofs.Common.{◌≡◌, ◌≤◌, ◌<◌, ℕ, List, [], ◌∷◌, ◌++◌, length, fold, Ok, Err, refl, sym, ap, ◌∙◌, arith}
use Rattle.std.proofs.lemmas.List.{append_assoc, append-nil}
use Rattle.std.proofs.lemmas.List.Sums.{fold-append}
use Rattle.std.proofs.lemmas.List.Elements.{All-nil, All-cons, All-head, All-tail, All-same}
use Rattle.ctw_ops.specs.declared.types.Label.{Label}
use Rattle.ctw_ops.specs.Code.{Leaf, CallIndirect, Code, Stop, Then, Block, Loop, If, IfElse, Op, Plain, Opens, Closes, ByEnd, ByElse, onto, opcodes}
use Rattle.ctw_ops.specs.IndirectCalls.{call_of, indirect_calls}
use Rattle.ctw_flat.specs.declared.fault.CodeFault.{CodeFault}
use Rattle.ctw_flat.specs.Spelled.{IsBody}
use Rattle.ctw_flat.specs.Places.{Placed, Stand, ops_of, instr_in}
use Rattle.ctw_flat.proofs.Places.{stands, step, ended, no_fault, instr_behind, one_body}
use Rattle.ctw_link.specs.Users.{with_entry}
use Rattle.ctw_link.specs.Marks.{AllBelow, call_in, calls_in}

-- ---- opcodes and tree

leaf_front : (leaf : Leaf Label) (calls others : List ℕ) → call_of leaf (calls ++ others) ≡ call_of leaf calls ++ others
leaf_front (CallIndirect index) calls others = refl
leaf_front leaf calls others = refl

behind : (front calls others left : List ℕ) → left ≡ calls ++ others → front ++ left ≡ (front ++ calls) ++ others
behind front calls others left e = ap (λ l. front ++ l) e ∙ sym (append_assoc front calls others)

calls_onto : (code : Code Label) (ops : List (Op Label)) → calls_in (onto code ops) ≡ indirect_calls code ++ calls_in ops
calls_onto Stop ops = refl
calls_onto (Then leaf rest) ops = ap (call_of leaf) (calls_onto rest ops) ∙ leaf_front leaf (indirect_calls rest) (calls_in ops)
calls_onto (Block t body rest) ops = calls_onto body (Closes ByEnd ∷ onto rest ops) ∙ behind (indirect_calls body) (indirect_calls rest) (calls_in ops) _ (calls_onto rest ops)
calls_onto (Loop t body rest) ops = calls_onto body (Closes ByEnd ∷ onto rest ops) ∙ behind (indirect_calls body) (indirect_calls rest) (calls_in ops) _ (calls_onto rest ops)
calls_onto (If t arm rest) ops = calls_onto arm (Closes ByEnd ∷ onto rest ops) ∙ behind (indirect_calls arm) (indirect_calls rest) (calls_in ops) _ (calls_onto rest ops)
calls_onto (IfElse t arm other rest) ops =
    let last = behind (indirect_calls other) (indirect_calls rest) (calls_in ops) _ (calls_onto rest ops) in
    calls_onto arm (Closes ByElse ∷ onto other (Closes ByEnd ∷ onto rest ops))
    ∙ behind (indirect_calls arm) (indirect_calls other ++ indirect_calls rest) (calls_in ops) _ (calls_onto other (Closes ByEnd ∷ onto rest ops) ∙ last)

pub calls_of_body : (code : Code Label) → calls_in (opcodes code) ≡ indirect_calls code
calls_of_body code = calls_onto code (Closes ByEnd ∷ []) ∙ append-nil (indirect_calls code)

op_front : (op : Op Label) (others : List ℕ) → call_in op others ≡ call_in op [] ++ others
op_front (Plain leaf) others = leaf_front leaf [] others
op_front (Opens shape type) others = refl
op_front (Closes closer) others = refl

leaf_below : (count : ℕ) (leaf : Leaf Label) (others : List ℕ) → AllBelow count (call_of leaf others) → AllBelow count (call_of leaf []) × AllBelow count others
leaf_below count (CallIndirect index) others all =
    (All-cons (λ entry. entry < count) index [] (All-head (λ entry. entry < count) index others all) (All-nil (λ entry. entry < count)), All-tail (λ entry. entry < count) index others all)
leaf_below count leaf others all = (All-nil (λ entry. entry < count), all)

op_below : (count : ℕ) (op : Op Label) (others : List ℕ) → AllBelow count (call_in op others) → AllBelow count (call_in op []) × AllBelow count others
op_below count (Plain leaf) others all = leaf_below count leaf others all
op_below count (Opens shape type) others all = (All-nil (λ entry. entry < count), all)
op_below count (Closes closer) others all = (All-nil (λ entry. entry < count), all)

-- ---- the walk

-- of the body's opcodes those that stand from a place on are left, whose calls are left to be taken
pub record CallsLeft (count : ℕ) (bytes : List ℕ) (place : ℕ) (start now : List ℕ) : Type 0 where
  pub code : Code Label
  pub spelled : IsBody bytes code
  pub left : List Placed
  pub stand : Stand bytes place left
  pub inside : place ≤ length bytes
  pub below : AllBelow count (calls_in (ops_of left))
  pub taken : fold with_entry start (indirect_calls code) ≡ fold with_entry now (calls_in (ops_of left))

pub walk_begins : (count : ℕ) (bytes : List ℕ) (start : List ℕ) (code : Code Label) → IsBody bytes code → AllBelow count (indirect_calls code) → CallsLeft count bytes 0 start start
walk_begins count bytes start code m all =
    let s = stands bytes 0 (opcodes code) (omega arith) m in
    let same : calls_in (ops_of s.0) ≡ indirect_calls code = ap calls_in s.2 ∙ calls_of_body code in
    record {
      code = code;
      spelled = m;
      left = s.0;
      stand = s.1;
      inside = omega arith;
      below = All-same (λ entry. entry < count) (calls_in (ops_of s.0)) (indirect_calls code) same all;
      taken = ap (fold with_entry start) (sym same);
    }

-- the first opcode that is left
first : (count : ℕ) (bytes : List ℕ) (place : ℕ) (start now : List ℕ) (op : Op Label) (next : ℕ) → (h : CallsLeft count bytes place start now) → place < length bytes → instr_in bytes place ≡ Ok (op, next)
    → (others : List Placed) × Stand bytes next others × (calls_in (ops_of h.left) ≡ call_in op (calls_in (ops_of others)))
first count bytes place start now op next h lt e =
    let s = step bytes place h.left op next lt h.stand e in
    (s.0, s.1, ap (λ l. calls_in (ops_of l)) s.2)

pub walk_below : (count : ℕ) (bytes : List ℕ) (place : ℕ) (start now : List ℕ) (op : Op Label) (next : ℕ) → CallsLeft count bytes place start now → place < length bytes → instr_in bytes place ≡ Ok (op, next) → AllBelow count (call_in op [])
walk_below count bytes place start now op next h lt e =
    let s = first count bytes place start now op next h lt e in
    (op_below count op (calls_in (ops_of s.0)) (All-same (λ entry. entry < count) _ _ (sym s.2) h.below)).0

pub walk_on : (count : ℕ) (bytes : List ℕ) (place : ℕ) (start now after : List ℕ) (op : Op Label) (next : ℕ) → CallsLeft count bytes place start now → place < length bytes → instr_in bytes place ≡ Ok (op, next)
    → after ≡ fold with_entry now (call_in op []) → CallsLeft count bytes next start after
walk_on count bytes place start now after op next h lt e a =
    let s = first count bytes place start now op next h lt e in
    let b = instr_behind bytes place op next h.inside e in
    let others = calls_in (ops_of s.0) in
    record {
      code = h.code;
      spelled = h.spelled;
      left = s.0;
      stand = s.1;
      inside = b.1;
      below = (op_below count op others (All-same (λ entry. entry < count) _ _ (sym s.2) h.below)).1;
      taken = h.taken ∙ ap (fold with_entry now) (s.2 ∙ op_front op others) ∙ fold-append with_entry now (call_in op []) others ∙ ap (λ l. fold with_entry l others) (sym a);
    }

pub walk_done : (count : ℕ) (bytes : List ℕ) (place : ℕ) (start now : List ℕ) → CallsLeft count bytes place start now → length bytes ≤ place → (code : Code Label) → IsBody bytes code → now ≡ fold with_entry start (indirect_calls code)
walk_done count bytes place start now h ge code m =
    ap (λ l. fold with_entry now (calls_in (ops_of l))) (sym (ended bytes place h.left h.inside ge h.stand)) ∙ sym h.taken ∙ ap (λ c. fold with_entry start (indirect_calls c)) (one_body bytes h.code code h.spelled m)

-- each opcode that is left has a reading
pub walk_reads : (count : ℕ) (bytes : List ℕ) (place : ℕ) (start now : List ℕ) (f : CodeFault) → CallsLeft count bytes place start now → place < length bytes → instr_in bytes place ≡ Err f → ⊥
walk_reads count bytes place start now f h lt e = no_fault bytes place h.left f lt h.stand e
