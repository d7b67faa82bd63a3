-- The pass accepts a body's opcodes just where the body is typed, and gets through k opcodes just where the body cut there is typed.
use Rattle.std.proofs.Common.{◌≡◌, ℕ, suc, ◌+◌, Bool, true, false, not, List, [], ◌∷◌, ◌++◌, Option, Some, None, take, length, refl, sym, ◌∙◌, ap, subst}
use Rattle.std.specs.Prelude.{◌↔◌, ◌||◌, is_none}
use Rattle.std.proofs.Math.Seq.{take-append_seam, take-append-add}
use Rattle.ctw_ops.specs.Types.{ValueType}
use Rattle.ctw_ops.specs.Code.{Unreachable, Code, OfBlock, OfLoop, OfIf, ByEnd, ByElse, Op, Plain, Opens, Closes, opcodes}
use Rattle.ctw_ops.specs.Typing.{Context, Typed, optional, i32}
use Rattle.ctw_ops.specs.Segments.{and_then}
use Rattle.ctw_ops.specs.Cut.{OpenBlock, open_block, open_behind, open_behind_all, ending, closing, cut_among, cut}
use Rattle.ctw_ops.proofs.Cut.{opcodes_of_cut_in}
use Rattle.ctw_stack.specs.Operands.{Operands, fresh}
use Rattle.ctw_stack.specs.Steps.{IsExactTest, when, pushes, expect, step}
use Rattle.ctw_stack.specs.Pass.{Level, level, now_with, within, outermost, given, ends_with, flat, run}
use Rattle.ctw_stack.proofs.TreePass.{closes, pass}
use Rattle.ctw_stack.proofs.PassLaws.{body_law}
use Rattle.ctw_stack.proofs.FlatLaws.{and_then_assoc, and_then_same, run_body}

pub none_some : {A : Type 0} {P : Type 0} {x : A} → None ≡ Some x → P
none_some e = cc

pub some_same : {A : Type 0} {x y : A} → Some x ≡ Some y → x ≡ y
some_same e = cc

-- what an answer has, where each answer has it
through : {A B : Type 0} (P : B → Type 0) (r : Option A) (f : A → B) (y : B) → ((x : A) → P (f x)) → and_then r (λ x. Some (f x)) ≡ Some y → P y
through P None f y h e = none_some e
through P (Some x) f y h e = subst P (some_same e) (h x)

through_when : {A B : Type 0} (P : B → Type 0) (c : Bool) (r : Option A) (f : A → B) (y : B) → ((x : A) → P (f x)) → when c (and_then r (λ x. Some (f x))) ≡ Some y → P y
through_when P false r f y h e = none_some e
through_when P true r f y h e = through P r f y h e

when_some : {A : Type 0} (c : Bool) (x : A) → (when c (Some x) ≡ Some x) ↔ (c ≡ true)
when_some true x = ((λ e. refl), (λ e. refl))
when_some false x = ((λ e. none_some e), (λ e. absurd cc))

-- what is open, without the operands
abbrev pub open_of : {S : Type 0} → Level S → OpenBlock S
open_of v = open_block v.arm v.block.yields

abbrev pub opens_of : {S : Type 0} → List (Level S) → List (OpenBlock S)
opens_of [] = []
opens_of (v ∷ vs) = open_of v ∷ opens_of vs

module _ {S : Type 0} (same : S → S → Bool) where
  given_opens : (t : Option (ValueType S)) (vs : List (Level S)) → opens_of (given t vs) ≡ opens_of vs
  given_opens t [] = refl
  given_opens t (v ∷ vs) = refl

  flat_opens : (C : Context S) (op : Op S) (vs ws : List (Level S)) → flat same C op vs ≡ Some ws → opens_of ws ≡ open_behind op (opens_of vs)
  flat_opens C op [] ws e = none_some e
  flat_opens C (Plain i) (v ∷ vs) ws e = through (λ z. opens_of z ≡ opens_of (v ∷ vs)) (step same (within C (v ∷ vs)) i v.block.operands) (λ s. now_with v s ∷ vs) ws (λ s. refl) e
  flat_opens C (Opens OfBlock t) (v ∷ vs) ws e = ap opens_of (sym (some_same e))
  flat_opens C (Opens OfLoop t) (v ∷ vs) ws e = ap opens_of (sym (some_same e))
  flat_opens C (Opens OfIf t) (v ∷ vs) ws e = through (λ z. opens_of z ≡ open_behind (Opens OfIf t) (opens_of (v ∷ vs))) (expect same (i32 C) v.block.operands) (λ s. level true false t ∷ now_with v s ∷ vs) ws (λ s. refl) e
  flat_opens C (Closes ByElse) (v ∷ vs) ws e =
      through_when (λ z. opens_of z ≡ open_behind (Closes ByElse) (opens_of (v ∷ vs))) v.arm (ends_with same v.block.yields v.block.operands) (λ m. level false v.block.loops v.block.yields ∷ vs) ws (λ m. refl) e
  flat_opens C (Closes ByEnd) (v ∷ vs) ws e =
      through_when (λ z. opens_of z ≡ opens_of vs) (not v.arm || is_none v.block.yields) (ends_with same v.block.yields v.block.operands) (λ m. given v.block.yields vs) ws (λ m. given_opens v.block.yields vs) e

  run_opens : (C : Context S) (ops : List (Op S)) (vs ws : List (Level S)) → run same C ops vs ≡ Some ws → opens_of ws ≡ open_behind_all ops (opens_of vs)
  run_opens C [] vs ws e = ap opens_of (sym (some_same e))
  run_opens C (op ∷ ops) vs ws e = by_one (run_opens C ops) (flat same C op vs) refl e
    where
      by_one : ((us ts : List (Level S)) → run same C ops us ≡ Some ts → opens_of ts ≡ open_behind_all ops (opens_of us)) → (r : Option (List (Level S))) → flat same C op vs ≡ r → and_then r (run same C ops) ≡ Some ws → opens_of ws ≡ open_behind_all ops (open_behind op (opens_of vs))
      by_one h None q p = none_some p
      by_one h (Some us) q p = h us ws p ∙ ap (open_behind_all ops) (flat_opens C op vs us q)

  pub run_append : (C : Context S) (xs ys : List (Op S)) (vs : List (Level S)) → run same C (xs ++ ys) vs ≡ and_then (run same C xs vs) (run same C ys)
  run_append C [] ys vs = refl
  run_append C (op ∷ xs) ys vs =
      and_then_same (flat same C op vs) (run same C (xs ++ ys)) (λ z. and_then (run same C xs z) (run same C ys)) (run_append C xs ys)
      ∙ sym (and_then_assoc (flat same C op vs) (run same C xs) (run same C ys))

  close_one : (C : Context S) (arm loops : Bool) (t : Option (ValueType S)) (s : Operands S) (vs : List (Level S)) (ops : List (Op S)) →
      run same C (Plain Unreachable ∷ (ending arm t ++ ops)) (now_with (level arm loops t) s ∷ vs) ≡ run same C ops (given t vs)
  close_one C false loops None s vs ops = refl
  close_one C false loops (Some t) s vs ops = refl
  close_one C true loops None s vs ops = refl
  close_one C true loops (Some t) s vs ops = refl

  closing_from : (C : Context S) (vs : List (Level S)) (v : Level S) (s : Operands S) → run same C (closing (opens_of (v ∷ vs))) (now_with v s ∷ vs) ≡ Some []
  closing_from C [] v s = close_one C v.arm v.block.loops v.block.yields s [] []
  closing_from C (w ∷ vs) v s = close_one C v.arm v.block.loops v.block.yields s (w ∷ vs) (closing (opens_of (w ∷ vs))) ∙ closing_from C vs w (pushes (optional v.block.yields) w.block.operands)

  -- what closes the open blocks is accepted
  pub closing_law : (C : Context S) (vs : List (Level S)) → run same C (closing (opens_of vs)) vs ≡ Some []
  closing_law C [] = refl
  closing_law C (v ∷ vs) = closing_from C vs v v.block.operands

  -- the pass gets through k opcodes just where it accepts them with what closes the open blocks
  cut_among_law : (C : Context S) (k : ℕ) (ops : List (Op S)) → (run same C (cut_among k ops (opens_of (outermost C))) (outermost C) ≡ Some []) ↔ ((vs : List (Level S)) × (run same C (take k ops) (outermost C) ≡ Some vs))
  cut_among_law C k ops =
      let start : List (Level S) = outermost C in
      let front : List (Op S) = take k ops in (
        (λ e. there (run same C front start) (sym (run_append C front (closing (open_behind_all front (opens_of start))) start) ∙ e)),
        (λ h. run_append C front (closing (open_behind_all front (opens_of start))) start ∙ ap (λ z. and_then z (run same C (closing (open_behind_all front (opens_of start))))) h.1 ∙ ap (λ z. run same C (closing z) h.0) (sym (run_opens C front start h.0 h.1)) ∙ closing_law C h.0),
      )
    where
      there : (r : Option (List (Level S))) → and_then r (run same C (closing (open_behind_all (take k ops) (opens_of (outermost C))))) ≡ Some [] → (vs : List (Level S)) × (r ≡ Some vs)
      there None e = none_some e
      there (Some vs) e = (vs, refl)

-- a body's own label is its result
pub within_outermost : {S : Type 0} (C : Context S) → C.labels ≡ C.result ∷ [] → within C (outermost C) ≡ C
within_outermost C e = λ i. record C { labels = sym e i }

module _ {S : Type 0} (same : S → S → Bool) (eq : IsExactTest same) (C : Context S) (own : C.labels ≡ C.result ∷ []) where
  pub run_law : (code : Code S) → (run same C (opcodes code) (outermost C) ≡ Some []) ↔ Typed C code [] (optional C.result)
  run_law code =
      let D : Context S = within C (outermost C) in
      let none : List (Level S) = [] in
      let same_result : run same C (opcodes code) (outermost C) ≡ when (closes same C.result (pass same D code fresh)) (Some none) = run_body same C code in
      let b : (closes same C.result (pass same D code fresh) ≡ true) ↔ Typed D code [] (optional C.result) = body_law same eq D code in
      let w = when_some (closes same C.result (pass same D code fresh)) none in (
        (λ e. subst (λ z. Typed z code [] (optional C.result)) (within_outermost C own) (b.0 (w.0 (sym same_result ∙ e)))),
        (λ h. same_result ∙ w.1 (b.1 (subst (λ z. Typed z code [] (optional C.result)) (sym (within_outermost C own)) h))),
      )

  -- the pass gets through the first k opcodes of a body just where the body cut there is typed
  pub cut_typed : (code : Code S) (k : ℕ) → ((vs : List (Level S)) × (run same C (take k (opcodes code)) (outermost C) ≡ Some vs)) ↔ Typed C (cut code k) [] (optional C.result)
  cut_typed code k =
      let a = cut_among_law same C k (opcodes code) in
      let b = run_law (cut code k) in
      let e : run same C (cut_among k (opcodes code) (opens_of (outermost C))) (outermost C) ≡ run same C (opcodes (cut code k)) (outermost C) = ap (λ z. run same C z (outermost C)) (opcodes_of_cut_in C.result code k) in
      ((λ h. b.0 (sym e ∙ a.1 h)), (λ h. a.0 (e ∙ b.1 h)))

  no_typed : (r : Option (List (Level S))) → r ≡ None → (vs : List (Level S)) × (r ≡ Some vs) → ⊥
  no_typed r e i = none_some (sym e ∙ i.1)

  -- where an opcode is refused, the body cut there is typed, and cut anywhere behind that opcode it isn't
  pub fault_law : (code : Code S) (front back : List (Op S)) (op : Op S) (vs : List (Level S)) → opcodes code ≡ front ++ op ∷ back →
      run same C front (outermost C) ≡ Some vs → flat same C op vs ≡ None →
      Typed C (cut code (length front)) [] (optional C.result) × ((j : ℕ) → Typed C (cut code (length front + suc j)) [] (optional C.result) → ⊥)
  fault_law code front back op vs e r f =
      let start : List (Level S) = outermost C in
      let kept : take (length front) (opcodes code) ≡ front = ap (take (length front)) e ∙ take-append_seam front (op ∷ back) in (
        (cut_typed code (length front)).0 (vs, ap (λ z. run same C z start) kept ∙ r),
        λ j t.
            let more : take (length front + suc j) (opcodes code) ≡ front ++ op ∷ take j back = ap (take (length front + suc j)) e ∙ take-append-add front (op ∷ back) (suc j) in
            let stops : run same C (take (length front + suc j) (opcodes code)) start ≡ None =
            ap (λ z. run same C z start) more ∙ run_append same C front (op ∷ take j back) start ∙ ap (λ z. and_then z (run same C (op ∷ take j back))) r ∙ ap (λ z. and_then z (run same C (take j back))) f in
            no_typed (run same C (take (length front + suc j) (opcodes code)) start) stops ((cut_typed code (length front + suc j)).1 t),
      )
