-- The typing of a body stops at one opcode at most, which is the one that the pass refuses.
use Rattle.std.proofs.Common.{◌≡◌, ◌<◌, ◌+◌, ◌-◌, ℕ, suc, Bool, List, [], ◌∷◌, ◌++◌, Option, Some, None, take, drop, length, refl, sym, ◌∙◌, ap, subst, arith}
use Rattle.std.proofs.Math.Seq.{take-add}
use Rattle.ctw_ops.specs.Code.{Code, Op, opcodes}
use Rattle.ctw_ops.specs.Typing.{Context, Typed, optional}
use Rattle.ctw_ops.specs.Segments.{and_then}
use Rattle.ctw_ops.specs.Cut.{cut}
use Rattle.ctw_ops.specs.CutTyping.{StopsAt}
use Rattle.ctw_stack.specs.Steps.{IsExactTest}
use Rattle.ctw_stack.specs.Pass.{Level, outermost, flat, run}
use Rattle.ctw_stack.proofs.BodyLaws.{none_some, run_append, cut_typed, fault_law}

module _ {S : Type 0} (same : S → S → Bool) (eq : IsExactTest same) (C : Context S) (own : C.labels ≡ C.result ∷ []) where
  begun : (xs ys : List (Op S)) (vs : List (Level S)) → run same C (xs ++ ys) (outermost C) ≡ Some vs → (us : List (Level S)) × (run same C xs (outermost C) ≡ Some us)
  begun xs ys vs e = there (run same C xs (outermost C)) (sym (run_append same C xs ys (outermost C)) ∙ e)
    where
      there : (r : Option (List (Level S))) → and_then r (run same C ys) ≡ Some vs → (us : List (Level S)) × (r ≡ Some us)
      there None h = none_some h
      there (Some us) h = (us, refl)

  -- a body that is cut before a typed cut is typed
  pub typed_before : (code : Code S) (i d : ℕ) → Typed C (cut code (i + d)) [] (optional C.result) → Typed C (cut code i) [] (optional C.result)
  typed_before code i d t =
      let ops : List (Op S) = opcodes code in
      let r : (vs : List (Level S)) × (run same C (take (i + d) ops) (outermost C) ≡ Some vs) = (cut_typed same eq C own code (i + d)).1 t in
      (cut_typed same eq C own code i).0 (begun (take i ops) (take d (drop i ops)) r.0 (ap (λ z. run same C z (outermost C)) (sym (take-add i d ops)) ∙ r.1))

  not_before : (code : Code S) (j k : ℕ) → StopsAt C code j → StopsAt C code k → j < k → ⊥
  not_before code j k s t h =
      let e : k ≡ suc j + (k - suc j) = omega (arith, h) in
      s.1 (typed_before code (suc j) (k - suc j) (subst (λ z. Typed C (cut code z) [] (optional C.result)) e t.0))

  pub stops_once : (code : Code S) (j k : ℕ) → StopsAt C code j → StopsAt C code k → j ≡ k
  stops_once code j k s t =
      let left : j < k → ⊥ = not_before code j k s t in
      let right : k < j → ⊥ = not_before code k j t s in
      omega (arith, left, right)

  pub stops_where_refused : (code : Code S) (front back : List (Op S)) (op : Op S) (vs : List (Level S)) → opcodes code ≡ front ++ op ∷ back →
      run same C front (outermost C) ≡ Some vs → flat same C op vs ≡ None → StopsAt C code (length front)
  stops_where_refused code front back op vs e r f =
      let law = fault_law same eq C own code front back op vs e r f in
      let next : length front + 1 ≡ suc (length front) = omega arith in
      (law.0, λ t. law.1 0 (subst (λ z. Typed C (cut code z) [] (optional C.result)) (sym next) t))
