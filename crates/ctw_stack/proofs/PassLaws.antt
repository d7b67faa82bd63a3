-- The pass over a tree is exact for the typing.
use Rattle.std.proofs.Common.{◌≡◌, Bool, true, false, List, [], ◌∷◌, Option, Some, None, refl, sym, ◌∙◌, ap, subst}
use Rattle.std.specs.Prelude.{◌↔◌, is_some, is_none}
use Rattle.ctw_ops.specs.Types.{ValueType}
use Rattle.ctw_ops.specs.Code.{Code, Stop, Then, Block, Loop, If, IfElse}
use Rattle.ctw_ops.specs.Typing.{Context, upon, Row, Typed, optional, i32, inside}
use Rattle.ctw_ops.specs.Segments.{and_then}
use Rattle.ctw_stack.specs.declared.slot.Slot.{Slot}
use Rattle.ctw_stack.specs.Operands.{Operands, Holds, Denotes, fresh}
use Rattle.ctw_stack.specs.Steps.{IsExactTest, pushes, expect, expects, step}
use Rattle.ctw_stack.specs.Pass.{emptied, ends_with}
use Rattle.ctw_stack.proofs.Exact.{Types, Rel, Seq, Exact, exact_iff, exact_after, exact_and_then, exact_when, exact_when_both}
use Rattle.ctw_stack.proofs.OperandLaws.{true_iff, false_true, exact_pushes, Takes, exact_expect, exact_expects, inhabited}
use Rattle.ctw_stack.proofs.StepLaws.{step_law}
use Rattle.ctw_stack.proofs.TreePass.{closes, pass}

pub is_none_iff : {A : Type 0} (t : Option A) → (is_none t ≡ true) ↔ (t ≡ None)
is_none_iff None = true_iff refl
is_none_iff (Some t) = ((λ e. cc), (λ e. cc))

module _ {S : Type 0} (same : S → S → Bool) (eq : IsExactTest same) where
  emptied_from : (dead : Bool) (xs : List (Slot S)) → Exact (record { dead = dead; slots = xs }) (emptied (record { dead = dead; slots = xs })) (λ a b. (a ≡ []) × (b ≡ []))
  emptied_from false [] = λ b. ((λ d. ([], refl, (refl, d))), (λ i. i.2.1))
  emptied_from true [] = λ b. ((λ d. ([], tt, (refl, d))), (λ i. i.2.1))
  emptied_from dead (x ∷ xs) = λ a b d i. subst (Holds dead (x ∷ xs)) i.0 d

  exact_emptied : (s : Operands S) → Exact s (emptied s) (λ a b. (a ≡ []) × (b ≡ []))
  exact_emptied s = emptied_from s.dead s.slots

  -- a block's end is accepted just where its body can leave its result
  Ends : Option (ValueType S) → Rel S
  Ends t = Seq (λ a b. a ≡ upon (optional t) b) (λ a b. (a ≡ []) × (b ≡ []))

  exact_ends : (t : Option (ValueType S)) (s : Operands S) → Exact s (ends_with same t s) (Ends t)
  unfolding Ends
  exact_ends t s = exact_and_then s (expects same (optional t) s) (emptied) (λ a b. a ≡ upon (optional t) b) (λ a b. (a ≡ []) × (b ≡ [])) (exact_expects same eq (optional t) s) exact_emptied

  upon_none : (t : Option (ValueType S)) → upon (optional t) [] ≡ optional t
  upon_none None = refl
  upon_none (Some t) = refl

  ended : (t : Option (ValueType S)) (a b : Types S) → Ends t a b → a ≡ optional t
  unfolding Ends
  ended t a b i = i.1 ∙ ap (upon (optional t)) i.2.0 ∙ upon_none t

  ends : (t : Option (ValueType S)) → Ends t (optional t) []
  unfolding Ends
  ends t = ([], sym (upon_none t), (refl, refl))

  some_iff : (some : S) (t : Option (ValueType S)) (R : Rel S) (r : Option (Operands S)) → Exact fresh r (Seq R (Ends t)) → (is_some r ≡ true) ↔ R [] (optional t)
  some_iff some t R None h = ((λ e. false_true e), (λ q. absurd (h [] [] refl (optional t, q, ends t))))
  some_iff some t R (Some m) h = (
    (λ e.
        let w = inhabited same eq some m.dead m.slots in
        let i = (h w.0).0 w.1 in
        subst (R []) (ended t i.2.0 w.0 i.2.2) (subst (λ z. R z i.2.0) i.1 i.2.1)),
    (λ q. refl),
  )

  pub closes_iff : (some : S) (t : Option (ValueType S)) (R : Rel S) (r : Option (Operands S)) → Exact fresh r R → (closes same t r ≡ true) ↔ R [] (optional t)
  closes_iff some t R r h = some_iff some t R (and_then r (ends_with same t)) (exact_and_then fresh r (ends_with same t) R (Ends t) h (exact_ends t))

  -- after values are put on the stack
  pub exact_before : (ts : List (ValueType S)) (s : Operands S) (f : Operands S → Option (Operands S)) (R : Rel S) → ((m : Operands S) → Exact m (f m) R) → Exact s (f (pushes ts s)) (λ a b. R (upon ts a) b)
  exact_before ts s f R h =
      exact_iff s (f (pushes ts s)) (Seq (λ a b. b ≡ upon ts a) R) (λ a b. R (upon ts a) b)
      (λ a b. ((λ i. subst (λ z. R z b) i.1 i.2), (λ q. (upon ts a, refl, q))))
      (exact_after s (pushes ts s) (f (pushes ts s)) (λ a b. b ≡ upon ts a) R (exact_pushes same eq ts s) (h (pushes ts s)))

  -- what stands behind an `if`'s condition
  pub exact_condition : (C : Context S) (ts : List (ValueType S)) (s : Operands S) (f : Operands S → Option (Operands S)) (R : Rel S) → ((m : Operands S) → Exact m (f m) R) → Exact s (and_then (expect same (i32 C) s) (λ m. f (pushes ts m))) (λ a b. (kept : Types S) × (a ≡ i32 C ∷ kept) × R (upon ts kept) b)
  exact_condition C ts s f R h =
      exact_and_then s (expect same (i32 C) s) (λ m. f (pushes ts m)) (Takes same eq (i32 C)) (λ a b. R (upon ts a) b) (exact_expect same eq (i32 C) s) (λ m. exact_before ts m f R h)

  pub pass_law : (C : Context S) (code : Code S) (s : Operands S) → Exact s (pass same C code s) (Typed C code)
  pass_law C Stop s = λ b. ((λ d. (b, d, refl)), (λ i. subst (Denotes s) i.2 i.1))
  pass_law C (Then i rest) s = exact_and_then s (step same C i s) (pass same C rest) (Row C i) (Typed C rest) (step_law same eq C i s) (pass_law C rest)
  pass_law C (Block t body rest) s =
      exact_when s (closes same t (pass same (inside t C) body fresh)) (Typed (inside t C) body [] (optional t)) (pass same C rest (pushes (optional t) s)) (λ a b. Typed C rest (upon (optional t) a) b)
      (closes_iff C.public t (Typed (inside t C) body) (pass same (inside t C) body fresh) (pass_law (inside t C) body fresh))
      (exact_before (optional t) s (pass same C rest) (Typed C rest) (pass_law C rest))
  pass_law C (Loop t body rest) s =
      exact_when s (closes same t (pass same (inside None C) body fresh)) (Typed (inside None C) body [] (optional t)) (pass same C rest (pushes (optional t) s)) (λ a b. Typed C rest (upon (optional t) a) b)
      (closes_iff C.public t (Typed (inside None C) body) (pass same (inside None C) body fresh) (pass_law (inside None C) body fresh))
      (exact_before (optional t) s (pass same C rest) (Typed C rest) (pass_law C rest))
  pass_law C (If t arm rest) s =
      exact_iff s (pass same C (If t arm rest) s)
      (λ a b. (t ≡ None) × Typed (inside t C) arm [] (optional t) × ((kept : Types S) × (a ≡ i32 C ∷ kept) × Typed C rest (upon (optional t) kept) b))
      (Typed C (If t arm rest))
      (λ a b. ((λ i. (i.0, i.1, i.2.0, i.2.1, i.2.2)), (λ i. (i.0, i.1, (i.2, i.3, i.4)))))
      (exact_when_both s (is_none t) (closes same t (pass same (inside t C) arm fresh)) (t ≡ None) (Typed (inside t C) arm [] (optional t))
      (and_then (expect same (i32 C) s) (λ m. pass same C rest (pushes (optional t) m))) (λ a b. (kept : Types S) × (a ≡ i32 C ∷ kept) × Typed C rest (upon (optional t) kept) b)
      (is_none_iff t) (closes_iff C.public t (Typed (inside t C) arm) (pass same (inside t C) arm fresh) (pass_law (inside t C) arm fresh))
      (exact_condition C (optional t) s (pass same C rest) (Typed C rest) (pass_law C rest)))
  pass_law C (IfElse t arm other rest) s =
      exact_iff s (pass same C (IfElse t arm other rest) s)
      (λ a b. Typed (inside t C) arm [] (optional t) × Typed (inside t C) other [] (optional t) × ((kept : Types S) × (a ≡ i32 C ∷ kept) × Typed C rest (upon (optional t) kept) b))
      (Typed C (IfElse t arm other rest))
      (λ a b. ((λ i. (i.0, i.1, i.2.0, i.2.1, i.2.2)), (λ i. (i.0, i.1, (i.2, i.3, i.4)))))
      (exact_when_both s (closes same t (pass same (inside t C) arm fresh)) (closes same t (pass same (inside t C) other fresh)) (Typed (inside t C) arm [] (optional t)) (Typed (inside t C) other [] (optional t))
      (and_then (expect same (i32 C) s) (λ m. pass same C rest (pushes (optional t) m))) (λ a b. (kept : Types S) × (a ≡ i32 C ∷ kept) × Typed C rest (upon (optional t) kept) b)
      (closes_iff C.public t (Typed (inside t C) arm) (pass same (inside t C) arm fresh) (pass_law (inside t C) arm fresh))
      (closes_iff C.public t (Typed (inside t C) other) (pass same (inside t C) other fresh) (pass_law (inside t C) other fresh))
      (exact_condition C (optional t) s (pass same C rest) (Typed C rest) (pass_law C rest)))

  pub body_law : (C : Context S) (code : Code S) → (closes same C.result (pass same C code fresh) ≡ true) ↔ Typed C code [] (optional C.result)
  body_law C code = closes_iff C.public C.result (Typed C code) (pass same C code fresh) (pass_law C code fresh)
