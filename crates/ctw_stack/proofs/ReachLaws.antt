-- The operands at a cut stand for just the stacks that typings of the cut body have there.
use Rattle.std.proofs.Common.{◌≡◌, ℕ, zero, suc, Bool, [], ◌∷◌, Option, Some, None, refl, subst}
use Rattle.std.specs.Prelude.{is_none}
use Rattle.ctw_ops.specs.Code.{Code, Stop, Then, Block, Loop, If, IfElse}
use Rattle.ctw_ops.specs.Typing.{Context, Row, Typed, optional, upon, i32, inside}
use Rattle.ctw_ops.specs.Segments.{and_then}
use Rattle.ctw_ops.specs.Cut.{behind, where_cut}
use Rattle.ctw_ops.specs.CutTyping.{WhereCut, Reaches}
use Rattle.ctw_stack.specs.Operands.{Operands, Denotes, fresh}
use Rattle.ctw_stack.specs.Steps.{IsExactTest, expect, step}
use Rattle.ctw_stack.proofs.Exact.{Types, Rel, Exact, exact_iff, exact_and_then, exact_when, exact_when_both}
use Rattle.ctw_stack.proofs.OperandLaws.{Takes, exact_expect, inhabited}
use Rattle.ctw_stack.proofs.StepLaws.{step_law}
use Rattle.ctw_stack.proofs.PassLaws.{closes_iff, exact_before, exact_condition, is_none_iff, pass_law}
use Rattle.ctw_stack.proofs.TreePass.{closes, pass}
use Rattle.ctw_stack.proofs.TreePlace.{pass_at}

module _ {S : Type 0} (same : S → S → Bool) (eq : IsExactTest same) where
  -- what is in a block doesn't depend on what is around it
  exact_inside : (some : S) (s : Operands S) (r : Option (Operands S)) (R : Rel S) → Exact fresh r R → Exact s r (λ a b. R [] b)
  exact_inside some s None R h = λ a b d q. h [] b refl q
  exact_inside some s (Some m) R h = λ b.
      let w = inhabited same eq some s.dead s.slots in
      ((λ d. let i = (h b).0 d in (w.0, w.1, subst (λ z. R z b) i.1 i.2)), (λ i. (h b).1 ([], refl, i.2)))

  -- the same behind an `if`'s condition
  exact_arm : (C : Context S) (s : Operands S) (r : Option (Operands S)) (R : Rel S) → Exact fresh r R → Exact s (and_then (expect same (i32 C) s) (λ m. r)) (λ a b. (kept : Types S) × (a ≡ i32 C ∷ kept) × R [] b)
  exact_arm C s r R h = exact_and_then s (expect same (i32 C) s) (λ m. r) (Takes same eq (i32 C)) (λ a b. R [] b) (exact_expect same eq (i32 C) s) (λ m. exact_inside C.public m r R h)

  by_cut : (s : Operands S) (left : Option ℕ) (r : Option (Operands S)) (f : ℕ → Option (Operands S)) (R : Rel S) (Q : ℕ → Rel S) → Exact s r R → ((j : ℕ) → Exact s (f j) (Q j)) → Exact s (where_cut left r f) (λ a b. WhereCut left (R a b) (λ j. Q j a b))
  by_cut s None r f R Q h k = h
  by_cut s (Some j) r f R Q h k = k j

  pub reach_law : (C : Context S) (code : Code S) (k : ℕ) (s : Operands S) → Exact s (pass_at same C code k s) (Reaches C code k)
  reach_law C code zero s = λ b. ((λ d. (b, d, refl)), (λ i. subst (Denotes s) i.2 i.1))
  reach_law C Stop (suc k) s = λ a b d q. q
  reach_law C (Then i rest) (suc k) s = exact_and_then s (step same C i s) (pass_at same C rest k) (Row C i) (Reaches C rest k) (step_law same eq C i s) (reach_law C rest k)
  reach_law C (Block t body rest) (suc k) s =
      by_cut s (behind body k) _ _ (λ a b. Reaches (inside t C) body k [] b) (λ j a b. Typed (inside t C) body [] (optional t) × Reaches C rest j (upon (optional t) a) b)
      (exact_inside C.public s _ (Reaches (inside t C) body k) (reach_law (inside t C) body k fresh))
      (λ j. exact_when s _ (Typed (inside t C) body [] (optional t)) _ (λ a b. Reaches C rest j (upon (optional t) a) b)
      (closes_iff same eq C.public t (Typed (inside t C) body) _ (pass_law same eq (inside t C) body fresh))
      (exact_before same eq (optional t) s (pass_at same C rest j) (Reaches C rest j) (reach_law C rest j)))
  reach_law C (Loop t body rest) (suc k) s =
      by_cut s (behind body k) _ _ (λ a b. Reaches (inside None C) body k [] b) (λ j a b. Typed (inside None C) body [] (optional t) × Reaches C rest j (upon (optional t) a) b)
      (exact_inside C.public s _ (Reaches (inside None C) body k) (reach_law (inside None C) body k fresh))
      (λ j. exact_when s _ (Typed (inside None C) body [] (optional t)) _ (λ a b. Reaches C rest j (upon (optional t) a) b)
      (closes_iff same eq C.public t (Typed (inside None C) body) _ (pass_law same eq (inside None C) body fresh))
      (exact_before same eq (optional t) s (pass_at same C rest j) (Reaches C rest j) (reach_law C rest j)))
  reach_law C (If t arm rest) (suc k) s =
      by_cut s (behind arm k) _ _ (λ a b. (kept : Types S) × (a ≡ i32 C ∷ kept) × Reaches (inside t C) arm k [] b)
      (λ j a b. (t ≡ None) × Typed (inside t C) arm [] (optional t) × (kept : Types S) × (a ≡ i32 C ∷ kept) × Reaches C rest j (upon (optional t) kept) b)
      (exact_arm C s _ (Reaches (inside t C) arm k) (reach_law (inside t C) arm k fresh))
      (λ j. exact_iff s _ (λ a b. (t ≡ None) × Typed (inside t C) arm [] (optional t) × ((kept : Types S) × (a ≡ i32 C ∷ kept) × Reaches C rest j (upon (optional t) kept) b)) _
      (λ a b. ((λ i. (i.0, i.1, i.2.0, i.2.1, i.2.2)), (λ i. (i.0, i.1, (i.2, i.3, i.4)))))
      (exact_when_both s (is_none t) (closes same t (pass same (inside t C) arm fresh)) (t ≡ None) (Typed (inside t C) arm [] (optional t)) _ _
      (is_none_iff t) (closes_iff same eq C.public t (Typed (inside t C) arm) _ (pass_law same eq (inside t C) arm fresh))
      (exact_condition same eq C (optional t) s (pass_at same C rest j) (Reaches C rest j) (reach_law C rest j))))
  reach_law C (IfElse t arm other rest) (suc k) s =
      by_cut s (behind arm k) _ _ (λ a b. (kept : Types S) × (a ≡ i32 C ∷ kept) × Reaches (inside t C) arm k [] b)
      (λ j a b. WhereCut (behind other j) (Typed (inside t C) arm [] (optional t) × (kept : Types S) × (a ≡ i32 C ∷ kept) × Reaches (inside t C) other j [] b) (λ l. Typed (inside t C) arm [] (optional t) × Typed (inside t C) other [] (optional t) × (kept : Types S) × (a ≡ i32 C ∷ kept) × Reaches C rest l (upon (optional t) kept) b))
      (exact_arm C s _ (Reaches (inside t C) arm k) (reach_law (inside t C) arm k fresh))
      (λ j. by_cut s (behind other j) _ _ (λ a b. Typed (inside t C) arm [] (optional t) × (kept : Types S) × (a ≡ i32 C ∷ kept) × Reaches (inside t C) other j [] b)
      (λ l a b. Typed (inside t C) arm [] (optional t) × Typed (inside t C) other [] (optional t) × (kept : Types S) × (a ≡ i32 C ∷ kept) × Reaches C rest l (upon (optional t) kept) b)
      (exact_iff s _ (λ a b. Typed (inside t C) arm [] (optional t) × ((kept : Types S) × (a ≡ i32 C ∷ kept) × Reaches (inside t C) other j [] b)) _
      (λ a b. ((λ i. (i.0, i.1.0, i.1.1, i.1.2)), (λ i. (i.0, (i.1, i.2, i.3)))))
      (exact_when s (closes same t (pass same (inside t C) arm fresh)) (Typed (inside t C) arm [] (optional t)) _ _
      (closes_iff same eq C.public t (Typed (inside t C) arm) _ (pass_law same eq (inside t C) arm fresh))
      (exact_arm C s _ (Reaches (inside t C) other j) (reach_law (inside t C) other j fresh))))
      (λ l. exact_iff s _ (λ a b. Typed (inside t C) arm [] (optional t) × Typed (inside t C) other [] (optional t) × ((kept : Types S) × (a ≡ i32 C ∷ kept) × Reaches C rest l (upon (optional t) kept) b)) _
      (λ a b. ((λ i. (i.0, i.1, i.2.0, i.2.1, i.2.2)), (λ i. (i.0, i.1, (i.2, i.3, i.4)))))
      (exact_when_both s (closes same t (pass same (inside t C) arm fresh)) (closes same t (pass same (inside t C) other fresh)) (Typed (inside t C) arm [] (optional t)) (Typed (inside t C) other [] (optional t)) _ _
      (closes_iff same eq C.public t (Typed (inside t C) arm) _ (pass_law same eq (inside t C) arm fresh)) (closes_iff same eq C.public t (Typed (inside t C) other) _ (pass_law same eq (inside t C) other fresh))
      (exact_condition same eq C (optional t) s (pass_at same C rest l) (Reaches C rest l) (reach_law C rest l)))))
