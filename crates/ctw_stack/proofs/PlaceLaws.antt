-- The innermost operands behind k opcodes of a body stand for just the stacks that typings of the cut body have there.
use Rattle.std.proofs.Common.{◌≡◌, ℕ, zero, suc, Bool, false, true, List, [], ◌∷◌, Option, Some, None, take, refl, sym, ◌∙◌, ap, subst}
use Rattle.std.specs.Prelude.{◌↔◌}
use Rattle.ctw_ops.specs.declared.types.Width.TheVariants.{W32}
use Rattle.ctw_ops.specs.Types.{ValueType, value_type}
use Rattle.ctw_ops.specs.Code.{Code, Stop, Then, Block, Loop, If, IfElse, ByEnd, Op, Closes, onto, opcodes}
use Rattle.ctw_ops.specs.Typing.{Context, Typed, optional, upon}
use Rattle.ctw_ops.specs.Segments.{and_then}
use Rattle.ctw_ops.specs.Cut.{behind, cut}
use Rattle.ctw_ops.specs.CutTyping.{WhereCut, Reaches}
use Rattle.ctw_stack.specs.declared.slot.Slot.{Slot}
use Rattle.ctw_stack.specs.declared.slot.Slot.TheVariants.{Known, Wide, Unknown}
use Rattle.ctw_stack.specs.Operands.{Operands, Fits, Holds, Denotes, fresh}
use Rattle.ctw_stack.specs.Steps.{IsExactTest, when}
use Rattle.ctw_stack.specs.Pass.{Level, level, within, outermost, run}
use Rattle.ctw_stack.specs.Secrets.{HasTagAt, IsTagged, IsTaggedAt}
use Rattle.ctw_stack.proofs.Exact.{Types, Exact}
use Rattle.ctw_stack.proofs.OperandLaws.{inhabits, inhabited}
use Rattle.ctw_stack.proofs.TreePass.{closes, pass}
use Rattle.ctw_stack.proofs.TreePlace.{pass_at}
use Rattle.ctw_stack.proofs.FlatLaws.{run_body}
use Rattle.ctw_stack.proofs.BodyLaws.{none_some, some_same, within_outermost, cut_typed}
use Rattle.ctw_stack.proofs.ReachLaws.{reach_law}
use Rattle.ctw_stack.proofs.AtLaws.{top, IsAt, at_law}

-- a stack that is reached is inside the tree
inside_or : (left : Option ℕ) (f : ℕ → Option ℕ) (A : Type 0) (B : ℕ → Type 0) → ((j : ℕ) → B j → f j ≡ None) → WhereCut left A B → and_then left f ≡ None
inside_or None f A B h w = refl
inside_or (Some j) f A B h w = h j w

reached_inside : {S : Type 0} (C : Context S) (code : Code S) (k : ℕ) (from at : Types S) → Reaches C code k from at → behind code k ≡ None
reached_inside C code zero from at r = refl
reached_inside C Stop (suc k) from at r = absurd r
reached_inside C (Then i rest) (suc k) from at r = reached_inside C rest k r.0 at r.2
reached_inside C (Block t body rest) (suc k) from at r = inside_or (behind body k) (behind rest) _ _ (λ j w. reached_inside C rest j (upon (optional t) from) at w.1) r
reached_inside C (Loop t body rest) (suc k) from at r = inside_or (behind body k) (behind rest) _ _ (λ j w. reached_inside C rest j (upon (optional t) from) at w.1) r
reached_inside C (If t arm rest) (suc k) from at r = inside_or (behind arm k) (behind rest) _ _ (λ j w. reached_inside C rest j (upon (optional t) w.2) at w.4) r
reached_inside C (IfElse t arm other rest) (suc k) from at r =
    inside_or (behind arm k) (λ j. and_then (behind other j) (behind rest)) _ _
    (λ j w. inside_or (behind other j) (behind rest) _ _ (λ i x. reached_inside C rest i (upon (optional t) x.2) at x.4) w) r

module _ {S : Type 0} (same : S → S → Bool) (eq : IsExactTest same) (C : Context S) (own : C.labels ≡ C.result ∷ []) where
  none_left : (c : Bool) (v : Level S) (vs : List (Level S)) {P : Type 0} → when c (Some []) ≡ Some (v ∷ vs) → P
  none_left true v vs e = cc
  none_left false v vs e = none_some e

  end : List (Op S)
  end = Closes ByEnd ∷ []

  last_taken : (j : ℕ) → take (suc j) end ≡ end
  unfolding end
  last_taken zero = refl
  last_taken (suc j) = refl

  -- while a block is open, the pass is inside the tree
  place_is : (code : Code S) (k : ℕ) (v : Level S) (vs : List (Level S)) → run same C (take k (opcodes code)) (outermost C) ≡ Some (v ∷ vs) →
      (left : Option ℕ) → IsAt same (λ D s. pass_at same D code k s) (onto code) k (Closes ByEnd ∷ []) left → pass_at same (within C (outermost C)) code k fresh ≡ Some v.block.operands
  unfolding end
  place_is code k v vs e None h = sym (h C (level false false C.result) []) ∙ ap top e
  place_is code k v vs e (Some j) h =
      none_left (closes same C.result (pass same (within C (outermost C)) code fresh)) v vs
      (sym (run_body same C code) ∙ ap (λ z. run same C z (outermost C)) (sym (h ∙ ap (onto code) (last_taken j))) ∙ e)

  pub place_law : (code : Code S) (k : ℕ) (v : Level S) (vs : List (Level S)) → run same C (take k (opcodes code)) (outermost C) ≡ Some (v ∷ vs) → (types : Types S) → Denotes v.block.operands types ↔ Reaches C code k [] types
  place_law code k v vs e types =
      let D : Context S = within C (outermost C) in
      let at : pass_at same D code k fresh ≡ Some v.block.operands = place_is code k v vs e (behind code k) (at_law same code k (Closes ByEnd ∷ [])) in
      let x : Exact fresh (Some v.block.operands) (Reaches D code k) = subst (λ z. Exact fresh z (Reaches D code k)) at (reach_law same eq D code k fresh) in
      let here : D ≡ C = within_outermost C own in (
        (λ d. let i = (x types).0 d in subst (λ z. Reaches z code k [] types) here (subst (λ z. Reaches D code k z types) i.1 i.2)),
        (λ r. (x types).1 ([], refl, subst (λ z. Reaches z code k [] types) (sym here) r)),
      )

  -- where a stack is reached, the cut body is typed
  pub typed_where_reached : (code : Code S) (k : ℕ) (types : Types S) → Reaches C code k [] types → Typed C (cut code k) [] (optional C.result)
  unfolding end
  typed_where_reached code k types r = by_answer (pass_at same (within C (outermost C)) code k fresh) (reach_law same eq (within C (outermost C)) code k fresh) (at C (level false false C.result) [])
    where
      at : IsAt same (λ E s. pass_at same E code k s) (onto code) k (Closes ByEnd ∷ []) None
      at = subst (λ z. IsAt same (λ E s. pass_at same E code k s) (onto code) k (Closes ByEnd ∷ []) z) (reached_inside C code k [] types r) (at_law same code k (Closes ByEnd ∷ []))

      there : (answer : Option (List (Level S))) (m : Operands S) → top answer ≡ Some m → (levels : List (Level S)) × (answer ≡ Some levels)
      there None m e = none_some e
      there (Some levels) m e = (levels, refl)

      by_answer : (answer : Option (Operands S)) → Exact fresh answer (Reaches (within C (outermost C)) code k) → top (run same C (take k (opcodes code)) (outermost C)) ≡ answer → Typed C (cut code k) [] (optional C.result)
      by_answer None h e = absurd (h [] types refl (subst (λ z. Reaches z code k [] types) (sym (within_outermost C own)) r))
      by_answer (Some m) h e = (cut_typed same eq C own code k).0 (there (run same C (take k (opcodes code)) (outermost C)) m e)

  -- a slot stands for values of a tag alone just where each stack has the tag there, where another tag is to be had
  module _ (l other : S) (differ : other ≡ l → ⊥) where
    tag_of : {t u : ValueType S} → Some t ≡ Some u → u.tag ≡ l → t.tag ≡ l
    tag_of e h = cc

    tagged_head : (x : Slot S) (t : ValueType S) → IsTagged l x → Fits x t → t.tag ≡ l
    tagged_head (Known w a) t h f = sym f.1 ∙ h
    tagged_head (Wide a) t h f = sym f ∙ h
    tagged_head Unknown t h f = absurd h

    head_tagged : (x : Slot S) → ((t : ValueType S) → Fits x t → t.tag ≡ l) → IsTagged l x
    head_tagged (Known w a) h = h (value_type w a) (refl, refl)
    head_tagged (Wide a) h = h (value_type W32 a) refl
    head_tagged Unknown h = differ (h (value_type W32 other) tt)

    tagged_there : (dead : Bool) (xs : List (Slot S)) (n : ℕ) → IsTaggedAt l n xs → (ts : Types S) → Holds dead xs ts → HasTagAt l n ts
    tagged_there dead [] n h ts d = none_some h.1
    tagged_there dead (x ∷ xs) n h [] d = absurd d
    tagged_there dead (x ∷ xs) zero h (t ∷ ts) d = (t, refl, tagged_head x t (subst (IsTagged l) (sym (some_same h.1)) h.2) d.0)
    tagged_there dead (x ∷ xs) (suc n) h (t ∷ ts) d = tagged_there dead xs n h ts d.1

    there_tagged : (dead : Bool) (xs : List (Slot S)) (n : ℕ) → ((ts : Types S) → Holds dead xs ts → HasTagAt l n ts) → IsTaggedAt l n xs
    there_tagged false [] n h = none_some (h [] refl).1
    there_tagged true [] n h = none_some (h [] tt).1
    there_tagged dead (x ∷ xs) zero h = let w = inhabited same eq other dead xs in (x, refl, head_tagged x (λ t f. let i = h (t ∷ w.0) (f, w.1) in tag_of i.1 i.2))
    there_tagged dead (x ∷ xs) (suc n) h = let w = inhabits same eq other x in there_tagged dead xs n (λ ts d. h (w.0 ∷ ts) (w.1, d))

    pub tag_place_law : (code : Code S) (k n : ℕ) (v : Level S) (vs : List (Level S)) → run same C (take k (opcodes code)) (outermost C) ≡ Some (v ∷ vs) →
        IsTaggedAt l n v.block.operands.slots ↔ ((types : Types S) → Reaches C code k [] types → HasTagAt l n types)
    tag_place_law code k n v vs e =
        let x = place_law code k v vs e in (
          (λ h types r. tagged_there v.block.operands.dead v.block.operands.slots n h types ((x types).1 r)),
          (λ h. there_tagged v.block.operands.dead v.block.operands.slots n (λ types d. h types ((x types).0 d))),
        )
