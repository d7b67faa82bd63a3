-- A block is open before each opcode of a body.
use Rattle.std.proofs.Common.{◌≡◌, ℕ, zero, suc, ◌<◌, Bool, true, false, List, [], ◌∷◌, ◌++◌, Option, Some, None, take, length, refl, sym, ◌∙◌, ap, subst, arith}
use Rattle.std.proofs.lemmas.List.{length-append}
use Rattle.std.proofs.Math.Seq.{take-append_seam}
use Rattle.ctw_ops.specs.Types.{ValueType}
use Rattle.ctw_ops.specs.Code.{Leaf, Code, Stop, Then, Block, Loop, If, IfElse, OfBlock, OfLoop, OfIf, Closer, ByEnd, ByElse, Op, Plain, Opens, Closes, onto, opcodes}
use Rattle.ctw_ops.specs.Typing.{Context, Typed, optional}
use Rattle.ctw_ops.specs.Segments.{and_then}
use Rattle.ctw_ops.specs.Cut.{OpenBlock, open_block, open_behind_all, closing, behind, cut}
use Rattle.ctw_ops.proofs.Cut.{opcodes_of_cut_in}
use Rattle.ctw_stack.specs.Steps.{IsExactTest}
use Rattle.ctw_stack.specs.Pass.{outermost, run}
use Rattle.ctw_stack.proofs.BodyLaws.{run_append, run_law, cut_typed}

module _ {S : Type 0} where
  -- a sequence leaves open what was open
  open_onto : (code : Code S) (ops : List (Op S)) (b : OpenBlock S) (outer : List (OpenBlock S)) → open_behind_all (onto code ops) (b ∷ outer) ≡ open_behind_all ops (b ∷ outer)
  open_onto Stop ops b outer = refl
  open_onto (Then i rest) ops b outer = open_onto rest ops b outer
  open_onto (Block t body rest) ops b outer = open_onto body (Closes ByEnd ∷ onto rest ops) _ (b ∷ outer) ∙ open_onto rest ops b outer
  open_onto (Loop t body rest) ops b outer = open_onto body (Closes ByEnd ∷ onto rest ops) _ (b ∷ outer) ∙ open_onto rest ops b outer
  open_onto (If t arm rest) ops b outer = open_onto arm (Closes ByEnd ∷ onto rest ops) _ (b ∷ outer) ∙ open_onto rest ops b outer
  open_onto (IfElse t arm other rest) ops b outer = open_onto arm _ _ (b ∷ outer) ∙ open_onto other (Closes ByEnd ∷ onto rest ops) _ (b ∷ outer) ∙ open_onto rest ops b outer

  -- of a sequence and its closer with others behind them k opcodes pass the closer, and then so many others; `onto` puts the sequence in front
  abbrev IsPassedIn : (List (Op S) → List (Op S)) → ℕ → Closer → List (Op S) → Option ℕ → Type 0
  IsPassedIn onto_code k c ops None = Unit {0}
  IsPassedIn onto_code k c ops (Some j) = take k (onto_code (Closes c ∷ ops)) ≡ onto_code (Closes c ∷ take j ops)

  abbrev IsPassed : Code S → Type 0
  IsPassed code = (k : ℕ) (c : Closer) (ops : List (Op S)) → IsPassedIn (onto code) k c ops (behind code k)

  -- a block, of which `front` puts all up to its last arm in front
  passed_block : (front : List (Op S) → List (Op S)) (n k : ℕ) → ((xs : List (Op S)) → take n (front xs) ≡ front (take k xs)) → (body rest : Code S) → IsPassed body → IsPassed rest → (c : Closer) (ops : List (Op S))
      → IsPassedIn (λ z. front (onto body (Closes ByEnd ∷ onto rest z))) n c ops (and_then (behind body k) (behind rest))
  passed_block front n k f body rest hb hr c ops = by (behind body k) (hb k ByEnd (onto rest (Closes c ∷ ops)))
    where
      second : (j : ℕ) → take k (onto body (Closes ByEnd ∷ onto rest (Closes c ∷ ops))) ≡ onto body (Closes ByEnd ∷ take j (onto rest (Closes c ∷ ops)))
          → (r : Option ℕ) → IsPassedIn (onto rest) j c ops r → IsPassedIn (λ z. front (onto body (Closes ByEnd ∷ onto rest z))) n c ops r
      second j h None g = tt
      second j h (Some i) g = f (onto body (Closes ByEnd ∷ onto rest (Closes c ∷ ops))) ∙ ap front h ∙ ap (λ z. front (onto body (Closes ByEnd ∷ z))) g

      by : (r : Option ℕ) → IsPassedIn (onto body) k ByEnd (onto rest (Closes c ∷ ops)) r → IsPassedIn (λ z. front (onto body (Closes ByEnd ∷ onto rest z))) n c ops (and_then r (behind rest))
      by None h = tt
      by (Some j) h = second j h (behind rest j) (hr j c ops)

  passed_arms : (t : Option (ValueType S)) (arm other rest : Code S) → IsPassed arm → IsPassed other → IsPassed rest → (k : ℕ) (c : Closer) (ops : List (Op S)) → IsPassedIn (onto (IfElse t arm other rest)) (suc k) c ops (behind (IfElse t arm other rest) (suc k))
  passed_arms t arm other rest ha ho hr k c ops = by (behind arm k) (λ xs. ha k ByElse xs)
    where
      by : (r : Option ℕ) → ((xs : List (Op S)) → IsPassedIn (onto arm) k ByElse xs r) → IsPassedIn (onto (IfElse t arm other rest)) (suc k) c ops (and_then r (λ j. and_then (behind other j) (behind rest)))
      by None h = tt
      by (Some j) h = passed_block (λ z. Opens OfIf t ∷ onto arm (Closes ByElse ∷ z)) (suc k) j (λ xs. ap (λ z. Opens OfIf t ∷ z) (h xs)) other rest ho hr c ops

  passed_leaf : (i : Leaf S) (rest : Code S) (k : ℕ) (c : Closer) (ops : List (Op S)) (r : Option ℕ) → IsPassedIn (onto rest) k c ops r → IsPassedIn (onto (Then i rest)) (suc k) c ops r
  passed_leaf i rest k c ops None h = tt
  passed_leaf i rest k c ops (Some j) h = ap (λ z. Plain i ∷ z) h

  passed : (code : Code S) → IsPassed code
  passed code zero c ops = tt
  passed Stop (suc k) c ops = refl
  passed (Then i rest) (suc k) c ops = passed_leaf i rest k c ops (behind rest k) (passed rest k c ops)
  passed (Block t body rest) (suc k) c ops = passed_block (λ z. Opens OfBlock t ∷ z) (suc k) k (λ xs. refl) body rest (passed body) (passed rest) c ops
  passed (Loop t body rest) (suc k) c ops = passed_block (λ z. Opens OfLoop t ∷ z) (suc k) k (λ xs. refl) body rest (passed body) (passed rest) c ops
  passed (If t arm rest) (suc k) c ops = passed_block (λ z. Opens OfIf t ∷ z) (suc k) k (λ xs. refl) arm rest (passed arm) (passed rest) c ops
  passed (IfElse t arm other rest) (suc k) c ops = passed_arms t arm other rest (passed arm) (passed other) (passed rest) k c ops

  -- where k opcodes don't pass the closer, the sequence's block is open behind them
  abbrev IsOpenIn : (List (Op S) → List (Op S)) → ℕ → Option ℕ → Type 0
  IsOpenIn onto_code k None = (tail : List (Op S)) (b : OpenBlock S) (outer : List (OpenBlock S)) → length outer < length (open_behind_all (take k (onto_code tail)) (b ∷ outer))
  IsOpenIn onto_code k (Some j) = Unit {0}

  abbrev IsOpen : Code S → Type 0
  IsOpen code = (k : ℕ) → IsOpenIn (onto code) k (behind code k)

  open_inner : (front : List (Op S) → List (Op S)) (n k : ℕ) → ((xs : List (Op S)) → take n (front xs) ≡ front (take k xs)) → (a : OpenBlock S)
      → ((xs : List (Op S)) (b : OpenBlock S) (outer : List (OpenBlock S)) → open_behind_all (front xs) (b ∷ outer) ≡ open_behind_all xs (a ∷ b ∷ outer))
      → (body rest : Code S) → IsOpen body → IsOpen rest → IsOpenIn (λ z. front (onto body (Closes ByEnd ∷ onto rest z))) n (and_then (behind body k) (behind rest))
  open_inner front n k f a o body rest hb hr = by (behind body k) (hb k) (λ xs. passed body k ByEnd xs)
    where
      second : (j : ℕ) → ((xs : List (Op S)) → take k (onto body (Closes ByEnd ∷ xs)) ≡ onto body (Closes ByEnd ∷ take j xs)) → (r : Option ℕ) → IsOpenIn (onto rest) j r → IsOpenIn (λ z. front (onto body (Closes ByEnd ∷ onto rest z))) n r
      second j h None g = λ tail b outer.
          let kept : take n (front (onto body (Closes ByEnd ∷ onto rest tail))) ≡ front (onto body (Closes ByEnd ∷ take j (onto rest tail))) = f (onto body (Closes ByEnd ∷ onto rest tail)) ∙ ap front (h (onto rest tail)) in
          let same : open_behind_all (take n (front (onto body (Closes ByEnd ∷ onto rest tail)))) (b ∷ outer) ≡ open_behind_all (take j (onto rest tail)) (b ∷ outer) =
          ap (λ z. open_behind_all z (b ∷ outer)) kept ∙ o (onto body (Closes ByEnd ∷ take j (onto rest tail))) b outer ∙ open_onto body (Closes ByEnd ∷ take j (onto rest tail)) a (b ∷ outer) in
          subst (λ z. length outer < length z) (sym same) (g tail b outer)
      second j h (Some i) g = tt

      by : (r : Option ℕ) → IsOpenIn (onto body) k r → ((xs : List (Op S)) → IsPassedIn (onto body) k ByEnd xs r) → IsOpenIn (λ z. front (onto body (Closes ByEnd ∷ onto rest z))) n (and_then r (behind rest))
      by None g h = λ tail b outer.
          let same : open_behind_all (take n (front (onto body (Closes ByEnd ∷ onto rest tail)))) (b ∷ outer) ≡ open_behind_all (take k (onto body (Closes ByEnd ∷ onto rest tail))) (a ∷ b ∷ outer) =
          ap (λ z. open_behind_all z (b ∷ outer)) (f (onto body (Closes ByEnd ∷ onto rest tail))) ∙ o (take k (onto body (Closes ByEnd ∷ onto rest tail))) b outer in
          let more : suc (length outer) < length (open_behind_all (take k (onto body (Closes ByEnd ∷ onto rest tail))) (a ∷ b ∷ outer)) = g (Closes ByEnd ∷ onto rest tail) a (b ∷ outer) in
          subst (λ z. length outer < length z) (sym same) (omega (arith, more))
      by (Some j) g h = second j h (behind rest j) (hr j)

  open_arms : (t : Option (ValueType S)) (arm other rest : Code S) → IsOpen arm → IsOpen other → IsOpen rest → (k : ℕ) → IsOpenIn (onto (IfElse t arm other rest)) (suc k) (behind (IfElse t arm other rest) (suc k))
  open_arms t arm other rest ha ho hr k = by (behind arm k) (ha k) (λ xs. passed arm k ByElse xs)
    where
      by : (r : Option ℕ) → IsOpenIn (onto arm) k r → ((xs : List (Op S)) → IsPassedIn (onto arm) k ByElse xs r) → IsOpenIn (onto (IfElse t arm other rest)) (suc k) (and_then r (λ j. and_then (behind other j) (behind rest)))
      by None g h = λ tail b outer.
          let more : suc (length outer) < length (open_behind_all (take k (onto arm (Closes ByElse ∷ onto other (Closes ByEnd ∷ onto rest tail)))) (open_block true t ∷ b ∷ outer)) = g (Closes ByElse ∷ onto other (Closes ByEnd ∷ onto rest tail)) (open_block true t) (b ∷ outer) in
          omega (arith, more)
      by (Some j) g h =
          open_inner (λ z. Opens OfIf t ∷ onto arm (Closes ByElse ∷ z)) (suc k) j (λ xs. ap (λ z. Opens OfIf t ∷ z) (h xs)) (open_block false t)
          (λ xs b outer. open_onto arm (Closes ByElse ∷ xs) (open_block true t) (b ∷ outer)) other rest ho hr

  open_leaf : (i : Leaf S) (rest : Code S) (k : ℕ) (r : Option ℕ) → IsOpenIn (onto rest) k r → IsOpenIn (onto (Then i rest)) (suc k) r
  open_leaf i rest k None h = h
  open_leaf i rest k (Some j) h = tt

  still_open : (code : Code S) → IsOpen code
  still_open code zero = λ tail b outer. omega arith
  still_open Stop (suc k) = tt
  still_open (Then i rest) (suc k) = open_leaf i rest k (behind rest k) (still_open rest k)
  still_open (Block t body rest) (suc k) = open_inner (λ z. Opens OfBlock t ∷ z) (suc k) k (λ xs. refl) (open_block false t) (λ xs b outer. refl) body rest (still_open body) (still_open rest)
  still_open (Loop t body rest) (suc k) = open_inner (λ z. Opens OfLoop t ∷ z) (suc k) k (λ xs. refl) (open_block false t) (λ xs b outer. refl) body rest (still_open body) (still_open rest)
  still_open (If t arm rest) (suc k) = open_inner (λ z. Opens OfIf t ∷ z) (suc k) k (λ xs. refl) (open_block true t) (λ xs b outer. refl) arm rest (still_open arm) (still_open rest)
  still_open (IfElse t arm other rest) (suc k) = open_arms t arm other rest (still_open arm) (still_open other) (still_open rest) k

  -- the body's block is open before each of its opcodes
  pub body_open : (code : Code S) (before rest : List (Op S)) (op : Op S) (b : OpenBlock S) → opcodes code ≡ before ++ op ∷ rest → 0 < length (open_behind_all before (b ∷ []))
  body_open code before rest op b e = by (behind code (length before)) (still_open code (length before)) (passed code (length before) ByEnd [])
    where
      kept : take (length before) (opcodes code) ≡ before
      kept = ap (take (length before)) e ∙ take-append_seam before (op ∷ rest)

      none : (j : ℕ) → take {A = Op S} j [] ≡ []
      none zero = refl
      none (suc j) = refl

      by : (r : Option ℕ) → IsOpenIn (onto code) (length before) r → IsPassedIn (onto code) (length before) ByEnd [] r → 0 < length (open_behind_all before (b ∷ []))
      by None h p = subst (λ z. 0 < length (open_behind_all z (b ∷ []))) kept (h (Closes ByEnd ∷ []) b [])
      by (Some j) h p =
          let whole : before ≡ opcodes code = sym kept ∙ p ∙ ap (λ z. onto code (Closes ByEnd ∷ z)) (none j) in
          absurd (omega (arith, ap length (whole ∙ e), length-append before (op ∷ rest)))

module _ {S : Type 0} (same : S → S → Bool) (eq : IsExactTest same) (C : Context S) (own : C.labels ≡ C.result ∷ []) where
  no_more : (k : List (OpenBlock S)) → 0 < length k → run same C (closing k) [] ≡ Some [] → ⊥
  no_more [] s e = absurd (omega (arith, s))
  no_more (b ∷ k) s e = absurd cc

  -- so the pass has a level before each opcode
  pub level_open : (code : Code S) (before rest : List (Op S)) (op : Op S) → opcodes code ≡ before ++ op ∷ rest → run same C before (outermost C) ≡ Some [] → ⊥
  level_open code before rest op e r =
      let k : ℕ = length before in
      let b : OpenBlock S = open_block false C.result in
      let kept : take k (opcodes code) ≡ before = ap (take k) e ∙ take-append_seam before (op ∷ rest) in
      let typed : Typed C (cut code k) [] (optional C.result) = (cut_typed same eq C own code k).0 ([], ap (λ z. run same C z (outermost C)) kept ∙ r) in
      let ends : run same C (opcodes (cut code k)) (outermost C) ≡ Some [] = (run_law same eq C own (cut code k)).1 typed in
      let parts : opcodes (cut code k) ≡ before ++ closing (open_behind_all before (b ∷ [])) = sym (opcodes_of_cut_in C.result code k) ∙ ap (λ z. z ++ closing (open_behind_all z (b ∷ []))) kept in
      let rest_ends : run same C (closing (open_behind_all before (b ∷ []))) [] ≡ Some [] =
      sym (ap (λ z. and_then z (run same C (closing (open_behind_all before (b ∷ []))))) r) ∙ sym (run_append same C before (closing (open_behind_all before (b ∷ []))) (outermost C)) ∙ ap (λ z. run same C z (outermost C)) (sym parts) ∙ ends in
      no_more (open_behind_all before (b ∷ [])) (body_open code before rest op b e) rest_ends
