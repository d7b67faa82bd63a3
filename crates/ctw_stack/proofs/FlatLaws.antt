-- The pass over opcodes does what the pass over the tree does.
use Rattle.std.proofs.Common.{◌≡◌, Bool, true, false, not, List, [], ◌∷◌, Option, Some, None, refl, sym, ◌∙◌, ap}
use Rattle.std.specs.Prelude.{◌||◌, is_some, is_none}
use Rattle.ctw_ops.specs.Types.{ValueType}
use Rattle.ctw_ops.specs.Code.{Code, Stop, Then, Block, Loop, If, IfElse, ByEnd, ByElse, Op, Closes, onto, opcodes}
use Rattle.ctw_ops.specs.Typing.{Context, optional, i32}
use Rattle.ctw_ops.specs.Segments.{and_then}
use Rattle.ctw_stack.specs.Operands.{Operands, fresh}
use Rattle.ctw_stack.specs.Steps.{when, pushes, expect, step}
use Rattle.ctw_stack.specs.Pass.{Level, level, now_with, within, outermost, given, ends_with, run}
use Rattle.ctw_stack.proofs.TreePass.{closes, pass}

pub and_then_assoc : {A B D : Type 0} (o : Option A) (f : A → Option B) (g : B → Option D) → and_then (and_then o f) g ≡ and_then o (λ x. and_then (f x) g)
and_then_assoc None f g = refl
and_then_assoc (Some x) f g = refl

pub and_then_same : {A B : Type 0} (o : Option A) (f g : A → Option B) → ((x : A) → f x ≡ g x) → and_then o f ≡ and_then o g
and_then_same None f g h = refl
and_then_same (Some x) f g h = h x

pub and_then_when : {A B : Type 0} (c : Bool) (o : Option A) (g : A → Option B) → and_then (when c o) g ≡ when c (and_then o g)
and_then_when true o g = refl
and_then_when false o g = refl

pub when_inside : {A B : Type 0} (c : Bool) (o : Option A) (g : A → Option B) → and_then o (λ x. when c (g x)) ≡ when c (and_then o g)
when_inside true o g = refl
when_inside false None g = refl
when_inside false (Some x) g = refl

module _ {S : Type 0} (same : S → S → Bool) where
  -- a block's end, as a test
  end_test : {A B : Type 0} (q : Option (Operands S)) (x : A) (k : A → Option B) → and_then (and_then q (λ m. Some x)) k ≡ when (is_some q) (k x)
  end_test None x k = refl
  end_test (Some m) x k = refl

  pub end_law : {A B : Type 0} (c : Bool) (t : Option (ValueType S)) (r : Option (Operands S)) (x : A) (k : A → Option B) →
      and_then r (λ s. and_then (when c (and_then (ends_with same t s) (λ m. Some x))) k) ≡ when c (when (closes same t r) (k x))
  end_law true t None x k = refl
  end_law false t None x k = refl
  end_law true t (Some s) x k = end_test (ends_with same t s) x k
  end_law false t (Some s) x k = refl

  -- what the law says of one sequence
  abbrev IsFlat : Context S → Code S → Type 0
  IsFlat C code = (ops : List (Op S)) (v : Level S) (vs : List (Level S)) → run same C (onto code ops) (v ∷ vs) ≡ and_then (pass same (within C (v ∷ vs)) code v.block.operands) (λ s. run same C ops (now_with v s ∷ vs))

  -- from inside a block to the end of what stands behind it; the first test is that at the block's end
  block_law : (C : Context S) (body rest : Code S) → IsFlat C body → IsFlat C rest → (ops : List (Op S)) (arm loops : Bool) (t : Option (ValueType S)) (v : Level S) (vs : List (Level S)) →
      run same C (onto body (Closes ByEnd ∷ onto rest ops)) (level arm loops t ∷ v ∷ vs) ≡
      when (not arm || is_none t) (when (closes same t (pass same (within C (level arm loops t ∷ v ∷ vs)) body fresh)) (and_then (pass same (within C (v ∷ vs)) rest (pushes (optional t) v.block.operands)) (λ s. run same C ops (now_with v s ∷ vs))))
  block_law C body rest hb hr ops arm loops t v vs =
      let new : Level S = level arm loops t in
      let r : Option (Operands S) = pass same (within C (new ∷ v ∷ vs)) body fresh in
      hb (Closes ByEnd ∷ onto rest ops) new (v ∷ vs)
      ∙ end_law (not arm || is_none t) t r (given t (v ∷ vs)) (run same C (onto rest ops))
      ∙ ap (λ z. when (not arm || is_none t) (when (closes same t r) z)) (hr ops (now_with v (pushes (optional t) v.block.operands)) vs)

  arms_law : (C : Context S) (arm other rest : Code S) → IsFlat C arm → IsFlat C other → IsFlat C rest → (ops : List (Op S)) (t : Option (ValueType S)) (v : Level S) (vs : List (Level S)) →
      run same C (onto arm (Closes ByElse ∷ onto other (Closes ByEnd ∷ onto rest ops))) (level true false t ∷ v ∷ vs) ≡
      when (closes same t (pass same (within C (level true false t ∷ v ∷ vs)) arm fresh)) (when (closes same t (pass same (within C (level false false t ∷ v ∷ vs)) other fresh)) (and_then (pass same (within C (v ∷ vs)) rest (pushes (optional t) v.block.operands)) (λ s. run same C ops (now_with v s ∷ vs))))
  arms_law C arm other rest ha ho hr ops t v vs =
      let new : Level S = level true false t in
      let r : Option (Operands S) = pass same (within C (new ∷ v ∷ vs)) arm fresh in
      let after : List (Op S) = onto other (Closes ByEnd ∷ onto rest ops) in
      ha (Closes ByElse ∷ after) new (v ∷ vs)
      ∙ end_law true t r (level false false t ∷ v ∷ vs) (run same C after)
      ∙ ap (when (closes same t r)) (block_law C other rest ho hr ops false false t v vs)

  pub flat_law : (C : Context S) (code : Code S) → IsFlat C code
  flat_law C Stop ops v vs = refl
  flat_law C (Then i rest) ops v vs =
      let s : Option (Operands S) = step same (within C (v ∷ vs)) i v.block.operands in
      and_then_assoc s (λ o. Some (now_with v o ∷ vs)) (run same C (onto rest ops))
      ∙ and_then_same s (λ o. run same C (onto rest ops) (now_with v o ∷ vs)) (λ o. and_then (pass same (within C (v ∷ vs)) rest o) (λ m. run same C ops (now_with v m ∷ vs))) (λ o. flat_law C rest ops (now_with v o) vs)
      ∙ sym (and_then_assoc s (pass same (within C (v ∷ vs)) rest) (λ m. run same C ops (now_with v m ∷ vs)))
  flat_law C (Block t body rest) ops v vs =
      block_law C body rest (flat_law C body) (flat_law C rest) ops false false t v vs
      ∙ sym (and_then_when (closes same t (pass same (within C (level false false t ∷ v ∷ vs)) body fresh)) (pass same (within C (v ∷ vs)) rest (pushes (optional t) v.block.operands)) (λ m. run same C ops (now_with v m ∷ vs)))
  flat_law C (Loop t body rest) ops v vs =
      block_law C body rest (flat_law C body) (flat_law C rest) ops false true t v vs
      ∙ sym (and_then_when (closes same t (pass same (within C (level false true t ∷ v ∷ vs)) body fresh)) (pass same (within C (v ∷ vs)) rest (pushes (optional t) v.block.operands)) (λ m. run same C ops (now_with v m ∷ vs)))
  flat_law C (If t arm rest) ops v vs =
      let e : Option (Operands S) = expect same (i32 C) v.block.operands in
      let c : Bool = is_none t in
      let d : Bool = closes same t (pass same (within C (level true false t ∷ v ∷ vs)) arm fresh) in
      let g : Operands S → Option (Operands S) = λ m. pass same (within C (v ∷ vs)) rest (pushes (optional t) m) in
      let k : Operands S → Option (List (Level S)) = λ m. run same C ops (now_with v m ∷ vs) in
      and_then_assoc e (λ s. Some (level true false t ∷ now_with v s ∷ vs)) (run same C (onto arm (Closes ByEnd ∷ onto rest ops)))
      ∙ and_then_same e _ (λ s. when c (when d (and_then (g s) k))) (λ s. block_law C arm rest (flat_law C arm) (flat_law C rest) ops true false t (now_with v s) vs)
      ∙ when_inside c e (λ s. when d (and_then (g s) k))
      ∙ ap (when c) (when_inside d e (λ s. and_then (g s) k) ∙ ap (when d) (sym (and_then_assoc e g k)) ∙ sym (and_then_when d (and_then e g) k))
      ∙ sym (and_then_when c (when d (and_then e g)) k)
  flat_law C (IfElse t arm other rest) ops v vs =
      let e : Option (Operands S) = expect same (i32 C) v.block.operands in
      let c : Bool = closes same t (pass same (within C (level true false t ∷ v ∷ vs)) arm fresh) in
      let d : Bool = closes same t (pass same (within C (level false false t ∷ v ∷ vs)) other fresh) in
      let g : Operands S → Option (Operands S) = λ m. pass same (within C (v ∷ vs)) rest (pushes (optional t) m) in
      let k : Operands S → Option (List (Level S)) = λ m. run same C ops (now_with v m ∷ vs) in
      and_then_assoc e (λ s. Some (level true false t ∷ now_with v s ∷ vs)) (run same C (onto arm (Closes ByElse ∷ onto other (Closes ByEnd ∷ onto rest ops))))
      ∙ and_then_same e _ (λ s. when c (when d (and_then (g s) k))) (λ s. arms_law C arm other rest (flat_law C arm) (flat_law C other) (flat_law C rest) ops t (now_with v s) vs)
      ∙ when_inside c e (λ s. when d (and_then (g s) k))
      ∙ ap (when c) (when_inside d e (λ s. and_then (g s) k) ∙ ap (when d) (sym (and_then_assoc e g k)) ∙ sym (and_then_when d (and_then e g) k))
      ∙ sym (and_then_when c (when d (and_then e g)) k)

  -- a body's opcodes
  pub run_body : (C : Context S) (code : Code S) → run same C (opcodes code) (outermost C) ≡ when (closes same C.result (pass same (within C (outermost C)) code fresh)) (Some [])
  run_body C code =
      flat_law C code (Closes ByEnd ∷ []) (level false false C.result) []
      ∙ end_law true C.result (pass same (within C (outermost C)) code fresh) [] (λ z. Some z)
