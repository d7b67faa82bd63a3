-- What instructions lead to: one after another, back by one, and only one stack.
use Rattle.std.proofs.Common.{◌≡◌, ℕ, zero, suc, List, [], ◌∷◌, ◌++◌, Option, replicate, refl, sym, ap, ◌∙◌, subst}
use Rattle.ctw_ops.specs.declared.types.Label.{Label}
use Rattle.ctw_ops.specs.declared.types.Label.TheVariants.{Public, Secret}
use Rattle.ctw_ops.specs.Types.{ValueType, FunctionType, VariableType, value_type}
use Rattle.ctw_ops.specs.declared.numeric.NumSig.{NumSig}
use Rattle.ctw_ops.specs.Code.{Leaf, Unreachable, Nop, Br, BrIf, BrTable, Return, Call, CallIndirect, Drop, Select, LocalGet, LocalSet, LocalTee, GlobalGet, GlobalSet, Load, Store, MemorySize, MemoryGrow, Const, Numeric, Classify, Declassify, Code, Stop, Then, Block, Loop, If, IfElse}
use Rattle.ctw_ops.specs.Typing.{Context, Row, Typed, Moves, optional, upon}
use Rattle.ctw_semantics.specs.Values.{i32}
use Rattle.ctw_semantics.specs.Instances.{FunctionInstance, Functions}
use Rattle.ctw_semantics.specs.Places.{behind_first, behind}
use Rattle.ctw_semantics.specs.Sound.{Shape, IndexTypes, context, IndexesLead}
use Rattle.ctw_semantics.proofs.Placed.{behind_next}
use Rattle.ctw_unique.specs.Leading.{GoesOn, Leads}

module _ (C : Context Label) where
  -- one instruction more
  pub leads_then : (n : ℕ) (a b c : Code Label) (from mid to : List (ValueType Label)) → Leads C n a from b mid → Leads C 1 b mid c to → Leads C (suc n) a from c to
  leads_then zero a b c from mid to h i = subst (λ a. Leads C 1 a from c to) (sym h.0) (subst (λ from. Leads C 1 b from c to) (sym h.1) i)
  leads_then (suc n) Stop b c from mid to h i = absurd h
  leads_then (suc n) (Then leaf after) b c from mid to h i = (h.0, h.1, h.2, leads_then n after b c h.1 mid to h.3 i)
  leads_then (suc n) (Block t body after) b c from mid to h i = leads_then n after b c (upon (optional t) from) mid to h i
  leads_then (suc n) (Loop t body after) b c from mid to h i = leads_then n after b c (upon (optional t) from) mid to h i
  leads_then (suc n) (If t arm after) b c from mid to h i = (h.0, h.1, leads_then n after b c (upon (optional t) h.0) mid to h.2 i)
  leads_then (suc n) (IfElse t arm other after) b c from mid to h i = (h.0, h.1, leads_then n after b c (upon (optional t) h.0) mid to h.2 i)

  -- a last instruction, with the stack in front of it
  pub record Last (n : ℕ) (a : Code Label) (from : List (ValueType Label)) (c : Code Label) (to : List (ValueType Label)) : Type 0 where
    pub mid : List (ValueType Label)
    pub front : Leads C n a from (behind n a) mid
    pub last : Leads C 1 (behind n a) mid c to

  last_after : (n : ℕ) (a after : Code Label) (from next : List (ValueType Label)) (c : Code Label) (to : List (ValueType Label)) → behind_first a ≡ after → Last n after next c to → ((b : Code Label) (mid : List (ValueType Label)) → Leads C n after next b mid → Leads C (suc n) a from b mid) → Last (suc n) a from c to
  last_after n a after from next c to e l more =
      let q : behind (suc n) a ≡ behind n after = behind_next n a ∙ ap (behind n) e in
      record {
        mid = l.mid;
        front = subst (λ b. Leads C (suc n) a from b l.mid) (sym q) (more (behind n after) l.mid l.front);
        last = subst (λ b. Leads C 1 b l.mid c to) (sym q) l.last;
      }

  pub leads_last : (n : ℕ) (a c : Code Label) (from to : List (ValueType Label)) → Leads C (suc n) a from c to → Last n a from c to
  leads_last zero a c from to h = record { mid = from; front = (refl, refl); last = h }
  leads_last (suc n) Stop c from to h = absurd h
  leads_last (suc n) (Then leaf after) c from to h = last_after n (Then leaf after) after from h.1 c to refl (leads_last n after c h.1 to h.3) (λ b mid l. (h.0, h.1, h.2, l))
  leads_last (suc n) (Block t body after) c from to h = last_after n (Block t body after) after from (upon (optional t) from) c to refl (leads_last n after c (upon (optional t) from) to h) (λ b mid l. l)
  leads_last (suc n) (Loop t body after) c from to h = last_after n (Loop t body after) after from (upon (optional t) from) c to refl (leads_last n after c (upon (optional t) from) to h) (λ b mid l. l)
  leads_last (suc n) (If t arm after) c from to h = last_after n (If t arm after) after from (upon (optional t) h.0) c to refl (leads_last n after c (upon (optional t) h.0) to h.2) (λ b mid l. (h.0, h.1, l))
  leads_last (suc n) (IfElse t arm other after) c from to h = last_after n (IfElse t arm other after) after from (upon (optional t) h.0) c to refl (leads_last n after c (upon (optional t) h.0) to h.2) (λ b mid l. (h.0, h.1, l))

  -- the rest stands behind so many instructions
  pub leads_behind : (n : ℕ) (a b : Code Label) (from to : List (ValueType Label)) → Leads C n a from b to → b ≡ behind n a
  leads_behind zero a b from to h = sym h.0
  leads_behind (suc n) Stop b from to h = absurd h
  leads_behind (suc n) (Then leaf after) b from to h = leads_behind n after b h.1 to h.3 ∙ sym (behind_next n (Then leaf after))
  leads_behind (suc n) (Block t body after) b from to h = leads_behind n after b (upon (optional t) from) to h ∙ sym (behind_next n (Block t body after))
  leads_behind (suc n) (Loop t body after) b from to h = leads_behind n after b (upon (optional t) from) to h ∙ sym (behind_next n (Loop t body after))
  leads_behind (suc n) (If t arm after) b from to h = leads_behind n after b (upon (optional t) h.0) to h.2 ∙ sym (behind_next n (If t arm after))
  leads_behind (suc n) (IfElse t arm other after) b from to h = leads_behind n after b (upon (optional t) h.0) to h.2 ∙ sym (behind_next n (IfElse t arm other after))

-- ---- one stack

pub upon_same : {A : Type 0} (ts a b : List A) → upon ts a ≡ upon ts b → a ≡ b
upon_same [] a b e = e
upon_same (t ∷ ts) a b e = let q : t ∷ a ≡ t ∷ b = upon_same ts (t ∷ a) (t ∷ b) e in cc

moves_same : (takes gives from a b : List (ValueType Label)) → Moves takes gives from a → Moves takes gives from b → a ≡ b
moves_same takes gives from a b h i =
    let q : h.0 ≡ i.0 = upon_same takes h.0 i.0 (sym h.1 ∙ i.1) in
    h.2 ∙ ap (upon gives) q ∙ sym i.2

module _ (fns : Functions) (shape : Shape) (fn : FunctionInstance) (names others : IndexTypes) (leads : IndexesLead fns shape fn.part names) (also : IndexesLead fns shape fn.part others) (ls : List (Option (ValueType Label))) where
  -- the row of an instruction that goes on gives one stack, by whichever typing
  row_same : (l : Leaf Label) (from a b : List (ValueType Label)) → GoesOn l → Row (context names fn ls) l from a → Row (context others fn ls) l from b → a ≡ b
  row_same Unreachable from a b g h i = absurd g
  row_same Nop from a b g h i = sym h ∙ i
  row_same (Br k) from a b g h i = absurd g
  row_same (BrIf k) from a b g h i =
      let q : h.0 ≡ i.0 = cc in
      moves_same (optional i.0 ++ i32 ∷ []) (optional i.0) from a b (subst (λ t. Moves (optional t ++ i32 ∷ []) (optional t) from a) q h.2) i.2
  row_same (BrTable ks k) from a b g h i = absurd g
  row_same Return from a b g h i = absurd g
  row_same (Call f) from a b g h i =
      let c = leads.functions f h.0 h.1 in
      let d = also.functions f i.0 i.1 in
      let found = c.2 in let founds = d.2 in
      let n : c.0 ≡ d.0 = cc in
      let at = c.3 in let ats = d.3 in
      let callee : c.1 ≡ d.1 = cc in
      let typed = c.4 in let types = d.4 in
      let q : h.0 ≡ i.0 = sym typed ∙ ap (λ (x : FunctionInstance). x.type) callee ∙ types in
      moves_same i.0.params (optional i.0.result) from a b (subst (λ (t : FunctionType Label). Moves t.params (optional t.result) from a) q h.3) i.3
  row_same (CallIndirect y) from a b g h i =
      let e = h.2 in let f = i.2 in
      let q : h.1 ≡ i.1 = cc in
      moves_same (i.1.params ++ i32 ∷ []) (optional i.1.result) from a b (subst (λ (t : FunctionType Label). Moves (t.params ++ i32 ∷ []) (optional t.result) from a) q h.4) i.4
  row_same Drop from a b g h i =
      let e = h.1.1 in let f = h.1.2 in let u = i.1.1 in let v = i.1.2 in cc
  row_same (Select l) from a b g h i =
      let e = h.1.1 in let f = h.1.2 in let u = i.1.1 in let v = i.1.2 in cc
  row_same (LocalGet x) from a b g h i =
      let e = h.1 in let f = i.1 in
      let q : h.0 ≡ i.0 = cc in
      moves_same [] (i.0 ∷ []) from a b (subst (λ t. Moves [] (t ∷ []) from a) q h.2) i.2
  row_same (LocalSet x) from a b g h i =
      let e = h.2.1 in let f = h.2.2 in let u = i.2.1 in let v = i.2.2 in cc
  row_same (LocalTee x) from a b g h i =
      let e = h.2.1 in let f = h.2.2 in let u = i.2.1 in let v = i.2.2 in cc
  row_same (GlobalGet x) from a b g h i =
      let c = leads.globals x h.0 h.1 in
      let d = also.globals x i.0 i.1 in
      let found = c.1 in let founds = d.1 in
      let n : c.0 ≡ d.0 = cc in
      let at = c.2 in let ats = d.2 in
      let q : h.0 ≡ i.0 = cc in
      moves_same [] (i.0.value ∷ []) from a b (subst (λ (t : VariableType Label). Moves [] (t.value ∷ []) from a) q h.2) i.2
  row_same (GlobalSet x) from a b g h i =
      let e = h.3.1 in let f = h.3.2 in let u = i.3.1 in let v = i.3.2 in cc
  row_same (Load w l bytes signed align offset) from a b g h i = moves_same (i32 ∷ []) (value_type w l ∷ []) from a b h.3 i.3
  row_same (Store w l bytes align offset) from a b g h i = moves_same (i32 ∷ value_type w l ∷ []) [] from a b h.3 i.3
  row_same MemorySize from a b g h i = moves_same [] (i32 ∷ []) from a b h.2 i.2
  row_same MemoryGrow from a b g h i = moves_same (i32 ∷ []) (i32 ∷ []) from a b h.2 i.2
  row_same (Const w l bits) from a b g h i = moves_same [] (value_type w l ∷ []) from a b h.1 i.1
  row_same (Numeric op l) from a b g h i =
      let e = h.1 in let f = i.1 in
      let q : h.0 ≡ i.0 = cc in
      moves_same (replicate i.0.arity (value_type i.0.operand l)) (value_type i.0.result l ∷ []) from a b (subst (λ (s : NumSig). Moves (replicate s.arity (value_type s.operand l)) (value_type s.result l ∷ []) from a) q h.3) i.3
  row_same (Classify w) from a b g h i = moves_same (value_type w Public ∷ []) (value_type w Secret ∷ []) from a b h i
  row_same (Declassify w) from a b g h i = moves_same (value_type w Secret ∷ []) (value_type w Public ∷ []) from a b h.1 i.1

  -- from one stack, so many instructions lead to one
  pub leads_same : (n : ℕ) (a b c : Code Label) (from to end : List (ValueType Label)) → Leads (context names fn ls) n a from b to → Leads (context others fn ls) n a from c end → to ≡ end
  leads_same zero a b c from to end h i = sym h.1 ∙ i.1
  leads_same (suc n) Stop b c from to end h i = absurd h
  leads_same (suc n) (Then leaf after) b c from to end h i =
      let q : h.1 ≡ i.1 = row_same leaf from h.1 i.1 h.0 h.2 i.2 in
      leads_same n after b c i.1 to end (subst (λ mid. Leads (context names fn ls) n after mid b to) q h.3) i.3
  leads_same (suc n) (Block t body after) b c from to end h i = leads_same n after b c (upon (optional t) from) to end h i
  leads_same (suc n) (Loop t body after) b c from to end h i = leads_same n after b c (upon (optional t) from) to end h i
  leads_same (suc n) (If t arm after) b c from to end h i =
      let e = h.1 in let f = i.1 in
      let q : h.0 ≡ i.0 = cc in
      leads_same n after b c (upon (optional t) i.0) to end (subst (λ kept. Leads (context names fn ls) n after (upon (optional t) kept) b to) q h.2) i.2
  leads_same (suc n) (IfElse t arm other after) b c from to end h i =
      let e = h.1 in let f = i.1 in
      let q : h.0 ≡ i.0 = cc in
      leads_same n after b c (upon (optional t) i.0) to end (subst (λ kept. Leads (context names fn ls) n after (upon (optional t) kept) b to) q h.2) i.2

  -- what is left of a typed sequence is typed from there on
  pub leads_typed : (n : ℕ) (a b : Code Label) (from mid to : List (ValueType Label)) → Typed (context others fn ls) a from to → Leads (context names fn ls) n a from b mid → Typed (context others fn ls) b mid to
  leads_typed zero a b from mid to t h = subst (λ c. Typed (context others fn ls) c mid to) h.0 (subst (λ from. Typed (context others fn ls) a from to) h.1 t)
  leads_typed (suc n) Stop b from mid to t h = absurd h
  leads_typed (suc n) (Then leaf after) b from mid to t h =
      let q : h.1 ≡ t.0 = row_same leaf from h.1 t.0 h.0 h.2 t.1 in
      leads_typed n after b h.1 mid to (subst (λ from. Typed (context others fn ls) after from to) (sym q) t.2) h.3
  leads_typed (suc n) (Block u body after) b from mid to t h = leads_typed n after b (upon (optional u) from) mid to t.1 h
  leads_typed (suc n) (Loop u body after) b from mid to t h = leads_typed n after b (upon (optional u) from) mid to t.1 h
  leads_typed (suc n) (If u arm after) b from mid to t h =
      let e = h.1 in let f = t.3 in
      let q : h.0 ≡ t.2 = cc in
      leads_typed n after b (upon (optional u) h.0) mid to (subst (λ kept. Typed (context others fn ls) after (upon (optional u) kept) to) (sym q) t.4) h.2
  leads_typed (suc n) (IfElse u arm other after) b from mid to t h =
      let e = h.1 in let f = t.3 in
      let q : h.0 ≡ t.2 = cc in
      leads_typed n after b (upon (optional u) h.0) mid to (subst (λ kept. Typed (context others fn ls) after (upon (optional u) kept) to) (sym q) t.4) h.2

  -- what the instructions lead to by one typing of their sequence, they lead to by another
  pub leads_also : (n : ℕ) (a b : Code Label) (from mid to : List (ValueType Label)) → Typed (context others fn ls) a from to → Leads (context names fn ls) n a from b mid → Leads (context others fn ls) n a from b mid
  leads_also zero a b from mid to t h = h
  leads_also (suc n) Stop b from mid to t h = absurd h
  leads_also (suc n) (Then leaf after) b from mid to t h =
      let q : h.1 ≡ t.0 = row_same leaf from h.1 t.0 h.0 h.2 t.1 in
      (h.0, t.0, t.1, leads_also n after b t.0 mid to t.2 (subst (λ from. Leads (context names fn ls) n after from b mid) q h.3))
  leads_also (suc n) (Block u body after) b from mid to t h = leads_also n after b (upon (optional u) from) mid to t.1 h
  leads_also (suc n) (Loop u body after) b from mid to t h = leads_also n after b (upon (optional u) from) mid to t.1 h
  leads_also (suc n) (If u arm after) b from mid to t h =
      let e = h.1 in let f = t.3 in
      let q : h.0 ≡ t.2 = cc in
      (h.0, h.1, leads_also n after b (upon (optional u) h.0) mid to (subst (λ kept. Typed (context others fn ls) after (upon (optional u) kept) to) (sym q) t.4) h.2)
  leads_also (suc n) (IfElse u arm other after) b from mid to t h =
      let e = h.1 in let f = t.3 in
      let q : h.0 ≡ t.2 = cc in
      (h.0, h.1, leads_also n after b (upon (optional u) h.0) mid to (subst (λ kept. Typed (context others fn ls) after (upon (optional u) kept) to) (sym q) t.4) h.2)
