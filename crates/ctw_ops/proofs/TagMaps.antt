-- Code under a function on tags and an action on leaves: its opcodes, its indirect calls and its typings.
use Rattle.std.proofs.Common.{◌≡◌, ℕ, List, [], ◌∷◌, ◌++◌, map, Option, Some, None, refl, ap, ap₂, sym, ◌∙◌, subst}
use Rattle.std.proofs.lemmas.List.{map-append}
use Rattle.std.specs.Prelude.{flat_map, option_map}
use Rattle.ctw_ops.specs.declared.types.Width.TheVariants.{W32}
use Rattle.ctw_ops.specs.Types.{ValueType, value_type}
use Rattle.ctw_ops.specs.Typing.{Context, optional, inside, upon, Row, Typed}
use Rattle.ctw_ops.proofs.Lists.{map-optional}
use Rattle.ctw_ops.specs.Code.{Leaf, CallIndirect, Code, Stop, Then, Block, Loop, If, IfElse, Op, Plain, Opens, Closes, OfBlock, OfLoop, OfIf, ByEnd, ByElse, onto, opcodes}
use Rattle.ctw_ops.specs.IndirectCalls.{call_of, indirect_calls}
use Rattle.ctw_ops.specs.TagMaps.{in_front_of, type_to, code_to, op_to}

-- the indirect calls of leaves
abbrev pub calls_of : {S : Type 0} → List (Leaf S) → List ℕ
calls_of [] = []
calls_of (leaf ∷ leaves) = call_of leaf (calls_of leaves)

call_before : {S : Type 0} (leaf : Leaf S) (xs ys : List ℕ) → call_of leaf (xs ++ ys) ≡ call_of leaf xs ++ ys
call_before (CallIndirect index) xs ys = refl
call_before leaf xs ys = refl

module _ {S T : Type 0} (f : S → T) (act : Leaf S → List (Leaf T)) where
  -- leaves in front of a sequence are opcodes in front of its own
  pub front_onto : (leaves : List (Leaf T)) (rest : Code T) (ops : List (Op T)) → onto (in_front_of leaves rest) ops ≡ map Plain leaves ++ onto rest ops
  front_onto [] rest ops = refl
  front_onto (leaf ∷ leaves) rest ops = ap (λ (l : List (Op T)). Plain leaf ∷ l) (front_onto leaves rest ops)

  pub code_onto : (c : Code S) (before : List (Op S)) (ops : List (Op T)) → flat_map (op_to f act) before ≡ ops → onto (code_to f act c) ops ≡ flat_map (op_to f act) (onto c before)
  code_onto Stop before ops e = sym e
  code_onto (Then leaf rest) before ops e = front_onto (act leaf) (code_to f act rest) ops ∙ ap (λ (l : List (Op T)). map Plain (act leaf) ++ l) (code_onto rest before ops e)
  code_onto (Block t body rest) before ops e =
      ap (λ (l : List (Op T)). Opens OfBlock (option_map (type_to f) t) ∷ l)
      (code_onto body (Closes ByEnd ∷ onto rest before) (Closes ByEnd ∷ onto (code_to f act rest) ops) (ap (λ (l : List (Op T)). Closes ByEnd ∷ l) (sym (code_onto rest before ops e))))
  code_onto (Loop t body rest) before ops e =
      ap (λ (l : List (Op T)). Opens OfLoop (option_map (type_to f) t) ∷ l)
      (code_onto body (Closes ByEnd ∷ onto rest before) (Closes ByEnd ∷ onto (code_to f act rest) ops) (ap (λ (l : List (Op T)). Closes ByEnd ∷ l) (sym (code_onto rest before ops e))))
  code_onto (If t arm rest) before ops e =
      ap (λ (l : List (Op T)). Opens OfIf (option_map (type_to f) t) ∷ l)
      (code_onto arm (Closes ByEnd ∷ onto rest before) (Closes ByEnd ∷ onto (code_to f act rest) ops) (ap (λ (l : List (Op T)). Closes ByEnd ∷ l) (sym (code_onto rest before ops e))))
  code_onto (IfElse t arm other rest) before ops e =
      let behind = ap (λ (l : List (Op T)). Closes ByEnd ∷ l) (sym (code_onto rest before ops e)) in
      let second = ap (λ (l : List (Op T)). Closes ByElse ∷ l) (sym (code_onto other (Closes ByEnd ∷ onto rest before) (Closes ByEnd ∷ onto (code_to f act rest) ops) behind)) in
      ap (λ (l : List (Op T)). Opens OfIf (option_map (type_to f) t) ∷ l)
      (code_onto arm (Closes ByElse ∷ onto other (Closes ByEnd ∷ onto rest before)) (Closes ByElse ∷ onto (code_to f act other) (Closes ByEnd ∷ onto (code_to f act rest) ops)) second)

  -- the opcodes of the code are those that its opcodes become
  pub opcodes_to : (c : Code S) → opcodes (code_to f act c) ≡ flat_map (op_to f act) (opcodes c)
  opcodes_to c = code_onto c (Closes ByEnd ∷ []) (Closes ByEnd ∷ []) refl

  -- ---- indirect calls

  -- the indirect calls of leaves in front of a sequence come before its own
  pub front_calls : (leaves : List (Leaf T)) (rest : Code T) → indirect_calls (in_front_of leaves rest) ≡ calls_of leaves ++ indirect_calls rest
  front_calls [] rest = refl
  front_calls (leaf ∷ leaves) rest = ap (call_of leaf) (front_calls leaves rest) ∙ call_before leaf (calls_of leaves) (indirect_calls rest)

  -- where an action sends the calls of each leaf to others, by g, it does so with those of code
  module _ (g : ℕ → ℕ) (each : (leaf : Leaf S) → calls_of (act leaf) ≡ map g (call_of leaf [])) where
    both_calls : (xs ys : List ℕ) (us vs : List ℕ) → us ≡ map g xs → vs ≡ map g ys → us ++ vs ≡ map g (xs ++ ys)
    both_calls xs ys us vs e f = ap₂ (λ (l m : List ℕ). l ++ m) e f ∙ sym (map-append g xs ys)

    pub calls_to : (c : Code S) → indirect_calls (code_to f act c) ≡ map g (indirect_calls c)
    calls_to Stop = refl
    calls_to (Then leaf rest) =
        front_calls (act leaf) (code_to f act rest) ∙ both_calls (call_of leaf []) (indirect_calls rest) _ _ (each leaf) (calls_to rest)
        ∙ ap (map g) (sym (call_before leaf [] (indirect_calls rest)))
    calls_to (Block t body rest) = both_calls (indirect_calls body) (indirect_calls rest) _ _ (calls_to body) (calls_to rest)
    calls_to (Loop t body rest) = both_calls (indirect_calls body) (indirect_calls rest) _ _ (calls_to body) (calls_to rest)
    calls_to (If t arm rest) = both_calls (indirect_calls arm) (indirect_calls rest) _ _ (calls_to arm) (calls_to rest)
    calls_to (IfElse t arm other rest) =
        both_calls (indirect_calls arm) (indirect_calls other ++ indirect_calls rest) _ _ (calls_to arm) (both_calls (indirect_calls other) (indirect_calls rest) _ _ (calls_to other) (calls_to rest))

  -- ---- typings

  upon_to : (t : Option (ValueType S)) (s : List (ValueType S)) → map (type_to f) (upon (optional t) s) ≡ upon (optional (option_map (type_to f) t)) (map (type_to f) s)
  upon_to None s = refl
  upon_to (Some t) s = refl

  -- Where contexts are related so that open labels keep them so, and an action's leaves take the place of a leaf in each typing, code has
  -- its typing under the action.
  module _ (Related : Context S → Context T → Type 0) (inner : (C : Context S) (D : Context T) → Related C D → (t : Option (ValueType S)) → Related (inside t C) (inside (option_map (type_to f) t) D))
      (condition : (C : Context S) (D : Context T) → Related C D → f C.public ≡ D.public)
      (leaves : (C : Context S) (D : Context T) → Related C D → (leaf : Leaf S) (a b : List (ValueType S)) (to : List (ValueType T)) (rest : Code T) → Row C leaf a b → Typed D rest (map (type_to f) b) to → Typed D (in_front_of (act leaf) rest) (map (type_to f) a) to) where
    pub typed_to : (C : Context S) (D : Context T) → Related C D → (c : Code S) (from to : List (ValueType S)) → Typed C c from to → Typed D (code_to f act c) (map (type_to f) from) (map (type_to f) to)
    typed_to C D e Stop from to t = ap (map (type_to f)) t
    typed_to C D e (Then leaf rest) from to t = leaves C D e leaf from t.0 (map (type_to f) to) (code_to f act rest) t.1 (typed_to C D e rest t.0 to t.2)
    typed_to C D e (Block u body rest) from to t = (
      subst (λ (ts : List (ValueType T)). Typed (inside (option_map (type_to f) u) D) (code_to f act body) [] ts) (map-optional (type_to f) u) (typed_to (inside u C) (inside (option_map (type_to f) u) D) (inner C D e u) body [] (optional u) t.0),
      subst (λ (ts : List (ValueType T)). Typed D (code_to f act rest) ts (map (type_to f) to)) (upon_to u from) (typed_to C D e rest (upon (optional u) from) to t.1),
    )
    typed_to C D e (Loop u body rest) from to t = (
      subst (λ (ts : List (ValueType T)). Typed (inside None D) (code_to f act body) [] ts) (map-optional (type_to f) u) (typed_to (inside None C) (inside None D) (inner C D e None) body [] (optional u) t.0),
      subst (λ (ts : List (ValueType T)). Typed D (code_to f act rest) ts (map (type_to f) to)) (upon_to u from) (typed_to C D e rest (upon (optional u) from) to t.1),
    )
    typed_to C D e (If u arm rest) from to t = (
      ap (option_map (type_to f)) t.0,
      subst (λ (ts : List (ValueType T)). Typed (inside (option_map (type_to f) u) D) (code_to f act arm) [] ts) (map-optional (type_to f) u) (typed_to (inside u C) (inside (option_map (type_to f) u) D) (inner C D e u) arm [] (optional u) t.1),
      map (type_to f) t.2,
      ap (map (type_to f)) t.3 ∙ ap (λ l. value_type W32 l ∷ map (type_to f) t.2) (condition C D e),
      subst (λ (ts : List (ValueType T)). Typed D (code_to f act rest) ts (map (type_to f) to)) (upon_to u t.2) (typed_to C D e rest (upon (optional u) t.2) to t.4),
    )
    typed_to C D e (IfElse u arm other rest) from to t = (
      subst (λ (ts : List (ValueType T)). Typed (inside (option_map (type_to f) u) D) (code_to f act arm) [] ts) (map-optional (type_to f) u) (typed_to (inside u C) (inside (option_map (type_to f) u) D) (inner C D e u) arm [] (optional u) t.0),
      subst (λ (ts : List (ValueType T)). Typed (inside (option_map (type_to f) u) D) (code_to f act other) [] ts) (map-optional (type_to f) u) (typed_to (inside u C) (inside (option_map (type_to f) u) D) (inner C D e u) other [] (optional u) t.1),
      map (type_to f) t.2,
      ap (map (type_to f)) t.3 ∙ ap (λ l. value_type W32 l ∷ map (type_to f) t.2) (condition C D e),
      subst (λ (ts : List (ValueType T)). Typed D (code_to f act rest) ts (map (type_to f) to)) (upon_to u t.2) (typed_to C D e rest (upon (optional u) t.2) to t.4),
    )
