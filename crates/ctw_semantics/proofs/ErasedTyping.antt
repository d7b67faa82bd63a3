-- Erased code has the erased types.
use Rattle.std.proofs.Common.{◌≡◌, ℕ, zero, suc, true, List, [], ◌∷◌, ◌++◌, map, replicate, Option, Some, option_map, slice_get, refl, sym, ap, ap₂, ◌∙◌, subst}
use Rattle.std.proofs.lemmas.List.{map-append}
use Rattle.ctw_ops.specs.declared.types.Label.{Label}
use Rattle.ctw_ops.specs.declared.types.Label.TheVariants.{Public}
use Rattle.ctw_ops.specs.declared.types.Width.TheVariants.{W32}
use Rattle.ctw_ops.specs.declared.types.Trust.{Trust}
use Rattle.ctw_ops.specs.declared.types.Trust.TheVariants.{Untrusted, Trusted}
use Rattle.ctw_ops.specs.Types.{ValueType, FunctionType, VariableType, value_type, erase_value_type, erase_function_type}
use Rattle.ctw_ops.specs.Tree.{TypeEntry}
use Rattle.ctw_ops.specs.TagMaps.{in_front_of}
use Rattle.ctw_ops.specs.Code.{Leaf, Unreachable, Nop, Br, BrIf, BrTable, Return, Call, CallIndirect, Drop, Select, LocalGet, LocalSet, LocalTee, GlobalGet, GlobalSet, Load, Store, MemorySize, MemoryGrow, Const, Numeric, Classify, Declassify, Code}
use Rattle.ctw_ops.specs.Typing.{Context, optional, i32, inside, upon, Moves, Leaves, MayCall, operands, Row, Typed}
use Rattle.ctw_ops.specs.Erasure.{base_of, erase_label, erase_leaf, erase_code, erase_variable_type}
use Rattle.ctw_ops.proofs.Lists.{map-upon, map-optional}
use Rattle.ctw_ops.proofs.TagMaps.{typed_to}

abbrev erased : List (ValueType Label) → List (ValueType Label)
erased types = map erase_value_type types

-- what is named in the first context is named in the second, erased; a type by its base
pub record ErasesTo (entries : List (TypeEntry Label)) (C D : Context Label) : Type 0 where
  pub types : (y : ℕ) (g : FunctionType Label) → slice_get C.types y ≡ Some g → slice_get D.types (base_of entries y) ≡ Some (erase_function_type g)
  pub functions : (f : ℕ) (g : FunctionType Label) → slice_get C.functions f ≡ Some g → slice_get D.functions f ≡ Some (erase_function_type g)
  pub globals : (x : ℕ) (g : VariableType Label) → slice_get C.globals x ≡ Some g → slice_get D.globals x ≡ Some (erase_variable_type g)
  pub locals : (x : ℕ) (t : ValueType Label) → slice_get C.locals x ≡ Some t → slice_get D.locals x ≡ Some (erase_value_type t)
  pub memory : (l : Label) → C.memory ≡ Some l → D.memory ≡ Some Public
  pub table : C.table ≡ true → D.table ≡ true
  pub result : D.result ≡ option_map erase_value_type C.result
  pub labels : (k : ℕ) (t : Option (ValueType Label)) → slice_get C.labels k ≡ Some t → slice_get D.labels k ≡ Some (option_map erase_value_type t)
  pub public : D.public ≡ Public

inside_erases : (entries : List (TypeEntry Label)) (C D : Context Label) → ErasesTo entries C D → (t : Option (ValueType Label)) → ErasesTo entries (inside t C) (inside (option_map erase_value_type t) D)
inside_erases entries C D e t = record { types = e.types; functions = e.functions; globals = e.globals; locals = e.locals; memory = e.memory; table = e.table; result = e.result; labels = outside; public = e.public }
  where
    outside : (k : ℕ) (u : Option (ValueType Label)) → slice_get (t ∷ C.labels) k ≡ Some u → slice_get (option_map erase_value_type t ∷ D.labels) k ≡ Some (option_map erase_value_type u)
    outside zero u q = let p : t ≡ u = cc in ap (λ t. Some (option_map erase_value_type t)) p
    outside (suc k) u q = e.labels k u q

moves_erased : (takes gives takes' gives' a b : List (ValueType Label)) → erased takes ≡ takes' → erased gives ≡ gives' → Moves takes gives a b → Moves takes' gives' (erased a) (erased b)
moves_erased takes gives takes' gives' a b p q m = (
  erased m.0,
  ap erased m.1 ∙ map-upon erase_value_type takes m.0 ∙ ap (λ ts. upon ts (erased m.0)) p,
  ap erased m.2 ∙ map-upon erase_value_type gives m.0 ∙ ap (λ ts. upon ts (erased m.0)) q,
)

leaves_erased : (takes takes' a b : List (ValueType Label)) → erased takes ≡ takes' → Leaves takes a b → Leaves takes' (erased a) (erased b)
leaves_erased takes takes' a b p m = (erased m.0, ap erased m.1 ∙ map-upon erase_value_type takes m.0 ∙ ap (λ ts. upon ts (erased m.0)) p)

may_call : (trust : Trust) → MayCall trust Untrusted
may_call Untrusted = tt
may_call Trusted = tt

replicate_erased : (n : ℕ) (t : ValueType Label) → erased (replicate n t) ≡ replicate n (erase_value_type t)
replicate_erased zero t = refl
replicate_erased (suc n) t = ap (λ ts. erase_value_type t ∷ ts) (replicate_erased n t)

module _ (entries : List (TypeEntry Label)) (C D : Context Label) (e : ErasesTo entries C D) where
  condition : erased (i32 C ∷ []) ≡ i32 D ∷ []
  condition = ap (λ l. value_type W32 l ∷ []) (sym e.public)

  before_condition : (ts us : List (ValueType Label)) → erased ts ≡ us → erased (ts ++ i32 C ∷ []) ≡ us ++ i32 D ∷ []
  before_condition ts us p = map-append erase_value_type ts (i32 C ∷ []) ∙ ap₂ (λ (xs ys : List (ValueType Label)). xs ++ ys) p condition

  leaf_erased : (i : Leaf Label) (a b to : List (ValueType Label)) (rest : Code Label) → Row C i a b → Typed D rest (erased b) to → Typed D (in_front_of (erase_leaf entries i) rest) (erased a) to
  leaf_erased Unreachable a b to rest r t = (erased b, tt, t)
  leaf_erased Nop a b to rest r t = (erased b, ap erased r, t)
  leaf_erased (Br k) a b to rest r t = (erased b, (option_map erase_value_type r.0, e.labels k r.0 r.1, leaves_erased (optional r.0) _ a b (map-optional erase_value_type r.0) r.2), t)
  leaf_erased (BrIf k) a b to rest r t = (
    erased b,
    (
      option_map erase_value_type r.0,
      e.labels k r.0 r.1,
      moves_erased (optional r.0 ++ i32 C ∷ []) (optional r.0) _ _ a b (before_condition (optional r.0) _ (map-optional erase_value_type r.0)) (map-optional erase_value_type r.0) r.2,
    ),
    t,
  )
  leaf_erased (BrTable ks k) a b to rest r t = (
    erased b,
    (
      option_map erase_value_type r.0,
      e.labels k r.0 r.1,
      (λ n d less. e.labels _ r.0 (r.2 n d less)),
      leaves_erased (optional r.0 ++ i32 C ∷ []) _ a b (before_condition (optional r.0) _ (map-optional erase_value_type r.0)) r.3,
    ),
    t,
  )
  leaf_erased Return a b to rest r t = (erased b, leaves_erased (optional C.result) _ a b (map-optional erase_value_type C.result ∙ ap optional (sym e.result)) r, t)
  leaf_erased (Call f) a b to rest r t =
      (erased b, (erase_function_type r.0, e.functions f r.0 r.1, may_call D.trust, moves_erased r.0.params (optional r.0.result) _ _ a b refl (map-optional erase_value_type r.0.result) r.3), t)
  leaf_erased (CallIndirect y) a b to rest r t = (
    erased b,
    (
      e.table r.0,
      erase_function_type r.1,
      e.types y r.1 r.2,
      may_call D.trust,
      moves_erased (r.1.params ++ i32 C ∷ []) (optional r.1.result) _ _ a b (before_condition r.1.params _ refl) (map-optional erase_value_type r.1.result) r.4,
    ),
    t,
  )
  leaf_erased Drop a b to rest r t = (erased b, (erase_value_type r.0, moves_erased (r.0 ∷ []) [] _ _ a b refl refl r.1), t)
  leaf_erased (Select l) a b to rest r t = (erased b, (r.0, moves_erased (value_type r.0 l ∷ value_type r.0 l ∷ value_type W32 l ∷ []) (value_type r.0 l ∷ []) _ _ a b refl refl r.1), t)
  leaf_erased (LocalGet x) a b to rest r t = (erased b, (erase_value_type r.0, e.locals x r.0 r.1, moves_erased [] (r.0 ∷ []) _ _ a b refl refl r.2), t)
  leaf_erased (LocalSet x) a b to rest r t = (erased b, (erase_value_type r.0, e.locals x r.0 r.1, moves_erased (r.0 ∷ []) [] _ _ a b refl refl r.2), t)
  leaf_erased (LocalTee x) a b to rest r t = (erased b, (erase_value_type r.0, e.locals x r.0 r.1, moves_erased (r.0 ∷ []) (r.0 ∷ []) _ _ a b refl refl r.2), t)
  leaf_erased (GlobalGet x) a b to rest r t = (erased b, (erase_variable_type r.0, e.globals x r.0 r.1, moves_erased [] (r.0.value ∷ []) _ _ a b refl refl r.2), t)
  leaf_erased (GlobalSet x) a b to rest r t = (erased b, (erase_variable_type r.0, e.globals x r.0 r.1, r.2, moves_erased (r.0.value ∷ []) [] _ _ a b refl refl r.3), t)
  leaf_erased (Load w l bytes signed align offset) a b to rest r t = (erased b, (r.0, e.memory l r.1, r.2, moves_erased (i32 C ∷ []) (value_type w l ∷ []) _ _ a b condition refl r.3), t)
  leaf_erased (Store w l bytes align offset) a b to rest r t =
      (erased b, (r.0, e.memory l r.1, r.2, moves_erased (i32 C ∷ value_type w l ∷ []) [] _ _ a b (ap (λ ts. ts ++ value_type w Public ∷ []) condition) refl r.3), t)
  leaf_erased MemorySize a b to rest r t = (erased b, (Public, e.memory r.0 r.1, moves_erased [] (i32 C ∷ []) _ _ a b refl condition r.2), t)
  leaf_erased MemoryGrow a b to rest r t = (erased b, (Public, e.memory r.0 r.1, moves_erased (i32 C ∷ []) (i32 C ∷ []) _ _ a b condition condition r.2), t)
  leaf_erased (Const w l bits) a b to rest r t = (erased b, (r.0, moves_erased [] (value_type w l ∷ []) _ _ a b refl refl r.1), t)
  leaf_erased (Numeric op l) a b to rest r t =
      (erased b, (r.0, r.1, (λ leak. sym e.public), moves_erased (operands r.0 l) (value_type r.0.result l ∷ []) _ _ a b (replicate_erased r.0.arity (value_type r.0.operand l)) refl r.3), t)
  leaf_erased (Classify w) a b to rest r t = subst (λ ts. Typed D rest ts to) (ap erased r.2 ∙ sym (ap erased r.1)) t
  leaf_erased (Declassify w) a b to rest r t = subst (λ ts. Typed D rest ts to) (ap erased r.1.2 ∙ sym (ap erased r.1.1)) t

pub code_erased : (entries : List (TypeEntry Label)) (C D : Context Label) → ErasesTo entries C D → (c : Code Label) (from to : List (ValueType Label)) → Typed C c from to → Typed D (erase_code entries c) (erased from) (erased to)
code_erased entries = typed_to erase_label (erase_leaf entries) (ErasesTo entries) (inside_erases entries) (λ C D e. sym e.public) (leaf_erased entries)
