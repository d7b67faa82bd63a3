-- A plain module is its own placed module where all sites are public, but for the version.
use Rattle.std.proofs.Common.{◌≡◌, ℕ, zero, suc, ◌+◌, true, List, [], ◌∷◌, length, Option, Some, None, refl, sym, ◌∙◌, ap}
use Rattle.std.specs.Prelude.{slice_get, map, option_map, unwrap_or, IfSome}
use Rattle.std.specs.List.{AllByRecursion, list_all}
use Rattle.std.proofs.lemmas.List.Elements.{recursion_from_All}
use Rattle.ctw_ops.specs.declared.types.Label.{Label}
use Rattle.ctw_ops.specs.declared.types.Label.TheVariants.{Public, Secret}
use Rattle.ctw_ops.specs.declared.types.Trust.TheVariants.{Untrusted}
use Rattle.ctw_ops.specs.Types.{ValueType, FunctionType, VariableType, MemoryType, erase_value_type, erase_function_type}
use Rattle.ctw_ops.specs.Tree.{TypeEntry, Extern, ImportedFunction, ImportedTable, ImportedMemory, ImportedGlobal, Import, Function, Constant, Number, ValueOf, Global, Module, function_types, imported_functions, type_named, no_function_type}
use Rattle.ctw_ops.specs.Code.{Leaf, Unreachable, Nop, Br, BrIf, BrTable, Return, Call, CallIndirect, Drop, Select, LocalGet, LocalSet, LocalTee, GlobalGet, GlobalSet, Load, Store, MemorySize, MemoryGrow, Const, Numeric, Classify, Declassify, Code, Stop, Then, Block, Loop, If, IfElse, Op, Closes, ByEnd, ByElse, onto}
use Rattle.ctw_stack.specs.Operands.{fresh}
use Rattle.ctw_stack.specs.Tags.{type_to}
use Rattle.ctw_ops.specs.TagMaps.{leaf_to}
use Rattle.ctw_labels.proofs.TagPass.{tags_to}
use Rattle.ctw_labels.specs.Points.{no_points}
use Rattle.ctw_labels.specs.Numbering.{type_from, params_from}
use Rattle.ctw_ops.specs.Plain.{is_public, is_plain_type, is_plain_leaf, is_plain_op, IsPublicType, IsPlainEntry, IsPlainExtern, IsPlainConstant, IsPlainGlobal, IsPlainFunction, IsPlainModule}
use Rattle.ctw_labels.specs.SitedModule.{first_global, first_defined_global, first_defined, site_count, body_from, bodies_from, place_of, site_context, head_sites}
use Rattle.ctw_labels.specs.Placed.{placed_extern, next_number, next_function, next_global, placed_imports, placed_function, placed_memory, placed_variable, placed_constant, placed_globals, placed_module}
use Rattle.ctw_labels.proofs.PlaceLaws.{all_public}
use Rattle.ctw_labels.proofs.NumberLaws.{IsPlainInstr, IsPlainCode, base_name, public_params, number_public, cong3, cong4}
use Rattle.ctw_labels.proofs.ObeyLaws.{and_parts}

cong_cons : {A : Type 0} {x y : A} {xs ys : List A} → x ≡ y → xs ≡ ys → x ∷ xs ≡ y ∷ ys
cong_cons p q = λ i. p i ∷ q i

public_label : (l : Label) → is_public l ≡ true → Public ≡ l
public_label Public e = refl
public_label Secret e = cc

-- ---- types

public_value : (t : ValueType Label) → IsPublicType t → erase_value_type t ≡ t
public_value t e = λ i. record { width = t.width; tag = sym e i }

pub public_values : (ts : List (ValueType Label)) → AllByRecursion IsPublicType ts → map erase_value_type ts ≡ ts
public_values [] h = refl
public_values (t ∷ ts) h = cong_cons (public_value t h.0) (public_values ts h.1)

public_option : (t : Option (ValueType Label)) → IfSome t IsPublicType → option_map erase_value_type t ≡ t
public_option None h = refl
public_option (Some t) h = ap Some (public_value t h)

public_entry : (e : TypeEntry Label) → IsPlainEntry e → erase_function_type e.type ≡ e.type
public_entry e h = λ i. record { trust = sym h.trust i; params = public_values e.type.params (recursion_from_All IsPublicType e.type.params h.params) i; result = public_option e.type.result h.result i }

-- each type of a plain module is its own erasure
public_at : (es : List (TypeEntry Label)) → AllByRecursion IsPlainEntry es → (y : ℕ) (g : FunctionType Label) → slice_get (map (λ e. e.type) es) y ≡ Some g → erase_function_type g ≡ g
public_at [] h y g e = cc
public_at (x ∷ es) h zero g e = let k : x.type ≡ g = cc in ap erase_function_type (sym k) ∙ public_entry x h.0 ∙ k
public_at (x ∷ es) h (suc y) g e = public_at es h.1 y g e

pub plain_types : (m : Module Label) → IsPlainModule m → (y : ℕ) (g : FunctionType Label) → slice_get (function_types m) y ≡ Some g → g ≡ erase_function_type g
plain_types m p y g e = sym (public_at m.types (recursion_from_All IsPlainEntry m.types p.types) y g e)

pub plain_named : (m : Module Label) → IsPlainModule m → (y : ℕ) → erase_function_type (type_named m y) ≡ type_named m y
plain_named m p y = by_found (slice_get (function_types m) y) refl
  where
    by_found : (r : Option (FunctionType Label)) → slice_get (function_types m) y ≡ r → erase_function_type (unwrap_or r no_function_type) ≡ unwrap_or r no_function_type
    by_found None e = refl
    by_found (Some g) e = sym (plain_types m p y g e)

-- ---- code

plain_leaf : (i : Leaf Label) → is_plain_leaf i ≡ true → (leaf_to all_public i ≡ i) × IsPlainInstr i
plain_leaf Unreachable e = (refl, tt)
plain_leaf Nop e = (refl, tt)
plain_leaf (Br k) e = (refl, tt)
plain_leaf (BrIf k) e = (refl, tt)
plain_leaf (BrTable ks k) e = (refl, tt)
plain_leaf Return e = (refl, tt)
plain_leaf (Call f) e = (refl, tt)
plain_leaf (CallIndirect y) e = (refl, tt)
plain_leaf Drop e = (refl, tt)
plain_leaf (Select l) e = (ap Select (public_label l e), tt)
plain_leaf (LocalGet x) e = (refl, tt)
plain_leaf (LocalSet x) e = (refl, tt)
plain_leaf (LocalTee x) e = (refl, tt)
plain_leaf (GlobalGet x) e = (refl, tt)
plain_leaf (GlobalSet x) e = (refl, tt)
plain_leaf (Load w l bytes signed align offset) e = (ap (λ z. Load w z bytes signed align offset) (public_label l e), tt)
plain_leaf (Store w l bytes align offset) e = (ap (λ z. Store w z bytes align offset) (public_label l e), tt)
plain_leaf MemorySize e = (refl, tt)
plain_leaf MemoryGrow e = (refl, tt)
plain_leaf (Const w l bits) e = (ap (λ z. Const w z bits) (public_label l e), tt)
plain_leaf (Numeric op l) e = (ap (Numeric op) (public_label l e), tt)
plain_leaf (Classify w) e = cc
plain_leaf (Declassify w) e = cc

plain_result : (t : Option (ValueType Label)) → is_plain_type t ≡ true → option_map (type_to all_public) t ≡ t
plain_result None e = refl
plain_result (Some t) e = λ i. Some (record { width = t.width; tag = public_label t.tag e i })

abbrev IsPlainTree : Code Label → Type 0
IsPlainTree c = (tags_to all_public c ≡ c) × IsPlainCode c

then_law : (i : Leaf Label) (rest : Code Label) → (leaf_to all_public i ≡ i) × IsPlainInstr i → IsPlainTree rest → IsPlainTree (Then i rest)
then_law i rest a b = ((λ j. Then (a.0 j) (b.0 j)), (a.1, b.1))

-- the opcodes of plain code are plain, and what follows them is
plain_onto : (c : Code Label) (ops : List (Op Label)) → list_all is_plain_op (onto c ops) ≡ true → IsPlainTree c × (list_all is_plain_op ops ≡ true)
plain_onto Stop ops e = ((refl, tt), e)
plain_onto (Then i rest) ops e =
    let p = and_parts (is_plain_leaf i) (list_all is_plain_op (onto rest ops)) e in
    let r = plain_onto rest ops p.1 in
    (then_law i rest (plain_leaf i p.0) r.0, r.1)
plain_onto (Block t body rest) ops e =
    let p = and_parts (is_plain_type t) (list_all is_plain_op (onto body (Closes ByEnd ∷ onto rest ops))) e in
    let b = plain_onto body (Closes ByEnd ∷ onto rest ops) p.1 in
    let r = plain_onto rest ops b.1 in
    ((cong3 Block (plain_result t p.0) b.0.0 r.0.0, (b.0.1, r.0.1)), r.1)
plain_onto (Loop t body rest) ops e =
    let p = and_parts (is_plain_type t) (list_all is_plain_op (onto body (Closes ByEnd ∷ onto rest ops))) e in
    let b = plain_onto body (Closes ByEnd ∷ onto rest ops) p.1 in
    let r = plain_onto rest ops b.1 in
    ((cong3 Loop (plain_result t p.0) b.0.0 r.0.0, (b.0.1, r.0.1)), r.1)
plain_onto (If t arm rest) ops e =
    let p = and_parts (is_plain_type t) (list_all is_plain_op (onto arm (Closes ByEnd ∷ onto rest ops))) e in
    let b = plain_onto arm (Closes ByEnd ∷ onto rest ops) p.1 in
    let r = plain_onto rest ops b.1 in
    ((cong3 If (plain_result t p.0) b.0.0 r.0.0, (b.0.1, r.0.1)), r.1)
plain_onto (IfElse t arm other rest) ops e =
    let p = and_parts (is_plain_type t) (list_all is_plain_op (onto arm (Closes ByElse ∷ onto other (Closes ByEnd ∷ onto rest ops)))) e in
    let b = plain_onto arm (Closes ByElse ∷ onto other (Closes ByEnd ∷ onto rest ops)) p.1 in
    let c = plain_onto other (Closes ByEnd ∷ onto rest ops) b.1 in
    let r = plain_onto rest ops c.1 in
    ((cong4 IfElse (plain_result t p.0) b.0.0 c.0.0 r.0.0, (b.0.1, c.0.1, r.0.1)), r.1)

pub plain_body : (f : Function Label) → IsPlainFunction f → IsPlainTree f.body
plain_body f h = (plain_onto f.body (Closes ByEnd ∷ []) h.1).0

pub plain_locals : (f : Function Label) → IsPlainFunction f → map (type_to all_public) f.locals ≡ f.locals
plain_locals f h = public_values f.locals (recursion_from_All IsPublicType f.locals h.0)

-- ---- the module

module _ (m : Module Label) (p : IsPlainModule m) where
  function_public : (q k n : ℕ) (f : Function Label) → IsPlainFunction f → placed_function all_public base_name m no_points (body_from m no_points q k n f) ≡ f
  function_public q k n f h = λ i. record {
    type = f.type;
    locals = (public_params n f.locals ∙ plain_locals f h) i;
    body = (number_public (place_of m no_points k) (site_context m Untrusted (type_from q (type_named m f.type)) (params_from n f.locals)) f.body (n + length f.locals) 0 fresh ∙ (plain_body f h).0) i;
  }

  functions_public : (q k n : ℕ) (fs : List (Function Label)) → AllByRecursion IsPlainFunction fs → map (placed_function all_public base_name m no_points) (bodies_from m no_points q k n fs) ≡ fs
  functions_public q k n [] h = refl
  functions_public q k n (f ∷ fs) h = cong_cons (function_public q k n f h.0) (functions_public (q + site_count (type_named m f.type)) (k + 1) (n + length (body_from m no_points q k n f).sites) fs h.1)

  memory_public : (t : MemoryType Label) → t.tag ≡ Public → placed_memory all_public m t ≡ t
  memory_public t e = λ i. record { tag = sym e i; limits = t.limits }

  variable_public : (n : ℕ) (g : VariableType Label) → IsPublicType g.value → placed_variable all_public n g ≡ g
  variable_public n g e = λ i. record { mutable = g.mutable; value = public_value g.value e i }

  constant_public : (c : Constant Label) → IsPlainConstant c → placed_constant Public c ≡ c
  constant_public (Number t bits) e = λ i. Number (public_value t e i) bits
  constant_public (ValueOf k) e = refl

  globals_public : (n : ℕ) (gs : List (Global Label)) → AllByRecursion IsPlainGlobal gs → placed_globals all_public n gs ≡ gs
  globals_public n [] h = refl
  globals_public n (g ∷ gs) h = cong_cons (λ i. record { type = variable_public n g.type h.0.0 i; init = constant_public g.init h.0.1 i }) (globals_public (n + 1) gs h.1)

  extern_public : (j q n : ℕ) (k : Extern Label) → IsPlainExtern k → placed_extern all_public base_name m no_points j q n k ≡ k
  extern_public j q n (ImportedFunction y) e = refl
  extern_public j q n (ImportedTable limits) e = refl
  extern_public j q n (ImportedMemory t) e = ap ImportedMemory (memory_public t e)
  extern_public j q n (ImportedGlobal g) e = ap ImportedGlobal (variable_public n g e)

  imports_public : (j q n : ℕ) (is : List (Import Label)) → AllByRecursion (λ i. IsPlainExtern i.kind) is → placed_imports all_public base_name m no_points j q n is ≡ is
  imports_public j q n [] h = refl
  imports_public j q n (i ∷ is) h =
      cong_cons (λ x. record { module_name = i.module_name; name = i.name; kind = extern_public j q n i.kind h.0 x }) (imports_public (next_number all_public base_name m no_points i.kind j) (next_function all_public base_name m no_points i.kind q) (next_global all_public base_name m no_points i.kind n) is h.1)

  option_public : (r : Option (MemoryType Label)) → IfSome r (λ t. t.tag ≡ Public) → option_map (placed_memory all_public m) r ≡ r
  option_public None h = refl
  option_public (Some t) h = ap Some (memory_public t h)

  pub placed_public : placed_module all_public base_name m no_points m.types ≡ record m { ct = true }
  placed_public = λ i. record {
    ct = true;
    profile = m.profile;
    types = m.types;
    imports = imports_public 0 0 (first_global m) m.imports (recursion_from_All (λ i. IsPlainExtern i.kind) m.imports p.imports) i;
    functions = functions_public (first_defined m) (length (imported_functions m.imports)) (length (head_sites m)) m.functions (recursion_from_All IsPlainFunction m.functions p.functions) i;
    table = m.table;
    memory = option_public m.memory p.memory i;
    globals = globals_public (first_defined_global m) m.globals (recursion_from_All IsPlainGlobal m.globals p.globals) i;
    exports = m.exports;
    start = m.start;
    elements = m.elements;
    segments = m.segments;
    customs = m.customs;
  }
