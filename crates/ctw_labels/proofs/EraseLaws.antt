-- Erasing undoes placing.
use Rattle.std.proofs.Common.{◌≡◌, ℕ, ◌+◌, Bool, true, false, List, [], ◌∷◌, ◌++◌, length, Option, Some, None, refl, sym, ◌∙◌, ap, subst}
use Rattle.std.specs.Prelude.{map, option_map, option_and_then, unwrap_or, if◌then◌else◌, IfSome}
use Rattle.std.specs.List.{AllByRecursion, cons_option}
use Rattle.std.proofs.lemmas.List.Elements.{recursion_from_All, filter_map-append}
use Rattle.std.proofs.lemmas.List.{append-nil}
use Rattle.std.proofs.lemmas.Option.{slice_get-map}
use Rattle.ctw_ops.specs.declared.types.Label.{Label}
use Rattle.ctw_ops.specs.declared.types.Label.TheVariants.{Public, Secret}
use Rattle.ctw_ops.specs.declared.types.Width.{Width}
use Rattle.ctw_ops.specs.Types.{ValueType, FunctionType, VariableType, MemoryType, erase_value_type, erase_function_type}
use Rattle.ctw_ops.specs.Code.{Leaf, CallIndirect, Classify, Declassify, Code, Stop, Then, Block, Loop, If, IfElse}
use Rattle.ctw_ops.specs.Tree.{TypeEntry, Extern, ImportedFunction, ImportedTable, ImportedMemory, ImportedGlobal, Import, Function, Constant, Number, ValueOf, Global, Element, Segment, Module, imported_functions, with_function, function_entries, type_named}
use Rattle.ctw_ops.specs.Typing.{Context, inside}
use Rattle.ctw_ops.specs.Valid.{IsValid}
use Rattle.ctw_ops.specs.Erasure.{kept_entry, erase_entries, base_of, erase_code, erase_variable_type, erase_memory_type, erase_extern, erase_import, erase_function, erase_constant, erase_global, erase_element, erase_segment, erase_module}
use Rattle.ctw_stack.specs.Operands.{Operands, fresh}
use Rattle.ctw_stack.specs.Tags.{type_to}
use Rattle.ctw_ops.specs.TagMaps.{leaf_to, function_type_to}
use Rattle.ctw_labels.proofs.TagPass.{tags_to}
use Rattle.ctw_labels.specs.Names.{Tag, At}
use Rattle.ctw_labels.specs.Sited.{Lift, Sited, raised_from, raised, placed_code}
use Rattle.ctw_labels.specs.Numbering.{params_from, result_from, type_from, BodyPlace, leaf_lift, leaf_node, block_lift, number}
use Rattle.ctw_labels.specs.Points.{Points, AreReleases, trust_at}
use Rattle.ctw_ops.specs.Plain.{IsPublicType, IsPlainEntry, IsPlainExtern, IsPlainConstant, IsPlainGlobal, IsPlainFunction, IsPlainModule}
use Rattle.ctw_labels.specs.SitedModule.{site_count, site_context, place_of, body_from, bodies_from, bodies, first_global, first_defined, first_defined_global, head_sites}
use Rattle.ctw_labels.specs.Placed.{TypeUse, code_uses, call_uses, function_uses, type_uses, is_all_public, place_of_use, variant_entry, use_to, variants, variant_name, placed_types, placed_extern, next_number, next_function, next_global, placed_imports, placed_memory, placed_variable, placed_constant, placed_globals, placed_function, placed}
use Rattle.ctw_labels.proofs.PlaceLaws.{all_public}
use Rattle.ctw_labels.proofs.NumberLaws.{IsPlainInstr, IsPlainCode, cong3, cong4, all_append_from}
use Rattle.ctw_labels.proofs.UserLaws.{In, all_in, in_all}
use Rattle.ctw_labels.proofs.Contexts.{uses_at_begin}
use Rattle.ctw_labels.proofs.PlainLaws.{public_values, plain_body, plain_locals}
use Rattle.ctw_labels.proofs.BodyLaws.{IsBase, base_uses, own_use}
use Rattle.ctw_labels.proofs.GlobalLaws.{before}
use Rattle.ctw_labels.proofs.VariantLaws.{found_all, back_map, past, plain_entry, map_in}

cong_cons : {A : Type 0} {x y : A} {xs ys : List A} → x ≡ y → xs ≡ ys → x ∷ xs ≡ y ∷ ys
cong_cons p q = λ i. p i ∷ q i

-- ---- type entries

entry_kept : (e : TypeEntry Label) → IsPlainEntry e → kept_entry e.base e.type ≡ Some e
entry_kept e h = ap (λ z. kept_entry z e.type) h.base ∙ (λ i. Some (record { base = sym h.base i; type = record { trust = sym h.trust i; params = public_values e.type.params (recursion_from_All IsPublicType e.type.params h.params) i; result = public_option e.type.result h.result i } }))
  where
    public_option : (t : Option (ValueType Label)) → IfSome t IsPublicType → option_map erase_value_type t ≡ t
    public_option None h = refl
    public_option (Some t) h = λ i. Some (record { width = t.width; tag = sym h i })

-- ---- code

module _ (L : Tag → Label) (T : List (TypeEntry Label)) (name : ℕ → FunctionType Label → ℕ) where
  -- the entry of each use is a variant of the plain one, or the plain one
  abbrev pub IsBased : TypeUse Tag → Type 0
  IsBased u = base_of T (name u.base (function_type_to L u.type)) ≡ u.base

  erased_from : (a b : Label) (free : Bool) (w : Width) (c : Code Label) → erase_code T (raised_from a b free w c) ≡ erase_code T c
  erased_from Public Secret free w c = refl
  erased_from Public Public free w c = refl
  erased_from Secret Secret free w c = refl
  erased_from Secret Public true w c = refl
  erased_from Secret Public false w c = refl

  erased_lift : (l : Option (Lift Tag)) (c d : Code Label) → erase_code T c ≡ d → erase_code T (raised L l c) ≡ d
  erased_lift None c d e = e
  erased_lift (Some l) c d e = erased_from (L l.source) (L l.target) l.free l.width c ∙ e

  node_erased : (P : BodyPlace Label) (C : Context Tag) (n : ℕ) (i : Leaf Label) → IsPlainInstr i → (l : Option (Lift Tag)) (rest : Sited Tag) (d : Code Label) → AllByRecursion IsBased (code_uses (leaf_node P C n i l rest)) →
      (AllByRecursion IsBased (code_uses rest) → erase_code T (placed_code L name rest) ≡ d) → erase_code T (placed_code L name (leaf_node P C n i l rest)) ≡ Then (leaf_to all_public i) d
  node_erased P C n (CallIndirect y) p l rest d u h = λ i. Then (CallIndirect (u.0 i)) (erased_lift l (placed_code L name rest) d (h u.1) i)
  node_erased P C n (Classify w) p l rest d u h = absurd p
  node_erased P C n (Declassify w) p l rest d u h = absurd p
  node_erased P C n i p l rest d u h = ap (Then (leaf_to all_public i)) (erased_lift l (placed_code L name rest) d (h u))

  erased_result : (n : ℕ) (t : Option (ValueType Label)) → option_map erase_value_type (option_map (type_to L) (result_from n t)) ≡ option_map (type_to all_public) t
  erased_result n None = refl
  erased_result n (Some t) = refl

  pub number_erased : (P : BodyPlace Label) (C : Context Tag) (c : Code Label) → IsPlainCode c → (n at : ℕ) (o : Operands Tag) → AllByRecursion IsBased (code_uses (number P C c n at o).code) → erase_code T (placed_code L name (number P C c n at o).code) ≡ tags_to all_public c
  number_erased P C Stop p n at o u = refl
  number_erased P C (Then i rest) p n at o u = node_erased P C n i p.0 (leaf_lift P C n at i o) _ (tags_to all_public rest) u (λ v. number_erased P C rest p.1 _ _ _ v)
  number_erased P C (Block t body rest) p n at o u =
      let q = all_append_from IsBased (code_uses (number P (inside (result_from n t) C) body _ _ _).code) (code_uses (number P C rest _ _ _).code) u in
      cong3 Block (erased_result n t) (number_erased P (inside (result_from n t) C) body p.0 _ _ _ q.0) (erased_lift (block_lift (P.free at) n t) _ _ (number_erased P C rest p.1 _ _ _ q.1))
  number_erased P C (Loop t body rest) p n at o u =
      let q = all_append_from IsBased (code_uses (number P (inside None C) body _ _ _).code) (code_uses (number P C rest _ _ _).code) u in
      cong3 Loop (erased_result n t) (number_erased P (inside None C) body p.0 _ _ _ q.0) (erased_lift (block_lift (P.free at) n t) _ _ (number_erased P C rest p.1 _ _ _ q.1))
  number_erased P C (If t arm rest) p n at o u =
      let q = all_append_from IsBased (code_uses (number P (inside (result_from n t) C) arm _ _ _).code) (code_uses (number P C rest _ _ _).code) u in
      cong3 If (erased_result n t) (number_erased P (inside (result_from n t) C) arm p.0 _ _ _ q.0) (erased_lift (block_lift (P.free at) n t) _ _ (number_erased P C rest p.1 _ _ _ q.1))
  number_erased P C (IfElse t arm other rest) p n at o u =
      let q = all_append_from IsBased (code_uses (number P (inside (result_from n t) C) arm _ _ _).code) _ u in
      let r = all_append_from IsBased (code_uses (number P (inside (result_from n t) C) other _ _ _).code) (code_uses (number P C rest _ _ _).code) q.1 in
      cong4 IfElse (erased_result n t) (number_erased P (inside (result_from n t) C) arm p.0 _ _ _ q.0) (number_erased P (inside (result_from n t) C) other p.1 _ _ _ r.0) (erased_lift (block_lift (P.free at) n t) _ _ (number_erased P C rest p.2 _ _ _ r.1))

-- ---- the module

public_value : (t : ValueType Label) → IsPublicType t → erase_value_type t ≡ t
public_value t e = λ i. record { width = t.width; tag = sym e i }

constant_erased : (c : Constant Label) → IsPlainConstant c → erase_constant c ≡ c
constant_erased (Number t bits) e = λ i. Number (public_value t e i) bits
constant_erased (ValueOf k) e = refl

elements_erased : (es : List (Element Label)) → AllByRecursion (λ e. IsPlainConstant e.offset) es → map erase_element es ≡ es
elements_erased [] h = refl
elements_erased (e ∷ es) h = cong_cons (λ i. record { table = e.table; offset = constant_erased e.offset h.0 i; functions = e.functions }) (elements_erased es h.1)

segments_erased : (ss : List (Segment Label)) → AllByRecursion (λ s. IsPlainConstant s.offset) ss → map erase_segment ss ≡ ss
segments_erased [] h = refl
segments_erased (s ∷ ss) h = cong_cons (λ i. record { memory = s.memory; offset = constant_erased s.offset h.0 i; bytes = s.bytes }) (segments_erased ss h.1)

plain_entries : (es : List (TypeEntry Label)) → AllByRecursion IsPlainEntry es → erase_entries es ≡ es
plain_entries [] h = refl
plain_entries (e ∷ es) h = ap (λ z. cons_option z (erase_entries es)) (entry_kept e h.0) ∙ ap (λ z. e ∷ z) (plain_entries es h.1)

variant_entries : (us : List (TypeUse Label)) → erase_entries (map variant_entry us) ≡ []
variant_entries [] = refl
variant_entries (u ∷ us) = variant_entries us

module _ (L : Tag → Label) (m : Module Label) (plain : IsPlainModule m) (valid : IsValid m) (p : Points) (rel : AreReleases p) where
  abbrev T : List (TypeEntry Label)
  T = placed_types L m p

  abbrev name : ℕ → FunctionType Label → ℕ
  name = variant_name L m p

  types_erased : erase_entries (placed_types L m p) ≡ m.types
  types_erased =
      filter_map-append (λ entry. kept_entry entry.base entry.type) m.types (map variant_entry (variants L m p))
      ∙ (λ i. plain_entries m.types (recursion_from_All IsPlainEntry m.types plain.types) i ++ variant_entries (variants L m p) i)
      ∙ append-nil m.types

  use_based : (u : TypeUse Tag) → In u (type_uses m p) → IsBase m u → IsBased L (placed_types L m p) (variant_name L m p) u
  use_based u i h = by_public (is_all_public (function_type_to L u.type)) refl
    where
      by_public : (b : Bool) → is_all_public (function_type_to L u.type) ≡ b → base_of (placed_types L m p) (variant_name L m p u.base (function_type_to L u.type)) ≡ u.base
      by_public true e =
          let b = back_map (λ e. e.type) m.types u.base (erase_function_type (function_type_to all_public u.type)) h in
          ap (λ z. base_of (placed_types L m p) (if z then u.base else length m.types + place_of_use (variants L m p) (use_to L u))) e
          ∙ ap (λ z. unwrap_or (option_and_then (λ entry. entry.base) z) u.base) (before m.types (map variant_entry (variants L m p)) u.base b.0 b.1)
          ∙ ap (λ z. unwrap_or z u.base) (plain_entry L m plain valid p rel u.base b.0 b.1)
      by_public false e =
          ap (λ z. base_of (placed_types L m p) (if z then u.base else length m.types + place_of_use (variants L m p) (use_to L u))) e
          ∙ ap (λ z. unwrap_or (option_and_then (λ entry. entry.base) z) (length m.types + place_of_use (variants L m p) (use_to L u)))
          (past m.types (map variant_entry (variants L m p)) (place_of_use (variants L m p) (use_to L u)) ∙ slice_get-map variant_entry (variants L m p) (place_of_use (variants L m p) (use_to L u))
          ∙ ap (option_map variant_entry) (found_all [] (map (use_to L) (type_uses m p)) (use_to L u) (map_in (use_to L) (type_uses m p) u i) e))

  all_based : AllByRecursion (IsBased L (placed_types L m p) (variant_name L m p)) (type_uses m p)
  all_based = all_in (IsBased L (placed_types L m p) (variant_name L m p)) (type_uses m p)
      (λ u i. use_based u i (in_all (IsBase m) (type_uses m p) (base_uses m plain valid p rel) u i))

  abbrev AreBased : List (TypeUse Tag) → Type 0
  AreBased us = AllByRecursion (IsBased L (placed_types L m p) (variant_name L m p)) us

  functions_based : AreBased (function_uses m p 0 0 (function_entries m))
  functions_based = (all_append_from (IsBased L (placed_types L m p) (variant_name L m p)) (function_uses m p 0 0 (function_entries m)) (call_uses (bodies m p)) all_based).0

  calls_based : AreBased (call_uses (bodies m p))
  calls_based = (all_append_from (IsBased L (placed_types L m p) (variant_name L m p)) (function_uses m p 0 0 (function_entries m)) (call_uses (bodies m p)) all_based).1

  parts_based : AreBased (function_uses m p 0 0 (imported_functions m.imports)) × AreBased (function_uses m p (length (imported_functions m.imports)) (first_defined m) (map (λ f. f.type) m.functions))
  parts_based = all_append_from (IsBased L (placed_types L m p) (variant_name L m p)) (function_uses m p 0 0 (imported_functions m.imports)) (function_uses m p (length (imported_functions m.imports)) (first_defined m) (map (λ f. f.type) m.functions)) (subst AreBased (uses_at_begin m p) functions_based)

  memory_erased : (t : MemoryType Label) → t.tag ≡ Public → erase_memory_type (placed_memory L m t) ≡ t
  memory_erased t e = λ i. record { tag = sym e i; limits = t.limits }

  option_erased : (r : Option (MemoryType Label)) → IfSome r (λ t. t.tag ≡ Public) → option_map erase_memory_type (option_map (placed_memory L m) r) ≡ r
  option_erased None h = refl
  option_erased (Some t) h = ap Some (memory_erased t h)

  variable_erased : (n : ℕ) (g : VariableType Label) → IsPublicType g.value → erase_variable_type (placed_variable L n g) ≡ g
  variable_erased n g e = λ i. record { mutable = g.mutable; value = public_value g.value e i }

  init_erased : (l : Label) (c : Constant Label) → IsPlainConstant c → erase_constant (placed_constant l c) ≡ c
  init_erased l (Number t bits) e = λ i. Number (public_value t e i) bits
  init_erased l (ValueOf k) e = refl

  globals_erased : (n : ℕ) (gs : List (Global Label)) → AllByRecursion IsPlainGlobal gs → map erase_global (placed_globals L n gs) ≡ gs
  globals_erased n [] h = refl
  globals_erased n (g ∷ gs) h = cong_cons (λ i. record { type = variable_erased n g.type h.0.0 i; init = init_erased (L (At n)) g.init h.0.1 i }) (globals_erased (n + 1) gs h.1)

  imports_erased : (j q n : ℕ) (is : List (Import Label)) → AllByRecursion (λ i. IsPlainExtern i.kind) is → AreBased (function_uses m p j q (imported_functions is)) → map (erase_import (placed_types L m p)) (placed_imports L (variant_name L m p) m p j q n is) ≡ is
  imports_erased j q n [] h u = refl
  imports_erased j q n (i ∷ is) h u = let r = by_kind i.kind h.0 u (λ f r s. imports_erased f r s is h.1) in cong_cons (λ x. record { module_name = i.module_name; name = i.name; kind = r.0 x }) r.1
    where
      by_kind : (k : Extern Label) → IsPlainExtern k → AreBased (function_uses m p j q (with_function k (imported_functions is))) →
          ((f r s : ℕ) → AreBased (function_uses m p f r (imported_functions is)) → map (erase_import (placed_types L m p)) (placed_imports L (variant_name L m p) m p f r s is) ≡ is) →
          (erase_extern (placed_types L m p) (placed_extern L (variant_name L m p) m p j q n k) ≡ k)
          × (map (erase_import (placed_types L m p)) (placed_imports L (variant_name L m p) m p (next_number L (variant_name L m p) m p k j) (next_function L (variant_name L m p) m p k q) (next_global L (variant_name L m p) m p k n) is) ≡ is)
      by_kind (ImportedFunction y) e u r = (ap ImportedFunction u.0, r (j + 1) (q + site_count (type_named m y)) n u.1)
      by_kind (ImportedTable limits) e u r = (refl, r j q n u)
      by_kind (ImportedMemory t) e u r = (ap ImportedMemory (memory_erased t e), r j q n u)
      by_kind (ImportedGlobal g) e u r = (ap ImportedGlobal (variable_erased n g e), r j q (n + 1) u)

  locals_erased : (n : ℕ) (ts : List (ValueType Label)) → map erase_value_type (map (type_to L) (params_from n ts)) ≡ map (type_to all_public) ts
  locals_erased n [] = refl
  locals_erased n (t ∷ ts) = cong_cons refl (locals_erased (n + 1) ts)

  function_erased : (q k n : ℕ) (f : Function Label) → IsPlainFunction f → IsBased L (placed_types L m p) (variant_name L m p) (own_use p (body_from m p q k n f)) → AreBased (code_uses (body_from m p q k n f).code) →
      erase_function (placed_types L m p) (placed_function L (variant_name L m p) m p (body_from m p q k n f)) ≡ f
  function_erased q k n f pf o u = λ i. record {
    type = o i;
    locals = (locals_erased n f.locals ∙ plain_locals f pf) i;
    body = (number_erased L (placed_types L m p) (variant_name L m p) (place_of m p k) (site_context m (trust_at p k) (type_from q (type_named m f.type)) (params_from n f.locals)) f.body (plain_body f pf).1 (n + length f.locals) 0 fresh u ∙ (plain_body f pf).0) i;
  }

  functions_erased : (q k n : ℕ) (fs : List (Function Label)) → AllByRecursion IsPlainFunction fs → AreBased (function_uses m p k q (map (λ f. f.type) fs)) → AreBased (call_uses (bodies_from m p q k n fs)) →
      map (erase_function (placed_types L m p)) (map (placed_function L (variant_name L m p) m p) (bodies_from m p q k n fs)) ≡ fs
  functions_erased q k n [] pf o u = refl
  functions_erased q k n (f ∷ fs) pf o u =
      let s = all_append_from (IsBased L (placed_types L m p) (variant_name L m p)) (code_uses (body_from m p q k n f).code) (call_uses (bodies_from m p (q + site_count (type_named m f.type)) (k + 1) (n + length (body_from m p q k n f).sites) fs)) u in
      cong_cons (function_erased q k n f pf.0 o.0 s.0) (functions_erased (q + site_count (type_named m f.type)) (k + 1) (n + length (body_from m p q k n f).sites) fs pf.1 o.1 s.1)

  -- a plain module is its placed one, erased
  pub erased_placed : m.ct ≡ false → erase_module (placed L m p) ≡ m
  erased_placed c = λ i. record {
    ct = sym c i;
    profile = m.profile;
    types = types_erased i;
    imports = imports_erased 0 0 (first_global m) m.imports (recursion_from_All (λ i. IsPlainExtern i.kind) m.imports plain.imports) parts_based.0 i;
    functions = functions_erased (first_defined m) (length (imported_functions m.imports)) (length (head_sites m)) m.functions (recursion_from_All IsPlainFunction m.functions plain.functions) parts_based.1 calls_based i;
    table = m.table;
    memory = option_erased m.memory plain.memory i;
    globals = globals_erased (first_defined_global m) m.globals (recursion_from_All IsPlainGlobal m.globals plain.globals) i;
    exports = m.exports;
    start = m.start;
    elements = elements_erased m.elements (recursion_from_All (λ e. IsPlainConstant e.offset) m.elements plain.elements) i;
    segments = segments_erased m.segments (recursion_from_All (λ s. IsPlainConstant s.offset) m.segments plain.segments) i;
    customs = m.customs;
  }
