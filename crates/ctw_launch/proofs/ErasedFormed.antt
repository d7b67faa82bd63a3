-- The erased module of a formed module is formed: it is plain, and has as many tables and memories.
use Rattle.std.proofs.Common.{◌≡◌, ◌≤◌, ℕ, Bool, true, ◌&&◌, List, [], ◌∷◌, ◌++◌, length, map, flat_map, Option, Some, None, option_map, All, refl, sym, ap, ap₂, subst, ◌∙◌}
use Rattle.std.specs.Prelude.{IfSome}
use Rattle.std.specs.List.{cons_option, list_all}
use Rattle.std.proofs.lemmas.List.{length-map, map-append}
use Rattle.std.proofs.lemmas.List.Elements.{All-nil, All-cons, All-map, All-weaker}
use Rattle.std.proofs.lemmas.List.Folds.{list_all-append}
use Rattle.ctw_ops.specs.declared.types.Label.{Label}
use Rattle.ctw_ops.specs.declared.types.Label.TheVariants.{Public}
use Rattle.ctw_ops.specs.declared.types.Limits.{Limits}
use Rattle.ctw_ops.specs.Types.{ValueType, MemoryType, erase_value_type, erase_function_type}
use Rattle.ctw_ops.specs.Code.{Leaf, CallIndirect, Classify, Declassify, Op, Plain, Opens, Closes, opcodes}
use Rattle.ctw_ops.specs.TagMaps.{op_to}
use Rattle.ctw_ops.specs.Tree.{Module, TypeEntry, Extern, ImportedFunction, ImportedTable, ImportedMemory, ImportedGlobal, Import, Function, Constant, Number, ValueOf, Global, Element, Segment}
use Rattle.ctw_ops.specs.Typing.{optional}
use Rattle.ctw_ops.specs.Once.{with_table, with_memory, imported_tables, imported_memories, all_memories}
use Rattle.ctw_ops.specs.Plain.{is_plain_op, IsPublicType, IsPlainEntry, IsPlainExtern, IsPlainConstant, IsPlainGlobal, IsPlainFunction, IsPlainModule}
use Rattle.ctw_ops.specs.Erasure.{kept_entry, erase_entries, erase_label, erase_leaf, erase_memory_type, erase_extern, erase_import, erase_function, erase_constant, erase_global, erase_element, erase_segment, erase_module}
use Rattle.ctw_ops.specs.Valid.{IsFitting, IsFormed}
use Rattle.ctw_ops.proofs.TagMaps.{opcodes_to}

-- what holds of all that a function gives
all_of : {A B : Type 0} (P : B → Type 0) (f : A → B) → ((a : A) → P (f a)) → (xs : List A) → All P (map f xs)
all_of P f h [] = All-nil P
all_of P f h (x ∷ xs) = All-cons P (f x) (map f xs) (h x) (all_of P f h xs)

-- ---- tables and memories

tables_erased : (entries : List (TypeEntry Label)) (l : List (Import Label)) → imported_tables (map (erase_import entries) l) ≡ imported_tables l
tables_erased entries [] = refl
tables_erased entries (i ∷ l) = go i.kind (tables_erased entries l)
  where
    go : (e : Extern Label) → imported_tables (map (erase_import entries) l) ≡ imported_tables l → with_table (erase_extern entries e) (imported_tables (map (erase_import entries) l)) ≡ with_table e (imported_tables l)
    go (ImportedFunction type) h = h
    go (ImportedTable limits) h = ap (λ (ts : List Limits). limits ∷ ts) h
    go (ImportedMemory type) h = h
    go (ImportedGlobal type) h = h

memories_erased : (entries : List (TypeEntry Label)) (l : List (Import Label)) → imported_memories (map (erase_import entries) l) ≡ map erase_memory_type (imported_memories l)
memories_erased entries [] = refl
memories_erased entries (i ∷ l) = go i.kind (memories_erased entries l)
  where
    go : (e : Extern Label) → imported_memories (map (erase_import entries) l) ≡ map erase_memory_type (imported_memories l)
        → with_memory (erase_extern entries e) (imported_memories (map (erase_import entries) l)) ≡ map erase_memory_type (with_memory e (imported_memories l))
    go (ImportedFunction type) h = h
    go (ImportedTable limits) h = h
    go (ImportedMemory type) h = ap (λ (ts : List (MemoryType Label)). erase_memory_type type ∷ ts) h
    go (ImportedGlobal type) h = h

own_erased : (o : Option (MemoryType Label)) → optional (option_map erase_memory_type o) ≡ map erase_memory_type (optional o)
own_erased None = refl
own_erased (Some t) = refl

all_memories_erased : (m : Module Label) → all_memories (erase_module m) ≡ map erase_memory_type (all_memories m)
all_memories_erased m =
    ap₂ (λ (xs ys : List (MemoryType Label)). xs ++ ys) (memories_erased m.types m.imports) (own_erased m.memory) ∙ sym (map-append erase_memory_type (imported_memories m.imports) (optional m.memory))

-- ---- plain modules

public_types : (ts : List (ValueType Label)) → All IsPublicType (map erase_value_type ts)
public_types ts = all_of IsPublicType erase_value_type (λ t. refl) ts

public_result : (o : Option (ValueType Label)) → IfSome (option_map erase_value_type o) IsPublicType
public_result None = tt
public_result (Some t) = refl

plain_entries : (types : List (TypeEntry Label)) → All IsPlainEntry (erase_entries types)
plain_entries [] = All-nil IsPlainEntry
plain_entries (d ∷ ds) = go d.base (plain_entries ds)
  where
    go : (b : Option ℕ) → All IsPlainEntry (erase_entries ds) → All IsPlainEntry (cons_option (kept_entry b d.type) (erase_entries ds))
    go None h = All-cons IsPlainEntry (record { base = None; type = erase_function_type d.type }) (erase_entries ds) (record { base = refl; trust = refl; params = public_types d.type.params; result = public_result d.type.result }) h
    go (Some base) h = h

plain_extern : (entries : List (TypeEntry Label)) (e : Extern Label) → IsPlainExtern (erase_extern entries e)
plain_extern entries (ImportedFunction type) = tt
plain_extern entries (ImportedTable limits) = tt
plain_extern entries (ImportedMemory type) = refl
plain_extern entries (ImportedGlobal type) = refl

plain_constant : (c : Constant Label) → IsPlainConstant (erase_constant c)
plain_constant (Number type bits) = refl
plain_constant (ValueOf x) = tt

leaf_plain : (entries : List (TypeEntry Label)) (leaf : Leaf Label) → list_all is_plain_op (map Plain (erase_leaf entries leaf)) ≡ true
leaf_plain entries (CallIndirect index) = refl
leaf_plain entries (Classify w) = refl
leaf_plain entries (Declassify w) = refl
leaf_plain entries leaf = refl

op_plain : (entries : List (TypeEntry Label)) (op : Op Label) → list_all is_plain_op (op_to erase_label (erase_leaf entries) op) ≡ true
op_plain entries (Plain leaf) = leaf_plain entries leaf
op_plain entries (Opens shape None) = refl
op_plain entries (Opens shape (Some t)) = refl
op_plain entries (Closes closer) = refl

ops_plain : (entries : List (TypeEntry Label)) (ops : List (Op Label)) → list_all is_plain_op (flat_map (op_to erase_label (erase_leaf entries)) ops) ≡ true
ops_plain entries [] = refl
ops_plain entries (op ∷ ops) =
    list_all-append is_plain_op (op_to erase_label (erase_leaf entries) op) (flat_map (op_to erase_label (erase_leaf entries)) ops)
    ∙ ap₂ (λ (a b : Bool). a && b) (op_plain entries op) (ops_plain entries ops)

plain_function : (entries : List (TypeEntry Label)) (f : Function Label) → IsPlainFunction (erase_function entries f)
plain_function entries f = (public_types f.locals, ap (list_all is_plain_op) (opcodes_to erase_label (erase_leaf entries) f.body) ∙ ops_plain entries (opcodes f.body))

pub plain_erased : (m : Module Label) → IsPlainModule (erase_module m)
plain_erased m = record {
  types = plain_entries m.types;
  imports = all_of (λ (i : Import Label). IsPlainExtern i.kind) (erase_import m.types) (λ i. plain_extern m.types i.kind) m.imports;
  functions = all_of IsPlainFunction (erase_function m.types) (plain_function m.types) m.functions;
  memory = memory m.memory;
  globals = all_of IsPlainGlobal erase_global (λ g. (refl, plain_constant g.init)) m.globals;
  elements = all_of (λ (e : Element Label). IsPlainConstant e.offset) erase_element (λ e. plain_constant e.offset) m.elements;
  segments = all_of (λ (s : Segment Label). IsPlainConstant s.offset) erase_segment (λ s. plain_constant s.offset) m.segments;
}
  where
    memory : (o : Option (MemoryType Label)) → IfSome (option_map erase_memory_type o) (λ type. type.tag ≡ Public)
    memory None = tt
    memory (Some t) = refl

-- ---- formed modules

fitting_erased : (c : Constant Label) → IsFitting c → IsFitting (erase_constant c)
fitting_erased (Number type bits) h = h
fitting_erased (ValueOf x) h = h

pub formed_erased : (m : Module Label) → IsFormed m → IsFormed (erase_module m)
formed_erased m f = record {
  tables = subst (λ (ts : List Limits). length (ts ++ optional m.table) ≤ 1) (sym (tables_erased m.types m.imports)) f.tables;
  memories = subst (λ (n : ℕ). n ≤ 1) (sym (ap length (all_memories_erased m) ∙ length-map (all_memories m) erase_memory_type)) f.memories;
  globals = All-map (λ (g : Global Label). IsFitting g.init) erase_global m.globals (All-weaker (λ (g : Global Label). IsFitting g.init) (λ g. IsFitting (erase_constant g.init)) (λ g h. fitting_erased g.init h) m.globals f.globals);
  elements = All-map (λ (e : Element Label). IsFitting e.offset) erase_element m.elements (All-weaker (λ (e : Element Label). IsFitting e.offset) (λ e. IsFitting (erase_constant e.offset)) (λ e h. fitting_erased e.offset h) m.elements f.elements);
  segments = All-map (λ (s : Segment Label). IsFitting s.offset) erase_segment m.segments (All-weaker (λ (s : Segment Label). IsFitting s.offset) (λ s. IsFitting (erase_constant s.offset)) (λ s h. fitting_erased s.offset h) m.segments f.segments);
  plain = λ e. plain_erased m;
}
