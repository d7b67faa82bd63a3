-- Functions of modules as instances, and erased.
use Rattle.std.proofs.Common.{◌≡◌, ℕ, zero, suc, Bool, List, [], ◌∷◌, ◌++◌, map, All, Option, Some, None, slice_get, unwrap_or, option_map, option_and_then, arith, is_some, refl, sym, ap, ap₂, ◌∙◌, subst}
use Rattle.ctw_ops.specs.declared.types.Label.{Label}
use Rattle.std.proofs.lemmas.Option.{slice_get-map}
use Rattle.ctw_ops.specs.declared.types.Trust.TheVariants.{Untrusted}
use Rattle.ctw_ops.specs.declared.types.Limits.{Limits}
use Rattle.ctw_ops.specs.declared.types.Label.TheVariants.{Public}
use Rattle.ctw_ops.specs.Types.{FunctionType, VariableType, MemoryType, erase_value_type, erase_function_type}
use Rattle.std.proofs.lemmas.List.{map-append}
use Rattle.std.specs.List.{cons_option}
use Rattle.ctw_ops.proofs.Variants.{VariantsFit}
use Rattle.ctw_ops.specs.Erasure.{kept_entry, erase_entries, base_of, erase_code, erase_variable_type, erase_memory_type, erase_extern, erase_import, erase_function, erase_global, erase_module}
use Rattle.ctw_ops.specs.Tree.{TypeEntry, Extern, ImportedFunction, ImportedTable, ImportedMemory, ImportedGlobal, Import, Module, Function, Global, with_function, with_global, or_memory, or_table, imported_functions, imported_globals, memory_among, table_among, function_entries, global_types, no_function_type, type_named}
use Rattle.ctw_ops.specs.Typing.{Typed, optional}
use Rattle.ctw_ops.specs.Bodies.{context_of, HasItsType}
use Rattle.ctw_semantics.specs.Instances.{ModuleInstance, Functions}
use Rattle.ctw_semantics.specs.Sound.{context, AllUntrusted}
use Rattle.ctw_semantics.specs.Modules.{instance_of, index_types}
use Rattle.ctw_semantics.specs.Erased.{erase_part, erase_instance, erase_functions}
use Rattle.ctw_ops.proofs.Lists.{map_get, map-optional}
use Rattle.ctw_semantics.proofs.ErasedTyping.{ErasesTo, code_erased}
use Rattle.ctw_semantics.proofs.Entries.{entry_of, base_erased}

pub typed_as_instance : (part : ModuleInstance) (m : Module Label) (f : Function Label) → is_some part.table ≡ is_some (table_among m.imports m.table) → HasItsType m f
    → Typed (context (index_types m) (instance_of part m f) ((type_named m f.type).result ∷ [])) f.body [] (optional (type_named m f.type).result)
typed_as_instance part m f es t =
    let e : context_of m f ≡ context (index_types m) (instance_of part m f) ((type_named m f.type).result ∷ []) =
    ap (λ (table : Bool). record (context_of m f) { table = table }) (sym es) in
    subst (λ C. Typed C f.body [] (optional (type_named m f.type).result)) e t

-- ---- erased

further : (xs : List (TypeEntry Label)) (i : ℕ) → slice_get xs i ≡ None → slice_get xs (suc i) ≡ None
further [] i e = refl
further (x ∷ xs) zero e = cc
further (x ∷ xs) (suc i) e = further xs i e

kept_past : (b : Option ℕ) (type : FunctionType Label) (xs : List (TypeEntry Label)) (i : ℕ) → slice_get xs i ≡ None → slice_get (cons_option (kept_entry b type) xs) (suc i) ≡ None
kept_past None type xs i e = e
kept_past (Some base) type xs i e = further xs i e

-- past the entries there are no erased ones
past_erased : (entries : List (TypeEntry Label)) (i : ℕ) → slice_get entries i ≡ None → slice_get (erase_entries entries) i ≡ None
past_erased [] i e = refl
past_erased (d ∷ ds) zero e = cc
past_erased (d ∷ ds) (suc i) e = kept_past d.base d.type (erase_entries ds) i (past_erased ds i e)

abbrev type_of : TypeEntry Label → FunctionType Label
type_of entry = entry.type

named : (m : Module Label) (i : ℕ) (o : Option (TypeEntry Label)) → slice_get m.types i ≡ o → type_named m i ≡ unwrap_or (option_map type_of o) no_function_type
named m i o e = ap (λ o. unwrap_or o no_function_type) (slice_get-map type_of m.types i) ∙ ap (λ o. unwrap_or (option_map type_of o) no_function_type) e

pub named_erased : (m : Module Label) → VariantsFit m.types → (i : ℕ) → type_named (erase_module m) (base_of m.types i) ≡ erase_function_type (type_named m i)
named_erased m fit i = by_entry (slice_get m.types i) refl
  where
    by_entry : (o : Option (TypeEntry Label)) → slice_get m.types i ≡ o → type_named (erase_module m) (base_of m.types i) ≡ erase_function_type (type_named m i)
    by_entry (Some entry) e =
        named (erase_module m) (base_of m.types i) (Some (entry_of (erase_function_type entry.type))) (base_erased m.types fit i entry e)
        ∙ ap erase_function_type (sym (named m i (Some entry) e))
    by_entry None e =
        let own : base_of m.types i ≡ i = ap (λ o. unwrap_or (option_and_then (λ (entry : TypeEntry Label). entry.base) o) i) e in
        named (erase_module m) (base_of m.types i) None (ap (slice_get (erase_entries m.types)) own ∙ past_erased m.types i e)
        ∙ ap erase_function_type (sym (named m i None e))

pub instance_erased : (part : ModuleInstance) (m : Module Label) (f : Function Label) → VariantsFit m.types
    → erase_instance (instance_of part m f) ≡ instance_of (erase_part part) (erase_module m) (erase_function m.types f)
instance_erased part m f fit =
    ap (λ (type : FunctionType Label). record { part = record (erase_part part) { types = erase_entries m.types; profile = m.profile }; type = type; locals = map erase_value_type f.locals; body = erase_code m.types f.body })
    (sym (named_erased m fit f.type))

-- ---- the erased module names the erased types

with_function_erased : (entries : List (TypeEntry Label)) (k : Extern Label) (xs ys : List ℕ) → xs ≡ map (base_of entries) ys → with_function (erase_extern entries k) xs ≡ map (base_of entries) (with_function k ys)
with_function_erased entries (ImportedFunction type) xs ys e = ap (λ l. base_of entries type ∷ l) e
with_function_erased entries (ImportedTable limits) xs ys e = e
with_function_erased entries (ImportedMemory type) xs ys e = e
with_function_erased entries (ImportedGlobal type) xs ys e = e

pub imported_functions_erased : (entries : List (TypeEntry Label)) (imports : List (Import Label)) → imported_functions (map (erase_import entries) imports) ≡ map (base_of entries) (imported_functions imports)
imported_functions_erased entries [] = refl
imported_functions_erased entries (i ∷ others) = with_function_erased entries i.kind _ _ (imported_functions_erased entries others)

defined_functions_erased : (entries : List (TypeEntry Label)) (fs : List (Function Label)) → map (λ (f : Function Label). f.type) (map (erase_function entries) fs) ≡ map (base_of entries) (map (λ (f : Function Label). f.type) fs)
defined_functions_erased entries [] = refl
defined_functions_erased entries (f ∷ fs) = ap (λ l. base_of entries f.type ∷ l) (defined_functions_erased entries fs)

pub function_entries_erased : (m : Module Label) → function_entries (erase_module m) ≡ map (base_of m.types) (function_entries m)
function_entries_erased m =
    ap₂ (λ (xs ys : List ℕ). xs ++ ys) (imported_functions_erased m.types m.imports) (defined_functions_erased m.types m.functions)
    ∙ sym (map-append (base_of m.types) (imported_functions m.imports) (map (λ (f : Function Label). f.type) m.functions))

with_global_erased : (entries : List (TypeEntry Label)) (k : Extern Label) (xs ys : List (VariableType Label)) → xs ≡ map erase_variable_type ys → with_global (erase_extern entries k) xs ≡ map erase_variable_type (with_global k ys)
with_global_erased entries (ImportedGlobal type) xs ys e = ap (λ l. erase_variable_type type ∷ l) e
with_global_erased entries (ImportedFunction type) xs ys e = e
with_global_erased entries (ImportedTable limits) xs ys e = e
with_global_erased entries (ImportedMemory type) xs ys e = e

pub imported_globals_erased : (entries : List (TypeEntry Label)) (imports : List (Import Label)) → imported_globals (map (erase_import entries) imports) ≡ map erase_variable_type (imported_globals imports)
imported_globals_erased entries [] = refl
imported_globals_erased entries (i ∷ others) = with_global_erased entries i.kind _ _ (imported_globals_erased entries others)

defined_globals_erased : (gs : List (Global Label)) → map (λ (g : Global Label). g.type) (map erase_global gs) ≡ map erase_variable_type (map (λ (g : Global Label). g.type) gs)
defined_globals_erased [] = refl
defined_globals_erased (g ∷ gs) = ap (λ l. erase_variable_type g.type ∷ l) (defined_globals_erased gs)

pub global_types_erased : (m : Module Label) → global_types (erase_module m) ≡ map erase_variable_type (global_types m)
global_types_erased m =
    ap₂ (λ (xs ys : List (VariableType Label)). xs ++ ys) (imported_globals_erased m.types m.imports) (defined_globals_erased m.globals)
    ∙ sym (map-append erase_variable_type (imported_globals m.imports) (map (λ (g : Global Label). g.type) m.globals))

or_memory_erased : (entries : List (TypeEntry Label)) (k : Extern Label) (x y : Option (MemoryType Label)) → x ≡ option_map erase_memory_type y → or_memory (erase_extern entries k) x ≡ option_map erase_memory_type (or_memory k y)
or_memory_erased entries (ImportedMemory type) x y e = refl
or_memory_erased entries (ImportedFunction type) x y e = e
or_memory_erased entries (ImportedTable limits) x y e = e
or_memory_erased entries (ImportedGlobal type) x y e = e

pub memory_erased : (entries : List (TypeEntry Label)) (imports : List (Import Label)) (defined : Option (MemoryType Label)) → memory_among (map (erase_import entries) imports) (option_map erase_memory_type defined) ≡ option_map erase_memory_type (memory_among imports defined)
memory_erased entries [] defined = refl
memory_erased entries (i ∷ others) defined = or_memory_erased entries i.kind _ _ (memory_erased entries others defined)

or_table_erased : (entries : List (TypeEntry Label)) (k : Extern Label) (x y : Option Limits) → x ≡ y → or_table (erase_extern entries k) x ≡ or_table k y
or_table_erased entries (ImportedTable limits) x y e = refl
or_table_erased entries (ImportedFunction type) x y e = e
or_table_erased entries (ImportedMemory type) x y e = e
or_table_erased entries (ImportedGlobal type) x y e = e

pub table_erased : (entries : List (TypeEntry Label)) (imports : List (Import Label)) (defined : Option Limits) → table_among (map (erase_import entries) imports) defined ≡ table_among imports defined
table_erased entries [] defined = refl
table_erased entries (i ∷ others) defined = or_table_erased entries i.kind _ _ (table_erased entries others defined)

-- an element of a mapped list
pub map_gets : {A B : Type 0} (f : A → B) (xs : List A) (i : ℕ) (x : A) → slice_get xs i ≡ Some x → slice_get (map f xs) i ≡ Some (f x)
map_gets f xs i x e = slice_get-map f xs i ∙ ap (option_map f) e

tag_of : (o : Option (MemoryType Label)) (l : Label) → option_map (λ (t : MemoryType Label). t.tag) o ≡ Some l → option_map (λ (t : MemoryType Label). t.tag) (option_map erase_memory_type o) ≡ Some Public
tag_of None l e = cc
tag_of (Some t) l e = refl

context_erases : (m : Module Label) → VariantsFit m.types → (f : Function Label) → ErasesTo m.types (context_of m f) (context_of (erase_module m) (erase_function m.types f))
context_erases m fit f =
    let own : type_named (erase_module m) (base_of m.types f.type) ≡ erase_function_type (type_named m f.type) = named_erased m fit f.type in
    let result : (type_named (erase_module m) (base_of m.types f.type)).result ≡ option_map erase_value_type (type_named m f.type).result = ap (λ (t : FunctionType Label). t.result) own in
    record {
      types = λ y g e. let entry = map_get type_of m.types y g e in
          map_gets type_of (erase_entries m.types) (base_of m.types y) (entry_of (erase_function_type entry.0.type)) (base_erased m.types fit y entry.0 entry.1) ∙ ap (λ t. Some (erase_function_type t)) entry.2;
      functions = λ x g e. let i = map_get (type_named m) (function_entries m) x g e in
          ap (λ l. slice_get (map (type_named (erase_module m)) l) x) (function_entries_erased m)
          ∙ map_gets (type_named (erase_module m)) (map (base_of m.types) (function_entries m)) x (base_of m.types i.0) (map_gets (base_of m.types) (function_entries m) x i.0 i.1)
          ∙ ap Some (named_erased m fit i.0 ∙ ap erase_function_type i.2);
      globals = λ x g e. ap (λ l. slice_get l x) (global_types_erased m) ∙ map_gets erase_variable_type (global_types m) x g e;
      locals = λ x t e.
          ap (λ (u : FunctionType Label). slice_get (u.params ++ map erase_value_type f.locals) x) own
          ∙ ap (λ l. slice_get l x) (sym (map-append erase_value_type (type_named m f.type).params f.locals))
          ∙ map_gets erase_value_type ((type_named m f.type).params ++ f.locals) x t e;
      memory = λ l e. ap (option_map (λ (t : MemoryType Label). t.tag)) (memory_erased m.types m.imports m.memory) ∙ tag_of (memory_among m.imports m.memory) l e;
      table = λ e. ap (λ (o : Option Limits). is_some o) (table_erased m.types m.imports m.table) ∙ e;
      result = result;
      labels = λ k t e. ap (λ u. slice_get (u ∷ []) k) result ∙ map_gets (option_map erase_value_type) ((type_named m f.type).result ∷ []) k t e;
      public = refl;
    }

pub body_erased : (m : Module Label) (f : Function Label) → VariantsFit m.types → HasItsType m f → HasItsType (erase_module m) (erase_function m.types f)
body_erased m f fit t =
    let typed = code_erased m.types (context_of m f) (context_of (erase_module m) (erase_function m.types f)) (context_erases m fit f) f.body [] (optional (type_named m f.type).result) t in
    let result = map-optional erase_value_type (type_named m f.type).result ∙ ap (λ (u : FunctionType Label). optional u.result) (sym (named_erased m fit f.type)) in
    subst (λ ts. Typed (context_of (erase_module m) (erase_function m.types f)) (erase_code m.types f.body) [] ts) result typed

all_map : {A B : Type 0} (P : B → Type 0) (f : A → B) (xs : List A) → ((x : A) → P (f x)) → All P (map f xs)
all_map P f [] h k d less = absurd (omega (arith, less))
all_map P f (x ∷ xs) h zero d less = h x
all_map P f (x ∷ xs) h (suc k) d less = all_map P f xs h k d (omega (arith, less))

pub erased_untrusted : (fns : Functions) → AllUntrusted (erase_functions fns)
erased_untrusted fns = all_map (λ fn. fn.type.trust ≡ Untrusted) erase_instance fns (λ fn. refl)
