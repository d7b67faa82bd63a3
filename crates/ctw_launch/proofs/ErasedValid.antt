-- The erased module of a valid module is valid.
use Rattle.std.proofs.Common.{◌≡◌, ℕ, List, [], ◌∷◌, map, slice_get, Option, Some, None, is_some, option_map, All, refl, sym, ap, subst, ◌∙◌, append-nil}
use Rattle.std.specs.Prelude.{IsSome, IfSome}
use Rattle.std.specs.List.{cons_option}
use Rattle.std.proofs.lemmas.Bool.{false≢true}
use Rattle.std.proofs.lemmas.List.Elements.{All-nil, All-cons, All-map, All-weaker}
use Rattle.ctw_ops.specs.declared.types.Label.{Label}
use Rattle.ctw_ops.specs.declared.types.Label.TheVariants.{Public}
use Rattle.ctw_ops.specs.declared.types.Width.TheVariants.{W32}
use Rattle.ctw_ops.specs.declared.types.Limits.{Limits}
use Rattle.ctw_ops.specs.declared.types.ExternTag.{ExternTag}
use Rattle.ctw_ops.specs.declared.types.ExternTag.TheVariants as tag
use Rattle.ctw_ops.specs.Types.{ValueType, FunctionType, VariableType, MemoryType, value_type, erase_value_type, erase_function_type}
use Rattle.ctw_ops.specs.Tree.{Module, TypeEntry, Extern, ImportedFunction, ImportedTable, ImportedMemory, ImportedGlobal, Import, Function, Constant, Number, ValueOf, Global, Element, Segment, imported_globals, memory_among, table_among, function_entries, global_types}
use Rattle.ctw_ops.specs.Bodies.{HasItsType}
use Rattle.ctw_ops.specs.Erasure.{kept_entry, erase_entries, base_of, erase_variable_type, erase_memory_type, erase_extern, erase_import, erase_function, erase_constant, erase_global, erase_element, erase_segment, erase_module}
use Rattle.ctw_ops.specs.Valid.{IsEntry, IsVariant, AreTypes, Names, IsMemory, IsImported, HasType, IsGlobal, IsOffset, IsExported, IsStart, IsElement, IsSegment, IsValidAround, IsValid}
use Rattle.ctw_semantics.proofs.Entries.{entry_of, base_erased}
use Rattle.ctw_semantics.proofs.Modules.{named_erased, body_erased, function_entries_erased, imported_globals_erased, global_types_erased, memory_erased, table_erased, map_gets}
use Rattle.ctw_launch.proofs.ErasedFormed.{formed_erased}
use Rattle.ctw_ops.proofs.Variants.{VariantsFit, variants_fit}

named_there : {A : Type 0} (xs : List A) (i : ℕ) → Names xs i → (x : A) × (slice_get xs i ≡ Some x)
named_there {A} xs i h = go (slice_get xs i) refl h
  where
    go : (o : Option A) → slice_get xs i ≡ o → IsSome o → (x : A) × (slice_get xs i ≡ Some x)
    go None e s = absurd (false≢true s)
    go (Some x) e s = (x, e)

names_map : {A B : Type 0} (f : A → B) (xs : List A) (i : ℕ) → Names xs i → Names (map f xs) i
names_map f xs i h = let x = named_there xs i h in ap is_some (map_gets f xs i x.0 x.1)

some_map : {A B : Type 0} (f : A → B) (o : Option A) → IsSome o → IsSome (option_map f o)
some_map f None h = h
some_map f (Some x) h = refl

-- ---- types

plain_erased : (types : List (TypeEntry Label)) → All IsEntry (erase_entries types)
plain_erased [] = All-nil IsEntry
plain_erased (d ∷ ds) = go d.base (plain_erased ds)
  where
    go : (b : Option ℕ) → All IsEntry (erase_entries ds) → All IsEntry (cons_option (kept_entry b d.type) (erase_entries ds))
    go None h = All-cons IsEntry (entry_of (erase_function_type d.type)) (erase_entries ds) refl h
    go (Some base) h = h

types_erased : (types : List (TypeEntry Label)) → AreTypes (erase_entries types)
types_erased types = record { entries = erase_entries types; variants = []; all = sym (append-nil (erase_entries types)); plain = plain_erased types; based = All-nil (IsVariant (erase_entries types)) }

entry_names : (types : List (TypeEntry Label)) → VariantsFit types → (i : ℕ) → Names types i → Names (erase_entries types) (base_of types i)
entry_names types fit i h = let x = named_there types i h in ap is_some (base_erased types fit i x.0 x.1)

-- ---- constants

constant_erased : (gs : List (VariableType Label)) (t : ValueType Label) (c : Constant Label) → HasType gs t c → HasType (map erase_variable_type gs) (erase_value_type t) (erase_constant c)
constant_erased gs t (Number type bits) h = ap erase_value_type h
constant_erased gs t (ValueOf x) h = (erase_variable_type h.0, map_gets erase_variable_type gs x h.0 h.1, h.2, ap erase_value_type h.3)

module _ (m : Module Label) (fit : VariantsFit m.types) where
  extern_erased : (e : Extern Label) → IsImported m e → IsImported (erase_module m) (erase_extern m.types e)
  extern_erased (ImportedFunction type) h = entry_names m.types fit type h
  extern_erased (ImportedTable limits) h = h
  extern_erased (ImportedMemory type) h = h
  extern_erased (ImportedGlobal type) h = h

  function_names : (i : ℕ) → Names (function_entries m) i → Names (function_entries (erase_module m)) i
  function_names i h = subst (λ (l : List ℕ). Names l i) (sym (function_entries_erased m)) (names_map (base_of m.types) (function_entries m) i h)

  has_table : IsSome (table_among m.imports m.table) → IsSome (table_among (erase_module m).imports (erase_module m).table)
  has_table h = subst (λ (o : Option Limits). IsSome o) (sym (table_erased m.types m.imports m.table)) h

  has_memory : IsSome (memory_among m.imports m.memory) → IsSome (memory_among (erase_module m).imports (erase_module m).memory)
  has_memory h = subst (λ (o : Option (MemoryType Label)). IsSome o) (sym (memory_erased m.types m.imports m.memory)) (some_map erase_memory_type (memory_among m.imports m.memory) h)

  exported_erased : (t : ExternTag) (i : ℕ) → IsExported m t i → IsExported (erase_module m) t i
  exported_erased tag.Func i h = function_names i h
  exported_erased tag.Table i h = (h.0, has_table h.1)
  exported_erased tag.Memory i h = (h.0, has_memory h.1)
  exported_erased tag.Global i h = subst (λ (l : List (VariableType Label)). Names l i) (sym (global_types_erased m)) (names_map erase_variable_type (global_types m) i h)

  memory_valid : (o : Option (MemoryType Label)) → IfSome o IsMemory → IfSome (option_map erase_memory_type o) IsMemory
  memory_valid None h = h
  memory_valid (Some t) h = h

  global_valid : (g : Global Label) → IsGlobal m g → IsGlobal (erase_module m) (erase_global g)
  global_valid g h = subst (λ (l : List (VariableType Label)). HasType l (erase_value_type g.type.value) (erase_constant g.init)) (sym (imported_globals_erased m.types m.imports)) (constant_erased (imported_globals m.imports) g.type.value g.init h)

  offset_valid : (c : Constant Label) → IsOffset m c → IsOffset (erase_module m) (erase_constant c)
  offset_valid c h = subst (λ (l : List (VariableType Label)). HasType l (value_type W32 Public) (erase_constant c)) (sym (global_types_erased m)) (constant_erased (global_types m) (value_type W32 Public) c h)

  start_valid : (o : Option ℕ) → IfSome o (IsStart m) → IfSome o (IsStart (erase_module m))
  start_valid None h = h
  start_valid (Some f) h = (
    base_of m.types h.0,
    ap (λ (l : List ℕ). slice_get l f) (function_entries_erased m) ∙ map_gets (base_of m.types) (function_entries m) f h.0 h.1,
    ap (λ (t : FunctionType Label). t.params) (named_erased m fit h.0) ∙ ap (map erase_value_type) h.2,
    ap (λ (t : FunctionType Label). t.result) (named_erased m fit h.0) ∙ ap (option_map erase_value_type) h.3,
  )

  element_valid : (e : Element Label) → IsElement m e → IsElement (erase_module m) (erase_element e)
  element_valid e h = (h.0, has_table h.1, offset_valid e.offset h.2, All-weaker (Names (function_entries m)) (Names (function_entries (erase_module m))) function_names e.functions h.3)

  segment_valid : (s : Segment Label) → IsSegment m s → IsSegment (erase_module m) (erase_segment s)
  segment_valid s h = (h.0, has_memory h.1, offset_valid s.offset h.2)

  around_erased : IsValidAround m → IsValidAround (erase_module m)
  around_erased v =
      let em = erase_module m in
      record {
        types = types_erased m.types;
        imports = All-map (λ (i : Import Label). IsImported em i.kind) (erase_import m.types) m.imports (All-weaker (λ (i : Import Label). IsImported m i.kind) (λ i. IsImported em (erase_extern m.types i.kind)) (λ i h. extern_erased i.kind h) m.imports v.imports);
        functions = All-map (λ (f : Function Label). Names em.types f.type) (erase_function m.types) m.functions (All-weaker (λ (f : Function Label). Names m.types f.type) (λ f. Names em.types (base_of m.types f.type)) (λ f h. entry_names m.types fit f.type h) m.functions v.functions);
        table = v.table;
        memory = memory_valid m.memory v.memory;
        globals = All-map (IsGlobal em) erase_global m.globals (All-weaker (IsGlobal m) (λ g. IsGlobal em (erase_global g)) global_valid m.globals v.globals);
        exports = All-weaker (λ e. IsExported m e.kind e.index) (λ e. IsExported em e.kind e.index) (λ e h. exported_erased e.kind e.index h) m.exports v.exports;
        names = v.names;
        start = start_valid m.start v.start;
        elements = All-map (IsElement em) erase_element m.elements (All-weaker (IsElement m) (λ e. IsElement em (erase_element e)) element_valid m.elements v.elements);
        segments = All-map (IsSegment em) erase_segment m.segments (All-weaker (IsSegment m) (λ s. IsSegment em (erase_segment s)) segment_valid m.segments v.segments);
      }

pub valid_erased : (m : Module Label) → IsValid m → IsValid (erase_module m)
valid_erased m v =
    let fit = variants_fit m.types v.around.types in
    record {
      formed = formed_erased m v.formed;
      around = around_erased m fit v.around;
      bodies = All-map (HasItsType (erase_module m)) (erase_function m.types) m.functions (All-weaker (HasItsType m) (λ f. HasItsType (erase_module m) (erase_function m.types f)) (λ f t. body_erased m f fit t) m.functions v.bodies);
    }
