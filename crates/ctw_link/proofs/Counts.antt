-- How many numbers of each kind a part has.
use Rattle.std.proofs.Common.{◌≡◌, ◌<◌, ℕ, suc, ◌+◌, Bool, true, false, List, [], ◌∷◌, ◌++◌, length, map, Option, Some, None, refl, sym, ap, ap₂, ◌∙◌, length-append, arith}
use Rattle.std.specs.Prelude.{filter_map, IsSome, cond}
use Rattle.std.specs.List.{range_with_len, cons_option}
use Rattle.std.proofs.lemmas.Bool.{false≢true}
use Rattle.std.proofs.lemmas.List.{length-map}
use Rattle.std.proofs.lemmas.List.FromFn.{length-range_with_len}
use Rattle.ctw_ops.specs.declared.types.Label.{Label}
use Rattle.ctw_ops.specs.declared.types.Limits.{Limits}
use Rattle.ctw_ops.specs.declared.types.ExternTag.{ExternTag}
use Rattle.ctw_ops.specs.declared.types.ExternTag.TheVariants.{Func, Table, Memory, Global as GlobalTag}
use Rattle.ctw_ops.specs.Types.{MemoryType}
use Rattle.ctw_ops.specs.Tree.{Module, Function, Global, Extern, ImportedFunction, ImportedTable, ImportedMemory, ImportedGlobal, Import, with_function, with_global, or_table, or_memory, imported_functions, imported_globals, table_among, memory_among, function_entries, global_types}
use Rattle.ctw_ops.specs.Typing.{optional}
use Rattle.ctw_ops.specs.Valid.{IsExported}
use Rattle.ctw_ops.specs.Once.{with_table, with_memory, imported_tables, imported_memories, all_tables, all_memories}
use Rattle.ctw_link.specs.Sets.{one_or_none, defined_in}
use Rattle.ctw_ops.specs.Equal.{same_tag}
use Rattle.ctw_link.specs.Numbers.{LinkedModule, numbers_behind, number_if, defined_before, tag_of, import_number}
use Rattle.ctw_link.proofs.ValidParts.{there}

-- how many things of a kind a module imports
abbrev pub imported_in : ExternTag → List (Import Label) → ℕ
imported_in Func imports = length (imported_functions imports)
imported_in Table imports = length (imported_tables imports)
imported_in Memory imports = length (imported_memories imports)
imported_in GlobalTag imports = length (imported_globals imports)

abbrev counted : Bool → ℕ → ℕ
counted true n = suc n
counted false n = n

imported_next : (tag : ExternTag) (i : Import Label) (imports : List (Import Label)) → imported_in tag (i ∷ imports) ≡ counted (same_tag tag (tag_of i.kind)) (imported_in tag imports)
imported_next Func i imports = by i.kind
  where
    by : (kind : Extern Label) → length (with_function kind (imported_functions imports)) ≡ counted (same_tag Func (tag_of kind)) (length (imported_functions imports))
    by (ImportedFunction type) = refl
    by (ImportedTable limits) = refl
    by (ImportedMemory type) = refl
    by (ImportedGlobal type) = refl
imported_next Table i imports = by i.kind
  where
    by : (kind : Extern Label) → length (with_table kind (imported_tables imports)) ≡ counted (same_tag Table (tag_of kind)) (length (imported_tables imports))
    by (ImportedFunction type) = refl
    by (ImportedTable limits) = refl
    by (ImportedMemory type) = refl
    by (ImportedGlobal type) = refl
imported_next Memory i imports = by i.kind
  where
    by : (kind : Extern Label) → length (with_memory kind (imported_memories imports)) ≡ counted (same_tag Memory (tag_of kind)) (length (imported_memories imports))
    by (ImportedFunction type) = refl
    by (ImportedTable limits) = refl
    by (ImportedMemory type) = refl
    by (ImportedGlobal type) = refl
imported_next GlobalTag i imports = by i.kind
  where
    by : (kind : Extern Label) → length (with_global kind (imported_globals imports)) ≡ counted (same_tag GlobalTag (tag_of kind)) (length (imported_globals imports))
    by (ImportedFunction type) = refl
    by (ImportedTable limits) = refl
    by (ImportedMemory type) = refl
    by (ImportedGlobal type) = refl

-- a part has a number for each thing that it imports
pub numbers_imported : (tag : ExternTag) (before : List LinkedModule) (imports : List (Import Label)) → length (filter_map (number_if tag before) imports) ≡ imported_in tag imports
numbers_imported tag before [] = none tag
  where
    none : (tag : ExternTag) → 0 ≡ imported_in tag []
    none Func = refl
    none Table = refl
    none Memory = refl
    none GlobalTag = refl
numbers_imported tag before (i ∷ imports) =
    go (same_tag tag (tag_of i.kind)) ∙ ap (counted (same_tag tag (tag_of i.kind))) (numbers_imported tag before imports) ∙ sym (imported_next tag i imports)
  where
    go : (b : Bool) → length (cons_option (cond b (Some (import_number before i)) None) (filter_map (number_if tag before) imports)) ≡ counted b (length (filter_map (number_if tag before) imports))
    go true = refl
    go false = refl

-- how many things of a kind a module has, imported ones among them
abbrev pub things : ExternTag → Module Label → ℕ
things Func m = length (function_entries m)
things Table m = length (all_tables m)
things Memory m = length (all_memories m)
things GlobalTag m = length (global_types m)

optional_length : {A : Type 0} (o : Option A) → length (optional o) ≡ one_or_none o
optional_length None = refl
optional_length (Some a) = refl

pub things_are : (tag : ExternTag) (m : Module Label) → things tag m ≡ imported_in tag m.imports + defined_in tag m
things_are Func m = length-append (imported_functions m.imports) (map (λ (f : Function Label). f.type) m.functions) ∙ ap (λ (n : ℕ). length (imported_functions m.imports) + n) (length-map m.functions (λ (f : Function Label). f.type))
things_are Table m = length-append (imported_tables m.imports) (optional m.table) ∙ ap (λ (n : ℕ). length (imported_tables m.imports) + n) (optional_length m.table)
things_are Memory m = length-append (imported_memories m.imports) (optional m.memory) ∙ ap (λ (n : ℕ). length (imported_memories m.imports) + n) (optional_length m.memory)
things_are GlobalTag m = length-append (imported_globals m.imports) (map (λ (g : Global Label). g.type) m.globals) ∙ ap (λ (n : ℕ). length (imported_globals m.imports) + n) (length-map m.globals (λ (g : Global Label). g.type))

-- a part has a number for each thing
pub numbers_count : (tag : ExternTag) (before : List LinkedModule) (m : Module Label) → length (numbers_behind tag before m) ≡ things tag m
numbers_count tag before m =
    length-append (filter_map (number_if tag before) m.imports) (range_with_len (defined_before tag before) (defined_in tag m))
    ∙ ap₂ ◌+◌ (numbers_imported tag before m.imports) (length-range_with_len (defined_before tag before) (defined_in tag m)) ∙ sym (things_are tag m)

some_there : {A : Type 0} (o : Option A) → IsSome o → 0 < length (optional o)
some_there None h = absurd (false≢true h)
some_there (Some a) h = omega arith

pub table_there : (imports : List (Import Label)) (o : Option Limits) → IsSome (table_among imports o) → 0 < length (imported_tables imports ++ optional o)
table_there [] o h = some_there o h
table_there (i ∷ imports) o h = by i.kind h (table_there imports o)
  where
    by : (kind : Extern Label) → IsSome (or_table kind (table_among imports o)) → (IsSome (table_among imports o) → 0 < length (imported_tables imports ++ optional o)) → 0 < length (with_table kind (imported_tables imports) ++ optional o)
    by (ImportedFunction type) h k = k h
    by (ImportedTable limits) h k = omega arith
    by (ImportedMemory type) h k = k h
    by (ImportedGlobal type) h k = k h

pub memory_there : (imports : List (Import Label)) (o : Option (MemoryType Label)) → IsSome (memory_among imports o) → 0 < length (imported_memories imports ++ optional o)
memory_there [] o h = some_there o h
memory_there (i ∷ imports) o h = by i.kind h (memory_there imports o)
  where
    by : (kind : Extern Label) → IsSome (or_memory kind (memory_among imports o)) → (IsSome (memory_among imports o) → 0 < length (imported_memories imports ++ optional o)) → 0 < length (with_memory kind (imported_memories imports) ++ optional o)
    by (ImportedFunction type) h k = k h
    by (ImportedTable limits) h k = k h
    by (ImportedMemory type) h k = omega arith
    by (ImportedGlobal type) h k = k h

there_some : {A : Type 0} (o : Option A) → 0 < length (optional o) → IsSome o
there_some None lt = absurd (omega (arith, lt))
there_some (Some a) lt = refl

-- the converse of `table_there`, and of `memory_there`
pub there_table : (imports : List (Import Label)) (o : Option Limits) → 0 < length (imported_tables imports ++ optional o) → IsSome (table_among imports o)
there_table [] o lt = there_some o lt
there_table (i ∷ imports) o lt = by i.kind lt (there_table imports o)
  where
    by : (kind : Extern Label) → 0 < length (with_table kind (imported_tables imports) ++ optional o) → (0 < length (imported_tables imports ++ optional o) → IsSome (table_among imports o)) → IsSome (or_table kind (table_among imports o))
    by (ImportedFunction type) h k = k h
    by (ImportedTable limits) h k = refl
    by (ImportedMemory type) h k = k h
    by (ImportedGlobal type) h k = k h

pub there_memory : (imports : List (Import Label)) (o : Option (MemoryType Label)) → 0 < length (imported_memories imports ++ optional o) → IsSome (memory_among imports o)
there_memory [] o lt = there_some o lt
there_memory (i ∷ imports) o lt = by i.kind lt (there_memory imports o)
  where
    by : (kind : Extern Label) → 0 < length (with_memory kind (imported_memories imports) ++ optional o) → (0 < length (imported_memories imports ++ optional o) → IsSome (memory_among imports o)) → IsSome (or_memory kind (memory_among imports o))
    by (ImportedFunction type) h k = k h
    by (ImportedTable limits) h k = k h
    by (ImportedMemory type) h k = refl
    by (ImportedGlobal type) h k = k h

-- what may be exported is one of a module's things
pub export_there : (m : Module Label) (tag : ExternTag) (index : ℕ) → IsExported m tag index → index < things tag m
export_there m Func index h = there (function_entries m) index h
export_there m Table index h = omega (arith, h.0, table_there m.imports m.table h.1)
export_there m Memory index h = omega (arith, h.0, memory_there m.imports m.memory h.1)
export_there m GlobalTag index h = there (global_types m) index h
