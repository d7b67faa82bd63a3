-- The parts of a linked set: their names and trees are those of the set, and each has a number for each of its indexes.
use Rattle.std.proofs.Common.{◌≡◌, ◌<◌, ℕ, zero, suc, List, [], ◌∷◌, ◌++◌, length, map, get_or, slice_get, fold, filter_map, Option, Some, None, is_some, option_map, All, refl, sym, ap, subst, ◌∙◌, arith}
use Rattle.std.specs.List.{cons_option, range_with_len}
use Rattle.std.specs.Prelude.{if◌then◌else◌}
use Rattle.std.proofs.lemmas.List.{length-append, length-map}
use Rattle.std.proofs.lemmas.List.Elements.{All-nil, All-push, All-get_or}
use Rattle.std.proofs.lemmas.List.FromFn.{length-range_with_len}
use Rattle.std.proofs.lemmas.Option.{slice_get-map, slice_get_within, slice_get_read, get_or_from_slice_get, same_Some}
use Rattle.ctw_ops.specs.declared.types.Label.{Label}
use Rattle.ctw_ops.specs.declared.types.Limits.{Limits}
use Rattle.ctw_ops.specs.declared.types.ExternTag.TheVariants as tag
use Rattle.ctw_ops.specs.Types.{MemoryType, VariableType}
use Rattle.ctw_ops.specs.Tree.{Extern, ImportedFunction, ImportedTable, ImportedMemory, ImportedGlobal, Import, with_function, with_global, or_memory, or_table, imported_functions, imported_globals, memory_among, table_among, function_entries, global_types}
use Rattle.ctw_module.specs.Trees.{view_module}
use Rattle.ctw_link.specs.declared.set.Part.{Part}
use Rattle.ctw_link.specs.Sets.{NamedModule, ModuleSet, part_in, set_of, one_or_none}
use Rattle.ctw_ops.specs.Equal.{same_tag}
use Rattle.ctw_link.specs.Numbers.{StoreNumbers, LinkedModule, tag_of, number_if, import_number, defined_before, linked_module, with_linked, linked}
use Rattle.ctw_link.specs.Linked.{IsPart}
use Rattle.ctw_module.proofs.IndexSpaces.{functions_count, globals_count}
use Rattle.ctw_link.proofs.LinkedFronts.{bare, bare_linked, linked_length}

-- ---- elements by index

pub some_there : {A : Type 0} (l : List A) (i : ℕ) → i < length l → (a : A) × (slice_get l i ≡ Some a)
some_there [] i lt = absurd (omega (arith, lt))
some_there (a ∷ l) zero lt = (a, refl)
some_there (a ∷ l) (suc i) lt = some_there l i (omega (arith, lt))

pub all_at : {A : Type 0} (P : A → Type 0) (l : List A) (i : ℕ) (a : A) → All P l → slice_get l i ≡ Some a → P a
all_at P l i a h e = subst P (get_or_from_slice_get l i a a e) (All-get_or P l i a (slice_get_within l i a e) h)

-- ---- numbers for all indexes

-- a part has a number for each of its functions and globals, and for its table and its memory
pub record Counted (q : LinkedModule) : Type 0 where
  pub functions : length q.numbers.functions ≡ length (function_entries q.tree)
  pub tables : is_some (slice_get q.numbers.tables 0) ≡ is_some (table_among q.tree.imports q.tree.table)
  pub memories : is_some (slice_get q.numbers.memories 0) ≡ is_some (memory_among q.tree.imports q.tree.memory)
  pub globals : length q.numbers.globals ≡ length (global_types q.tree)

function_imports : (before : List LinkedModule) (l : List (Import Label)) → length (filter_map (number_if tag.Func before) l) ≡ length (imported_functions l)
function_imports before [] = refl
function_imports before (i ∷ l) = go i.kind (import_number before i) (filter_map (number_if tag.Func before) l) (imported_functions l) (function_imports before l)
  where
    go : (e : Extern Label) (n : ℕ) (xs ys : List ℕ) → length xs ≡ length ys → length (cons_option (if same_tag tag.Func (tag_of e) then Some n else None) xs) ≡ length (with_function e ys)
    go (ImportedFunction type) n xs ys h = ap suc h
    go (ImportedTable limits) n xs ys h = h
    go (ImportedMemory type) n xs ys h = h
    go (ImportedGlobal type) n xs ys h = h

global_imports : (before : List LinkedModule) (l : List (Import Label)) → length (filter_map (number_if tag.Global before) l) ≡ length (imported_globals l)
global_imports before [] = refl
global_imports before (i ∷ l) = go i.kind (import_number before i) (filter_map (number_if tag.Global before) l) (imported_globals l) (global_imports before l)
  where
    go : (e : Extern Label) (n : ℕ) (xs : List ℕ) (ys : List (VariableType Label)) → length xs ≡ length ys → length (cons_option (if same_tag tag.Global (tag_of e) then Some n else None) xs) ≡ length (with_global e ys)
    go (ImportedFunction type) n xs ys h = h
    go (ImportedTable limits) n xs ys h = h
    go (ImportedMemory type) n xs ys h = h
    go (ImportedGlobal type) n xs ys h = ap suc h

first_defined : {A : Type 0} (start : ℕ) (o : Option A) → is_some (slice_get (range_with_len start (one_or_none o)) 0) ≡ is_some o
first_defined start None = refl
first_defined start (Some a) = refl

table_first : (before : List LinkedModule) (l : List (Import Label)) (start : ℕ) (o : Option Limits)
    → is_some (slice_get (filter_map (number_if tag.Table before) l ++ range_with_len start (one_or_none o)) 0) ≡ is_some (table_among l o)
table_first before [] start o = first_defined start o
table_first before (i ∷ l) start o = go i.kind (import_number before i) (filter_map (number_if tag.Table before) l) (table_among l o) (table_first before l start o)
  where
    go : (e : Extern Label) (n : ℕ) (xs : List ℕ) (among : Option Limits) → is_some (slice_get (xs ++ range_with_len start (one_or_none o)) 0) ≡ is_some among
        → is_some (slice_get (cons_option (if same_tag tag.Table (tag_of e) then Some n else None) xs ++ range_with_len start (one_or_none o)) 0) ≡ is_some (or_table e among)
    go (ImportedFunction type) n xs among h = h
    go (ImportedTable limits) n xs among h = refl
    go (ImportedMemory type) n xs among h = h
    go (ImportedGlobal type) n xs among h = h

memory_first : (before : List LinkedModule) (l : List (Import Label)) (start : ℕ) (o : Option (MemoryType Label))
    → is_some (slice_get (filter_map (number_if tag.Memory before) l ++ range_with_len start (one_or_none o)) 0) ≡ is_some (memory_among l o)
memory_first before [] start o = first_defined start o
memory_first before (i ∷ l) start o = go i.kind (import_number before i) (filter_map (number_if tag.Memory before) l) (memory_among l o) (memory_first before l start o)
  where
    go : (e : Extern Label) (n : ℕ) (xs : List ℕ) (among : Option (MemoryType Label)) → is_some (slice_get (xs ++ range_with_len start (one_or_none o)) 0) ≡ is_some among
        → is_some (slice_get (cons_option (if same_tag tag.Memory (tag_of e) then Some n else None) xs ++ range_with_len start (one_or_none o)) 0) ≡ is_some (or_memory e among)
    go (ImportedFunction type) n xs among h = h
    go (ImportedTable limits) n xs among h = h
    go (ImportedMemory type) n xs among h = refl
    go (ImportedGlobal type) n xs among h = h

counted_module : (before : List LinkedModule) (p : NamedModule) → Counted (linked_module before p)
counted_module before p =
    let m = p.tree in
    let imports = m.imports in
    let functions = defined_before tag.Func before in
    let globals = defined_before tag.Global before in
    record {
      functions = omega (arith, functions_count m, function_imports before imports, length-append (filter_map (number_if tag.Func before) imports) (range_with_len functions (length m.functions)), length-range_with_len functions (length m.functions));
      tables = table_first before imports (defined_before tag.Table before) m.table;
      memories = memory_first before imports (defined_before tag.Memory before) m.memory;
      globals = omega (arith, globals_count m, global_imports before imports, length-append (filter_map (number_if tag.Global before) imports) (range_with_len globals (length m.globals)), length-range_with_len globals (length m.globals));
    }

counted_behind : (l : List LinkedModule) (set : ModuleSet) → All Counted l → All Counted (fold with_linked l set)
counted_behind l [] h = h
counted_behind l (p ∷ set) h = counted_behind (with_linked l p) set (All-push Counted l (linked_module l p) h (counted_module l p))

pub all_counted : (set : ModuleSet) → All Counted (linked set)
all_counted set = counted_behind [] set (All-nil Counted)

-- ---- the part of an index

-- the linked part of an index, which has these numbers
pub record LinkedAt (parts : List Part) (k : ℕ) (n : StoreNumbers) : Type 0 where
  pub found : LinkedModule
  pub is : slice_get (linked (set_of parts)) k ≡ Some found
  pub has : found.numbers ≡ n
  pub counted : Counted found
  pub same : (p : Part) → IsPart parts k p → found.tree ≡ view_module p.«module»

same_tree : (parts : List Part) (k : ℕ) (q : LinkedModule) → slice_get (linked (set_of parts)) k ≡ Some q → (p : Part) → IsPart parts k p → q.tree ≡ view_module p.«module»
same_tree parts k q e p is =
    let set = set_of parts in
    let here : Some (bare q) ≡ Some (part_in p) =
    sym (slice_get-map bare (linked set) k ∙ ap (option_map bare) e) ∙ ap (λ (l : ModuleSet). slice_get l k) (bare_linked set) ∙ slice_get-map part_in parts k ∙ ap (option_map part_in) is in
    ap (λ (x : NamedModule). x.tree) (same_Some (bare q) (part_in p) here)

pub parts_numbered : (parts : List Part) (numbers : List StoreNumbers) → numbers ≡ map (λ p. p.numbers) (linked (set_of parts)) → length numbers ≡ length parts
parts_numbered parts numbers e =
    ap length e ∙ length-map (linked (set_of parts)) (λ p. p.numbers) ∙ linked_length (set_of parts) ∙ length-map parts part_in

pub linked_at : (parts : List Part) (numbers : List StoreNumbers) (k : ℕ) (n : StoreNumbers) → numbers ≡ map (λ p. p.numbers) (linked (set_of parts)) → k < length parts → n ≡ get_or numbers k n → LinkedAt parts k n
linked_at parts numbers k n e lt is =
    let set = set_of parts in
    let there = some_there (linked set) k (omega (arith, lt, linked_length set, length-map parts part_in)) in
    let numbers_in : LinkedModule → StoreNumbers = λ p. p.numbers in
    let here : Some there.0.numbers ≡ Some n =
    sym (slice_get-map numbers_in (linked set) k ∙ ap (option_map numbers_in) there.1) ∙ ap (λ (l : List StoreNumbers). slice_get l k) (sym e) ∙ slice_get_read numbers (length numbers) k n refl (omega (arith, lt, parts_numbered parts numbers e)) is in
    record {
      found = there.0;
      is = there.1;
      has = same_Some there.0.numbers n here;
      counted = all_at Counted (linked set) k there.0 (all_counted set) there.1;
      same = same_tree parts k there.0 there.1;
    }
