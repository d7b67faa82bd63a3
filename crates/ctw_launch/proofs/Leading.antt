-- The numbers of a part lead to things of the types that its module declares.
use Rattle.std.proofs.Common.{◌≡◌, ℕ, ◌+◌, List, [], ◌∷◌, ◌++◌, length, map, slice_get, filter_map, find, Option, Some, None, option_map, option_and_then, unwrap_or, All, refl, sym, ap, subst, ◌∙◌}
use Rattle.std.specs.List.{cons_option, range_with_len, AllZip}
use Rattle.std.specs.Prelude.{if◌then◌else◌}
use Rattle.std.proofs.lemmas.List.Elements.{All-head, All-tail}
use Rattle.std.proofs.lemmas.Option.{same_Some}
use Rattle.ctw_ops.specs.declared.types.Label.{Label}
use Rattle.ctw_ops.specs.declared.types.Limits.{Limits}
use Rattle.ctw_ops.specs.declared.types.ExternTag.{ExternTag}
use Rattle.ctw_ops.specs.declared.types.ExternTag.TheVariants as tag
use Rattle.ctw_ops.specs.Types.{VariableType, MemoryType}
use Rattle.ctw_ops.specs.Tree.{Module, Function, Global, Extern, ImportedFunction, ImportedTable, ImportedMemory, ImportedGlobal, Import, with_function, with_global, or_memory, or_table, imported_functions, imported_globals, memory_among, table_among, function_entries, global_types, type_named}
use Rattle.ctw_ops.specs.Valid.{IsExported, IsValid}
use Rattle.ctw_semantics.specs.Instances.{Functions}
use Rattle.ctw_semantics.specs.Sound.{Shape}
use Rattle.ctw_ops.specs.ExternType.{ExternType}
use Rattle.ctw_ops.specs.ExternType as external
use Rattle.ctw_module.specs.Lookup.{export_in}
use Rattle.ctw_link.specs.Sets.{NamedModule, ModuleSet, one_or_none}
use Rattle.ctw_link.specs.Externals.{wanted, declared_type, offered, has_name, Meets, IsMet}
use Rattle.ctw_ops.specs.Equal.{same_tag}
use Rattle.ctw_link.specs.Numbers.{LinkedModule, numbers_of, is_named, exported_number, import_number, tag_of, number_if, defined_before, linked_module}
use Rattle.ctw_link.specs.SetInstances.{LeadsToFunction, LeadsToGlobal, LeadsToMemory, LeadsToTable, LeadsTo}
use Rattle.ctw_link.proofs.LinkedFronts.{bare}
use Rattle.ctw_link.proofs.ValidParts.{exported}
use Rattle.ctw_link.proofs.Below.{mapped_some, find_bare, found_all}
use Rattle.ctw_launch.proofs.Pairs.{paired_append, paired_get, paired_range}

-- functions by their type entries
abbrev pub HasNamed : Functions → Module Label → ℕ → ℕ → Type 0
HasNamed fns m entry n = LeadsToFunction fns (type_named m entry) n

-- all indexes of a part lead to what its module declares
pub record Leads (fns : Functions) (shape : Shape) (q : LinkedModule) : Type 0 where
  pub functions : AllZip (HasNamed fns q.tree) (function_entries q.tree) q.numbers.functions
  pub globals : AllZip (LeadsToGlobal shape) (global_types q.tree) q.numbers.globals
  pub memory : (t : MemoryType Label) → memory_among q.tree.imports q.tree.memory ≡ Some t → (n : ℕ) × (slice_get q.numbers.memories 0 ≡ Some n) × LeadsToMemory shape t.tag n
  pub table : (l : Limits) → table_among q.tree.imports q.tree.table ≡ Some l → (n : ℕ) × (slice_get q.numbers.tables 0 ≡ Some n) × LeadsToTable shape n

module _ (fns : Functions) (shape : Shape) where
  -- what meets an import serves for it
  met_has : (got want : ExternType Label) (n : ℕ) → Meets got want → LeadsTo fns shape got n → LeadsTo fns shape want n
  met_has (external.Func entry t) (external.Func index u) n m h = (h.0, h.1, h.2 ∙ m)
  met_has (external.Table got) (external.Table want) n m h = h
  met_has (external.Memory got) (external.Memory want) n m h = (h.0, h.1, h.2 ∙ m.0)
  met_has (external.Global got) (external.Global want) n m h = h ∙ ap Some m
  met_has _ _ n m h = absurd m

  -- what is exported
  thing_leads : (q : LinkedModule) → Leads fns shape q → (t : ExternTag) (index : ℕ) (got : ExternType Label) → IsExported q.tree t index → declared_type q.tree t index ≡ Some got
      → (n : ℕ) × (slice_get (numbers_of t q.numbers) index ≡ Some n) × LeadsTo fns shape got n
  thing_leads q h tag.Func index got x e =
      let s = mapped_some _ _ got e in
      let at = paired_get (HasNamed fns q.tree) (function_entries q.tree) q.numbers.functions index s.0 h.functions s.1 in
      (at.0, at.1, subst (λ k. LeadsTo fns shape k at.0) s.2 at.2)
  thing_leads q h tag.Table index got x e =
      let s = mapped_some _ _ got e in
      let at = h.table s.0 s.1 in
      (at.0, ap (slice_get q.numbers.tables) x.0 ∙ at.1, subst (λ k. LeadsTo fns shape k at.0) s.2 at.2)
  thing_leads q h tag.Memory index got x e =
      let s = mapped_some _ _ got e in
      let at = h.memory s.0 s.1 in
      (at.0, ap (slice_get q.numbers.memories) x.0 ∙ at.1, subst (λ k. LeadsTo fns shape k at.0) s.2 at.2)
  thing_leads q h tag.Global index got x e =
      let s = mapped_some _ _ got e in
      let at = paired_get (LeadsToGlobal shape) (global_types q.tree) q.numbers.globals index s.0 h.globals s.1 in
      (at.0, at.1, subst (λ k. LeadsTo fns shape k at.0) s.2 at.2)

  -- what a part offers has a number, which leads to a thing of the offered type
  pub offer_leads : (q : LinkedModule) → Leads fns shape q → IsValid q.tree → (name : List ℕ) (got : ExternType Label) → offered q.tree name ≡ Some got → (n : ℕ) × (exported_number name q ≡ Some n) × LeadsTo fns shape got n
  offer_leads q h v name got e = by (export_in name q.tree.exports) refl e
    where
      by : (o : Option (ExternTag × ℕ)) → export_in name q.tree.exports ≡ o → option_and_then (λ thing. declared_type q.tree thing.0 thing.1) o ≡ Some got
          → (n : ℕ) × (option_and_then (λ thing. slice_get (numbers_of thing.0 q.numbers) thing.1) o ≡ Some n) × LeadsTo fns shape got n
      by None at e = absurd cc
      by (Some thing) at e = thing_leads q h thing.0 thing.1 got (exported q.tree name thing.0 thing.1 v at) e

  pub import_leads : (before : List LinkedModule) (done : ModuleSet) (m : Module Label) (i : Import Label) → map bare before ≡ done → All (Leads fns shape) before → All (λ q. IsValid q.tree) before → IsMet done m i
      → LeadsTo fns shape (wanted m i.kind) (import_number before i)
  import_leads before done m i same leads valid met =
      let found : option_and_then (λ p. offered p.tree i.name) (option_map bare (find (is_named i.module_name) before)) ≡ Some met.0 =
      ap (option_and_then (λ (p : NamedModule). offered p.tree i.name)) (sym (find_bare i.module_name before) ∙ ap (find (has_name i.module_name)) same) ∙ met.1 in
      met_has met.0 (wanted m i.kind) (import_number before i) met.2 (by_part (find (is_named i.module_name) before) refl found)
    where
      by_part : (o : Option LinkedModule) → find (is_named i.module_name) before ≡ o → option_and_then (λ p. offered p.tree i.name) (option_map bare o) ≡ Some met.0
          → LeadsTo fns shape met.0 (unwrap_or (option_and_then (exported_number i.name) o) 0)
      by_part None at e = absurd cc
      by_part (Some q) at e =
          let l = offer_leads q (found_all (Leads fns shape) (is_named i.module_name) before q leads at) (found_all (λ (q : LinkedModule). IsValid q.tree) (is_named i.module_name) before q valid at) i.name met.0 e in
          subst (λ (o : Option ℕ). LeadsTo fns shape met.0 (unwrap_or o 0)) (sym l.1) l.2

  -- ---- all imports of a module

  abbrev pub Served : List LinkedModule → Module Label → Import Label → Type 0
  Served before m i = LeadsTo fns shape (wanted m i.kind) (import_number before i)

  functions_imported : (before : List LinkedModule) (m : Module Label) (l : List (Import Label)) → All (Served before m) l → AllZip (HasNamed fns m) (imported_functions l) (filter_map (number_if tag.Func before) l)
  functions_imported before m [] h = tt
  functions_imported before m (i ∷ l) h = go i.kind (import_number before i) (imported_functions l) (filter_map (number_if tag.Func before) l) (All-head (Served before m) i l h) (functions_imported before m l (All-tail (Served before m) i l h))
    where
      go : (e : Extern Label) (n : ℕ) (ys ns : List ℕ) → LeadsTo fns shape (wanted m e) n → AllZip (HasNamed fns m) ys ns → AllZip (HasNamed fns m) (with_function e ys) (cons_option (if same_tag tag.Func (tag_of e) then Some n else None) ns)
      go (ImportedFunction type) n ys ns h r = (h, r)
      go (ImportedTable limits) n ys ns h r = r
      go (ImportedMemory type) n ys ns h r = r
      go (ImportedGlobal type) n ys ns h r = r

  pub globals_imported : (before : List LinkedModule) (m : Module Label) (l : List (Import Label)) → All (Served before m) l → AllZip (LeadsToGlobal shape) (imported_globals l) (filter_map (number_if tag.Global before) l)
  globals_imported before m [] h = tt
  globals_imported before m (i ∷ l) h = go i.kind (import_number before i) (imported_globals l) (filter_map (number_if tag.Global before) l) (All-head (Served before m) i l h) (globals_imported before m l (All-tail (Served before m) i l h))
    where
      go : (e : Extern Label) (n : ℕ) (ys : List (VariableType Label)) (ns : List ℕ) → LeadsTo fns shape (wanted m e) n → AllZip (LeadsToGlobal shape) ys ns → AllZip (LeadsToGlobal shape) (with_global e ys) (cons_option (if same_tag tag.Global (tag_of e) then Some n else None) ns)
      go (ImportedFunction type) n ys ns h r = r
      go (ImportedTable limits) n ys ns h r = r
      go (ImportedMemory type) n ys ns h r = r
      go (ImportedGlobal type) n ys ns h r = (h, r)

  memory_leads : (before : List LinkedModule) (m : Module Label) (l : List (Import Label)) (start : ℕ) (o : Option (MemoryType Label)) → All (Served before m) l → ((t : MemoryType Label) → o ≡ Some t → LeadsToMemory shape t.tag start)
      → (t : MemoryType Label) → memory_among l o ≡ Some t → (n : ℕ) × (slice_get (filter_map (number_if tag.Memory before) l ++ range_with_len start (one_or_none o)) 0 ≡ Some n) × LeadsToMemory shape t.tag n
  memory_leads before m [] start None h d t e = absurd cc
  memory_leads before m [] start (Some u) h d t e = (start, refl, d t e)
  memory_leads before m (i ∷ l) start o h d t e = go i.kind (import_number before i) (filter_map (number_if tag.Memory before) l) (memory_among l o) (All-head (Served before m) i l h) (memory_leads before m l start o (All-tail (Served before m) i l h) d) t e
    where
      go : (e : Extern Label) (n : ℕ) (ns : List ℕ) (among : Option (MemoryType Label)) → LeadsTo fns shape (wanted m e) n
          → ((t : MemoryType Label) → among ≡ Some t → (n : ℕ) × (slice_get (ns ++ range_with_len start (one_or_none o)) 0 ≡ Some n) × LeadsToMemory shape t.tag n)
          → (t : MemoryType Label) → or_memory e among ≡ Some t → (k : ℕ) × (slice_get (cons_option (if same_tag tag.Memory (tag_of e) then Some n else None) ns ++ range_with_len start (one_or_none o)) 0 ≡ Some k) × LeadsToMemory shape t.tag k
      go (ImportedFunction type) n ns among h f t e = f t e
      go (ImportedTable limits) n ns among h f t e = f t e
      go (ImportedMemory type) n ns among h f t e = (n, refl, subst (λ (u : MemoryType Label). LeadsToMemory shape u.tag n) (same_Some type t e) h)
      go (ImportedGlobal type) n ns among h f t e = f t e

  table_leads : (before : List LinkedModule) (m : Module Label) (l : List (Import Label)) (start : ℕ) (o : Option Limits) → All (Served before m) l → ((t : Limits) → o ≡ Some t → LeadsToTable shape start)
      → (t : Limits) → table_among l o ≡ Some t → (n : ℕ) × (slice_get (filter_map (number_if tag.Table before) l ++ range_with_len start (one_or_none o)) 0 ≡ Some n) × LeadsToTable shape n
  table_leads before m [] start None h d t e = absurd cc
  table_leads before m [] start (Some u) h d t e = (start, refl, d t e)
  table_leads before m (i ∷ l) start o h d t e = go i.kind (import_number before i) (filter_map (number_if tag.Table before) l) (table_among l o) (All-head (Served before m) i l h) (table_leads before m l start o (All-tail (Served before m) i l h) d) t e
    where
      go : (e : Extern Label) (n : ℕ) (ns : List ℕ) (among : Option Limits) → LeadsTo fns shape (wanted m e) n
          → ((t : Limits) → among ≡ Some t → (n : ℕ) × (slice_get (ns ++ range_with_len start (one_or_none o)) 0 ≡ Some n) × LeadsToTable shape n)
          → (t : Limits) → or_table e among ≡ Some t → (k : ℕ) × (slice_get (cons_option (if same_tag tag.Table (tag_of e) then Some n else None) ns ++ range_with_len start (one_or_none o)) 0 ≡ Some k) × LeadsToTable shape k
      go (ImportedFunction type) n ns among h f t e = f t e
      go (ImportedTable limits) n ns among h f t e = (n, refl, h)
      go (ImportedMemory type) n ns among h f t e = f t e
      go (ImportedGlobal type) n ns among h f t e = f t e

  -- ---- a module

  -- what a module defines stands behind what the parts before define
  pub record DefinesHere (before : List LinkedModule) (m : Module Label) : Type 0 where
    pub functions : (j : ℕ) (f : Function Label) → slice_get m.functions j ≡ Some f → HasNamed fns m f.type (j + defined_before tag.Func before)
    pub globals : (j : ℕ) (g : Global Label) → slice_get m.globals j ≡ Some g → LeadsToGlobal shape g.type (j + defined_before tag.Global before)
    pub memory : (t : MemoryType Label) → m.memory ≡ Some t → LeadsToMemory shape t.tag (defined_before tag.Memory before)
    pub table : (l : Limits) → m.table ≡ Some l → LeadsToTable shape (defined_before tag.Table before)

  pub module_leads : (before : List LinkedModule) (p : NamedModule) → All (Served before p.tree) p.tree.imports → DefinesHere before p.tree → Leads fns shape (linked_module before p)
  module_leads before p served here =
      let m = p.tree in
      record {
        functions = paired_append (HasNamed fns m) (imported_functions m.imports) (map (λ f. f.type) m.functions) (filter_map (number_if tag.Func before) m.imports) (range_with_len (defined_before tag.Func before) (length m.functions))
            (functions_imported before m m.imports served) (paired_range (HasNamed fns m) (λ (f : Function Label). f.type) m.functions (defined_before tag.Func before) here.functions);
        globals = paired_append (LeadsToGlobal shape) (imported_globals m.imports) (map (λ g. g.type) m.globals) (filter_map (number_if tag.Global before) m.imports) (range_with_len (defined_before tag.Global before) (length m.globals))
            (globals_imported before m m.imports served) (paired_range (LeadsToGlobal shape) (λ (g : Global Label). g.type) m.globals (defined_before tag.Global before) here.globals);
        memory = memory_leads before m m.imports (defined_before tag.Memory before) m.memory served here.memory;
        table = table_leads before m m.imports (defined_before tag.Table before) m.table served here.table;
      }
