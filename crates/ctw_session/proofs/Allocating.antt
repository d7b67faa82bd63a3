-- The store of the first parts of a set, and what the next part adds.
use Rattle.std.proofs.Common.{◌≡◌, ◌≤◌, ◌<◌, ℕ, zero, suc, ◌+◌, ◌-◌, ◌*◌, ◌^◌, List, [], ◌∷◌, ◌++◌, length, map, flat_map, fold, take, drop, get_or, slice_get, filter_map, Option, Some, None, option_map, option_and_then, All, sum_by, refl, sym, ap, ap₂, ◌∙◌, subst, append-nil, append_assoc, length-append, arith}
use Rattle.std.specs.List.{range_with_len}
use Rattle.std.proofs.lemmas.List.{length-map, length-replicate, length-take-le, take_all, take-append-drop}
use Rattle.std.proofs.lemmas.Grind.{flat_map-append}
use Rattle.std.proofs.lemmas.List.Elements.{All-weaker}
use Rattle.std.proofs.lemmas.List.Sums.{fold-append, sum_by-append, sum_by-cons, sum_by-take-le}
use Rattle.std.proofs.lemmas.Option.{slice_get_within, same_Some}
use Rattle.ctw_ops.specs.declared.types.Label.{Label}
use Rattle.ctw_ops.specs.declared.types.ExternTag.TheVariants as tag
use Rattle.ctw_ops.specs.Types.{VariableType, MemoryType}
use Rattle.ctw_ops.specs.Limits.{page_size, most_set_pages}
use Rattle.ctw_ops.specs.Tree as Tree
use Rattle.ctw_ops.specs.Tree.{Module, Constant, ValueOf, imported_globals, global_types}
use Rattle.ctw_ops.specs.Typing.{optional}
use Rattle.ctw_ops.specs.Valid.{HasType, IsGlobal, IsValid}
use Rattle.ctw_ops.proofs.Lists.{map_get}
use Rattle.ctw_semantics.specs.Values.{value}
use Rattle.ctw_semantics.specs.Stores.{Memory, Global, Table, Storage, pages, all_pages, fresh_memory, fresh_table}
use Rattle.ctw_semantics.specs.Sound.{global_type, shape_of}
use Rattle.ctw_form.proofs.Params.{slice_get_left, slice_get_right}
use Rattle.ctw_form.specs.declared.constant.ConstExpr.{ConstExpr}
use Rattle.ctw_form.specs.Shown.{constant_of}
use Rattle.ctw_module.specs.Lookup.{global_inits}
use Rattle.ctw_module.specs.Trees.{tree, view_module}
use Rattle.ctw_link.specs.declared.set.Part.{Part}
use Rattle.ctw_link.specs.Sets.{NamedModule, ModuleSet, part_in, set_of, one_or_none, defined}
use Rattle.ctw_link.specs.Numbers.{LinkedModule, number_if, number_in, defined_before, linked_module, linked}
use Rattle.ctw_link.specs.Matching as Matching
use Rattle.ctw_link.specs.Matching.{AreMatching, pages_of}
use Rattle.ctw_link.specs.Linked.{CanBeLinked, HasGlobal, IsValidPart}
use Rattle.ctw_link.specs.SetInstances.{set_instances, globals_in, AllValid, LeadsToGlobal}
use Rattle.ctw_link.proofs.Lists.{mapped_at, take_next, drop_next}
use Rattle.ctw_link.proofs.LinkedFronts.{bare, bare_linked, linked_more, linked_at, defined_linked}
use Rattle.ctw_link.proofs.LinkedParts.{all_at}
use Rattle.ctw_link.proofs.Totals.{room}
use Rattle.ctw_launch.specs.Launched.{constant_number, fresh_global, with_global, with_globals, fresh_memories, fresh_tables, allocated}
use Rattle.ctw_launch.proofs.Pairs.{paired_get, pieces_length}
use Rattle.ctw_launch.proofs.Leading.{Served, import_leads, globals_imported}
use Rattle.ctw_launch.proofs.Parts.{AllMet, met_front, all_front, valid_linked, all_lead}
use Rattle.ctw_launch.proofs.Loading.{loaded_shape, same_globals, globals_loaded}
use Rattle.ctw_launch.specs.Launched.{loaded}
use Rattle.ctw_store.specs.Answers.{new_global, with_new_global}
use Rattle.ctw_session.specs.Allocation.{with_own_memory, with_own_table, with_own_globals}
use Rattle.ctw_session.proofs.Exporting.{linkable_valid}

-- a store with the first so many globals that a part defines
abbrev pub with_first_globals : ℕ → LinkedModule → Storage → Storage
with_first_globals n p s = record s { globals = fold (with_global p.numbers.globals) s.globals (take n p.tree.globals) }

-- ---- sizes

pages_append : (ms ns : List Memory) → all_pages (ms ++ ns) ≡ all_pages ms + all_pages ns
pages_append [] ns = omega arith
pages_append (m ∷ ms) ns = omega (arith, pages_append ms ns)

fresh_pages : (o : Option (MemoryType Label)) → all_pages (map fresh_memory (optional o)) ≡ pages_of o
fresh_pages None = refl
fresh_pages (Some t) =
    let size : length (fresh_memory t).bytes ≡ page_size * t.limits.min = length-replicate {A = ℕ} (page_size * t.limits.min) 0 in
    omega (arith, size)

pages_fresh : (parts : List LinkedModule) → all_pages (flat_map fresh_memories parts) ≡ Matching.pages (map bare parts)
pages_fresh [] = refl
pages_fresh (p ∷ parts) =
    omega (arith, pages_append (fresh_memories p) (flat_map fresh_memories parts), fresh_pages p.tree.memory, pages_fresh parts, sum_by-cons (λ (q : NamedModule). pages_of q.tree.memory) (bare p) (map bare parts))

one_fresh : {A B : Type 0} (f : A → B) (o : Option A) → length (map f (optional o)) ≡ one_or_none o
one_fresh f None = refl
one_fresh f (Some a) = refl

globals_counted : (set : ModuleSet) → length (allocated (linked set)).globals ≡ defined tag.Global set
globals_counted set =
    let gs = (allocated (linked set)).globals in
    sym (length-map gs global_type) ∙ ap (λ (gs : List Global). length (map global_type gs)) (sym (same_globals set)) ∙ ap length (globals_loaded set)
    ∙ pieces_length globals_in (λ r. length r.tree.globals) (λ r. length-map r.tree.globals (λ g. g.type)) (linked set)
    ∙ defined_linked tag.Global set

added_count : (numbers : List ℕ) (gs : List Global) (l : List (Tree.Global Label)) → length (fold (with_global numbers) gs l) ≡ length gs + length l
added_count numbers gs [] = omega arith
added_count numbers gs (g ∷ l) = omega (arith, added_count numbers (with_global numbers gs g) l, length-append gs (fresh_global gs numbers g ∷ []))

-- ---- the globals that a module defines

-- a defined global, by its number among them
pub record IsDefined (m : Module Label) (j : ℕ) (type : VariableType Label) (init : Option (Constant Label)) : Type 0 where
  pub global : Tree.Global Label
  pub there : slice_get m.globals j ≡ Some global
  pub typed : global.type ≡ type
  pub begins : init ≡ Some global.init

-- a global behind the imported ones is a defined one
pub defined_global : (m : Module Label) (index : ℕ) (type : VariableType Label) (init : Option (Constant Label)) → length (imported_globals m.imports) ≤ index → slice_get (global_types m) index ≡ Some type → slice_get (global_inits m) index ≡ Some init
    → IsDefined m (index - length (imported_globals m.imports)) type init
defined_global m index type init le t i =
    let j = index - length (imported_globals m.imports) in
    let none : VariableType Label → Option (Constant Label) = λ type. None in
    let first : Tree.Global Label → Option (Constant Label) = λ global. Some global.init in
    let count : length (map none (imported_globals m.imports)) ≡ length (imported_globals m.imports) = length-map (imported_globals m.imports) none in
    let g = map_get (λ (g : Tree.Global Label). g.type) m.globals j type (sym (slice_get_right (imported_globals m.imports) (map (λ g. g.type) m.globals) index le) ∙ t) in
    let here : slice_get (map first m.globals) j ≡ Some init =
    ap (λ (n : ℕ). slice_get (map first m.globals) (index - n)) (sym count) ∙ sym (slice_get_right (map none (imported_globals m.imports)) (map first m.globals) index (omega (arith, le, count))) ∙ i in
    record {
      global = g.0;
      there = g.1;
      typed = g.2;
      begins = same_Some init (Some g.0.init) (sym here ∙ mapped_at first m.globals j g.0 g.1);
    }

-- ---- one part more

pub all_parts : (parts : List Part) (k : ℕ) → length parts ≤ k → allocated (linked (take k (set_of parts))) ≡ allocated (linked (set_of parts))
all_parts parts k le = ap (λ (set : ModuleSet). allocated (linked set)) (take_all k (set_of parts) (omega (arith, le, length-map parts part_in)))

flat_more : {A B : Type 0} (f : A → List B) (xs : List A) (x : A) → flat_map f (xs ++ x ∷ []) ≡ flat_map f xs ++ f x
flat_more {A} {B} f xs x = flat_map-append f xs (x ∷ []) ∙ ap (λ (l : List B). flat_map f xs ++ l) (append-nil (f x))

module _ (parts : List Part) (k : ℕ) (P : Part) (at : slice_get parts k ≡ Some P) (p : LinkedModule) (there : slice_get (linked (set_of parts)) k ≡ Some p) where
  part_at : slice_get (set_of parts) k ≡ Some (part_in P)
  part_at = mapped_at part_in parts k P at

  pub part_is : p ≡ linked_module (linked (take k (set_of parts))) (part_in P)
  part_is = same_Some p _ (sym there ∙ linked_at (set_of parts) k (part_in P) part_at)

  next_linked : linked (take (k + 1) (set_of parts)) ≡ linked (take k (set_of parts)) ++ p ∷ []
  next_linked =
      ap linked (take_next (set_of parts) k (part_in P) part_at) ∙ linked_more (take k (set_of parts)) (part_in P)
      ∙ ap (λ (q : LinkedModule). linked (take k (set_of parts)) ++ q ∷ []) (sym part_is)

  pub next_store : allocated (linked (take (k + 1) (set_of parts))) ≡ with_own_globals p (with_own_table p.tree (with_own_memory p.tree (allocated (linked (take k (set_of parts))))))
  next_store =
      let l = linked (take k (set_of parts)) in
      ap allocated next_linked
      ∙ ap (λ (ms : List Memory). storage ms (fold with_globals [] (l ++ p ∷ [])) (flat_map fresh_tables (l ++ p ∷ []))) (flat_more fresh_memories l p)
      ∙ ap (λ (gs : List Global). storage (flat_map fresh_memories l ++ fresh_memories p) gs (flat_map fresh_tables (l ++ p ∷ []))) (fold-append with_globals [] l (p ∷ []))
      ∙ ap (λ (ts : List Table). storage (flat_map fresh_memories l ++ fresh_memories p) (with_globals (fold with_globals [] l) p) ts) (flat_more fresh_tables l p)
    where
      storage : List Memory → List Global → List Table → Storage
      storage ms gs ts = record { memories = ms; globals = gs; tables = ts }

-- ---- room for what a part defines

module _ (parts : List Part) (can : CanBeLinked parts) (matching : AreMatching (set_of parts)) (k : ℕ) (P : Part) (at : slice_get parts k ≡ Some P) where
  here : slice_get (set_of parts) k ≡ Some (part_in P)
  here = mapped_at part_in parts k P at

  pub few_memories : length (allocated (linked (take k (set_of parts)))).memories < 2 ^ 32
  few_memories =
      let front = linked (take k (set_of parts)) in
      let count : length (flat_map fresh_memories front) ≡ defined_before tag.Memory front = pieces_length fresh_memories (λ r. one_or_none r.tree.memory) (λ r. one_fresh fresh_memory r.tree.memory) front in
      omega (arith, count, defined_linked tag.Memory (take k (set_of parts)), (room parts k (part_in P) can here).memories)

  pub few_tables : length (allocated (linked (take k (set_of parts)))).tables < 2 ^ 32
  few_tables =
      let front = linked (take k (set_of parts)) in
      let count : length (flat_map fresh_tables front) ≡ defined_before tag.Table front = pieces_length fresh_tables (λ r. one_or_none r.tree.table) (λ r. one_fresh fresh_table r.tree.table) front in
      omega (arith, count, defined_linked tag.Table (take k (set_of parts)), (room parts k (part_in P) can here).tables)

  pub room_for_pages : all_pages (allocated (linked (take k (set_of parts)))).memories + pages_of (tree P.«module»).memory ≤ most_set_pages
  room_for_pages =
      let set = set_of parts in
      let size : NamedModule → ℕ = λ q. pages_of q.tree.memory in
      let front : all_pages (allocated (linked (take k set))).memories ≡ sum_by size (take k set) = pages_fresh (linked (take k set)) ∙ ap Matching.pages (bare_linked (take k set)) in
      let more : sum_by size (take (k + 1) set) ≡ sum_by size (take k set) + size (part_in P) =
      ap (sum_by size) (take_next set k (part_in P) here) ∙ sum_by-append size (take k set) (part_in P ∷ []) ∙ ap (λ (n : ℕ). sum_by size (take k set) + n) one in
      let most : sum_by size set ≤ most_set_pages = matching.pages in
      omega (arith, front, more, sum_by-take-le size set (k + 1), most)
    where
      one : sum_by (λ (q : NamedModule). pages_of q.tree.memory) (part_in P ∷ []) ≡ pages_of (tree P.«module»).memory
      one = omega (arith, sum_by-cons (λ (q : NamedModule). pages_of q.tree.memory) (part_in P) [])

  -- with fewer of its globals than it defines
  pub few_globals : (n : ℕ) (gs : List Global) (numbers : List ℕ) (l : List (Tree.Global Label)) → l ≡ (tree P.«module»).globals → n < length l → gs ≡ (allocated (linked (take k (set_of parts)))).globals
      → length (fold (with_global numbers) gs (take n l)) < 2 ^ 32
  few_globals n gs numbers l same lt e =
      omega (arith, added_count numbers gs (take n l), length-take-le n l (omega (arith, lt)), ap length same, ap length e, globals_counted (take k (set_of parts)), (room parts k (part_in P) can here).globals)

  -- ---- what initial values read

  -- an imported global is one of the parts before
  imported_before : (x : ℕ) (t : VariableType Label) → slice_get (imported_globals (tree P.«module»).imports) x ≡ Some t
      → (n : ℕ) × (slice_get (linked_module (linked (take k (set_of parts))) (part_in P)).numbers.globals x ≡ Some n) × (n < length (allocated (linked (take k (set_of parts)))).globals)
  imported_before x t e =
      let set = set_of parts in
      let done = take k set in
      let rest = drop (k + 1) set in
      let q = part_in P in
      let split : set ≡ done ++ q ∷ rest = sym (take-append-drop k set) ∙ ap (λ (l : ModuleSet). done ++ l) (drop_next set k q here) in
      let before = linked done in
      let shape = shape_of (loaded done) in
      let fns = set_instances done in
      let vd = all_front (λ (p : NamedModule). IsValid p.tree) done (q ∷ rest) (subst AllValid split (linkable_valid parts can)) in
      let md = met_front done (q ∷ rest) (subst AllMet split matching.imports) in
      let leads = all_lead done shape md vd (loaded_shape done) in
      let served = All-weaker (λ i. _) (Served fns shape before q.tree) (λ i met. import_leads fns shape before done q.tree i (bare_linked done) leads (valid_linked done vd) met) q.tree.imports (matching.imports done rest q split) in
      let imported = filter_map (number_if tag.Global before) q.tree.imports in
      let found = paired_get (LeadsToGlobal shape) (imported_globals q.tree.imports) imported x t (globals_imported fns shape before q.tree q.tree.imports served) e in
      let number = slice_get_left imported (range_with_len (defined_before tag.Global before) (length q.tree.globals)) x (slice_get_within imported x found.0 found.1) ∙ found.1 in
      let type : slice_get (map global_type (allocated (linked done)).globals) found.0 ≡ Some t = ap (λ (gs : List Global). slice_get (map global_type gs) found.0) (sym (same_globals done)) ∙ found.2 in
      let old = map_get global_type (allocated (linked done)).globals found.0 t type in
      (found.0, number, slice_get_within (allocated (linked done)).globals found.0 old.0 old.1)

  -- a global that the initial value of a defined one reads is there
  pub record IsRead (x : ℕ) : Type 0 where
    pub has : HasGlobal parts k x
    pub before : (n : ℕ) → number_in (set_of parts) tag.Global k x ≡ Some n → n < length (allocated (linked (take k (set_of parts)))).globals

  pub is_read : (j : ℕ) (g : Tree.Global Label) (x : ℕ) → slice_get (tree P.«module»).globals j ≡ Some g → g.init ≡ ValueOf x → IsRead x
  is_read j g x e is =
      let m = view_module P.«module» in
      let valid : IsValid m = all_at IsValidPart parts k P can.valid at in
      let typed : IsGlobal m g = all_at (IsGlobal m) m.globals j g valid.around.globals e in
      let constant = subst (λ (c : Constant Label). HasType (imported_globals m.imports) g.type.value c) is typed in
      let found = imported_before x constant.0 constant.1 in
      let number : number_in (set_of parts) tag.Global k x ≡ Some found.0 =
      ap (option_and_then (λ (q : LinkedModule). slice_get q.numbers.globals x)) (linked_at (set_of parts) k (part_in P) here) ∙ found.1 in
      record {
        has = (P, at, omega (arith, slice_get_within (imported_globals m.imports) x constant.0 constant.1, length-append (imported_globals m.imports) (map (λ (h : Tree.Global Label). h.type) m.globals)));
        before = λ n q. let same : n ≡ found.0 = same_Some n found.0 (sym q ∙ number) in omega (arith, same, found.2);
      }

pub one_global_more : (p : LinkedModule) (n : ℕ) (s : Storage) (g : Tree.Global Label) (type : VariableType Label) (v : ℕ) → slice_get p.tree.globals n ≡ Some g → g.type ≡ type
    → v ≡ constant_number (fold (with_global p.numbers.globals) s.globals (take n p.tree.globals)) p.numbers.globals g.init
    → with_new_global (with_first_globals n p s) (new_global type v) ≡ with_first_globals (n + 1) p s
one_global_more p n s g type v e t q =
    let old = fold (with_global p.numbers.globals) s.globals (take n p.tree.globals) in
    let same : old ++ new_global type v ∷ [] ≡ with_global p.numbers.globals old g =
    ap₂ (λ (type : VariableType Label) (v : ℕ). old ++ new_global type v ∷ []) (sym t) q in
    let next : fold (with_global p.numbers.globals) s.globals (take (n + 1) p.tree.globals) ≡ with_global p.numbers.globals old g =
    ap (fold (with_global p.numbers.globals) s.globals) (take_next p.tree.globals n g e) ∙ fold-append (with_global p.numbers.globals) s.globals (take n p.tree.globals) (g ∷ []) in
    ap (λ (gs : List Global). record s { globals = gs }) (same ∙ sym next)

pub begins : (m : Module Label) (j : ℕ) (type : VariableType Label) (o : Option ConstExpr) → IsDefined m j type (option_map constant_of o) → o ≡ None → ⊥
begins m j type None g e = let h = g.begins in cc
begins m j type (Some c) g e = cc

pub begins_with : (o : Option ConstExpr) (c : ConstExpr) (d : Constant Label) → o ≡ Some c → option_map constant_of o ≡ Some d → constant_of c ≡ d
begins_with None c d e q = absurd cc
begins_with (Some b) c d e q = let same : b ≡ c = cc in ap constant_of (sym same) ∙ same_Some (constant_of b) d q

pub all_added : (p : LinkedModule) (n : ℕ) (s : Storage) → length p.tree.globals ≤ n → with_first_globals n p s ≡ with_own_globals p s
all_added p n s le = ap (λ (l : List (Tree.Global Label)). record s { globals = fold (with_global p.numbers.globals) s.globals l }) (take_all n p.tree.globals le)

-- ---- the globals of a part, one after another

module _ (parts : List Part) (k : ℕ) (P : Part) (at : slice_get parts k ≡ Some P) (p : LinkedModule) (there : slice_get (linked (set_of parts)) k ≡ Some p) where
  pub own_globals : p.tree.globals ≡ (tree P.«module»).globals
  own_globals = ap (λ (q : LinkedModule). q.tree.globals) (part_is parts k P at p there)

  imports_same : length (imported_globals p.tree.imports) ≡ length (imported_globals (tree P.«module»).imports)
  imports_same = ap (λ (q : LinkedModule). length (imported_globals q.tree.imports)) (part_is parts k P at p there)

  pub none_added : (n : ℕ) (s : Storage) → n ≡ length (imported_globals (tree P.«module»).imports) → s ≡ with_first_globals (n - length (imported_globals p.tree.imports)) p s
  none_added n s e =
      let z : n - length (imported_globals p.tree.imports) ≡ 0 = omega (arith, e, imports_same) in
      ap (λ (k : ℕ). with_first_globals k p s) (sym z)

  pub own_global : (index : ℕ) (type : VariableType Label) (init : Option (Constant Label)) → length (imported_globals (tree P.«module»).imports) ≤ index → slice_get (global_types (tree P.«module»)) index ≡ Some type → slice_get (global_inits (tree P.«module»)) index ≡ Some init
      → IsDefined p.tree (index - length (imported_globals p.tree.imports)) type init
  own_global index type init le t i =
      let q = part_is parts k P at p there in
      defined_global p.tree index type init (omega (arith, le, imports_same)) (ap (λ (q : LinkedModule). slice_get (global_types q.tree) index) q ∙ t) (ap (λ (q : LinkedModule). slice_get (global_inits q.tree) index) q ∙ i)

  pub next_global : (index : ℕ) (type : VariableType Label) (init : Option ConstExpr) (c : ConstExpr) (v : ℕ) (old s new : Storage) → length (imported_globals (tree P.«module»).imports) ≤ index
      → slice_get (global_types (tree P.«module»)) index ≡ Some type → slice_get (global_inits (tree P.«module»)) index ≡ Some (option_map constant_of init) → init ≡ Some c
      → s ≡ with_first_globals (index - length (imported_globals p.tree.imports)) p old → v ≡ constant_number s.globals p.numbers.globals (constant_of c) → new ≡ with_new_global s (new_global type v)
      → new ≡ with_first_globals (index + 1 - length (imported_globals p.tree.imports)) p old
  next_global index type init c v old s new le t i is e read stored =
      let n = index - length (imported_globals p.tree.imports) in
      let g = own_global index type (option_map constant_of init) le t i in
      let next : n + 1 ≡ index + 1 - length (imported_globals p.tree.imports) = omega (arith, le, imports_same) in
      let value : v ≡ constant_number (with_first_globals n p old).globals p.numbers.globals g.global.init =
      read ∙ ap (λ (s : Storage). constant_number s.globals p.numbers.globals (constant_of c)) e ∙ ap (constant_number (with_first_globals n p old).globals p.numbers.globals) (begins_with init c g.global.init is g.begins) in
      stored ∙ ap (λ (s : Storage). with_new_global s (new_global type v)) e ∙ one_global_more p n old g.global type v g.there g.typed value ∙ ap (λ (j : ℕ). with_first_globals j p old) next

  pub past_globals : (index : ℕ) → length (global_types (tree P.«module»)) ≤ index → length p.tree.globals ≤ index - length (imported_globals p.tree.imports)
  past_globals index le =
      let m = tree P.«module» in
      omega (arith, le, imports_same, ap length own_globals, length-append (imported_globals m.imports) (map (λ (g : Tree.Global Label). g.type) m.globals), length-map m.globals (λ (g : Tree.Global Label). g.type))

-- ---- a whole part

module _ (parts : List Part) (k : ℕ) (P : Part) (at : slice_get parts k ≡ Some P) (p : LinkedModule) (there : slice_get (linked (set_of parts)) k ≡ Some p) where
  pub part_added : (s a b new : Storage) → s ≡ allocated (linked (take k (set_of parts))) → a ≡ with_own_memory (tree P.«module») s → b ≡ with_own_table (tree P.«module») a → new ≡ with_own_globals p b
      → new ≡ allocated (linked (take (k + 1) (set_of parts)))
  part_added s a b new e memory table globals =
      let m = p.tree in
      let q = part_is parts k P at p there in
      let one : a ≡ with_own_memory m s = memory ∙ sym (ap (λ (q : LinkedModule). with_own_memory q.tree s) q) in
      let two : b ≡ with_own_table m a = table ∙ sym (ap (λ (q : LinkedModule). with_own_table q.tree a) q) in
      globals ∙ ap (with_own_globals p) (two ∙ ap (with_own_table m) (one ∙ ap (with_own_memory m) e)) ∙ sym (next_store parts k P at p there)

-- ---- what the loop over globals owes

pub read_here : (i : ℕ) (p : LinkedModule) (old s : Storage) (n : ℕ) → s ≡ with_first_globals i p old → n < length old.globals → n < length s.globals
read_here i p old s n e lt =
    omega (arith, lt, ap (λ (s : Storage). length s.globals) e, added_count p.numbers.globals old.globals (take i p.tree.globals))

module _ (parts : List Part) (can : CanBeLinked parts) (matching : AreMatching (set_of parts)) (k : ℕ) (P : Part) (at : slice_get parts k ≡ Some P) (p : LinkedModule) (there : slice_get (linked (set_of parts)) k ≡ Some p) where
  pub room_for_global : (index : ℕ) (old s : Storage) → length (imported_globals (tree P.«module»).imports) ≤ index → index < length (global_types (tree P.«module»)) → old.globals ≡ (allocated (linked (take k (set_of parts)))).globals
      → s ≡ with_first_globals (index - length (imported_globals p.tree.imports)) p old → length s.globals < 2 ^ 32
  room_for_global index old s le lt e q =
      let m = tree P.«module» in
      let n = index - length (imported_globals p.tree.imports) in
      let inside : n < length p.tree.globals =
      omega (arith, le, lt, imports_same parts k P at p there, ap length (own_globals parts k P at p there), length-append (imported_globals m.imports) (map (λ (g : Tree.Global Label). g.type) m.globals), length-map m.globals (λ (g : Tree.Global Label). g.type)) in
      subst (λ (s : Storage). length s.globals < 2 ^ 32) (sym q) (few_globals parts can matching k P at n old.globals p.numbers.globals p.tree.globals (own_globals parts k P at p there) inside e)
