-- The loaded store of a set has a shape of the set.
use Rattle.std.proofs.Common.{◌≡◌, ◌⊎◌, ℕ, ◌+◌, List, [], ◌∷◌, ◌++◌, length, map, flat_map, fold, take, drop, replicate, slice_get, Option, Some, None, Contains, inl, inr, refl, sym, ap, subst, ◌∙◌, append_assoc, append-nil}
use Rattle.std.proofs.lemmas.List.{map-append, map-id}
use Rattle.ctw_ops.specs.declared.types.Label.{Label}
use Rattle.ctw_ops.specs.declared.types.Limits.{Limits}
use Rattle.ctw_ops.specs.Types.{VariableType, MemoryType}
use Rattle.ctw_ops.specs.Tree as Tree
use Rattle.ctw_ops.specs.Tree.{Element, Segment}
use Rattle.ctw_ops.specs.Typing.{optional}
use Rattle.ctw_semantics.specs.Stores.{Memory, Global, Table, Storage, fresh_memory, fresh_table, written_at}
use Rattle.ctw_semantics.specs.Sound.{global_type, shape_of}
use Rattle.ctw_ops.proofs.Lists.{map_get}
use Rattle.ctw_link.specs.Sets.{ModuleSet}
use Rattle.ctw_link.specs.Numbers.{LinkedModule, linked}
use Rattle.ctw_link.specs.SetInstances.{memories_in, globals_in, tables_in, IsPut, IsShapeOf}
use Rattle.ctw_launch.specs.Launched.{fresh_global, with_global, with_globals, fresh_memories, fresh_tables, allocated, changed, offset_of, with_entries, with_element, with_new_bytes, with_segment, with_part, loaded}
use Rattle.ctw_launch.proofs.Within.{In, in_from, in_to}
use Rattle.ctw_launch.proofs.Folds.{fold_keeps, fold_holds, map_flat, map_twice, map_changed, changed_got, in_append, in_take, in_drop, in_copies}

-- ---- what no segment changes

pub load_keeps : {X : Type 0} (P : Storage → X) → ((p : LinkedModule) (s : Storage) (e : Element Label) → P (with_element p s e) ≡ P s) → ((p : LinkedModule) (s : Storage) (d : Segment Label) → P (with_segment p s d) ≡ P s)
    → (s : Storage) (parts : List LinkedModule) → P (fold with_part s parts) ≡ P s
load_keeps P he hd s parts =
    fold_keeps P with_part (λ t p. fold_keeps P (with_segment p) (hd p) (fold (with_element p) t p.tree.elements) p.tree.segments ∙ fold_keeps P (with_element p) (he p) t p.tree.elements) s parts

-- what each segment of the parts keeps
pub load_holds : (I : Storage → Type 0) (parts : List LinkedModule) → ((p : LinkedModule) (s : Storage) (e : Element Label) → In parts p → In p.tree.elements e → I s → I (with_element p s e))
    → ((p : LinkedModule) (s : Storage) (d : Segment Label) → In parts p → In p.tree.segments d → I s → I (with_segment p s d)) → (s : Storage) → I s → I (fold with_part s parts)
load_holds I parts he hd s i =
    fold_holds I with_part parts
    (λ t p n h. fold_holds I (with_segment p) p.tree.segments (λ u d k g. hd p u d n k g) (fold (with_element p) t p.tree.elements) (fold_holds I (with_element p) p.tree.elements (λ u e k g. he p u e n k g) t h))
    s i

-- ---- memories and globals

abbrev type_of : Memory → MemoryType Label
type_of m = m.type

memories_fresh : (parts : List LinkedModule) → map type_of (flat_map fresh_memories parts) ≡ flat_map memories_in parts
memories_fresh parts = map_flat type_of fresh_memories memories_in (λ p. map_twice type_of fresh_memory (optional p.tree.memory) ∙ map-id (optional p.tree.memory)) parts

pub memories_loaded : (set : ModuleSet) → map type_of (loaded set).memories ≡ flat_map memories_in (linked set)
memories_loaded set =
    load_keeps (λ s. map type_of s.memories) (λ p s e. refl) (λ p s d. map_changed type_of (with_new_bytes (offset_of s p d.offset) d.bytes) (λ m. refl) s.memories (slice_get p.numbers.memories 0)) (allocated (linked set)) (linked set)
    ∙ memories_fresh (linked set)

globals_here : (numbers : List ℕ) (gs : List Global) (l : List (Tree.Global Label)) → map global_type (fold (with_global numbers) gs l) ≡ map global_type gs ++ map (λ g. g.type) l
globals_here numbers gs [] = sym (append-nil (map global_type gs))
globals_here numbers gs (g ∷ l) =
    globals_here numbers (with_global numbers gs g) l
    ∙ ap (λ (ts : List (VariableType Label)). ts ++ map (λ g. g.type) l) (map-append global_type gs (fresh_global gs numbers g ∷ []))
    ∙ append_assoc (map global_type gs) (g.type ∷ []) (map (λ g. g.type) l)

globals_behind : (gs : List Global) (parts : List LinkedModule) → map global_type (fold with_globals gs parts) ≡ map global_type gs ++ flat_map globals_in parts
globals_behind gs [] = sym (append-nil (map global_type gs))
globals_behind gs (p ∷ parts) =
    globals_behind (with_globals gs p) parts
    ∙ ap (λ (l : List (VariableType Label)). l ++ flat_map globals_in parts) (globals_here p.numbers.globals gs p.tree.globals)
    ∙ append_assoc (map global_type gs) (globals_in p) (flat_map globals_in parts)

pub same_globals : (set : ModuleSet) → (loaded set).globals ≡ (allocated (linked set)).globals
same_globals set = load_keeps (λ s. s.globals) (λ p s e. refl) (λ p s d. refl) (allocated (linked set)) (linked set)

pub globals_loaded : (set : ModuleSet) → map global_type (loaded set).globals ≡ flat_map globals_in (linked set)
globals_loaded set = ap (map global_type) (same_globals set) ∙ globals_behind [] (linked set)

-- ---- tables

abbrev limits_of : Table → Limits
limits_of t = t.limits

pub tables_loaded : (set : ModuleSet) → map (λ t. t.limits) (loaded set).tables ≡ flat_map tables_in (linked set)
tables_loaded set =
    load_keeps (λ s. map limits_of s.tables) (λ p s e. map_changed limits_of (with_entries (offset_of s p e.offset) (map (slice_get p.numbers.functions) e.functions)) (λ t. refl) s.tables (slice_get p.numbers.tables 0)) (λ p s d. refl) (allocated (linked set)) (linked set)
    ∙ map_flat limits_of fresh_tables tables_in (λ p. map_twice limits_of fresh_table (optional p.tree.table) ∙ map-id (optional p.tree.table)) (linked set)

-- each function in a table is put there by an element of these parts
abbrev ArePut : List LinkedModule → Storage → Type 0
ArePut parts s = (t f : ℕ) (table : Table) → slice_get s.tables t ≡ Some table → In table.entries (Some f) → (p : LinkedModule) × Contains parts p × IsPut p t f

none_fresh : (parts : List LinkedModule) (t f : ℕ) (table : Table) → slice_get (flat_map fresh_tables parts) t ≡ Some table → In table.entries (Some f) → ⊥
none_fresh [] t f table e i = absurd cc
none_fresh (p ∷ parts) t f table e i = by (in_append (fresh_tables p) (flat_map fresh_tables parts) table t e) (λ k q. none_fresh parts k f table q i)
  where
    here : (l : Limits) → fresh_table l ≡ table → ⊥
    here l q =
        let inside : In (replicate l.min None) (Some f) = subst (λ (x : Table). In x.entries (Some f)) (sym q) i in
        let none : ◌≡◌ {A = Option ℕ} None (Some f) = in_copies l.min None (Some f) inside.0 inside.1 in
        cc

    by : In (fresh_tables p) table ⊎ In (flat_map fresh_tables parts) table → ((k : ℕ) → slice_get (flat_map fresh_tables parts) k ≡ Some table → ⊥) → ⊥
    by (inl n) others = let l = map_get fresh_table (optional p.tree.table) n.0 table n.1 in here l.0 l.2
    by (inr n) others = others n.0 n.1

in_written : (at : ℕ) (new old : List (Option ℕ)) (f : ℕ) → In (written_at at new old) (Some f) → In old (Some f) ⊎ In new (Some f)
unfolding written_at
in_written at new old f i = by (in_append (take at old) (new ++ drop (at + length new) old) (Some f) i.0 i.1)
  where
    late : In new (Some f) ⊎ In (drop (at + length new) old) (Some f) → In old (Some f) ⊎ In new (Some f)
    late (inl n) = inr n
    late (inr n) = inl (in_drop (at + length new) old (Some f) n.0 n.1)

    by : In (take at old) (Some f) ⊎ In (new ++ drop (at + length new) old) (Some f) → In old (Some f) ⊎ In new (Some f)
    by (inl n) = inl (in_take at old (Some f) n.0 n.1)
    by (inr n) = late (in_append new (drop (at + length new) old) (Some f) n.0 n.1)

element_puts : (parts : List LinkedModule) (p : LinkedModule) (s : Storage) (e : Element Label) → In parts p → In p.tree.elements e → ArePut parts s → ArePut parts (with_element p s e)
element_puts parts p s e there among h t f table at i = go (slice_get p.numbers.tables 0) refl at
  where
    at_offset : ℕ
    at_offset = offset_of s p e.offset

    new : List (Option ℕ)
    new = map (slice_get p.numbers.functions) e.functions

    put : slice_get p.numbers.tables 0 ≡ Some t → In (map (slice_get p.numbers.functions) e.functions) (Some f) → (p : LinkedModule) × Contains parts p × IsPut p t f
    put own n =
        let x = map_get (slice_get p.numbers.functions) e.functions n.0 (Some f) n.1 in
        (p, in_to parts p there, record { element = e; index = x.0; table = own; among = in_to p.tree.elements e among; inside = in_to e.functions x.0 (n.0, x.1); number = x.2 })

    by : (old : Table) → slice_get s.tables t ≡ Some old → slice_get p.numbers.tables 0 ≡ Some t → In old.entries (Some f) ⊎ In (map (slice_get p.numbers.functions) e.functions) (Some f) → (p : LinkedModule) × Contains parts p × IsPut p t f
    by old is own (inl n) = h t f old is n
    by old is own (inr n) = put own n

    changes : (k : ℕ) → slice_get p.numbers.tables 0 ≡ Some k → (slice_get s.tables t ≡ Some table) ⊎ ((x : Table) × (slice_get s.tables t ≡ Some x) × (t ≡ k) × (table ≡ with_entries (offset_of s p e.offset) (map (slice_get p.numbers.functions) e.functions) x))
        → (p : LinkedModule) × Contains parts p × IsPut p t f
    changes k own (inl q) = h t f table q i
    changes k own (inr q) =
        let x : Table = q.0 in
        let inside : In (with_entries (offset_of s p e.offset) (map (slice_get p.numbers.functions) e.functions) x).entries (Some f) = subst (λ (y : Table). In y.entries (Some f)) q.3 i in
        by x q.1 (own ∙ ap Some (sym q.2)) (in_written (offset_of s p e.offset) (map (slice_get p.numbers.functions) e.functions) x.entries f inside)

    go : (o : Option ℕ) → slice_get p.numbers.tables 0 ≡ o → slice_get (changed (with_entries (offset_of s p e.offset) (map (slice_get p.numbers.functions) e.functions)) s.tables o) t ≡ Some table
        → (p : LinkedModule) × Contains parts p × IsPut p t f
    go None own q = h t f table q i
    go (Some k) own q = changes k own (changed_got (with_entries (offset_of s p e.offset) (map (slice_get p.numbers.functions) e.functions)) s.tables k t table q)

pub entries_loaded : (set : ModuleSet) → ArePut (linked set) (loaded set)
entries_loaded set =
    load_holds (ArePut (linked set)) (linked set) (element_puts (linked set)) (λ p s d n k h. h) (allocated (linked set)) (λ t f table e i. absurd (none_fresh (linked set) t f table e i))

pub loaded_shape : (set : ModuleSet) → IsShapeOf set (shape_of (loaded set))
loaded_shape set = record {
  memories = memories_loaded set;
  globals = globals_loaded set;
  tables = tables_loaded set;
  entries = λ t f table e c. entries_loaded set t f table e (in_from table.entries (Some f) c);
}
