-- Loading the erased set gives the erased store.
use Rattle.std.proofs.Common.{◌≡◌, ◌+◌, ℕ, zero, suc, Bool, cond, List, [], ◌∷◌, ◌++◌, length, map, flat_map, fold, slice_get, Option, Some, None, option_map, option_and_then, refl, sym, ap, ap₂, ◌∙◌, nat_le}
use Rattle.std.proofs.lemmas.List.{map-append}
use Rattle.std.proofs.lemmas.Option.{slice_get-map}
use Rattle.ctw_ops.specs.declared.types.Label.{Label}
use Rattle.ctw_ops.specs.Types.{MemoryType}
use Rattle.ctw_ops.specs.Tree as Tree
use Rattle.ctw_ops.specs.Tree.{Constant, Number, ValueOf, Element, Segment}
use Rattle.ctw_ops.specs.Typing.{optional}
use Rattle.ctw_ops.specs.Erasure as Erasure
use Rattle.ctw_ops.specs.Erasure.{erase_memory_type, erase_constant, erase_element, erase_segment, erase_module}
use Rattle.ctw_semantics.specs.Stores.{Memory, Global, Table, Storage, fresh_memory}
use Rattle.ctw_semantics.specs.Erased.{erase_memory, erase_global, erase_storage}
use Rattle.ctw_link.specs.Sets.{ModuleSet}
use Rattle.ctw_link.specs.Numbers.{LinkedModule, linked}
use Rattle.ctw_link.specs.Users.{or_later}
use Rattle.ctw_launch.specs.Launched.{constant_number, fresh_global, with_global, with_globals, fresh_memories, fresh_tables, number_in, allocated, changed_at, changed, offset_of, with_entries, with_element, with_new_bytes, with_segment, with_part, loaded, LaunchFault, SegmentOutside, OfElements, OfData, table_size, memory_size, element_fits, segment_fits, first_outside, outside}
use Rattle.ctw_launch.specs.ErasedSets.{erase_set}
use Rattle.ctw_launch.proofs.Folds.{map_flat}
use Rattle.ctw_launch.proofs.ErasedLinks.{erase_linked, linked_erased, flat_over}

-- ---- allocation

memory_fresh : (o : Option (MemoryType Label)) → map fresh_memory (optional (option_map erase_memory_type o)) ≡ map erase_memory (map fresh_memory (optional o))
memory_fresh None = refl
memory_fresh (Some t) = refl

memories_fresh : (parts : List LinkedModule) → flat_map fresh_memories (map erase_linked parts) ≡ map erase_memory (flat_map fresh_memories parts)
memories_fresh parts = flat_over fresh_memories erase_linked parts ∙ sym (map_flat erase_memory fresh_memories (λ q. fresh_memories (erase_linked q)) (λ q. sym (memory_fresh q.tree.memory)) parts)

number_same : (gs : List Global) (o : Option ℕ) → number_in (option_and_then (slice_get (map erase_global gs)) o) ≡ number_in (option_and_then (slice_get gs) o)
number_same gs None = refl
number_same gs (Some n) = ap number_in (slice_get-map erase_global gs n) ∙ by (slice_get gs n)
  where
    by : (o : Option Global) → number_in (option_map erase_global o) ≡ number_in o
    by None = refl
    by (Some g) = refl

constant_same : (gs : List Global) (numbers : List ℕ) (c : Constant Label) → constant_number (map erase_global gs) numbers (erase_constant c) ≡ constant_number gs numbers c
constant_same gs numbers (Number type bits) = refl
constant_same gs numbers (ValueOf x) = number_same gs (slice_get numbers x)

-- folds over lists and states that are mapped
fold_mapped : {S T A B : Type 0} (f : S → A → S) (k : T → B → T) (g : S → T) (h : A → B) → ((s : S) (a : A) → k (g s) (h a) ≡ g (f s a)) → (s : S) (xs : List A) → fold k (g s) (map h xs) ≡ g (fold f s xs)
fold_mapped f k g h e s [] = refl
fold_mapped {S} {T} {A} {B} f k g h e s (x ∷ xs) = ap (λ (t : T). fold k t (map h xs)) (e s x) ∙ fold_mapped f k g h e (f s x) xs

global_fresh : (numbers : List ℕ) (gs : List Global) (g : Tree.Global Label) → with_global numbers (map erase_global gs) (Erasure.erase_global g) ≡ map erase_global (with_global numbers gs g)
global_fresh numbers gs g =
    ap (λ (n : ℕ). map erase_global gs ++ record { mutable = g.type.mutable; value = record { type = (Erasure.erase_global g).type.value; number = n } } ∷ []) (constant_same gs numbers g.init)
    ∙ sym (map-append erase_global gs (fresh_global gs numbers g ∷ []))

globals_part : (gs : List Global) (q : LinkedModule) → with_globals (map erase_global gs) (erase_linked q) ≡ map erase_global (with_globals gs q)
globals_part gs q = fold_mapped (with_global q.numbers.globals) (with_global q.numbers.globals) (map erase_global) Erasure.erase_global (global_fresh q.numbers.globals) gs q.tree.globals

allocated_erased : (parts : List LinkedModule) → allocated (map erase_linked parts) ≡ erase_storage (allocated parts)
allocated_erased parts =
    ap₂ (λ (ms : List Memory) (gs : List Global). record { memories = ms; globals = gs; tables = flat_map fresh_tables (map erase_linked parts) }) (memories_fresh parts) (fold_mapped with_globals with_globals (map erase_global) erase_linked globals_part [] parts)
    ∙ ap (λ (ts : List Table). record { memories = map erase_memory (flat_map fresh_memories parts); globals = map erase_global (fold with_globals [] parts); tables = ts }) (flat_over fresh_tables erase_linked parts)

-- ---- segments

offset_same : (s : Storage) (p : LinkedModule) (c : Constant Label) → offset_of (erase_storage s) (erase_linked p) (erase_constant c) ≡ offset_of s p c
offset_same s p c = constant_same s.globals p.numbers.globals c

element_erased : (p : LinkedModule) (s : Storage) (e : Element Label) → with_element (erase_linked p) (erase_storage s) (erase_element e) ≡ erase_storage (with_element p s e)
element_erased p s e =
    ap (λ (at : ℕ). record (erase_storage s) { tables = changed (with_entries at (map (slice_get p.numbers.functions) e.functions)) s.tables (slice_get p.numbers.tables 0) }) (offset_same s p e.offset)

changed_memory_at : (at : ℕ) (new : List ℕ) (ms : List Memory) (i : ℕ) → changed_at (with_new_bytes at new) (map erase_memory ms) i ≡ map erase_memory (changed_at (with_new_bytes at new) ms i)
changed_memory_at at new [] i = refl
changed_memory_at at new (m ∷ ms) zero = refl
changed_memory_at at new (m ∷ ms) (suc i) = ap (λ (l : List Memory). erase_memory m ∷ l) (changed_memory_at at new ms i)

changed_memory : (at : ℕ) (new : List ℕ) (ms : List Memory) (o : Option ℕ) → changed (with_new_bytes at new) (map erase_memory ms) o ≡ map erase_memory (changed (with_new_bytes at new) ms o)
changed_memory at new ms None = refl
changed_memory at new ms (Some i) = changed_memory_at at new ms i

segment_erased : (p : LinkedModule) (s : Storage) (d : Segment Label) → with_segment (erase_linked p) (erase_storage s) (erase_segment d) ≡ erase_storage (with_segment p s d)
segment_erased p s d =
    ap (λ (at : ℕ). record (erase_storage s) { memories = changed (with_new_bytes at d.bytes) (map erase_memory s.memories) (slice_get p.numbers.memories 0) }) (offset_same s p d.offset)
    ∙ ap (λ (ms : List Memory). record (erase_storage s) { memories = ms }) (changed_memory (offset_of s p d.offset) d.bytes s.memories (slice_get p.numbers.memories 0))

part_erased : (s : Storage) (p : LinkedModule) → with_part (erase_storage s) (erase_linked p) ≡ erase_storage (with_part s p)
part_erased s p =
    ap (λ (t : Storage). fold (with_segment (erase_linked p)) t (map erase_segment p.tree.segments)) (fold_mapped (with_element p) (with_element (erase_linked p)) erase_storage erase_element (element_erased p) s p.tree.elements)
    ∙ fold_mapped (with_segment p) (with_segment (erase_linked p)) erase_storage erase_segment (segment_erased p) (fold (with_element p) s p.tree.elements) p.tree.segments

parts_erased : (parts : List LinkedModule) → fold with_part (allocated (map erase_linked parts)) (map erase_linked parts) ≡ erase_storage (fold with_part (allocated parts) parts)
parts_erased parts =
    ap (λ (s : Storage). fold with_part s (map erase_linked parts)) (allocated_erased parts) ∙ fold_mapped with_part with_part erase_storage erase_linked part_erased (allocated parts) parts

pub loaded_erased : (set : ModuleSet) → loaded (erase_set set) ≡ erase_storage (loaded set)
loaded_erased set = ap (λ (l : List LinkedModule). fold with_part (allocated l) l) (linked_erased set) ∙ parts_erased (linked set)

-- ---- which segments fit

element_same : (s : Storage) (p : LinkedModule) (e : Element Label) → element_fits (erase_storage s) (erase_linked p) (erase_element e) ≡ element_fits s p e
element_same s p e = ap (λ (at : ℕ). nat_le (at + length e.functions) (table_size (option_and_then (slice_get s.tables) (slice_get p.numbers.tables 0)))) (offset_same s p e.offset)

size_same : (ms : List Memory) (o : Option ℕ) → memory_size (option_and_then (slice_get (map erase_memory ms)) o) ≡ memory_size (option_and_then (slice_get ms) o)
size_same ms None = refl
size_same ms (Some n) = ap memory_size (slice_get-map erase_memory ms n) ∙ by (slice_get ms n)
  where
    by : (o : Option Memory) → memory_size (option_map erase_memory o) ≡ memory_size o
    by None = refl
    by (Some m) = refl

segment_same : (s : Storage) (p : LinkedModule) (d : Segment Label) → segment_fits (erase_storage s) (erase_linked p) (erase_segment d) ≡ segment_fits s p d
segment_same s p d = ap₂ (λ (at size : ℕ). nat_le (at + length d.bytes) size) (offset_same s p d.offset) (size_same s.memories (slice_get p.numbers.memories 0))

first_same : {A : Type 0} (fits fits' : A → Bool) (h : A → A) (fault : ℕ → LaunchFault) → ((a : A) → fits' (h a) ≡ fits a) → (k : ℕ) (xs : List A) → first_outside fits' fault k (map h xs) ≡ first_outside fits fault k xs
first_same fits fits' h fault e k [] = refl
first_same fits fits' h fault e k (x ∷ xs) = ap₂ (λ (b : Bool) (o : Option LaunchFault). cond b o (Some (fault k))) (e x) (first_same fits fits' h fault e (suc k) xs)

outside_all : (s : Storage) (parts : List LinkedModule) → outside (erase_storage s) (map erase_linked parts) ≡ outside s parts
outside_all s [] = refl
outside_all s (p ∷ parts) =
    ap₂ (λ (a b : Option LaunchFault). or_later a b) (first_same (element_fits s p) (element_fits (erase_storage s) (erase_linked p)) erase_element (SegmentOutside p.name OfElements) (element_same s p) 0 p.tree.elements)
    (ap₂ (λ (a b : Option LaunchFault). or_later a b) (first_same (segment_fits s p) (segment_fits (erase_storage s) (erase_linked p)) erase_segment (SegmentOutside p.name OfData) (segment_same s p) 0 p.tree.segments) (outside_all s parts))

pub outside_erased : (set : ModuleSet) → outside (allocated (linked (erase_set set))) (linked (erase_set set)) ≡ outside (allocated (linked set)) (linked set)
outside_erased set =
    ap (λ (l : List LinkedModule). outside (allocated l) l) (linked_erased set) ∙ ap (λ (s : Storage). outside s (map erase_linked (linked set))) (allocated_erased (linked set)) ∙ outside_all (allocated (linked set)) (linked set)
