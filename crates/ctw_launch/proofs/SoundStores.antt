-- The loaded store of a matching set of valid modules is sound where no segment is outside.
use Rattle.std.proofs.Common.{◌≡◌, ◌≤◌, ◌<◌, ◌^◌, ◌+◌, ◌*◌, ◌/◌, ℕ, zero, suc, Bool, true, false, cond, List, [], ◌∷◌, ◌++◌, length, map, flat_map, fold, slice_get, filter_map, Option, Some, None, option_and_then, unwrap_or, All, refl, sym, ap, subst, ◌∙◌, append_assoc, append-nil, arith, nat_le}
use Rattle.std.specs.Prelude.{IfSome}
use Rattle.std.specs.List.{range_with_len}
use Rattle.std.proofs.lemmas.Bool.{leb-true}
use Rattle.std.proofs.lemmas.List.{length-replicate, length-map}
use Rattle.std.proofs.lemmas.List.Elements.{All-nil, All-cons, All-head, All-tail, All-map, All-weaker, All-push, All-replicate}
use Rattle.std.proofs.lemmas.List.Sums.{fold-append, sum_by-cons}
use Rattle.std.proofs.lemmas.Option.{slice_get_within}
use Rattle.ctw_ops.specs.declared.types.Label.{Label}
use Rattle.ctw_ops.specs.declared.types.ExternTag.TheVariants as tag
use Rattle.ctw_ops.specs.declared.types.Limits.{Limits}
use Rattle.ctw_ops.specs.Types.{ValueType, MemoryType, VariableType, bit_width}
use Rattle.ctw_ops.specs.Limits.{page_size, most_memory_pages}
use Rattle.ctw_ops.specs.Tree as Tree
use Rattle.ctw_ops.specs.Tree.{Constant, Number, ValueOf, Element, Segment, imported_globals}
use Rattle.ctw_ops.specs.Typing.{optional}
use Rattle.ctw_ops.specs.Valid.{IsMemory, AreLimits, IsGlobal, HasType, IsFitting, IsValid}
use Rattle.ctw_semantics.specs.Stores.{Memory, Global, Table, Storage, written_at, pages, all_pages, most_pages_of, fresh_memory, fresh_table}
use Rattle.ctw_semantics.specs.Sound.{ValueFits, MemoryFits, TableFits, global_type, shape_of, SoundStorage}
use Rattle.ctw_ops.proofs.Lists.{all_get, map_get}
use Rattle.ctw_semantics.proofs.Memories.{length-written_at}
use Rattle.ctw_semantics.proofs.SoundStores.{IsByte, written_bytes_fit}
use Rattle.ctw_link.specs.Sets.{NamedModule, ModuleSet}
use Rattle.ctw_link.specs.Numbers.{LinkedModule, number_if, defined_before, linked_module, linked}
use Rattle.ctw_link.specs.Users.{or_later}
use Rattle.ctw_link.specs.Matching as Matching
use Rattle.ctw_link.specs.Matching.{AreMatching, pages_of}
use Rattle.ctw_link.specs.SetInstances.{set_instances, AllValid, LeadsToGlobal}
use Rattle.ctw_ops.specs.WithinLimits.{IsWithinLimits}
use Rattle.ctw_link.specs.Sets.{AllWithinLimits}
use Rattle.ctw_launch.specs.Launched.{constant_number, fresh_global, with_global, with_globals, fresh_memories, fresh_tables, number_in, allocated, changed_at, changed, offset_of, with_entries, with_element, with_new_bytes, with_segment, loaded, LaunchFault, memory_size, table_size, element_fits, segment_fits, first_outside, outside, SegmentOutside, OfElements, OfData}
use Rattle.ctw_link.proofs.LinkedFronts.{bare, bare_linked, linked_more}
use Rattle.ctw_form.proofs.Params.{slice_get_left}
use Rattle.ctw_launch.proofs.Pairs.{paired_get}
use Rattle.ctw_launch.proofs.Leading.{Served, import_leads, globals_imported}
use Rattle.ctw_launch.proofs.Parts.{AllMet, met_front, all_front, valid_linked, all_lead}
use Rattle.ctw_launch.proofs.Within.{In, all_flat, all_unmap}
use Rattle.ctw_launch.proofs.Folds.{map_twice}
use Rattle.ctw_launch.proofs.Loading.{load_holds, loaded_shape, same_globals}

-- ---- where nothing is outside, each segment fits

none_first : {A : Type 0} (fits : A → Bool) (fault : ℕ → LaunchFault) (k : ℕ) (xs : List A) (i : ℕ) (x : A) → first_outside fits fault k xs ≡ None → slice_get xs i ≡ Some x → fits x ≡ true
none_first fits fault k [] i x e q = absurd cc
none_first {A} fits fault k (y ∷ xs) i x e q = by (fits y) refl e (λ r j p. none_first fits fault (suc k) xs j x r p) i q
  where
    by : (b : Bool) → fits y ≡ b → cond b (first_outside fits fault (suc k) xs) (Some (fault k)) ≡ None
        → (first_outside fits fault (suc k) xs ≡ None → (j : ℕ) → slice_get xs j ≡ Some x → fits x ≡ true) → (i : ℕ) → slice_get (y ∷ xs) i ≡ Some x → fits x ≡ true
    by true f e more zero q = let s : y ≡ x = cc in ap fits (sym s) ∙ f
    by true f e more (suc i) q = more e i q
    by false f e more i q = absurd cc

no_earlier : {A : Type 0} (a b : Option A) → or_later a b ≡ None → (a ≡ None) × (b ≡ None)
no_earlier None b e = (refl, e)
no_earlier (Some x) b e = absurd cc

pub segment_inside : (s : Storage) (parts : List LinkedModule) → outside s parts ≡ None → (k : ℕ) (p : LinkedModule) (d : Segment Label) → slice_get parts k ≡ Some p → In p.tree.segments d → segment_fits s p d ≡ true
segment_inside s [] e k p d at i = absurd cc
segment_inside s (q ∷ parts) e zero p d at i =
    let same : q ≡ p = cc in
    let rest = no_earlier (first_outside (element_fits s q) (SegmentOutside q.name OfElements) 0 q.tree.elements) (or_later (first_outside (segment_fits s q) (SegmentOutside q.name OfData) 0 q.tree.segments) (outside s parts)) e in
    let mine = no_earlier (first_outside (segment_fits s q) (SegmentOutside q.name OfData) 0 q.tree.segments) (outside s parts) rest.1 in
    let there : In q.tree.segments d = subst (λ (r : LinkedModule). In r.tree.segments d) (sym same) i in
    subst (λ (r : LinkedModule). segment_fits s r d ≡ true) same (none_first (segment_fits s q) (SegmentOutside q.name OfData) 0 q.tree.segments there.0 d mine.0 there.1)
segment_inside s (q ∷ parts) e (suc k) p d at i =
    let rest = no_earlier (first_outside (element_fits s q) (SegmentOutside q.name OfElements) 0 q.tree.elements) (or_later (first_outside (segment_fits s q) (SegmentOutside q.name OfData) 0 q.tree.segments) (outside s parts)) e in
    let mine = no_earlier (first_outside (segment_fits s q) (SegmentOutside q.name OfData) 0 q.tree.segments) (outside s parts) rest.1 in
    segment_inside s parts mine.1 k p d at i

-- ---- sizes of memories

abbrev pub Size : Type 0
Size = ℕ × MemoryType Label

abbrev pub size_of : Memory → Size
size_of m = (length m.bytes, m.type)

abbrev length_in : Option Size → ℕ
length_in None = 0
length_in (Some z) = z.0

abbrev pub Extent : Type 0
Extent = ℕ × Limits

abbrev pub extent_of : Table → Extent
extent_of t = (length t.entries, t.limits)

abbrev entries_in : Option Extent → ℕ
entries_in None = 0
entries_in (Some z) = z.0

size_at : (ms : List Memory) (i : ℕ) → memory_size (slice_get ms i) ≡ length_in (slice_get (map size_of ms) i)
size_at [] i = refl
size_at (m ∷ ms) zero = refl
size_at (m ∷ ms) (suc i) = size_at ms i

kept_at : {A B : Type 0} (g : A → B) (f : A → A) (xs : List A) (i : ℕ) → ((x : A) → slice_get xs i ≡ Some x → g (f x) ≡ g x) → map g (changed_at f xs i) ≡ map g xs
kept_at g f [] i h = refl
kept_at {A} {B} g f (x ∷ xs) zero h = ap (λ (b : B). b ∷ map g xs) (h x refl)
kept_at {A} {B} g f (x ∷ xs) (suc i) h = ap (λ (l : List B). g x ∷ l) (kept_at g f xs i h)

written_size : {A : Type 0} (at : ℕ) (new bytes : List A) → at + length new ≤ length bytes → length (written_at at new bytes) ≡ length bytes
written_size at new bytes le = omega (arith, length-written_at at new bytes)

entries_at : (ts : List Table) (i : ℕ) → table_size (slice_get ts i) ≡ entries_in (slice_get (map extent_of ts) i)
entries_at [] i = refl
entries_at (t ∷ ts) zero = refl
entries_at (t ∷ ts) (suc i) = entries_at ts i

-- the sizes and globals that all was checked with
pub record Checked (a s : Storage) : Type 0 where
  pub sizes : map size_of s.memories ≡ map size_of a.memories
  pub lengths : map extent_of s.tables ≡ map extent_of a.tables
  pub globals : s.globals ≡ a.globals

segment_keeps : (a s : Storage) (p : LinkedModule) (d : Segment Label) → segment_fits a p d ≡ true → Checked a s → Checked a (with_segment p s d)
segment_keeps a s p d fits h = record { sizes = go (slice_get p.numbers.memories 0) fits ∙ h.sizes; lengths = h.lengths; globals = h.globals }
  where
    same : offset_of s p d.offset ≡ offset_of a p d.offset
    same = ap (λ (gs : List Global). constant_number gs p.numbers.globals d.offset) h.globals

    go : (o : Option ℕ) → nat_le (offset_of a p d.offset + length d.bytes) (memory_size (option_and_then (slice_get a.memories) o)) ≡ true
        → map size_of (changed (with_new_bytes (offset_of s p d.offset) d.bytes) s.memories o) ≡ map size_of s.memories
    go None e = refl
    go (Some i) e = kept_at size_of (with_new_bytes (offset_of s p d.offset) d.bytes) s.memories i (λ m at.
        let le = leb-true (offset_of a p d.offset + length d.bytes) (memory_size (slice_get a.memories i)) e in
        let old : memory_size (slice_get a.memories i) ≡ length m.bytes =
        size_at a.memories i ∙ ap (λ (l : List Size). length_in (slice_get l i)) (sym h.sizes) ∙ sym (size_at s.memories i) ∙ ap memory_size at in
        let fit : offset_of s p d.offset + length d.bytes ≤ length m.bytes = omega (arith, le, old, same) in
        ap (λ (n : ℕ). (n, m.type)) (written_size (offset_of s p d.offset) d.bytes m.bytes fit))

-- a segment's element of tables
element_keeps : (a s : Storage) (p : LinkedModule) (e : Element Label) → element_fits a p e ≡ true → Checked a s → Checked a (with_element p s e)
element_keeps a s p e fits h = record { sizes = h.sizes; lengths = go (slice_get p.numbers.tables 0) fits ∙ h.lengths; globals = h.globals }
  where
    same : offset_of s p e.offset ≡ offset_of a p e.offset
    same = ap (λ (gs : List Global). constant_number gs p.numbers.globals e.offset) h.globals

    go : (o : Option ℕ) → nat_le (offset_of a p e.offset + length e.functions) (table_size (option_and_then (slice_get a.tables) o)) ≡ true
        → map extent_of (changed (with_entries (offset_of s p e.offset) (map (slice_get p.numbers.functions) e.functions)) s.tables o) ≡ map extent_of s.tables
    go None q = refl
    go (Some i) q = kept_at extent_of (with_entries (offset_of s p e.offset) (map (slice_get p.numbers.functions) e.functions)) s.tables i (λ t at.
        let le = leb-true (offset_of a p e.offset + length e.functions) (table_size (slice_get a.tables i)) q in
        let old : table_size (slice_get a.tables i) ≡ length t.entries =
        entries_at a.tables i ∙ ap (λ (l : List Extent). entries_in (slice_get l i)) (sym h.lengths) ∙ sym (entries_at s.tables i) ∙ ap table_size at in
        let new = map (slice_get p.numbers.functions) e.functions in
        let count : length new ≡ length e.functions = length-map e.functions (slice_get p.numbers.functions) in
        ap (λ (n : ℕ). (n, t.limits)) (written_size (offset_of s p e.offset) new t.entries (omega (arith, le, old, same, count))))

pub element_inside : (s : Storage) (parts : List LinkedModule) → outside s parts ≡ None → (k : ℕ) (p : LinkedModule) (e : Element Label) → slice_get parts k ≡ Some p → In p.tree.elements e → element_fits s p e ≡ true
element_inside s [] n k p e at i = absurd cc
element_inside s (q ∷ parts) n zero p e at i =
    let same : q ≡ p = cc in
    let mine = no_earlier (first_outside (element_fits s q) (SegmentOutside q.name OfElements) 0 q.tree.elements) (or_later (first_outside (segment_fits s q) (SegmentOutside q.name OfData) 0 q.tree.segments) (outside s parts)) n in
    let there : In q.tree.elements e = subst (λ (r : LinkedModule). In r.tree.elements e) (sym same) i in
    subst (λ (r : LinkedModule). element_fits s r e ≡ true) same (none_first (element_fits s q) (SegmentOutside q.name OfElements) 0 q.tree.elements there.0 e mine.0 there.1)
element_inside s (q ∷ parts) n (suc k) p e at i =
    let rest = no_earlier (first_outside (element_fits s q) (SegmentOutside q.name OfElements) 0 q.tree.elements) (or_later (first_outside (segment_fits s q) (SegmentOutside q.name OfData) 0 q.tree.segments) (outside s parts)) n in
    let mine = no_earlier (first_outside (segment_fits s q) (SegmentOutside q.name OfData) 0 q.tree.segments) (outside s parts) rest.1 in
    element_inside s parts mine.1 k p e at i

pub checked_loaded : (set : ModuleSet) → outside (allocated (linked set)) (linked set) ≡ None → Checked (allocated (linked set)) (loaded set)
checked_loaded set e =
    let a = allocated (linked set) in
    load_holds (Checked a) (linked set) (λ p s el i k h. element_keeps a s p el (element_inside a (linked set) e i.0 p el i.1 k) h) (λ p s d i k h. segment_keeps a s p d (segment_inside a (linked set) e i.0 p d i.1 k) h) a (record { sizes = refl; lengths = refl; globals = refl })

lengths_of : (ms : List Memory) → map (λ z. z.0) (map size_of ms) ≡ map (λ m. length m.bytes) ms
lengths_of ms = map_twice (λ (z : Size). z.0) size_of ms

pub bytes_kept : (set : ModuleSet) → outside (allocated (linked set)) (linked set) ≡ None → map (λ m. length m.bytes) (loaded set).memories ≡ map (λ m. length m.bytes) (allocated (linked set)).memories
bytes_kept set e = sym (lengths_of (loaded set).memories) ∙ ap (map (λ (z : Size). z.0)) (checked_loaded set e).sizes ∙ lengths_of (allocated (linked set)).memories

extents_of : (ts : List Table) → map (λ z. z.0) (map extent_of ts) ≡ map (λ t. length t.entries) ts
extents_of ts = map_twice (λ (z : Extent). z.0) extent_of ts

pub entries_kept : (set : ModuleSet) → outside (allocated (linked set)) (linked set) ≡ None → map (λ t. length t.entries) (loaded set).tables ≡ map (λ t. length t.entries) (allocated (linked set)).tables
entries_kept set e = sym (extents_of (loaded set).tables) ∙ ap (map (λ (z : Extent). z.0)) (checked_loaded set e).lengths ∙ extents_of (allocated (linked set)).tables

-- ---- whole pages within limits

abbrev SizeFits : Size → Type 0
SizeFits z = (z.0 ≡ page_size * (z.0 / page_size)) × (z.1.limits.min ≤ z.0 / page_size) × (z.0 / page_size ≤ most_pages_of z.1) × (z.0 / page_size ≤ most_memory_pages)

abbrev HasSize : Memory → Type 0
HasSize m = SizeFits (size_of m)

abbrev HasBytes : Memory → Type 0
HasBytes m = All IsByte m.bytes

abbrev pages_in : List Size → ℕ
pages_in [] = 0
pages_in (z ∷ zs) = z.0 / page_size + pages_in zs

pages_sizes : (ms : List Memory) → all_pages ms ≡ pages_in (map size_of ms)
pages_sizes [] = refl
pages_sizes (m ∷ ms) = ap (λ (n : ℕ). pages m + n) (pages_sizes ms)

all_fit : (ms : List Memory) → All HasSize ms → All HasBytes ms → All MemoryFits ms
all_fit [] h b = All-nil MemoryFits
all_fit (m ∷ ms) h b =
    let z = All-head HasSize m ms h in
    All-cons MemoryFits m ms (record { whole = z.0; least = z.1; greatest = z.2; most = z.3; bytes = All-head HasBytes m ms b }) (all_fit ms (All-tail HasSize m ms h) (All-tail HasBytes m ms b))

sizes_like : (ms ns : List Memory) → map size_of ns ≡ map size_of ms → All HasSize ms → All HasSize ns
sizes_like ms ns e h = all_unmap SizeFits size_of ns (subst (λ (l : List Size). All SizeFits l) (sym e) (All-map SizeFits size_of ms h))

within_max : (n : ℕ) (max : Option ℕ) → n ≤ most_memory_pages → IfSome max (λ m. n ≤ m) → n ≤ unwrap_or max most_memory_pages
within_max n None le h = le
within_max n (Some m) le h = h

fresh_size : (t : MemoryType Label) → IsMemory t → HasSize (fresh_memory t)
fresh_size t v =
    let n = t.limits.min in
    let size : length (fresh_memory t).bytes ≡ page_size * n = length-replicate {A = ℕ} (page_size * n) 0 in
    let count : (page_size * n) / page_size ≡ n = omega arith in
    subst (λ k. (k ≡ page_size * (k / page_size)) × (t.limits.min ≤ k / page_size) × (k / page_size ≤ most_pages_of t) × (k / page_size ≤ most_memory_pages)) (sym size) (
      ap (λ (k : ℕ). page_size * k) (sym count),
      subst (λ k. t.limits.min ≤ k) (sym count) (omega arith),
      subst (λ k. k ≤ most_pages_of t) (sym count) (within_max n t.limits.max v.1 v.0),
      subst (λ k. k ≤ most_memory_pages) (sym count) v.1,
    )

fresh_all : (o : Option (MemoryType Label)) → IfSome o IsMemory → All HasSize (map fresh_memory (optional o))
fresh_all None h = All-nil HasSize
fresh_all (Some t) h = All-cons HasSize (fresh_memory t) [] (fresh_size t h) (All-nil HasSize)

-- ---- bytes

fresh_bytes : (o : Option (MemoryType Label)) → All HasBytes (map fresh_memory (optional o))
fresh_bytes None = All-nil HasBytes
fresh_bytes (Some t) = All-cons HasBytes (fresh_memory t) [] (All-replicate IsByte (page_size * t.limits.min) 0 (omega arith)) (All-nil HasBytes)

all_changed : {A : Type 0} (P : A → Type 0) (f : A → A) → ((a : A) → P a → P (f a)) → (xs : List A) (o : Option ℕ) → All P xs → All P (changed f xs o)
all_changed P f k xs None h = h
all_changed {A} P f k xs (Some i) h = at xs i h
  where
    at : (xs : List A) (i : ℕ) → All P xs → All P (changed_at f xs i)
    at [] i h = h
    at (x ∷ xs) zero h = All-cons P (f x) xs (k x (All-head P x xs h)) (All-tail P x xs h)
    at (x ∷ xs) (suc i) h = All-cons P x (changed_at f xs i) (All-head P x xs h) (at xs i (All-tail P x xs h))

bytes_loaded : (set : ModuleSet) → AllWithinLimits set → All HasBytes (loaded set).memories
bytes_loaded set small =
    let parts = linked set in
    let limits = all_unmap (λ (p : NamedModule). IsWithinLimits p.tree) bare parts (subst AllWithinLimits (sym (bare_linked set)) small) in
    load_holds (λ s. All HasBytes s.memories) parts (λ p s e i k h. h)
    (λ p s d i k h.
    let own : IsWithinLimits p.tree = all_get (λ (q : LinkedModule). IsWithinLimits q.tree) parts i.0 p limits i.1 in
    let new : All IsByte d.bytes = all_get (λ (d : Segment Label). All IsByte d.bytes) p.tree.segments k.0 d own.bytes k.1 in
    all_changed HasBytes (with_new_bytes (offset_of s p d.offset) d.bytes) (λ m b. written_bytes_fit (offset_of s p d.offset) d.bytes m.bytes new b) s.memories (slice_get p.numbers.memories 0) h)
    (allocated parts) (all_flat HasBytes fresh_memories parts (All-weaker (λ (q : LinkedModule). IsWithinLimits q.tree) (λ q. All HasBytes (fresh_memories q)) (λ q w. fresh_bytes q.tree.memory) parts limits))

-- ---- tables

abbrev ExtentFits : Extent → Type 0
ExtentFits z = (z.1.min ≤ z.0) × IfSome z.1.max (λ max. z.0 ≤ max)

tables_like : (ts us : List Table) → map extent_of us ≡ map extent_of ts → All TableFits ts → All TableFits us
tables_like ts us e h = all_unmap ExtentFits extent_of us (subst (λ (l : List Extent). All ExtentFits l) (sym e) (All-map ExtentFits extent_of ts h))

fresh_table_fits : (l : Limits) → AreLimits l → TableFits (fresh_table l)
fresh_table_fits l v =
    let size : length (fresh_table l).entries ≡ l.min = length-replicate {A = Option ℕ} l.min None in
    subst (λ k. (l.min ≤ k) × IfSome l.max (λ max. k ≤ max)) (sym size) (omega arith, v)

fresh_tables_fit : (o : Option Limits) → IfSome o AreLimits → All TableFits (map fresh_table (optional o))
fresh_tables_fit None h = All-nil TableFits
fresh_tables_fit (Some l) h = All-cons TableFits (fresh_table l) [] (fresh_table_fits l h) (All-nil TableFits)

-- ---- pages

pages_append : (ms ns : List Memory) → all_pages (ms ++ ns) ≡ all_pages ms + all_pages ns
pages_append [] ns = omega arith
pages_append (m ∷ ms) ns = omega (arith, pages_append ms ns)

fresh_pages : (o : Option (MemoryType Label)) → all_pages (map fresh_memory (optional o)) ≡ pages_of o
fresh_pages None = refl
fresh_pages (Some t) =
    let size : length (fresh_memory t).bytes ≡ page_size * t.limits.min = length-replicate {A = ℕ} (page_size * t.limits.min) 0 in
    omega (arith, size)

pages_fresh : (parts : List LinkedModule) → all_pages (flat_map fresh_memories parts) ≡ Matching.pages (map bare parts)
pages_fresh [] = refl
pages_fresh (p ∷ parts) =
    omega (arith, pages_append (fresh_memories p) (flat_map fresh_memories parts), fresh_pages p.tree.memory, pages_fresh parts, sum_by-cons (λ (q : NamedModule). pages_of q.tree.memory) (bare p) (map bare parts))

-- ---- globals

abbrev Fits : Global → Type 0
Fits g = ValueFits g.value

abbrev IsFittingGlobal : Tree.Global Label → Type 0
IsFittingGlobal g = IsFitting g.init

abbrev globals_of : ModuleSet → List Global
globals_of set = fold with_globals [] (linked set)

module _ (done : ModuleSet) (p : NamedModule) (v : AllValid done) (m : AllMet done) (met : All (λ i. Served (set_instances done) (shape_of (loaded done)) (linked done) p.tree i) p.tree.imports) where
  -- the globals of the parts before, and some of this part
  constant_fits : (extra : List Global) → All Fits (globals_of done ++ extra) → (t : ValueType Label) (c : Constant Label) → IsFitting c → HasType (imported_globals p.tree.imports) t c
      → constant_number (globals_of done ++ extra) (linked_module (linked done) p).numbers.globals c < 2 ^ bit_width t.width
  constant_fits extra fit t (Number type bits) small h = subst (λ (u : ValueType Label). bits < 2 ^ bit_width u.width) h small
  constant_fits extra fit t (ValueOf x) small h =
      let before = linked done in
      let shape = shape_of (loaded done) in
      let gs = globals_of done ++ extra in
      let imported = filter_map (number_if tag.Global before) p.tree.imports in
      let all = (linked_module before p).numbers.globals in
      let at = paired_get (LeadsToGlobal shape) (imported_globals p.tree.imports) imported x h.0 (globals_imported (set_instances done) shape before p.tree p.tree.imports met) h.1 in
      let number : slice_get all x ≡ Some at.0 = slice_get_left imported (range_with_len (defined_before tag.Global before) (length p.tree.globals)) x (slice_get_within imported x at.0 at.1) ∙ at.1 in
      let there : slice_get (map global_type (globals_of done)) at.0 ≡ Some h.0 = ap (λ (gs : List Global). slice_get (map global_type gs) at.0) (sym (same_globals done)) ∙ at.2 in
      let old = map_get global_type (globals_of done) at.0 h.0 there in
      let g : slice_get gs at.0 ≡ Some old.0 = slice_get_left (globals_of done) extra at.0 (slice_get_within (globals_of done) at.0 old.0 old.1) ∙ old.1 in
      let fits : ValueFits old.0.value = all_get Fits gs at.0 old.0 fit g in
      let type : old.0.value.type ≡ t = ap (λ (u : VariableType Label). u.value) old.2 ∙ h.3 in
      let read : constant_number gs all (ValueOf x) ≡ old.0.value.number = ap (λ (o : Option ℕ). number_in (option_and_then (slice_get gs) o)) number ∙ ap number_in g in
      subst (λ (n : ℕ). n < 2 ^ bit_width t.width) (sym read) (subst (λ (u : ValueType Label). old.0.value.number < 2 ^ bit_width u.width) type fits)

  globals_fit : (extra : List Global) (l : List (Tree.Global Label)) → All Fits (globals_of done ++ extra) → All IsFittingGlobal l → All (IsGlobal p.tree) l → All Fits (fold (with_global (linked_module (linked done) p).numbers.globals) (globals_of done ++ extra) l)
  globals_fit extra [] fit small h = fit
  globals_fit extra (g ∷ l) fit small h =
      let numbers = (linked_module (linked done) p).numbers.globals in
      let gs = globals_of done ++ extra in
      let new = fresh_global gs numbers g in
      let same : gs ++ new ∷ [] ≡ globals_of done ++ (extra ++ new ∷ []) = append_assoc (globals_of done) extra (new ∷ []) in
      let fits = All-push Fits gs new fit (constant_fits extra fit g.type.value g.init (All-head IsFittingGlobal g l small) (All-head (IsGlobal p.tree) g l h)) in
      subst (λ (l' : List Global). All Fits (fold (with_global numbers) l' l)) (sym same) (globals_fit (extra ++ new ∷ []) l (subst (All Fits) same fits) (All-tail IsFittingGlobal g l small) (All-tail (IsGlobal p.tree) g l h))

  part_fits : All Fits (globals_of done) → All IsFittingGlobal p.tree.globals → All (IsGlobal p.tree) p.tree.globals → All Fits (with_globals (globals_of done) (linked_module (linked done) p))
  part_fits fit small h =
      let numbers = (linked_module (linked done) p).numbers.globals in
      let none = append-nil (globals_of done) in
      subst (λ (l : List Global). All Fits (fold (with_global numbers) l p.tree.globals)) none (globals_fit [] p.tree.globals (subst (All Fits) (sym none) fit) small h)

first_behind : {A : Type 0} (P : A → Type 0) (front : List A) (a : A) (rest : List A) → All P (front ++ a ∷ rest) → P a
first_behind P [] a rest h = All-head P a rest h
first_behind P (b ∷ front) a rest h = first_behind P front a rest (All-tail P b (front ++ a ∷ rest) h)

fits_behind : (set : ModuleSet) → AllValid set → AllMet set → (done rest : ModuleSet) → set ≡ done ++ rest → All Fits (globals_of done) → All Fits (globals_of set)
fits_behind set v m done [] e h = subst (λ (x : ModuleSet). All Fits (globals_of x)) (sym (e ∙ append-nil done)) h
fits_behind set v m done (p ∷ rest) e h =
    let before = linked done in
    let shape = shape_of (loaded done) in
    let fns = set_instances done in
    let all = subst AllValid e v in
    let vd = all_front (λ (p : NamedModule). IsValid p.tree) done (p ∷ rest) all in
    let md = met_front done (p ∷ rest) (subst AllMet e m) in
    let leads = all_lead done shape md vd (loaded_shape done) in
    let served = All-weaker (λ i. _) (Served fns shape before p.tree) (λ i met. import_leads fns shape before done p.tree i (bare_linked done) leads (valid_linked done vd) met) p.tree.imports (m done rest p e) in
    let valid = first_behind (λ (p : NamedModule). IsValid p.tree) done p rest all in
    let next = part_fits done p vd md served h valid.formed.globals valid.around.globals in
    let same : globals_of (done ++ p ∷ []) ≡ with_globals (globals_of done) (linked_module before p) =
    ap (λ (l : List LinkedModule). fold with_globals [] l) (linked_more done p) ∙ fold-append with_globals [] before (linked_module before p ∷ []) in
    fits_behind set v m (done ++ p ∷ []) rest (e ∙ sym (append_assoc done (p ∷ []) rest)) (subst (All Fits) (sym same) next)

-- ---- the whole store

pub loaded_sound : (set : ModuleSet) → AreMatching set → AllValid set → AllWithinLimits set → outside (allocated (linked set)) (linked set) ≡ None → SoundStorage (shape_of (loaded set)) (loaded set)
loaded_sound set m v small e =
    let a = allocated (linked set) in
    let c = checked_loaded set e in
    let valid = valid_linked set v in
    let fresh : All HasSize a.memories = all_flat HasSize fresh_memories (linked set) (All-weaker (λ (q : LinkedModule). IsValid q.tree) (λ q. All HasSize (fresh_memories q)) (λ q w. fresh_all q.tree.memory w.around.memory) (linked set) valid) in
    let total : all_pages (loaded set).memories ≡ Matching.pages set =
    pages_sizes (loaded set).memories ∙ ap pages_in c.sizes ∙ sym (pages_sizes a.memories) ∙ pages_fresh (linked set) ∙ ap Matching.pages (bare_linked set) in
    let tables : All TableFits a.tables = all_flat TableFits fresh_tables (linked set) (All-weaker (λ (q : LinkedModule). IsValid q.tree) (λ q. All TableFits (fresh_tables q)) (λ q w. fresh_tables_fit q.tree.table w.around.table) (linked set) valid) in
    record {
      shaped = refl;
      memories = all_fit (loaded set).memories (sizes_like a.memories (loaded set).memories c.sizes fresh) (bytes_loaded set small);
      total = omega (arith, total, m.pages);
      globals = subst (All Fits) (sym (same_globals set)) (fits_behind set v m.imports [] set refl (All-nil Fits));
      tables = tables_like a.tables (loaded set).tables c.lengths tables;
    }
