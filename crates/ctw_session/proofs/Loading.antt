-- Segments as they are written.
use Rattle.std.proofs.Common.{◌≡◌, ◌≤◌, ◌<◌, ℕ, zero, suc, ◌+◌, nat_le, List, [], ◌∷◌, ◌++◌, length, map, fold, take, drop, slice_get, slice_set, Option, Some, None, option_and_then, refl, sym, ap, ap₂, subst, ◌∙◌, append_assoc, arith}
use Rattle.std.proofs.lemmas.Bool.{leb-true}
use Rattle.std.proofs.lemmas.List.{length-map, set-set, length-set, drop_all, take_all, take_more_set, drop-set-lt, take-append-drop}
use Rattle.std.proofs.lemmas.List.Sums.{fold-append}
use Rattle.std.proofs.lemmas.Option.{same_Some, slice_get_within}
use Rattle.ctw_ops.specs.declared.types.Label.{Label}
use Rattle.ctw_ops.specs.declared.types.ExternTag.TheVariants as tag
use Rattle.ctw_ops.specs.Tree.{Element, Segment}
use Rattle.ctw_ops.proofs.Lists.{map_get, map_set_same}
use Rattle.ctw_semantics.specs.Stores.{Memory, Global, Table, Storage, with_bytes, with_entry, written_at}
use Rattle.ctw_semantics.proofs.Memories.{length-written_at}
use Rattle.ctw_store.proofs.Made.{set_read}
use Rattle.ctw_link.specs.declared.set.Part.{Part}
use Rattle.ctw_link.specs.Sets.{set_of}
use Rattle.ctw_link.specs.Numbers.{LinkedModule, linked, number_in}
use Rattle.ctw_link.specs.Matching.{AreMatching}
use Rattle.ctw_link.specs.Linked.{CanBeLinked}
use Rattle.ctw_link.proofs.Lists.{mapped_at, take_next, drop_next}
use Rattle.ctw_launch.specs.Launched.{constant_number, allocated, changed_at, changed, offset_of, with_entries, with_element, with_new_bytes, with_segment, table_size, memory_size, outside}
use Rattle.ctw_launch.proofs.SoundStores.{element_inside, segment_inside}
use Rattle.ctw_session.specs.Segments.{IsLinkedPart, IsElementOf, IsSegmentOf, IsLoading}
use Rattle.ctw_session.proofs.Copying.{at_number, same_set}
use Rattle.ctw_session.proofs.SegmentsOf.{tables_short, memories_short, table_number, table_below, memory_number, memory_below}

-- ---- folds

module _ {A B : Type 0} (f : B → A → B) (z : B) (xs : List A) where
  pub fold_next : (i : ℕ) (x : A) → slice_get xs i ≡ Some x → fold f z (take (i + 1) xs) ≡ f (fold f z (take i xs)) x
  fold_next i x e = ap (fold f z) (take_next xs i x e) ∙ fold-append f z (take i xs) (x ∷ [])

  pub fold_all : (i : ℕ) → length xs ≤ i → fold f z (take i xs) ≡ fold f z xs
  fold_all i le = ap (fold f z) (take_all i xs le)

-- ---- a changed element

pub changed_set : {A : Type 0} (f : A → A) (xs : List A) (i : ℕ) (x : A) → slice_get xs i ≡ Some x → slice_set xs i (f x) ≡ changed_at f xs i
changed_set f [] i x e = absurd cc
changed_set {A = A} f (y ∷ xs) zero x e = ap (λ (z : A). f z ∷ xs) (sym (same_Some y x e))
changed_set {A = A} f (y ∷ xs) (suc i) x e = ap (λ (l : List A). y ∷ l) (changed_set f xs i x e)

-- ---- entries, one after another

none_written : {A : Type 0} (at : ℕ) (old : List A) → written_at at [] old ≡ old
unfolding written_at
none_written {A = A} at old = let z : at + 0 ≡ at = omega arith in ap (λ (n : ℕ). take at old ++ drop n old) z ∙ take-append-drop at old

next_written : {A : Type 0} (at : ℕ) (x : A) (xs old : List A) → at < length old → written_at (at + 1) xs (slice_set old at x) ≡ written_at at (x ∷ xs) old
unfolding written_at
next_written {A = A} at x xs old h =
    let t = take_more_set old at x h in
    let d = drop-set-lt (at + 1 + length xs) old at x (omega arith) in
    let n : at + 1 + length xs ≡ at + suc (length xs) = omega arith in
    ap₂ (λ (a b : List A). a ++ (xs ++ b)) t (d ∙ ap (λ (n : ℕ). drop n old) n) ∙ append_assoc (take at old) (x ∷ []) (xs ++ drop (at + suc (length xs)) old)

abbrev pub with_new_entries : Storage → ℕ → Table → List (Option ℕ) → Storage
with_new_entries s n t entries = record s { tables = slice_set s.tables n (record t { entries = entries }) }

-- the first so many entries are put, and the others still are to be
pub record Putting (old : Storage) (n : ℕ) (t : Table) (at : ℕ) (new : List (Option ℕ)) (i : ℕ) (s : Storage) : Type 0 where
  pub now : List (Option ℕ)
  pub is : s ≡ with_new_entries old n t now
  pub size : length now ≡ length t.entries
  pub goes : written_at (at + i) (drop i new) now ≡ written_at at new t.entries

pub putting_none : (old : Storage) (n : ℕ) (t : Table) (at : ℕ) (new : List (Option ℕ)) → slice_get old.tables n ≡ Some t → Putting old n t at new 0 old
putting_none old n t at new e = record {
  now = t.entries;
  is = ap (λ (l : List Table). record old { tables = l }) (sym (same_set old.tables n t e));
  size = refl;
  goes = let z : at + 0 ≡ at = omega arith in ap (λ (k : ℕ). written_at k new t.entries) z;
}

module _ (old : Storage) (n : ℕ) (t : Table) (at : ℕ) (new : List (Option ℕ)) (i : ℕ) (s : Storage) (e : slice_get old.tables n ≡ Some t) (w : Putting old n t at new i s) where
  abbrev pub table_now : Table
  table_now = record t { entries = w.now }

  pub table_there_now : slice_get s.tables n ≡ Some table_now
  table_there_now = ap (λ (x : Storage). slice_get x.tables n) w.is ∙ set_read old.tables n t table_now e

  pub tables_same : length s.tables ≡ length old.tables
  tables_same = ap (λ (x : Storage). length x.tables) w.is ∙ length-set old.tables n table_now

  pub putting_more : (x : Option ℕ) (u : Storage) → at + length new ≤ length t.entries → slice_get new i ≡ Some x → u ≡ with_entry s n table_now (at + i) x → Putting old n t at new (i + 1) u
  putting_more x u le b h =
      let lt : i < length new = slice_get_within new i x b in
      let there : at + i < length w.now = omega (arith, le, lt, w.size) in
      let next : at + (i + 1) ≡ at + i + 1 = omega arith in
      record {
        now = slice_set w.now (at + i) x;
        is = h ∙ ap (λ (y : Storage). with_entry y n table_now (at + i) x) w.is ∙ ap (λ (l : List Table). record old { tables = l }) (set-set old.tables n table_now (record t { entries = slice_set w.now (at + i) x }));
        size = length-set w.now (at + i) x ∙ w.size;
        goes = ap (λ (k : ℕ). written_at k (drop (i + 1) new) (slice_set w.now (at + i) x)) next
            ∙ next_written (at + i) x (drop (i + 1) new) w.now there
            ∙ ap (λ (l : List (Option ℕ)). written_at (at + i) l w.now) (sym (drop_next new i x b)) ∙ w.goes;
      }

  pub putting_all : length new ≤ i → s ≡ with_new_entries old n t (written_at at new t.entries)
  putting_all le =
      let none : written_at (at + i) (drop i new) w.now ≡ w.now = ap (λ (l : List (Option ℕ)). written_at (at + i) l w.now) (drop_all i new le) ∙ none_written (at + i) w.now in
      w.is ∙ ap (with_new_entries old n t) (sym none ∙ w.goes)

-- ---- a store of the same sizes

module _ (parts : List Part) (s : Storage) (l : IsLoading parts s) where
  abbrev pub fresh : Storage
  fresh = allocated (linked (set_of parts))

  -- a table has the size with which it was allocated, and a memory too
  table_size_kept : (n : ℕ) (t : Table) → slice_get s.tables n ≡ Some t → (u : Table) × (slice_get fresh.tables n ≡ Some u) × (length u.entries ≡ length t.entries)
  table_size_kept n t e =
      map_get (λ (t : Table). length t.entries) fresh.tables n (length t.entries) (ap (λ (l : List ℕ). slice_get l n) (sym l.tables) ∙ mapped_at (λ (t : Table). length t.entries) s.tables n t e)

  memory_size_kept : (n : ℕ) (m : Memory) → slice_get s.memories n ≡ Some m → (u : Memory) × (slice_get fresh.memories n ≡ Some u) × (length u.bytes ≡ length m.bytes)
  memory_size_kept n m e =
      map_get (λ (m : Memory). length m.bytes) fresh.memories n (length m.bytes) (ap (λ (l : List ℕ). slice_get l n) (sym l.memories) ∙ mapped_at (λ (m : Memory). length m.bytes) s.memories n m e)

  pub table_short : AreMatching (set_of parts) → (n : ℕ) (t : Table) → slice_get s.tables n ≡ Some t → length t.entries ≤ 1000000
  table_short m n t e = let u = table_size_kept n t e in omega (arith, u.2, tables_short (set_of parts) m n u.0 u.1)

  pub memory_short : AreMatching (set_of parts) → (n : ℕ) (m : Memory) → slice_get s.memories n ≡ Some m → length m.bytes ≤ 268435456
  memory_short h n m e = let u = memory_size_kept n m e in omega (arith, u.2, memories_short (set_of parts) h n u.0 u.1)

  pub tables_count : length s.tables ≡ length fresh.tables
  tables_count = sym (length-map s.tables (λ t. length t.entries)) ∙ ap length l.tables ∙ length-map fresh.tables (λ t. length t.entries)

  pub memories_count : length s.memories ≡ length fresh.memories
  memories_count = sym (length-map s.memories (λ m. length m.bytes)) ∙ ap length l.memories ∙ length-map fresh.memories (λ m. length m.bytes)

  module _ (k : ℕ) (p : LinkedModule) (there : IsLinkedPart parts k p) (n : ℕ) where
    -- the entries of an element end inside the table
    pub element_room : (index : ℕ) (e : Element Label) (t : Table) → IsElementOf p index e → slice_get p.numbers.tables 0 ≡ Some n → slice_get s.tables n ≡ Some t → offset_of s p e.offset + length e.functions ≤ length t.entries
    element_room index e t at number is =
        let u = table_size_kept n t is in
        let fits = element_inside fresh (linked (set_of parts)) l.inside k p e there (index, at) in
        let size : offset_of fresh p e.offset + length e.functions ≤ table_size (slice_get fresh.tables n) =
        leb-true _ _ (ap (λ (o : Option ℕ). nat_le (offset_of fresh p e.offset + length e.functions) (table_size (option_and_then (slice_get fresh.tables) o))) (sym number) ∙ fits) in
        let whole : table_size (slice_get fresh.tables n) ≡ length u.0.entries = ap table_size u.1 in
        let same : offset_of s p e.offset ≡ offset_of fresh p e.offset = ap (λ (g : List Global). constant_number g p.numbers.globals e.offset) l.globals in
        omega (arith, size, whole, same, u.2)

    pub segment_room : (index : ℕ) (d : Segment Label) (m : Memory) → IsSegmentOf p index d → slice_get p.numbers.memories 0 ≡ Some n → slice_get s.memories n ≡ Some m → offset_of s p d.offset + length d.bytes ≤ length m.bytes
    segment_room index d m at number is =
        let u = memory_size_kept n m is in
        let fits = segment_inside fresh (linked (set_of parts)) l.inside k p d there (index, at) in
        let size : offset_of fresh p d.offset + length d.bytes ≤ memory_size (slice_get fresh.memories n) =
        leb-true _ _ (ap (λ (o : Option ℕ). nat_le (offset_of fresh p d.offset + length d.bytes) (memory_size (option_and_then (slice_get fresh.memories) o))) (sym number) ∙ fits) in
        let whole : memory_size (slice_get fresh.memories n) ≡ length u.0.bytes = ap memory_size u.1 in
        let same : offset_of s p d.offset ≡ offset_of fresh p d.offset = ap (λ (g : List Global). constant_number g p.numbers.globals d.offset) l.globals in
        omega (arith, size, whole, same, u.2)

  -- what is written keeps the sizes
  pub entries_loading : (n : ℕ) (t : Table) (entries : List (Option ℕ)) (u : Storage) → slice_get s.tables n ≡ Some t → length entries ≡ length t.entries → u ≡ with_new_entries s n t entries → IsLoading parts u
  entries_loading n t entries u e size is = subst (IsLoading parts) (sym is) (record {
    inside = l.inside;
    globals = l.globals;
    tables = map_set_same (λ (t : Table). length t.entries) s.tables n t (record t { entries = entries }) e size ∙ l.tables;
    memories = l.memories;
  })

  pub bytes_loading : (n : ℕ) (m : Memory) (bytes : List ℕ) (u : Storage) → slice_get s.memories n ≡ Some m → length bytes ≡ length m.bytes → u ≡ with_bytes s n m bytes → IsLoading parts u
  bytes_loading n m bytes u e size is = subst (IsLoading parts) (sym is) (record {
    inside = l.inside;
    globals = l.globals;
    tables = l.tables;
    memories = map_set_same (λ (m : Memory). length m.bytes) s.memories n m (record m { bytes = bytes }) e size ∙ l.memories;
  })

-- ---- a part's segments

-- an element of a part lies at a place in a table of a store, which has this number
pub record ElementPlace (s : Storage) (p : LinkedModule) (e : Element Label) (n at : ℕ) : Type 0 where
  pub table : Table
  pub there : slice_get s.tables n ≡ Some table
  pub number : slice_get p.numbers.tables 0 ≡ Some n
  pub offset : at ≡ offset_of s p e.offset
  pub room : at + length e.functions ≤ length table.entries
  pub short : length table.entries ≤ 1000000

-- and a data segment at one in a memory
pub record SegmentPlace (s : Storage) (p : LinkedModule) (d : Segment Label) (n at : ℕ) : Type 0 where
  pub memory : Memory
  pub there : slice_get s.memories n ≡ Some memory
  pub number : slice_get p.numbers.memories 0 ≡ Some n
  pub offset : at ≡ offset_of s p d.offset
  pub room : at + length d.bytes ≤ length memory.bytes
  pub short : length memory.bytes ≤ 268435456

module _ (parts : List Part) (can : CanBeLinked parts) (matching : AreMatching (set_of parts)) (s : Storage) (l : IsLoading parts s) (k : ℕ) (p : LinkedModule) (there : IsLinkedPart parts k p) (index n at : ℕ) where
  pub element_place : (e : Element Label) → IsElementOf p index e → Some n ≡ number_in (set_of parts) tag.Table k 0 → at ≡ offset_of s p e.offset → ElementPlace s p e n at
  element_place e is number offset =
      let own = table_number parts k p there can matching n number in
      let t = at_number s.tables n (omega (arith, table_below parts k p there can matching n index e is number, tables_count parts s l)) in
      record {
        table = t.0;
        there = t.1;
        number = own;
        offset = offset;
        room = omega (arith, element_room parts s l k p there n index e t.0 is own t.1, offset);
        short = table_short parts s l matching n t.0 t.1;
      }

  pub segment_place : (d : Segment Label) → IsSegmentOf p index d → Some n ≡ number_in (set_of parts) tag.Memory k 0 → at ≡ offset_of s p d.offset → SegmentPlace s p d n at
  segment_place d is number offset =
      let own = memory_number parts k p there can matching n number in
      let m = at_number s.memories n (omega (arith, memory_below parts k p there can matching n index d is number, memories_count parts s l)) in
      record {
        memory = m.0;
        there = m.1;
        number = own;
        offset = offset;
        room = omega (arith, segment_room parts s l k p there n index d m.0 is own m.1, offset);
        short = memory_short parts s l matching n m.0 m.1;
      }

module _ (s : Storage) (p : LinkedModule) (n at : ℕ) where
  pub element_written : (e : Element Label) (h : ElementPlace s p e n at) (u : Storage) → u ≡ with_new_entries s n h.table (written_at at (map (slice_get p.numbers.functions) e.functions) h.table.entries) → u ≡ with_element p s e
  element_written e h u is =
      is
      ∙ ap (λ (l : List Table). record s { tables = l })
      (changed_set (with_entries at (map (slice_get p.numbers.functions) e.functions)) s.tables n h.table h.there
      ∙ ap₂ (λ (k : ℕ) (o : Option ℕ). changed (with_entries k (map (slice_get p.numbers.functions) e.functions)) s.tables o) h.offset (sym h.number))

  pub element_loading : (parts : List Part) → IsLoading parts s → (e : Element Label) (h : ElementPlace s p e n at) (u : Storage) → u ≡ with_new_entries s n h.table (written_at at (map (slice_get p.numbers.functions) e.functions) h.table.entries)
      → IsLoading parts u
  element_loading parts l e h u is =
      let new = map (slice_get p.numbers.functions) e.functions in
      let count : length new ≡ length e.functions = length-map e.functions (slice_get p.numbers.functions) in
      entries_loading parts s l n h.table (written_at at new h.table.entries) u h.there (omega (arith, length-written_at at new h.table.entries, h.room, count)) is

  pub segment_written : (d : Segment Label) (h : SegmentPlace s p d n at) (u : Storage) → u ≡ with_bytes s n h.memory (written_at at d.bytes h.memory.bytes) → u ≡ with_segment p s d
  segment_written d h u is =
      is
      ∙ ap (λ (l : List Memory). record s { memories = l })
      (changed_set (with_new_bytes at d.bytes) s.memories n h.memory h.there ∙ ap₂ (λ (k : ℕ) (o : Option ℕ). changed (with_new_bytes k d.bytes) s.memories o) h.offset (sym h.number))

  pub segment_loading : (parts : List Part) → IsLoading parts s → (d : Segment Label) (h : SegmentPlace s p d n at) (u : Storage) → u ≡ with_bytes s n h.memory (written_at at d.bytes h.memory.bytes) → IsLoading parts u
  segment_loading parts l d h u is = bytes_loading parts s l n h.memory (written_at at d.bytes h.memory.bytes) u h.there (omega (arith, length-written_at at d.bytes h.memory.bytes, h.room)) is

-- ---- all parts

pub loading_first : (parts : List Part) (s : Storage) → s ≡ allocated (linked (set_of parts)) → outside s (linked (set_of parts)) ≡ None → IsLoading parts s
loading_first parts s e none = subst (IsLoading parts) (sym e) (record {
  inside = subst (λ (x : Storage). outside x (linked (set_of parts)) ≡ None) e none;
  globals = refl;
  tables = refl;
  memories = refl;
})
