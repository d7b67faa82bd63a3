-- From what is held for a store to what contracts see of it.
use Rattle.std.proofs.Common.{◌≡◌, ℕ, zero, suc, ◌+◌, ◌/◌, ◌<◌, ◌≤◌, List, [], ◌∷◌, ◌++◌, map, length, Result, Ok, Err, Option, option_map, Some, get_or, slice_get, slice_set, sym, ap, ap₂, ◌∙◌, subst, arith, replicate, Bool, true, false, nat_le, leb-true, ◌&&◌, All, ◌*◌}
use Rattle.std.proofs.lemmas.List.{map-set, map-append, length-map, length-replicate}
use Rattle.std.proofs.lemmas.List.Elements.{All-set, All-append, All-cons, All-nil}
use Rattle.std.proofs.lemmas.Option.{slice_get-map, slice_get-get_or}
use Rattle.ctw_ops.specs.declared.types.Label.{Label}
use Rattle.ctw_ops.specs.declared.types.Limits.{Limits}
use Rattle.ctw_ops.specs.Types.{ValueType, VariableType, MemoryType}
use Rattle.ctw_ops.specs.Limits.{most_memory_pages, most_set_pages}
use Rattle.ctw_semantics.specs.Values.{value}
use Rattle.ctw_semantics.specs.Stores.{Memory, Global, Table, Storage, fresh_memory, with_bytes, with_number, with_entry, written_at, bytes_of_number, pages, all_pages, most_pages_of, may_grow, grown}
use Rattle.ctw_ops.proofs.Lists.{map_set_same, all_get}
use Rattle.ctw_ops.proofs.EqualLaws.{both}
use Rattle.ctw_store.specs.declared.page.Page.TheVariants.{Absent}
use Rattle.ctw_store.specs.declared.fault.StoreFault.{StoreFault}
use Rattle.ctw_store.specs.declared.fault.StoreFault.TheVariants as Faults
use Rattle.ctw_store.specs.declared.store.Paged.{Paged}
use Rattle.ctw_store.specs.declared.store.Cell.{Cell}
use Rattle.ctw_store.specs.declared.store.Entries.{Entries}
use Rattle.ctw_store.specs.Made.{IsMade, AreMade, KeepsMade}
use Rattle.ctw_store.specs.Pages.{IsPage, all_bytes, AreMadeIn, KeepsMadeIn, is_made, made_in}
use Rattle.ctw_store.specs.Answers.{Stores, with_new_memory}
use Rattle.ctw_store.specs.Held.{Held, memory_of, global_of, table_of, made_of, storage_of, held_of, IsWhole, AreHeld, Writes, has_room}
use Rattle.ctw_store.proofs.Pages.{bytes_long, bytes_extended, absents, absent_bytes, absent_pages}
use Rattle.ctw_store.proofs.Made.{in_one, of_one, set_read, keeps_set, keeps_more, keeps_extended}

abbrev of_parts : MemoryType Label → List ℕ → Memory
of_parts type bytes = record { type = type; bytes = bytes }

abbrev with_memories : List Cell → List Entries → List Memory → Storage
with_memories gs ts ms = record { memories = ms; globals = map global_of gs; tables = map table_of ts }

abbrev the_global : Bool → ValueType Label → ℕ → Global
the_global m t n = record { mutable = m; value = value t n }

abbrev the_table : Limits → List (Option ℕ) → Table
the_table m l = record { limits = m; entries = l }

-- ---- sizes

pub pages_are : (p : Paged) → All IsPage p.pages.items → pages (memory_of p) ≡ length p.pages.items
pages_are p h = let b = bytes_long p.pages.items h in omega arith

one_total : (ms : List Paged) (p : Paged) → all_pages (map memory_of (ms ++ p ∷ [])) ≡ all_pages (map memory_of ms) + pages (memory_of p)
one_total [] p = omega arith
one_total (q ∷ ms) p = let e = one_total ms p in omega arith

total_set : (ms : List Paged) (i : ℕ) (p q : Paged) → slice_get ms i ≡ Some p → all_pages (map memory_of (slice_set ms i q)) + pages (memory_of p) ≡ all_pages (map memory_of ms) + pages (memory_of q)
total_set [] i p q g = absurd cc
total_set (x ∷ ms) zero p q g =
    let s : x ≡ p = cc in
    let e = ap (λ (p : Paged). pages (memory_of p)) s in
    omega arith
total_set (x ∷ ms) (suc i) p q g = let e = total_set ms i p q g in omega arith

pub room_tests : (n k t c : ℕ) → nat_le (n + c) k ≡ false → has_room n k t c ≡ false
room_tests n k t c e = ap (λ b. b && (nat_le (n + c) most_memory_pages && nat_le (t + c) most_set_pages)) e

pub room_short : (n k t c : ℕ) → has_room n k t c ≡ true → (n + c ≤ most_memory_pages) × (t + c ≤ most_set_pages)
room_short n k t c e =
    let a = both (nat_le (n + c) k) (nat_le (n + c) most_memory_pages && nat_le (t + c) most_set_pages) e in
    let b = both (nat_le (n + c) most_memory_pages) (nat_le (t + c) most_set_pages) a.1 in
    (leb-true (n + c) most_memory_pages b.0, leb-true (t + c) most_set_pages b.1)

-- ---- a memory of a store

same_memory : (ms : List Paged) (i : ℕ) (p : Paged) (m : Memory) → slice_get ms i ≡ Some p → slice_get (map memory_of ms) i ≡ Some m → memory_of p ≡ m
same_memory ms i p m g e = let f = slice_get-map memory_of ms i ∙ ap (option_map memory_of) g in let h : Some (memory_of p) ≡ Some m = sym f ∙ e in cc

-- another memory in the place of one
replaced : (ms : List Paged) (gs : List Cell) (ts : List Entries) (i : ℕ) (p q : Paged) (m : Memory) (bytes : List ℕ) → slice_get ms i ≡ Some p → memory_of p ≡ m
    → q.kind ≡ p.kind → all_bytes q.pages.items ≡ bytes → storage_of (slice_set ms i q) gs ts ≡ with_bytes (storage_of ms gs ts) i m bytes
replaced ms gs ts i p q m bytes g s l b =
    let k : q.kind ≡ m.type = l ∙ ap (λ (m : Memory). m.type) s in
    let q' : memory_of q ≡ of_parts m.type bytes = ap₂ of_parts k b in
    ap (with_memories gs ts) (map-set memory_of ms i q ∙ ap (slice_set (map memory_of ms) i) q')

unchanged : (ms : List Paged) (gs : List Cell) (ts : List Entries) (i : ℕ) (p q : Paged) → slice_get ms i ≡ Some p
    → q.kind ≡ p.kind → all_bytes q.pages.items ≡ all_bytes p.pages.items → storage_of (slice_set ms i q) gs ts ≡ storage_of ms gs ts
unchanged ms gs ts i p q g l b =
    let q' : memory_of q ≡ memory_of p = ap₂ of_parts l b in
    ap (with_memories gs ts) (map_set_same memory_of ms i p q g q')

stored : (ms : List Paged) (gs : List Cell) (ts : List Entries) (i : ℕ) (p q : Paged) (m : Memory) (at count n : ℕ) (r : Result (Unit {0}) StoreFault) → slice_get ms i ≡ Some p → memory_of p ≡ m
    → q.kind ≡ p.kind → Writes (all_bytes p.pages.items) at count n r (all_bytes q.pages.items) → Stores (storage_of ms gs ts) i m at count n r (storage_of (slice_set ms i q) gs ts)
stored ms gs ts i p q m at count n (Ok done) g e l w =
    let s : all_bytes p.pages.items ≡ m.bytes = ap (λ (m : Memory). m.bytes) e in
    (subst (λ b. at + count ≤ length b) s w.0, replaced ms gs ts i p q m (written_at at (bytes_of_number count n) m.bytes) g e l (w.1 ∙ ap (written_at at (bytes_of_number count n)) s))
stored ms gs ts i p q m at count n (Err Faults.OutOfBounds) g e l w =
    let s : all_bytes p.pages.items ≡ m.bytes = ap (λ (m : Memory). m.bytes) e in
    (subst (λ b. length b < at + count) s w.0, unchanged ms gs ts i p q g l w.1)
stored ms gs ts i p q m at count n (Err Faults.NoMemory) g e l w =
    let s : all_bytes p.pages.items ≡ m.bytes = ap (λ (m : Memory). m.bytes) e in
    (subst (λ b. at + count ≤ length b) s w.0, unchanged ms gs ts i p q g l w.1)

module _ (ms : List Paged) (gs : List Cell) (ts : List Entries) (h : Held) (v : held_of ms gs ts ≡ h) where
  -- the memory that was read at a number
  pub memory_read : (i : ℕ) (p : Paged) → i < length h.storage.memories → p ≡ get_or ms i p → slice_get ms i ≡ Some p
  memory_read i p l e =
      let n = subst (λ (h : Held). i < length h.storage.memories) (sym v) l in
      slice_get-get_or ms i p (subst (λ n. i < n) (length-map ms memory_of) n) ∙ ap (λ p. Some p) (sym e)

  pub count_memories : length ms ≡ length h.storage.memories
  count_memories = sym (length-map ms memory_of) ∙ ap (λ (h : Held). length h.storage.memories) v

  pub total_of : all_pages (map memory_of ms) ≡ all_pages h.storage.memories
  total_of = ap (λ (h : Held). all_pages h.storage.memories) v

  -- a memory of zeros is added
  module _ (q : Paged) (t : MemoryType Label) (l : q.kind ≡ t) (z : q.pages.items ≡ absents t.limits.min) where
    pub memory_added : storage_of (ms ++ q ∷ []) gs ts ≡ with_new_memory h.storage (fresh_memory t)
    memory_added =
        let b : all_bytes q.pages.items ≡ replicate (65536 * t.limits.min) 0 = ap all_bytes z ∙ absent_bytes t.limits.min in
        let e : memory_of q ≡ fresh_memory t = ap₂ of_parts l b in
        ap (with_memories gs ts) (map-append memory_of ms (q ∷ []) ∙ ap (λ m. map memory_of ms ++ m ∷ []) e)
        ∙ ap (λ (h : Held). with_new_memory h.storage (fresh_memory t)) v

    pub held_added : (total : ℕ) → AreHeld ms total → all_pages h.storage.memories + t.limits.min ≤ most_set_pages → AreHeld (ms ++ q ∷ []) (total + t.limits.min)
    unfolding most_memory_pages most_set_pages
    held_added total s r =
        let w : All IsPage q.pages.items = subst (All IsPage) (sym z) (absent_pages t.limits.min) in
        let n : length q.pages.items ≡ t.limits.min = ap length z ∙ length-replicate t.limits.min Absent in
        let k = pages_are q w in
        let o = one_total ms q in
        let a = total_of in
        let c = s.counted in
        record {
          whole = All-append IsWhole ms (q ∷ []) s.whole (All-cons IsWhole q [] (record { pages = w; short = omega arith }) (All-nil IsWhole));
          counted = omega arith;
          within = omega arith;
        }

  pub keeps_added : (q : Paged) → KeepsMade h.made (map made_of (ms ++ q ∷ []))
  keeps_added q mem page k =
      subst (λ (l : List (List Bool)). IsMade l mem page) (sym (map-append made_of ms (q ∷ [])))
      (keeps_more (map made_of ms) (made_of q ∷ []) mem page (subst (λ (h : Held). IsMade h.made mem page) (sym v) k))

  -- a memory is replaced
  module _ (i : ℕ) (p : Paged) (g : slice_get ms i ≡ Some p) where
    pub memory_there : (m : Memory) → slice_get h.storage.memories i ≡ Some m → memory_of p ≡ m
    memory_there m e = same_memory ms i p m g (subst (λ (h : Held). slice_get h.storage.memories i ≡ Some m) (sym v) e)

    pub there_memory : slice_get h.storage.memories i ≡ Some (memory_of p)
    there_memory = subst (λ (h : Held). slice_get h.storage.memories i ≡ Some (memory_of p)) v (slice_get-map memory_of ms i ∙ ap (option_map memory_of) g)

    made_here : slice_get (map made_of ms) i ≡ Some (made_of p)
    made_here = slice_get-map made_of ms i ∙ ap (option_map made_of) g

    -- whether its pages are made
    pub ready_here : (at count : ℕ) → AreMade h.made i at count → AreMadeIn (made_of p) at count
    ready_here at count a k x y = in_one (map made_of ms) i (made_of p) made_here (k / 65536) (subst (λ (h : Held). IsMade h.made i (k / 65536)) (sym v) (a k x y))

    pub whole_here : (total : ℕ) → AreHeld ms total → IsWhole p
    whole_here total s = all_get IsWhole ms i p s.whole g

    pub room_here : (m : Memory) (total most count : ℕ) → slice_get h.storage.memories i ≡ Some m → AreHeld ms total → most ≡ most_pages_of p.kind → has_room (length p.pages.items) most total count ≡ may_grow h.storage m count
    unfolding may_grow
    room_here m total most count e s x =
        let f = memory_there m e in
        let w = whole_here total s in
        let n : length p.pages.items ≡ pages m = sym (pages_are p w.pages) ∙ ap pages f in
        let k : most ≡ most_pages_of m.type = x ∙ ap (λ (m : Memory). most_pages_of m.type) f in
        let t : total ≡ all_pages h.storage.memories = s.counted ∙ total_of in
        ap (λ n. has_room n most total count) n ∙ ap (λ k. has_room (pages m) k total count) k ∙ ap (λ t. has_room (pages m) (most_pages_of m.type) t count) t

    module _ (q : Paged) (l : q.kind ≡ p.kind) where
      pub stores_here : (at count n : ℕ) (r : Result (Unit {0}) StoreFault) → Writes (all_bytes p.pages.items) at count n r (all_bytes q.pages.items)
          → (m : Memory) → slice_get h.storage.memories i ≡ Some m → Stores h.storage i m at count n r (storage_of (slice_set ms i q) gs ts)
      stores_here at count n r w m e =
          subst (λ (h : Held). Stores h.storage i m at count n r (storage_of (slice_set ms i q) gs ts)) v (stored ms gs ts i p q m at count n r g (memory_there m e) l w)

      pub same_here : all_bytes q.pages.items ≡ all_bytes p.pages.items → storage_of (slice_set ms i q) gs ts ≡ h.storage
      same_here b = unchanged ms gs ts i p q g l b ∙ ap (λ (h : Held). h.storage) v

      pub grown_here : (count : ℕ) (m : Memory) → slice_get h.storage.memories i ≡ Some m → q.pages.items ≡ p.pages.items ++ absents count
          → storage_of (slice_set ms i q) gs ts ≡ with_bytes h.storage i m (grown m count)
      grown_here count m e a =
          let f = memory_there m e in
          let b = ap all_bytes a ∙ bytes_extended p.pages.items count ∙ ap (λ (m : Memory). m.bytes ++ replicate (65536 * count) 0) f in
          replaced ms gs ts i p q m (grown m count) g f l b ∙ ap (λ (h : Held). with_bytes h.storage i m (grown m count)) v

      pub keeps_here : KeepsMadeIn (made_of p) (made_of q) → KeepsMade h.made (map made_of (slice_set ms i q))
      keeps_here k mem page a =
          subst (λ (l : List (List Bool)). IsMade l mem page) (sym (map-set made_of ms i q))
          (keeps_set (map made_of ms) i (made_of p) (made_of q) made_here k mem page (subst (λ (h : Held). IsMade h.made mem page) (sym v) a))

      pub keeps_grown : (count : ℕ) → q.pages.items ≡ p.pages.items ++ absents count → KeepsMade h.made (map made_of (slice_set ms i q))
      keeps_grown count a =
          keeps_here (subst (KeepsMadeIn (made_of p)) (sym (ap made_in a ∙ map-append is_made p.pages.items (absents count))) (keeps_extended (made_of p) (made_in (absents count))))

      pub made_here_now : (at count : ℕ) → AreMadeIn (made_of q) at count → AreMade (map made_of (slice_set ms i q)) i at count
      made_here_now at count a k x y =
          of_one (map made_of (slice_set ms i q)) i (made_of q) (slice_get-map made_of (slice_set ms i q) i ∙ ap (option_map made_of) (set_read ms i p q g)) (k / 65536) (a k x y)

      pub held_grown : (total count : ℕ) → AreHeld ms total → All IsPage q.pages.items → length q.pages.items ≡ length p.pages.items + count
          → length p.pages.items + count ≤ most_memory_pages → total + count ≤ most_set_pages → AreHeld (slice_set ms i q) (total + count)
      held_grown total count s w n b t =
          let o = whole_here total s in
          let a = pages_are p o.pages in
          let c = pages_are q w in
          let d = total_set ms i p q g in
          let f = s.counted in
          record {
            whole = All-set IsWhole ms i q (record { pages = w; short = omega arith }) s.whole;
            counted = omega arith;
            within = t;
          }

      pub held_here : (total : ℕ) → AreHeld ms total → All IsPage q.pages.items → length q.pages.items ≡ length p.pages.items → AreHeld (slice_set ms i q) total
      held_here total s w n =
          let o = whole_here total s in
          let a = pages_are p o.pages in
          let c = pages_are q w in
          let d = total_set ms i p q g in
          let f = s.counted in
          let b = o.short in
          record {
            whole = All-set IsWhole ms i q (record { pages = w; short = omega arith }) s.whole;
            counted = omega arith;
            within = s.within;
          }

  -- ---- globals and tables

  pub global_set : (i : ℕ) (p q : Cell) (x : Global) → i < length h.storage.globals → p ≡ get_or gs i p → q.kind ≡ p.kind → slice_get h.storage.globals i ≡ Some x
      → storage_of ms (slice_set gs i q) ts ≡ with_number h.storage i x q.value
  global_set i p q x l e k a =
      let n : i < length gs = subst (λ n. i < n) (sym (sym (length-map gs global_of) ∙ ap (λ (h : Held). length h.storage.globals) v)) l in
      let g : slice_get gs i ≡ Some p = slice_get-get_or gs i p n ∙ ap (λ p. Some p) (sym e) in
      let f : slice_get (map global_of gs) i ≡ Some x = subst (λ (h : Held). slice_get h.storage.globals i ≡ Some x) (sym v) a in
      let o : Some (global_of p) ≡ Some x = sym (slice_get-map global_of gs i ∙ ap (option_map global_of) g) ∙ f in
      let s : global_of p ≡ x = cc in
      let m : q.kind.mutable ≡ x.mutable = ap (λ (t : VariableType Label). t.mutable) k ∙ ap (λ (x : Global). x.mutable) s in
      let t : q.kind.value ≡ x.value.type = ap (λ (t : VariableType Label). t.value) k ∙ ap (λ (x : Global). x.value.type) s in
      let y : global_of q ≡ record x { value = value x.value.type q.value } = ap₂ (λ (m : Bool) (t : ValueType Label). the_global m t q.value) m t in
      ap (λ (l : List Global). record { memories = map memory_of ms; globals = l; tables = map table_of ts }) (map-set global_of gs i q ∙ ap (slice_set (map global_of gs) i) y)
      ∙ ap (λ (h : Held). with_number h.storage i x q.value) v

  module _ (i : ℕ) (p q : Entries) (l : i < length h.storage.tables) (e : p ≡ get_or ts i p) where
    table_read : slice_get ts i ≡ Some p
    table_read =
        let n : i < length ts = subst (λ n. i < n) (sym (sym (length-map ts table_of) ∙ ap (λ (h : Held). length h.storage.tables) v)) l in
        slice_get-get_or ts i p n ∙ ap (λ p. Some p) (sym e)

    pub there_table : slice_get h.storage.tables i ≡ Some (table_of p)
    there_table = subst (λ (h : Held). slice_get h.storage.tables i ≡ Some (table_of p)) v (slice_get-map table_of ts i ∙ ap (option_map table_of) table_read)

    pub entry_set : (t : Table) (at : ℕ) (f : Option ℕ) → q.limits ≡ p.limits → q.entries.items ≡ slice_set p.entries.items at f → slice_get h.storage.tables i ≡ Some t
        → storage_of ms gs (slice_set ts i q) ≡ with_entry h.storage i t at f
    entry_set t at f x b a =
        let o : Some (table_of p) ≡ Some t = sym there_table ∙ a in
        let s : table_of p ≡ t = cc in
        let m : q.limits ≡ t.limits = x ∙ ap (λ (t : Table). t.limits) s in
        let k : q.entries.items ≡ slice_set t.entries at f = b ∙ ap (λ (t : Table). slice_set t.entries at f) s in
        let y : table_of q ≡ record t { entries = slice_set t.entries at f } = ap₂ the_table m k in
        ap (λ (l : List Table). record { memories = map memory_of ms; globals = map global_of gs; tables = l }) (map-set table_of ts i q ∙ ap (slice_set (map table_of ts) i) y)
        ∙ ap (λ (h : Held). with_entry h.storage i t at f) v
