-- The tables and memories that the segments of a part lie in, and the globals that their offsets read.
use Rattle.std.proofs.Common.{◌≡◌, ◌≤◌, ◌<◌, ◌*◌, ◌⊎◌, ℕ, zero, suc, ◌+◌, List, [], ◌∷◌, length, map, flat_map, get_or, slice_get, Option, Some, None, option_and_then, inl, inr, refl, sym, ap, ap₂, subst, ◌∙◌, arith, nat_le}
use Rattle.std.specs.Prelude.{IsSome}
use Rattle.std.proofs.lemmas.List.{length-map, length-replicate}
use Rattle.std.proofs.lemmas.List.Sums.{sum_by-cons}
use Rattle.std.proofs.lemmas.Option.{same_Some, slice_get_within}
use Rattle.ctw_ops.specs.declared.types.Label.{Label}
use Rattle.ctw_ops.specs.declared.types.Label.TheVariants.{Public}
use Rattle.ctw_ops.specs.declared.types.Width.TheVariants.{W32}
use Rattle.ctw_ops.specs.declared.types.Limits.{Limits}
use Rattle.ctw_ops.specs.declared.types.ExternTag.{ExternTag}
use Rattle.ctw_ops.specs.declared.types.ExternTag.TheVariants as tag
use Rattle.ctw_ops.specs.Limits.{page_size, most_set_pages, most_set_entries}
use Rattle.ctw_ops.specs.Types.{MemoryType, value_type}
use Rattle.ctw_ops.specs.Tree.{Module, Constant, ValueOf, Element, Segment, function_entries, global_types, memory_among, table_among}
use Rattle.ctw_ops.specs.Typing.{optional}
use Rattle.ctw_ops.specs.Valid.{IsValid, IsOffset, IsConstantOf, HasType, IsElement, IsSegment, Names}
use Rattle.ctw_ops.proofs.Lists.{all_get, map_get}
use Rattle.ctw_semantics.specs.Stores.{Memory, Global, Table, Storage, fresh_memory, fresh_table}
use Rattle.ctw_semantics.specs.Sound.{global_type, shape_of}
use Rattle.ctw_link.specs.declared.set.Part.{Part}
use Rattle.ctw_module.specs.Trees.{tree, view_module}
use Rattle.ctw_link.specs.Sets.{NamedModule, ModuleSet, part_in, set_of}
use Rattle.ctw_link.specs.Numbers.{LinkedModule, numbers_of, linked, number_in}
use Rattle.ctw_link.specs.Matching as Matching
use Rattle.ctw_link.specs.Matching.{AreMatching, pages_of, entries_of}
use Rattle.ctw_link.specs.Linked.{CanBeLinked, HasFunction, HasGlobal}
use Rattle.ctw_link.specs.SetInstances.{set_instances, LeadsToGlobal}
use Rattle.ctw_link.proofs.LinkedFronts.{bare, bare_linked, linked_length}
use Rattle.ctw_link.proofs.Lists.{mapped_at}
use Rattle.ctw_launch.specs.Launched.{fresh_memories, fresh_tables, allocated, loaded, offset_of, with_entries, with_new_bytes, table_size, memory_size, element_fits, segment_fits}
use Rattle.ctw_launch.proofs.Folds.{map_changed, in_append}
use Rattle.ctw_launch.proofs.Leading.{HasNamed, Leads}
use Rattle.ctw_launch.proofs.Loading.{load_keeps, loaded_shape, same_globals}
use Rattle.ctw_launch.proofs.Pairs.{paired_get}
use Rattle.ctw_launch.proofs.Parts.{all_lead, valid_linked}
use Rattle.ctw_launch.proofs.Within.{In}
use Rattle.ctw_step.proofs.Homes.{has_function, has_global}
use Rattle.ctw_session.specs.Segments.{IsLinkedPart, IsElementOf, IsSegmentOf}
use Rattle.ctw_session.proofs.StartsOf.{part_here}
use Rattle.ctw_session.proofs.Exporting.{linkable_valid}

some_of : {A : Type 0} (o : Option A) → IsSome o → (a : A) × (o ≡ Some a)
some_of None h = absurd cc
some_of (Some a) h = (a, refl)

-- ---- sizes as they are allocated

abbrev limits_of : Table → Limits
limits_of t = t.limits

kept_limits : (set : ModuleSet) → map (λ t. t.limits) (loaded set).tables ≡ map (λ t. t.limits) (allocated (linked set)).tables
kept_limits set =
    load_keeps (λ s. map limits_of s.tables) (λ p s e. map_changed limits_of (with_entries (offset_of s p e.offset) (map (slice_get p.numbers.functions) e.functions)) (λ t. refl) s.tables (slice_get p.numbers.tables 0)) (λ p s d. refl) (allocated (linked set)) (linked set)

abbrev type_of : Memory → MemoryType Label
type_of m = m.type

kept_types : (set : ModuleSet) → map (λ m. m.type) (loaded set).memories ≡ map (λ m. m.type) (allocated (linked set)).memories
kept_types set =
    load_keeps (λ s. map type_of s.memories) (λ p s e. refl) (λ p s d. map_changed type_of (with_new_bytes (offset_of s p d.offset) d.bytes) (λ m. refl) s.memories (slice_get p.numbers.memories 0)) (allocated (linked set)) (linked set)

tables_among : (l : List LinkedModule) (n : ℕ) (t : Table) → slice_get (flat_map fresh_tables l) n ≡ Some t → length t.entries ≤ Matching.entries (map bare l)
tables_among [] n t e = absurd cc
tables_among (p ∷ l) n t e = by (in_append (fresh_tables p) (flat_map fresh_tables l) t n e) (λ i q. tables_among l i t q)
  where
    sum : Matching.entries (map bare (p ∷ l)) ≡ entries_of p.tree.table + Matching.entries (map bare l)
    sum = sum_by-cons (λ (q : NamedModule). entries_of q.tree.table) (bare p) (map bare l)

    own : (o : Option Limits) (i : ℕ) → slice_get (map fresh_table (optional o)) i ≡ Some t → length t.entries ≡ entries_of o
    own None i q = absurd cc
    own (Some x) i q =
        let one = map_get fresh_table (x ∷ []) i t q in
        let same : x ≡ one.0 = only i one.0 one.1 in
        ap (λ (u : Table). length u.entries) (sym one.2) ∙ length-replicate {A = Option ℕ} one.0.min None ∙ ap (λ (y : Limits). y.min) (sym same)
      where
        only : (i : ℕ) (y : Limits) → slice_get (x ∷ []) i ≡ Some y → x ≡ y
        only zero y q = same_Some x y q
        only (suc i) y q = absurd cc

    by : In (fresh_tables p) t ⊎ In (flat_map fresh_tables l) t → ((i : ℕ) → slice_get (flat_map fresh_tables l) i ≡ Some t → length t.entries ≤ Matching.entries (map bare l)) → length t.entries ≤ Matching.entries (map bare (p ∷ l))
    by (inl n) others = omega (arith, own p.tree.table n.0 n.1, sum)
    by (inr n) others = omega (arith, others n.0 n.1, sum)

memories_among : (l : List LinkedModule) (n : ℕ) (m : Memory) → slice_get (flat_map fresh_memories l) n ≡ Some m → length m.bytes ≤ page_size * Matching.pages (map bare l)
memories_among [] n m e = absurd cc
memories_among (p ∷ l) n m e = by (in_append (fresh_memories p) (flat_map fresh_memories l) m n e) (λ i q. memories_among l i m q)
  where
    sum : Matching.pages (map bare (p ∷ l)) ≡ pages_of p.tree.memory + Matching.pages (map bare l)
    sum = sum_by-cons (λ (q : NamedModule). pages_of q.tree.memory) (bare p) (map bare l)

    own : (o : Option (MemoryType Label)) (i : ℕ) → slice_get (map fresh_memory (optional o)) i ≡ Some m → length m.bytes ≡ page_size * pages_of o
    own None i q = absurd cc
    own (Some x) i q =
        let one = map_get fresh_memory (x ∷ []) i m q in
        let same : x ≡ one.0 = only i one.0 one.1 in
        ap (λ (u : Memory). length u.bytes) (sym one.2) ∙ length-replicate {A = ℕ} (page_size * one.0.limits.min) 0 ∙ ap (λ (y : MemoryType Label). page_size * y.limits.min) (sym same)
      where
        only : (i : ℕ) (y : MemoryType Label) → slice_get (x ∷ []) i ≡ Some y → x ≡ y
        only zero y q = same_Some x y q
        only (suc i) y q = absurd cc

    by : In (fresh_memories p) m ⊎ In (flat_map fresh_memories l) m → ((i : ℕ) → slice_get (flat_map fresh_memories l) i ≡ Some m → length m.bytes ≤ page_size * Matching.pages (map bare l)) → length m.bytes ≤ page_size * Matching.pages (map bare (p ∷ l))
    by (inl n) others = omega (arith, own p.tree.memory n.0 n.1, sum)
    by (inr n) others = omega (arith, others n.0 n.1, sum)

pub tables_short : (set : ModuleSet) → AreMatching set → (n : ℕ) (t : Table) → slice_get (allocated (linked set)).tables n ≡ Some t → length t.entries ≤ 1000000
unfolding most_set_entries
tables_short set m n t e = omega (arith, tables_among (linked set) n t e, ap Matching.entries (bare_linked set), m.entries)

pub memories_short : (set : ModuleSet) → AreMatching set → (n : ℕ) (m : Memory) → slice_get (allocated (linked set)).memories n ≡ Some m → length m.bytes ≤ 268435456
unfolding most_set_pages
memories_short set h n m e = omega (arith, memories_among (linked set) n m e, ap Matching.pages (bare_linked set), h.pages)

-- ---- what a part's segments name

module _ (parts : List Part) (k : ℕ) (p : LinkedModule) (there : IsLinkedPart parts k p) where
  number_at : (t : ExternTag) (x : ℕ) → number_in (set_of parts) t k x ≡ slice_get (numbers_of t p.numbers) x
  number_at t x = ap (option_and_then (λ (q : LinkedModule). slice_get (numbers_of t q.numbers) x)) there

  pub entry_is : (e : Element Label) (i x f : ℕ) → slice_get e.functions i ≡ Some x → number_in (set_of parts) tag.Func k x ≡ Some f → slice_get (map (slice_get p.numbers.functions) e.functions) i ≡ Some (Some f)
  entry_is e i x f at number = mapped_at (slice_get p.numbers.functions) e.functions i x at ∙ ap Some (sym (number_at tag.Func x) ∙ number)

  pub part_within : k < length parts
  part_within = omega (arith, slice_get_within (linked (set_of parts)) k p there, linked_length (set_of parts), length-map parts part_in)

  tree_is : (own : Part) → slice_get parts k ≡ Some own → p.tree ≡ view_module own.«module»
  tree_is own at =
      let named : slice_get (set_of parts) k ≡ Some (part_in own) = mapped_at part_in parts k own at in
      let bared : slice_get (set_of parts) k ≡ Some (bare p) = ap (λ (l : List NamedModule). slice_get l k) (sym (bare_linked (set_of parts))) ∙ mapped_at bare (linked (set_of parts)) k p there in
      ap (λ (q : NamedModule). q.tree) (same_Some (bare p) (part_in own) (sym bared ∙ named))

  module _ (own : Part) (at : slice_get parts k ≡ Some own) where
    elements_are : (tree own.«module»).elements ≡ p.tree.elements
    elements_are = ap (λ (m : Module Label). m.elements) (sym (tree_is own at))

    segments_are : (tree own.«module»).segments ≡ p.tree.segments
    segments_are = ap (λ (m : Module Label). m.segments) (sym (tree_is own at))

    element_read : (o : Option (Element Label)) (index : ℕ) → o ≡ slice_get (tree own.«module»).elements index → slice_get p.tree.elements index ≡ o
    element_read o index e = sym (e ∙ ap (λ (l : List (Element Label)). slice_get l index) elements_are)

    segment_read : (o : Option (Segment Label)) (index : ℕ) → o ≡ slice_get (tree own.«module»).segments index → slice_get p.tree.segments index ≡ o
    segment_read o index e = sym (e ∙ ap (λ (l : List (Segment Label)). slice_get l index) segments_are)

    elements_counted : length (tree own.«module»).elements ≡ length p.tree.elements
    elements_counted = ap length elements_are

    segments_counted : length (tree own.«module»).segments ≡ length p.tree.segments
    segments_counted = ap length segments_are

  -- what is read of the part among the parts as they are seen
  module _ (seen : List Part) (d : Part) (same : seen ≡ parts) where
    own_part : slice_get parts k ≡ Some (get_or seen k d)
    own_part = part_here seen parts k d same part_within

    pub element_seen : (o : Option (Element Label)) (index : ℕ) → o ≡ slice_get (tree (get_or seen k d).«module»).elements index → slice_get p.tree.elements index ≡ o
    element_seen o index e = element_read (get_or seen k d) own_part o index e

    pub segment_seen : (o : Option (Segment Label)) (index : ℕ) → o ≡ slice_get (tree (get_or seen k d).«module»).segments index → slice_get p.tree.segments index ≡ o
    segment_seen o index e = segment_read (get_or seen k d) own_part o index e

    pub elements_seen : length (tree (get_or seen k d).«module»).elements ≡ length p.tree.elements
    elements_seen = elements_counted (get_or seen k d) own_part

    pub segments_seen : length (tree (get_or seen k d).«module»).segments ≡ length p.tree.segments
    segments_seen = segments_counted (get_or seen k d) own_part

  module _ (can : CanBeLinked parts) (matching : AreMatching (set_of parts)) where
    valid : IsValid p.tree
    valid = all_get (λ (q : LinkedModule). IsValid q.tree) (linked (set_of parts)) k p (valid_linked (set_of parts) (linkable_valid parts can)) there

    leads : Leads (set_instances (set_of parts)) (shape_of (loaded (set_of parts))) p
    leads =
        all_get (Leads (set_instances (set_of parts)) (shape_of (loaded (set_of parts)))) (linked (set_of parts)) k p
        (all_lead (set_of parts) (shape_of (loaded (set_of parts))) matching.imports (linkable_valid parts can) (loaded_shape (set_of parts))) there

    pub element_valid : (index : ℕ) (e : Element Label) → IsElementOf p index e → IsElement p.tree e
    element_valid index e at = all_get (IsElement p.tree) p.tree.elements index e valid.around.elements at

    pub segment_valid : (index : ℕ) (d : Segment Label) → IsSegmentOf p index d → IsSegment p.tree d
    segment_valid index d at = all_get (IsSegment p.tree) p.tree.segments index d valid.around.segments at

    pub element_offset : (index : ℕ) (e : Element Label) → IsElementOf p index e → IsOffset p.tree e.offset
    element_offset index e at = (element_valid index e at).2

    pub segment_offset : (index : ℕ) (d : Segment Label) → IsSegmentOf p index d → IsOffset p.tree d.offset
    segment_offset index d at = (segment_valid index d at).2

    -- the global that an offset reads
    global_there : (offset : Constant Label) → IsOffset p.tree offset → (x : ℕ) → offset ≡ ValueOf x → (n : ℕ) × (slice_get p.numbers.globals x ≡ Some n) × (n < length (allocated (linked (set_of parts))).globals)
    global_there offset h x e =
        let v : IsConstantOf (value_type W32 Public) (slice_get (global_types p.tree) x) = subst (HasType (global_types p.tree) (value_type W32 Public)) e h in
        let at = paired_get (LeadsToGlobal (shape_of (loaded (set_of parts)))) (global_types p.tree) p.numbers.globals x v.0 leads.globals v.1 in
        let g = map_get global_type (loaded (set_of parts)).globals at.0 v.0 at.2 in
        (at.0, at.1, omega (arith, slice_get_within (loaded (set_of parts)).globals at.0 g.0 g.1, ap length (same_globals (set_of parts))))

    pub offset_known : (offset : Constant Label) → IsOffset p.tree offset → (x : ℕ) → offset ≡ ValueOf x → HasGlobal parts k x
    offset_known offset h x e = let g = global_there offset h x e in has_global parts k x g.0 (number_at tag.Global x ∙ g.1)

    pub offset_there : (globals : List Global) → globals ≡ (allocated (linked (set_of parts))).globals → (offset : Constant Label) → IsOffset p.tree offset → (x n : ℕ) → offset ≡ ValueOf x → number_in (set_of parts) tag.Global k x ≡ Some n
        → n < length globals
    offset_there globals same offset h x n e number =
        let g = global_there offset h x e in
        let is : g.0 ≡ n = same_Some g.0 n (sym (number_at tag.Global x ∙ g.1) ∙ number) in
        omega (arith, g.2, is, ap length same)

    table_there : (index : ℕ) (e : Element Label) → IsElementOf p index e → (n : ℕ) × (slice_get p.numbers.tables 0 ≡ Some n) × (n < length (allocated (linked (set_of parts))).tables)
    table_there index e at =
        let l = some_of (table_among p.tree.imports p.tree.table) (element_valid index e at).1 in
        let t = leads.table l.0 l.1 in
        let lengths = ap length (kept_limits (set_of parts)) in
        (t.0, t.1, omega (arith, slice_get_within (loaded (set_of parts)).tables t.0 t.2.0 t.2.1, lengths, length-map (loaded (set_of parts)).tables (λ t. t.limits), length-map (allocated (linked (set_of parts))).tables (λ t. t.limits)))

    memory_there : (index : ℕ) (d : Segment Label) → IsSegmentOf p index d → (n : ℕ) × (slice_get p.numbers.memories 0 ≡ Some n) × (n < length (allocated (linked (set_of parts))).memories)
    memory_there index d at =
        let t = some_of (memory_among p.tree.imports p.tree.memory) (segment_valid index d at).1 in
        let m = leads.memory t.0 t.1 in
        let lengths = ap length (kept_types (set_of parts)) in
        (m.0, m.1, omega (arith, slice_get_within (map (λ m. m.type) (loaded (set_of parts)).memories) m.0 m.2.0 m.2.1, lengths, length-map (allocated (linked (set_of parts))).memories (λ m. m.type)))

    pub has_table : (index : ℕ) (e : Element Label) → IsElementOf p index e → None ≡ number_in (set_of parts) tag.Table k 0 → ⊥
    has_table index e at none = let t = table_there index e at in absurd (let q = none ∙ number_at tag.Table 0 ∙ t.1 in cc)

    pub has_memory : (index : ℕ) (d : Segment Label) → IsSegmentOf p index d → None ≡ number_in (set_of parts) tag.Memory k 0 → ⊥
    has_memory index d at none = let m = memory_there index d at in absurd (let q = none ∙ number_at tag.Memory 0 ∙ m.1 in cc)

    -- an element's functions have numbers
    pub function_there : (index : ℕ) (e : Element Label) → IsElementOf p index e → (i x : ℕ) → slice_get e.functions i ≡ Some x → (n : ℕ) × (slice_get p.numbers.functions x ≡ Some n)
    function_there index e at i x is =
        let named = some_of (slice_get (function_entries p.tree) x) (all_get (Names (function_entries p.tree)) e.functions i x (element_valid index e at).3 is) in
        let n = paired_get (HasNamed (set_instances (set_of parts)) p.tree) (function_entries p.tree) p.numbers.functions x named.0 leads.functions named.1 in
        (n.0, n.1)

    pub function_known : (index : ℕ) (e : Element Label) → IsElementOf p index e → (i x : ℕ) → slice_get e.functions i ≡ Some x → HasFunction parts k x
    function_known index e at i x is = let n = function_there index e at i x is in has_function parts k x n.0 (number_at tag.Func x ∙ n.1)

    module _ (n : ℕ) where
      pub table_number : Some n ≡ number_in (set_of parts) tag.Table k 0 → slice_get p.numbers.tables 0 ≡ Some n
      table_number is = sym (is ∙ number_at tag.Table 0)

      pub memory_number : Some n ≡ number_in (set_of parts) tag.Memory k 0 → slice_get p.numbers.memories 0 ≡ Some n
      memory_number is = sym (is ∙ number_at tag.Memory 0)

      pub table_below : (index : ℕ) (e : Element Label) → IsElementOf p index e → Some n ≡ number_in (set_of parts) tag.Table k 0 → n < length (allocated (linked (set_of parts))).tables
      table_below index e at is =
          let t = table_there index e at in
          let same : t.0 ≡ n = same_Some t.0 n (sym t.1 ∙ table_number is) in
          omega (arith, same, t.2)

      pub memory_below : (index : ℕ) (d : Segment Label) → IsSegmentOf p index d → Some n ≡ number_in (set_of parts) tag.Memory k 0 → n < length (allocated (linked (set_of parts))).memories
      memory_below index d at is =
          let m = memory_there index d at in
          let same : m.0 ≡ n = same_Some m.0 n (sym m.1 ∙ memory_number is) in
          omega (arith, same, m.2)

-- ---- whether segments fit

module _ (s : Storage) (p : LinkedModule) (n at : ℕ) where
  pub element_test : (e : Element Label) (t : Table) → slice_get p.numbers.tables 0 ≡ Some n → slice_get s.tables n ≡ Some t → at ≡ offset_of s p e.offset → nat_le (at + length e.functions) (length t.entries) ≡ element_fits s p e
  element_test e t number there offset =
      ap₂ (λ (a : ℕ) (o : Option Table). nat_le (a + length e.functions) (table_size o)) offset (sym there ∙ sym (ap (option_and_then (slice_get s.tables)) number))

  pub segment_test : (d : Segment Label) (m : Memory) → slice_get p.numbers.memories 0 ≡ Some n → slice_get s.memories n ≡ Some m → at ≡ offset_of s p d.offset → nat_le (at + length d.bytes) (length m.bytes) ≡ segment_fits s p d
  segment_test d m number there offset =
      ap₂ (λ (a : ℕ) (o : Option Memory). nat_le (a + length d.bytes) (memory_size o)) offset (sym there ∙ sym (ap (option_and_then (slice_get s.memories)) number))
