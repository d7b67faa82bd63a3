-- What a part adds to the numbers of the parts before.
use Rattle.std.proofs.Common.{◌≡◌, ◌≤◌, ◌<◌, ℕ, zero, suc, ◌+◌, List, [], ◌∷◌, ◌++◌, length, take, map, get_or, slice_get, Option, Some, None, option_map, is_some, refl, sym, ap, ap₂, ◌∙◌, append-nil, arith}
use mir.Val.{bool_byte}
use Rattle.std.specs.Prelude.{fold, filter_map}
use Rattle.std.specs.List.{range_with_len}
use Rattle.std.proofs.lemmas.List.{map-append, length-map}
use Rattle.std.proofs.lemmas.List.Sums.{sum_by-append, sum_by-take-le}
use Rattle.std.proofs.lemmas.Option.{slice_get-map, slice_get-get_or, slice_get_within}
use Rattle.ctw_ops.specs.declared.types.Label.{Label}
use Rattle.ctw_ops.specs.declared.types.ExternTag.{ExternTag}
use Rattle.ctw_ops.specs.declared.types.ExternTag.TheVariants.{Func, Table, Memory, Global}
use Rattle.ctw_ops.specs.Tree.{Module}
use Rattle.ctw_link.specs.declared.set.Part.{Part}
use Rattle.ctw_link.specs.Sets.{NamedModule, ModuleSet, part_in, set_of, one_or_none, defined_in, defined}
use Rattle.ctw_link.specs.Numbers.{LinkedModule, StoreNumbers, numbers_of, numbers_behind, number_if, linked_module, linked}
use Rattle.ctw_link.specs.Linked.{CanBeLinked}
use Rattle.ctw_link.specs.Resolving.{if_same, HasImports}
use Rattle.ctw_link.proofs.Lists.{take_next}
use Rattle.ctw_link.proofs.LinkedFronts.{linked_more, defined_linked}
use Rattle.ctw_link.proofs.ValidParts.{some_same}
use Rattle.ctw_link.proofs.Counts.{imported_in, numbers_imported}

pub part_at : (parts : List Part) (j : ℕ) (d : Part) → j < length parts → slice_get (set_of parts) j ≡ Some (part_in (get_or parts j d))
part_at parts j d lt = slice_get-map part_in parts j ∙ ap (option_map part_in) (slice_get-get_or parts j d lt)

pub imports_count : (set : ModuleSet) (part : ℕ) (p : NamedModule) (numbers : StoreNumbers) (tag : ExternTag) → HasImports set part numbers → slice_get set part ≡ Some p → length (numbers_of tag numbers) ≡ imported_in tag p.tree.imports
imports_count set part p numbers tag h is = ap length (h p is tag) ∙ numbers_imported tag (linked (take part set)) p.tree.imports

-- ---- how much is defined

pub defined_more : (tag : ExternTag) (set : ModuleSet) (part : ℕ) (p : NamedModule) → slice_get set part ≡ Some p → defined tag (take (part + 1) set) ≡ defined tag (take part set) + defined_in tag p.tree
defined_more tag set part p is =
    let zeroth : 0 + defined_in tag p.tree ≡ defined_in tag p.tree = omega arith in
    ap (defined tag) (take_next set part p is) ∙ sum_by-append (λ (q : NamedModule). defined_in tag q.tree) (take part set) (p ∷ []) ∙ ap (λ (n : ℕ). defined tag (take part set) + n) zeroth

one_at_most : {A : Type 0} (o : Option A) → one_or_none o ≤ 1
one_at_most None = omega arith
one_at_most (Some a) = omega arith

abbrev one_each : ExternTag → Type 0
one_each tag = (m : Module Label) → defined_in tag m ≤ 1

few_defined : (tag : ExternTag) → one_each tag → (set : ModuleSet) → defined tag set ≤ length set
few_defined tag one set = omega (arith, go 0 set)
  where
    go : (n : ℕ) (set : ModuleSet) → fold (λ (a : ℕ) (q : NamedModule). a + defined_in tag q.tree) n set ≤ n + length set
    go n [] = omega arith
    go n (p ∷ set) = omega (arith, go (n + defined_in tag p.tree) set, one p.tree)

-- sums with one part more fit
pub record Room (set : ModuleSet) (part : ℕ) (m : Module Label) : Type 0 where
  pub functions : defined Func (take part set) + defined_in Func m < 4294967296
  pub tables : defined Table (take part set) + defined_in Table m < 4294967296
  pub memories : defined Memory (take part set) + defined_in Memory m < 4294967296
  pub globals : defined Global (take part set) + defined_in Global m < 4294967296

pub room : (parts : List Part) (part : ℕ) (p : NamedModule) → CanBeLinked parts → slice_get (set_of parts) part ≡ Some p → Room (set_of parts) part p.tree
room parts part p can is =
    let set = set_of parts in
    let all = λ (tag : ExternTag). sum_by-take-le (λ (q : NamedModule). defined_in tag q.tree) set (part + 1) in
    let size : length set ≡ length parts = length-map parts part_in in
    record {
      functions = omega (arith, can.functions, all Func, defined_more Func set part p is);
      tables = omega (arith, can.few, size, few_defined Table (λ m. one_at_most m.table) set, all Table, defined_more Table set part p is);
      memories = omega (arith, can.few, size, few_defined Memory (λ m. one_at_most m.memory) set, all Memory, defined_more Memory set part p is);
      globals = omega (arith, can.globals, all Global, defined_more Global set part p is);
    }

-- ---- the numbers of the part

pub same_numbers : (a b : StoreNumbers) → ((t : ExternTag) → numbers_of t a ≡ numbers_of t b) → a ≡ b
same_numbers a b h =
    ap (λ (l : List ℕ). of_lists l a.tables a.memories a.globals) (h Func) ∙ ap (λ (l : List ℕ). of_lists b.functions l a.memories a.globals) (h Table)
    ∙ ap (λ (l : List ℕ). of_lists b.functions b.tables l a.globals) (h Memory) ∙ ap (λ (l : List ℕ). of_lists b.functions b.tables b.memories l) (h Global)
  where
    of_lists : List ℕ → List ℕ → List ℕ → List ℕ → StoreNumbers
    of_lists f t m g = record { functions = f; tables = t; memories = m; globals = g }

abbrev pub Adds : StoreNumbers → StoreNumbers → ExternTag → ℕ → ℕ → Type 0
Adds old new tag first count = (t : ExternTag) → numbers_of t new ≡ numbers_of t old ++ if_same t tag (range_with_len first count)

-- numbers of each kind in a row behind those of the imports
pub record Numbered (set : ModuleSet) (part : ℕ) (p : NamedModule) (n : StoreNumbers) : Type 0 where
  pub all : n ≡ (linked_module (linked (take part set)) p).numbers

pub numbered : (set : ModuleSet) (part : ℕ) (p : NamedModule) (a b c d e : StoreNumbers) → slice_get set part ≡ Some p → HasImports set part a
    → Adds a b Func (defined Func (take part set)) (defined_in Func p.tree) → Adds b c Table (defined Table (take part set)) (defined_in Table p.tree)
    → Adds c d Memory (defined Memory (take part set)) (defined_in Memory p.tree) → Adds d e Global (defined Global (take part set)) (defined_in Global p.tree)
    → Numbered set part p e
numbered set part p a b c d e is h f t m g = record { all = same_numbers e (linked_module (linked front) p).numbers by }
  where
    front : ModuleSet
    front = take part set

    behind : (tag : ExternTag) (l : List ℕ) → l ≡ filter_map (number_if tag (linked front)) p.tree.imports ++ range_with_len (defined tag front) (defined_in tag p.tree) → l ≡ numbers_behind tag (linked front) p.tree
    behind tag l q = q ∙ ap (λ (n : ℕ). filter_map (number_if tag (linked front)) p.tree.imports ++ range_with_len n (defined_in tag p.tree)) (sym (defined_linked tag front))

    by : (tag : ExternTag) → numbers_of tag e ≡ numbers_of tag (linked_module (linked front) p).numbers
    by Func = behind Func e.functions (g Func ∙ append-nil d.functions ∙ m Func ∙ append-nil c.functions ∙ t Func ∙ append-nil b.functions ∙ f Func ∙ ap (λ (l : List ℕ). l ++ range_with_len (defined Func front) (defined_in Func p.tree)) (h p is Func))
    by Table = behind Table e.tables (g Table ∙ append-nil d.tables ∙ m Table ∙ append-nil c.tables ∙ t Table ∙ ap (λ (l : List ℕ). l ++ range_with_len (defined Table front) (defined_in Table p.tree)) (f Table ∙ append-nil a.tables ∙ h p is Table))
    by Memory = behind Memory e.memories (g Memory ∙ append-nil d.memories ∙ m Memory ∙ ap (λ (l : List ℕ). l ++ range_with_len (defined Memory front) (defined_in Memory p.tree)) (t Memory ∙ append-nil b.memories ∙ f Memory ∙ append-nil a.memories ∙ h p is Memory))
    by Global = behind Global e.globals (g Global ∙ ap (λ (l : List ℕ). l ++ range_with_len (defined Global front) (defined_in Global p.tree)) (m Global ∙ append-nil c.globals ∙ t Global ∙ append-nil b.globals ∙ f Global ∙ append-nil a.globals ∙ h p is Global))

-- with the part's numbers behind those of the parts before
pub numbers_more : (set : ModuleSet) (part : ℕ) (p : NamedModule) (old new : List StoreNumbers) (n : StoreNumbers) → slice_get set part ≡ Some p → Numbered set part p n → old ≡ map (λ q. q.numbers) (linked (take part set)) → new ≡ old ++ n ∷ []
    → new ≡ map (λ q. q.numbers) (linked (take (part + 1) set))
numbers_more set part p old new n is h o e =
    let front = take part set in
    let q = linked_module (linked front) p in
    e ∙ ap₂ (λ (l : List StoreNumbers) (m : StoreNumbers). l ++ m ∷ []) o h.all
    ∙ sym (ap (λ (s : ModuleSet). map (λ (q : LinkedModule). q.numbers) (linked s)) (take_next set part p is) ∙ ap (map (λ (q : LinkedModule). q.numbers)) (linked_more front p) ∙ map-append (λ (q : LinkedModule). q.numbers) (linked front) (q ∷ []))

pub adds_same : (old new : StoreNumbers) (tag : ExternTag) (first count other number : ℕ) → first ≡ other → count ≡ number → Adds old new tag first count → Adds old new tag other number
adds_same old new tag first count other number e f h = λ t. h t ∙ ap₂ (λ (a : ℕ) (n : ℕ). numbers_of t old ++ if_same t tag (range_with_len a n)) e f

pub total_more : (tag : ExternTag) (set : ModuleSet) (part : ℕ) (p : NamedModule) (total count : ℕ) → slice_get set part ≡ Some p → total ≡ defined tag (take part set) → count ≡ defined_in tag p.tree → total + count ≡ defined tag (take (part + 1) set)
total_more tag set part p total count is e f = omega (arith, defined_more tag set part p is, e, f)

pub within_set : (parts : List Part) (part : ℕ) (p : NamedModule) → slice_get (set_of parts) part ≡ Some p → part < length parts
within_set parts part p e = omega (arith, slice_get_within (set_of parts) part p e, length-map parts part_in)

-- the part of an index is the one that is read there
pub only_part : (parts : List Part) (part : ℕ) (d : Part) (p : NamedModule) → slice_get (set_of parts) part ≡ Some p → part_in (get_or parts part d) ≡ p
only_part parts part d p e = some_same (sym (part_at parts part d (within_set parts part p e)) ∙ e)

pub part_behind : (parts : List Part) (part : ℕ) → part < length parts → (p : NamedModule) × (slice_get (set_of parts) part ≡ Some p)
part_behind parts part lt = go parts part lt
  where
    go : (l : List Part) (part : ℕ) → part < length l → (p : NamedModule) × (slice_get (map part_in l) part ≡ Some p)
    go [] part lt = absurd (omega (arith, lt))
    go (x ∷ l) zero lt = (part_in x, refl)
    go (x ∷ l) (suc part) lt = go l part (omega (arith, lt))

pub one_where_some : {A : Type 0} (o : Option A) → bool_byte (is_some o) ≡ one_or_none o
one_where_some None = refl
one_where_some (Some a) = refl
