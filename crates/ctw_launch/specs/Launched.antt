-- Launching a linked set: all parts are allocated, all segments are checked, all are written, and then the start
-- functions run, in the order of the parts (W3C WebAssembly Core 1.0, sections 4.5.3 and 4.5.4;
-- there one module after another goes through all of it).
use Rattle.std.specs.Prelude.{ℕ, zero, suc, ◌+◌, Bool, fold, List, [], ◌∷◌, ◌++◌, map, flat_map, length, Option, Some, None, option_and_then, slice_get, if◌then◌else◌, nat_le}
use Rattle.ctw_ops.specs.declared.types.Label.{Label}
use Rattle.ctw_ops.specs.Tree as Tree
use Rattle.ctw_ops.specs.Tree.{Constant, Number, ValueOf, Element, Segment}
use Rattle.ctw_ops.specs.Limits.{most_steps}
use Rattle.ctw_ops.specs.Typing.{optional}
use Rattle.ctw_script.specs.declared.trap.TrapCode.{TrapCode}
use Rattle.ctw_script.specs.declared.trap.TrapCode.TheVariants.{Unreachable}
use Rattle.ctw_semantics.specs.Values.{value}
use Rattle.ctw_semantics.specs.Stores.{Memory, Global, Table, Storage, fresh_memory, fresh_table, written_at}
use Rattle.ctw_semantics.specs.Instances.{FunctionInstance, Functions}
use Rattle.ctw_semantics.specs.Machine.{begun}
use Rattle.ctw_semantics.specs.Steps as Steps
use Rattle.ctw_semantics.specs.Steps.{Left, Running, Finished, turn}
use Rattle.ctw_link.specs.Sets.{ModuleSet}
use Rattle.ctw_link.specs.Numbers.{LinkedModule, linked}
use Rattle.ctw_link.specs.Users.{or_later}
use Rattle.ctw_link.specs.SetInstances.{set_instances}

-- ---- allocation

abbrev pub number_in : Option Global → ℕ
number_in None = 0
number_in (Some g) = g.value.number

-- the number of a constant expression, over the globals of a store and a module's numbers of them
abbrev pub constant_number : List Global → List ℕ → Constant Label → ℕ
constant_number globals numbers (Number type bits) = bits
constant_number globals numbers (ValueOf x) = number_in (option_and_then (slice_get globals) (slice_get numbers x))

abbrev pub fresh_global : List Global → List ℕ → Tree.Global Label → Global
fresh_global globals numbers g = record {
  mutable = g.type.mutable;
  value = value g.type.value (constant_number globals numbers g.init);
}

-- a global behind those before, which it may begin as
abbrev pub with_global : List ℕ → List Global → Tree.Global Label → List Global
with_global numbers globals g = globals ++ fresh_global globals numbers g ∷ []

abbrev pub with_globals : List Global → LinkedModule → List Global
with_globals globals p = fold (with_global p.numbers.globals) globals p.tree.globals

abbrev pub fresh_memories : LinkedModule → List Memory
fresh_memories p = map fresh_memory (optional p.tree.memory)

abbrev pub fresh_tables : LinkedModule → List Table
fresh_tables p = map fresh_table (optional p.tree.table)

abbrev pub allocated : List LinkedModule → Storage
allocated parts = record {
  memories = flat_map fresh_memories parts;
  globals = fold with_globals [] parts;
  tables = flat_map fresh_tables parts;
}

-- ---- segments

-- a list with another element in a place, where it has one
abbrev pub changed_at : {A : Type 0} → (A → A) → List A → ℕ → List A
changed_at f [] i = []
changed_at f (x ∷ xs) zero = f x ∷ xs
changed_at f (x ∷ xs) (suc i) = x ∷ changed_at f xs i

abbrev pub changed : {A : Type 0} → (A → A) → List A → Option ℕ → List A
changed f xs None = xs
changed f xs (Some i) = changed_at f xs i

abbrev pub offset_of : Storage → LinkedModule → Constant Label → ℕ
offset_of s p offset = constant_number s.globals p.numbers.globals offset

abbrev pub with_entries : ℕ → List (Option ℕ) → Table → Table
with_entries at new t = record t { entries = written_at at new t.entries }

abbrev pub with_element : LinkedModule → Storage → Element Label → Storage
with_element p s e = record s {
  tables = changed (with_entries (offset_of s p e.offset) (map (slice_get p.numbers.functions) e.functions)) s.tables
      (slice_get p.numbers.tables 0);
}

abbrev pub with_new_bytes : ℕ → List ℕ → Memory → Memory
with_new_bytes at new m = record m { bytes = written_at at new m.bytes }

abbrev pub with_segment : LinkedModule → Storage → Segment Label → Storage
with_segment p s d = record s {
  memories = changed (with_new_bytes (offset_of s p d.offset) d.bytes) s.memories (slice_get p.numbers.memories 0);
}

abbrev pub with_part : Storage → LinkedModule → Storage
with_part s p = fold (with_segment p) (fold (with_element p) s p.tree.elements) p.tree.segments

-- the store of a set before its start functions run
abbrev pub loaded : ModuleSet → Storage
loaded set = fold with_part (allocated (linked set)) (linked set)

-- ---- which segments fit

pub data Space : Type 0 where
  OfElements OfData : Space

pub data LaunchFault : Type 0 where
  SegmentOutside : (part : List ℕ) (space : Space) (index : ℕ) → LaunchFault
  StartTrapped : (part : List ℕ) (code : TrapCode) → LaunchFault
  StartUnfinished : (part : List ℕ) → LaunchFault

abbrev pub table_size : Option Table → ℕ
table_size None = 0
table_size (Some t) = length t.entries

abbrev pub memory_size : Option Memory → ℕ
memory_size None = 0
memory_size (Some m) = length m.bytes

-- the table and the memory of a part
abbrev pub table_of : Storage → LinkedModule → Option Table
table_of s p = option_and_then (slice_get s.tables) (slice_get p.numbers.tables 0)

abbrev pub memory_of : Storage → LinkedModule → Option Memory
memory_of s p = option_and_then (slice_get s.memories) (slice_get p.numbers.memories 0)

abbrev pub element_fits : Storage → LinkedModule → Element Label → Bool
element_fits s p e = nat_le (offset_of s p e.offset + length e.functions) (table_size (table_of s p))

abbrev pub segment_fits : Storage → LinkedModule → Segment Label → Bool
segment_fits s p d = nat_le (offset_of s p d.offset + length d.bytes) (memory_size (memory_of s p))

-- the first that doesn't fit, numbered from k on
abbrev pub first_outside : {A : Type 0} → (A → Bool) → (ℕ → LaunchFault) → ℕ → List A → Option LaunchFault
first_outside fits fault k [] = None
first_outside fits fault k (x ∷ xs) = if fits x then first_outside fits fault (suc k) xs else Some (fault k)

-- part by part, elements before data
abbrev pub outside : Storage → List LinkedModule → Option LaunchFault
outside s [] = None
outside s (p ∷ ps) =
    or_later (first_outside (element_fits s p) (SegmentOutside p.name OfElements) 0 p.tree.elements)
    (or_later (first_outside (segment_fits s p) (SegmentOutside p.name OfData) 0 p.tree.segments) (outside s ps))

-- ---- start functions

pub data Started : Type 0 where
  Stands : (storage : Storage) → Started
  Fails : (fault : LaunchFault) → Started

-- a start function has ended, or the launch fails; none is ever stuck
abbrev pub after_start : List ℕ → Storage → Left → (Storage → Started) → Started
after_start name s (Running a) go = Fails (StartUnfinished name)
after_start name s (Finished v) go = go s
after_start name s (Steps.Trapped code) go = Fails (StartTrapped name code)
after_start name s Steps.Stuck go = Fails (StartTrapped name Unreachable)

module _ (most : ℕ) (fns : Functions) where
  -- a function of the set is called without arguments, and takes as many steps as it may
  abbrev pub start_function : List ℕ → Storage → ℕ → Option FunctionInstance → (Storage → Started) → Started
  start_function name s n None go = go s
  start_function name s n (Some fn) go =
      after_start name (turn most fns s (begun n fn [])).storage (turn most fns s (begun n fn [])).left go

  abbrev pub start_number : List ℕ → Storage → Option ℕ → (Storage → Started) → Started
  start_number name s None go = go s
  start_number name s (Some n) go = start_function name s n (slice_get fns n) go

  -- the start functions of parts, one after another
  abbrev pub started : List LinkedModule → Storage → Started
  started [] s = Stands s
  started (p ∷ ps) s = start_number p.name s (option_and_then (slice_get p.numbers.functions) p.tree.start) (started ps)

abbrev pub unless_outside : Option LaunchFault → Started → Started
unless_outside None go = go
unless_outside (Some fault) go = Fails fault

-- the store that a set is launched with, or why it isn't, where each start function may take so many steps
unfoldable pub launched_within : ℕ → ModuleSet → Started
launched_within most set =
    unless_outside (outside (allocated (linked set)) (linked set))
    (started most (set_instances set) (linked set) (loaded set))

abbrev pub launched : ModuleSet → Started
launched set = launched_within most_steps set
