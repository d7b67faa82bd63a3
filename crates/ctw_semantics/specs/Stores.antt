-- Stores (W3C WebAssembly Core 1.0, sections 4.2.3 and 4.2.7 to 4.2.9), and the reading, writing and growing of
-- memories (section 4.4.4). The functions of a store stand in `Instances`, since no run changes them.
use Rattle.std.specs.Prelude.{ℕ, zero, suc, ◌+◌, ◌*◌, ◌/◌, ◌%◌, Bool, ◌&&◌, List, [], ◌∷◌, ◌++◌, length, take, drop, replicate, Option, None, unwrap_or, slice_set, if◌then◌else◌, nat_le}
use Rattle.ctw_ops.specs.declared.types.Label.{Label}
use Rattle.ctw_ops.specs.declared.types.Limits.{Limits}
use Rattle.ctw_ops.specs.declared.types.Width.{Width}
use Rattle.ctw_ops.specs.Types.{MemoryType, bit_width}
use Rattle.ctw_ops.specs.Limits.{page_size, most_memory_pages, most_set_pages}
use Rattle.ctw_num.specs.Integers.{extend_u, extend_s}
use Rattle.ctw_semantics.specs.Values.{Value}

-- a memory instance: its type, with one label for all its bytes, and its bytes
pub record Memory : Type 0 where
  pub type : MemoryType Label
  pub bytes : List ℕ

-- a global instance
pub record Global : Type 0 where
  pub mutable : Bool
  pub value : Value

-- a table instance: its limits, and the number of a function, or none, for each entry
pub record Table : Type 0 where
  pub limits : Limits
  pub entries : List (Option ℕ)

-- what calls work on; memories, globals and tables are named by their numbers
pub record Storage : Type 0 where
  pub memories : List Memory
  pub globals : List Global
  pub tables : List Table

-- a memory as it begins: zero bytes of its least size (section 4.5.3.3)
abbrev pub fresh_memory : MemoryType Label → Memory
fresh_memory type = record { type = type; bytes = replicate (page_size * type.limits.min) 0 }

-- a table as it begins: empty entries of its least size (section 4.5.3.2)
abbrev pub fresh_table : Limits → Table
fresh_table limits = record { limits = limits; entries = replicate limits.min None }

-- ---- bytes (section 4.3.1)

-- the number that bytes stand for, the lowest byte first
abbrev pub number_of_bytes : List ℕ → ℕ
number_of_bytes [] = 0
number_of_bytes (byte ∷ bytes) = byte + 256 * number_of_bytes bytes

-- so many bytes of a number, the lowest first
abbrev pub bytes_of_number : ℕ → ℕ → List ℕ
bytes_of_number zero n = []
bytes_of_number (suc count) n = n % 256 ∷ bytes_of_number count (n / 256)

-- the number of a width that a load of so many bytes at a place gives, with its sign carried on where it is signed
unfoldable pub number_at : Width → Bool → ℕ → ℕ → List ℕ → ℕ
number_at width signed count at bytes =
    let n : ℕ = number_of_bytes (take count (drop at bytes)) in
    if signed then extend_s (8 * count) (bit_width width) n else extend_u n

-- a list with others written over it from a place on
unfoldable pub written_at : {A : Type 0} → ℕ → List A → List A → List A
written_at at new old = take at old ++ (new ++ drop (at + length new) old)

-- a store with other bytes in a memory
abbrev pub with_bytes : Storage → ℕ → Memory → List ℕ → Storage
with_bytes s i m bytes = record s { memories = slice_set s.memories i (record m { bytes = bytes }) }

-- a store with another number in a global
abbrev pub with_number : Storage → ℕ → Global → ℕ → Storage
with_number s i g n = record s {
  globals = slice_set s.globals i (record g { value = record { type = g.value.type; number = n } });
}

-- a store with the number of a function, or none, in an entry of a table
abbrev pub with_entry : Storage → ℕ → Table → ℕ → Option ℕ → Storage
with_entry s i t at entry = record s {
  tables = slice_set s.tables i (record t { entries = slice_set t.entries at entry });
}

-- ---- sizes

-- a memory's size in pages
abbrev pub pages : Memory → ℕ
pages m = length m.bytes / page_size

abbrev pub all_pages : List Memory → ℕ
all_pages [] = 0
all_pages (m ∷ ms) = pages m + all_pages ms

-- a memory's greatest size in pages: the declared one, or that of all memories
abbrev pub most_pages_of : MemoryType Label → ℕ
most_pages_of type = unwrap_or type.limits.max most_memory_pages

-- whether a store lets a memory grow by so many pages: within its greatest size, within that of all memories, and
-- within the pages of all memories of a set
unfoldable pub may_grow : Storage → Memory → ℕ → Bool
may_grow s m count =
    nat_le (pages m + count) (most_pages_of m.type)
    && (nat_le (pages m + count) most_memory_pages && nat_le (all_pages s.memories + count) most_set_pages)

-- the bytes of a memory that has grown by so many pages
abbrev pub grown : Memory → ℕ → List ℕ
grown m count = m.bytes ++ replicate (page_size * count) 0
