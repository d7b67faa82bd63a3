-- The limits on modules, on linked sets and on what runs.
use Rattle.std.specs.Prelude.{ℕ}

-- ---- modules

-- parameters of a type
unfoldable pub most_params : ℕ
most_params = 1000

-- results of a type
abbrev pub most_results : ℕ
most_results = 1

-- declared locals of a function
unfoldable pub most_locals : ℕ
most_locals = 50000

-- declared locals of all functions of a module
unfoldable pub most_locals_of_all : ℕ
most_locals_of_all = 1000000

-- blocks, loops and ifs that are open at one place of a body
abbrev pub most_nesting : ℕ
most_nesting = 4096

-- bytes of a plain module
unfoldable pub most_plain_bytes : ℕ
most_plain_bytes = 2097152

-- ---- memories and tables

-- bytes of a page (W3C WebAssembly Core 1.0, section 4.2.8)
abbrev pub page_size : ℕ
page_size = 65536

-- pages of one memory (section 3.2.4)
unfoldable pub most_memory_pages : ℕ
most_memory_pages = 65536

-- pages of all memories of a set
unfoldable pub most_set_pages : ℕ
most_set_pages = 4096

-- entries of all tables of a set, as it begins
unfoldable pub most_set_entries : ℕ
most_set_entries = 1000000

-- ---- runs

-- what one activation may weigh
unfoldable pub most_weight : ℕ
most_weight = 1000000

-- steps of one turn, and of a start function
unfoldable pub most_steps : ℕ
most_steps = 1000000
