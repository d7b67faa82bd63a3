-- Which pages of a store are made: a list for each memory, which tells it of each of its pages.
use Rattle.std.specs.Prelude.{◌≡◌, ℕ, ◌+◌, ◌/◌, ◌<◌, ◌≤◌, Bool, true, List, Some, option_and_then, slice_get}
use Rattle.ctw_ops.specs.Limits.{page_size}

abbrev pub IsMade : List (List Bool) → ℕ → ℕ → Type 0
IsMade made mem page = option_and_then (λ (pages : List Bool). slice_get pages page) (slice_get made mem) ≡ Some true

-- so many bytes of a memory from a place on lie in pages that are made
abbrev pub AreMade : List (List Bool) → ℕ → ℕ → ℕ → Type 0
AreMade made mem at count = (i : ℕ) → at ≤ i → i < at + count → IsMade made mem (i / page_size)

-- no page is unmade
abbrev pub KeepsMade : List (List Bool) → List (List Bool) → Type 0
KeepsMade old new = (mem page : ℕ) → IsMade old mem page → IsMade new mem page
