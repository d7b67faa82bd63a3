-- A memory as a list of pages.
use Rattle.std.specs.Prelude.{◌≡◌, ℕ, ◌+◌, ◌/◌, ◌<◌, ◌≤◌, Bool, true, false, List, map, flat_map, length, replicate, slice_get, Some}
use Rattle.ctw_ops.specs.Limits.{page_size}
use Rattle.ctw_store.specs.declared.page.Page.{Page}
use Rattle.ctw_store.specs.declared.page.Page.TheVariants.{Absent, Made}

-- a page that isn't made reads as zeros
unfoldable pub zeros : List ℕ
zeros = replicate page_size 0

abbrev pub bytes_in : Page → List ℕ
bytes_in Absent = zeros
bytes_in (Made bytes) = bytes.items

abbrev pub is_made : Page → Bool
is_made Absent = false
is_made (Made bytes) = true

-- a page has 65,536 bytes
pub record IsPage (p : Page) : Type 0 where
  pub size : length (bytes_in p) ≡ page_size

-- the bytes of pages, one after another
abbrev pub all_bytes : List Page → List ℕ
all_bytes = flat_map bytes_in

-- which pages are made
abbrev pub made_in : List Page → List Bool
made_in = map is_made

abbrev pub IsMadeIn : List Bool → ℕ → Type 0
IsMadeIn made page = slice_get made page ≡ Some true

-- so many bytes from a place on lie in pages that are made
abbrev pub AreMadeIn : List Bool → ℕ → ℕ → Type 0
AreMadeIn made at count = (i : ℕ) → at ≤ i → i < at + count → IsMadeIn made (i / page_size)

-- no page is unmade
abbrev pub KeepsMadeIn : List Bool → List Bool → Type 0
KeepsMadeIn old new = (page : ℕ) → IsMadeIn old page → IsMadeIn new page
