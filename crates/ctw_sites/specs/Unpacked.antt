-- Sites by their words and places. The function of a site is found by where the sites of functions and of bodies begin.
use Rattle.std.specs.Prelude.{◌≡◌, ◌≤◌, ◌<◌, length, ℕ, zero, suc, ◌+◌, ◌-◌, ◌/◌, ◌%◌, ◌^◌, ◌==◌, nat_le, List, [], ◌∷◌, count_by, Option, Some, None, option_map, slice_get, if◌then◌else◌}
use Rattle.std.specs.List.Sorted.{IsNonDecreasing}
use Rattle.std.specs.declared.cmp.Ordering.TheVariants.{Less}
use Rattle.ctw_labels.specs.declared.name.SiteName.{SiteName}
use Rattle.ctw_labels.specs.declared.name.SiteName.TheVariants.{Param, Result, GlobalOf, Memory, Local, Block, Op, Push, IParam, IResult}
use Rattle.ctw_labels.specs.Names.{Site}
use Rattle.ctw_labels.specs.Order.{order, name_at}
use Rattle.ctw_sites.specs.Packed.{most_sites}

-- the first site of each function, that of each body, and how many functions are imported
pub record Firsts : Type 0 where
  pub heads : List ℕ
  pub starts : List ℕ
  pub imported : ℕ

-- how many of these places stand no later than a place
abbrev pub upto : ℕ → List ℕ → ℕ
upto place firsts = count_by (λ first. nat_le first place) firsts

-- the function whose parameters and result have their sites there, and the one whose locals and opcodes have
abbrev pub func_at : Firsts → ℕ → ℕ
func_at t place = upto place t.heads - 1

abbrev pub body_at : Firsts → ℕ → ℕ
body_at t place = t.imported + (upto place t.starts - 1)

-- a site's name by its kind, its two functions by its place, and the other parts of its word
abbrev pub name_by : ℕ → ℕ → ℕ → ℕ → ℕ → SiteName
name_by kind f g at index =
    if kind == 0 then Param f index
    else if kind == 1 then Result f
    else if kind == 2 then GlobalOf at
    else if kind == 3 then Memory
    else if kind == 4 then Local g index
    else if kind == 5 then Block g at
    else if kind == 6 then Op g at
    else if kind == 7 then Push g at
    else if kind == 8 then IParam g at index
    else IResult g at

abbrev pub before : ℕ → Option ℕ
before zero = None
before (suc k) = Some k

abbrev pub yield_by : ℕ → ℕ → Option ℕ
yield_by kind index = if kind == 7 then before index else None

abbrev pub kind_of : ℕ → ℕ
kind_of word = word % 2 ^ 4

abbrev pub at_of : ℕ → ℕ
at_of word = word / 2 ^ 4 % 2 ^ 21

abbrev pub index_of : ℕ → ℕ
index_of word = word / 2 ^ 25 % 2 ^ 25

abbrev pub site_at : Firsts → ℕ → ℕ → Site
site_at t place word = record {
  name = name_by (kind_of word) (func_at t place) (body_at t place) (at_of word) (index_of word);
  yields = yield_by (kind_of word) (index_of word);
}

-- the sites of words whose first one has this place
abbrev pub unpacked : Firsts → ℕ → List ℕ → List Site
unpacked t place [] = []
unpacked t place (word ∷ words) = site_at t place word ∷ unpacked t (place + 1) words

-- the site that a site yields, by its number
abbrev pub yields_at : List Site → ℕ → Option (Option ℕ)
yields_at sites k = option_map (λ s. s.yields) (slice_get sites k)

-- What is kept beside the words: places that don't fall, and no more functions than numbers.
pub record IsTable (t : Firsts) : Type 0 where
  pub heads : IsNonDecreasing t.heads
  pub starts : IsNonDecreasing t.starts
  pub few : length t.heads < 2 ^ 32
  pub within : t.imported + length t.starts ≤ length t.heads

-- there are no more sites than a module may have, and they stand in the order of their names
pub record AreSites (sites : List Site) : Type 0 where
  pub few : length sites ≤ most_sites
  pub rising : (j k : ℕ) (a b : SiteName) → j < k → name_at sites j ≡ Some a → name_at sites k ≡ Some b
      → order a b ≡ Less
