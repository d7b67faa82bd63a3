-- Sites as words: the kind of a site in the lowest 4 bits, its opcode's number or its global's in the next 21, and in the
-- others the number of a parameter or local, or for a push one more than the site that it yields, and 0 where that is none.
use Rattle.std.specs.Prelude.{ℕ, ◌+◌, ◌-◌, ◌*◌, ◌^◌, List, ◌++◌, length, map, take, Option, Some, None}
use Rattle.ctw_labels.specs.declared.name.SiteName.{SiteName}
use Rattle.ctw_labels.specs.declared.name.SiteName.TheVariants.{Param, Result, GlobalOf, Memory, Local, Block, Op, Push, IParam, IResult}
use Rattle.ctw_labels.specs.Names.{Site}

abbrev pub packed_word : ℕ → ℕ → ℕ → ℕ
packed_word kind at index = kind + at * 2 ^ 4 + index * 2 ^ 25

abbrev pub yield_index : Option ℕ → ℕ
yield_index None = 0
yield_index (Some y) = y + 1

abbrev pub packed : SiteName → Option ℕ → ℕ
packed (Param f i) y = packed_word 0 0 i
packed (Result f) y = packed_word 1 0 0
packed (GlobalOf g) y = packed_word 2 g 0
packed Memory y = packed_word 3 0 0
packed (Local f i) y = packed_word 4 0 i
packed (Block f at) y = packed_word 5 at 0
packed (Op f at) y = packed_word 6 at 0
packed (Push f at) y = packed_word 7 at (yield_index y)
packed (IParam f at i) y = packed_word 8 at i
packed (IResult f at) y = packed_word 9 at 0

-- the words of the first sites, how many sites there are, and of how many words are kept at most
pub record Kept : Type 0 where
  pub words : List ℕ
  pub count : ℕ
  pub most : ℕ

-- as many sites as a module may have
abbrev pub most_sites : ℕ
most_sites = 16777216

abbrev pub words_of : ℕ → ℕ → List Site → List ℕ
words_of most count sites = map (λ s. packed s.name s.yields) (take (most - count) sites)

-- with more sites, whose words are kept up to the limit
abbrev pub after : Kept → List Site → Kept
after k sites = record {
  words = k.words ++ words_of k.most k.count sites;
  count = k.count + length sites;
  most = k.most;
}
