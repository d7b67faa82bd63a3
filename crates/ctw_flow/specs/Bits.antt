-- Marks as the bits of words, 64 a word, the first one lowest.
use Rattle.std.specs.Prelude.{ℕ, ◌/◌, ◌%◌, ◌^◌, ◌==◌, Bool, List, map, get_or}
use Rattle.std.specs.List.{range_with_len}

abbrev pub is_set : List ℕ → ℕ → Bool
is_set words n = get_or words (n / 64) 0 / 2 ^ (n % 64) % 2 == 1

abbrev pub bits_of : List ℕ → ℕ → List Bool
bits_of words count = map (is_set words) (range_with_len 0 count)
