-- Files that a shelf tells, by their names, and what a load of one answers.
use Rattle.std.specs.Prelude.{◌≡◌, ◌≤◌, ◌<◌, ◌⊎◌, ℕ, List, length, take, Option, Some, None}
use Rattle.std.specs.FinMap.{FinMap, insert}
use Rattle.std.specs.Ordering.{nat_cmp}
use Rattle.std.specs.Cmp.Lexicographic.{slice_cmp}
use Rattle.ctw_io.specs.declared.Loaded.{Loaded}
use Rattle.ctw_io.specs.declared.Loaded.TheVariants.{Whole, More, Missing}

-- files by name; a name and a file's content are lists of bytes
abbrev pub Files : Type 0
Files = FinMap (slice_cmp nat_cmp) (List ℕ)

-- what a load with this limit gives of a file that is told, or of one that is told not to be there
abbrev pub IsLoadOf : Option (List ℕ) → ℕ → Loaded → Type 0
IsLoadOf None limit (Whole bytes) = ⊥
IsLoadOf None limit More = ⊥
IsLoadOf None limit Missing = Unit {0}
IsLoadOf (Some content) limit (Whole bytes) = (bytes.items ≡ content) × (length content ≤ limit)
IsLoadOf (Some content) limit More = limit < length content
IsLoadOf (Some content) limit Missing = ⊥

-- no more bytes than the limit, told or not
abbrev pub IsWithin : ℕ → Loaded → Type 0
IsWithin limit (Whole bytes) = length bytes.items ≤ limit
IsWithin limit More = Unit {0}
IsWithin limit Missing = Unit {0}

-- the files after a save that failed: as before, or with a prefix of the bytes under the name
abbrev pub IsHalfSaved : Files → List ℕ → List ℕ → Option Files → Type 0
IsHalfSaved before name bytes after =
    (after ≡ Some before) ⊎ ((count : ℕ) × (after ≡ Some (insert before name (take count bytes))))
