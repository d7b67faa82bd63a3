-- What the shelves and sinks that stand in memory are seen as.
use Rattle.std.specs.Prelude.{◌≡◌, ◌≢◌, AllPairs, ◌<◌, ℕ, List, map, length, String, string_bytes, Vec, None, HoldsAt, take, refl}
use Rattle.std.specs.FinMap.{find, from_entries, code}
use Rattle.std.specs.Ordering.{nat_cmp}
use Rattle.std.specs.Cmp.Lexicographic.{slice_cmp}
use Rattle.std.specs.Coded.{Coded, code_by, coded×, coded_ℕ, coded_list}
use Rattle.std.specs.declared.alloc.Global.{Global}
use Rattle.ctw_io.specs.Files.{Files}

-- a file's name and its content, as the program holds them
abbrev pub NamedFile : Type 0
NamedFile = String Global × Vec ℕ Global

-- a name and a content for each file, in the order of the list
abbrev pub file_entries : List NamedFile → List (List ℕ × List ℕ)
file_entries files = map (λ file. (string_bytes file.0, file.1.items)) files

-- the files of a list, by name; of two with one name the first counts
abbrev pub files_of : List NamedFile → Files
files_of files = from_entries (file_entries files)

-- the first file of this name stands here
pub record IsPlaceOf (files : List NamedFile) (name : List ℕ) (place : ℕ) : Type 0 where
  pub within : place < length files
  pub named : HoldsAt (λ file. string_bytes file.0 ≡ name) files place
  pub first : find (slice_cmp nat_cmp) name (file_entries (take place files)) ≡ None

-- no two files have one name
abbrev pub NamesDiffer : List NamedFile → Type 0
NamesDiffer files = AllPairs (λ a b. string_bytes a.0 ≢ string_bytes b.0) files

-- files are stored as the list of their entries
abbrev pub files_code : Coded Files
files_code = code (coded_list coded_ℕ) (coded_list coded_ℕ)

-- a shelf whose calls of these numbers fail: its files, how many calls it had and how many of them failed
pub record MemFiles : Type 0 where
  pub files : Files
  pub fails : List ℕ
  pub calls : ℕ
  pub faults : ℕ

abbrev pub mem_files_code : Coded MemFiles
mem_files_code =
    code_by (Files × (List ℕ × (ℕ × ℕ))) (coded× files_code (coded× (coded_list coded_ℕ) (coded× coded_ℕ coded_ℕ)))
    (λ s. (s.files, (s.fails, (s.calls, s.faults))))
    (λ p. record { files = p.0; fails = p.1.0; calls = p.1.1.0; faults = p.1.1.1 }) (λ _. refl)

-- a shelf that doesn't fail
pub record SureFiles : Type 0 where
  pub files : Files

abbrev pub sure_files_code : Coded SureFiles
sure_files_code = code_by Files files_code (λ s. s.files) (λ files. record { files = files }) (λ _. refl)

-- a sink that takes at most so many bytes a call, and whose calls of these numbers fail
pub record MemBytes : Type 0 where
  pub taken : List ℕ
  pub most : ℕ
  pub fails : List ℕ
  pub calls : ℕ
  pub faults : ℕ

-- a sink that takes at most so many bytes a call, and doesn't fail
pub record SureBytes : Type 0 where
  pub taken : List ℕ
  pub most : ℕ
