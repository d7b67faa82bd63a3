-- Loaded parts as the order of work has them.
use Rattle.std.specs.Prelude.{◌≡◌, ℕ, List, map, length, sum_by}
use Rattle.ctw_link.specs.Sets.{ModuleSet}
use Rattle.ctw_inputs.specs.declared.parts.PartFile.{PartFile}
use Rattle.ctw_inputs.specs.declared.parts.LoadedPart.{LoadedPart}
use Rattle.ctw_inputs.specs.Inputs.{NamedFile}

abbrev pub part_named : PartFile → NamedFile
part_named part = record { name = part.name.now; file = part.file.now }

-- what parts are named, and the bytes of their files
abbrev pub names : List LoadedPart → List NamedFile
names parts = map (λ p. part_named p.part) parts

abbrev pub contents : List LoadedPart → List (List ℕ)
contents parts = map (λ p. p.bytes.items) parts

-- how many bytes the files of parts have together
abbrev pub bytes_in : List LoadedPart → ℕ
bytes_in parts = sum_by (λ p. length p.bytes.items) parts

-- the modules have the names of the parts
abbrev pub AreNamed : ModuleSet → List LoadedPart → Type 0
AreNamed set parts = map (λ m. m.name) set ≡ map (λ p. p.part.name.now) parts
