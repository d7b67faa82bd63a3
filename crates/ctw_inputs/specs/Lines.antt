-- The lines about sets of modules.
use Rattle.std.specs.Prelude.{ℕ, List, [], ◌∷◌, slice_get, Option, Some, None, decimal, codes}
use Rattle.ctw_link.specs.declared.fault.LinkFault.{LinkFault}
use Rattle.ctw_link.specs.declared.fault.LinkFault.TheVariants as link
use Rattle.ctw_link.specs.Sets.{NamedModule, ModuleSet}
use Rattle.ctw_script.specs.Lines.{spaced}
use Rattle.ctw_lines.specs.Types.{function_text, external_text}

abbrev pub name_or_empty : Option NamedModule → List ℕ
name_or_empty None = []
name_or_empty (Some part) = part.name

-- the name of the part of an index
abbrev pub part_name : ModuleSet → ℕ → List ℕ
part_name set part = name_or_empty (slice_get set part)

-- parts by their names, but that of DoubleName by its index; want of memory is no fault of a set, and has no words
abbrev pub link_words : ModuleSet → LinkFault → List (List ℕ)
link_words set (link.NoImport part import) = codes "NoImport" ∷ part_name set part ∷ decimal import ∷ []
link_words set (link.ImportType part import want got) =
    codes "ImportType" ∷ part_name set part ∷ decimal import ∷ external_text want ∷ external_text got ∷ []
link_words set (link.TableMix table a b) = codes "TableMix" ∷ decimal table ∷ function_text a ∷ function_text b ∷ []
link_words set (link.TooManyPages pages) = codes "TooManyPages" ∷ decimal pages ∷ []
link_words set (link.TooManyEntries entries) = codes "TooManyEntries" ∷ decimal entries ∷ []
link_words set (link.DoubleName part) = codes "DoubleName" ∷ decimal part ∷ []
link_words set link.NoMemory = []

-- a set that doesn't match
abbrev pub link_line : ModuleSet → LinkFault → List ℕ
link_line set fault = spaced (codes "refused" ∷ codes "link" ∷ link_words set fault)
