-- What a module's names and types are, as they are kept.
use Rattle.std.specs.Prelude.{List, map}
use Rattle.ctw_text.specs.declared.fields.Field.{Field}
use Rattle.ctw_text.specs.Names.{Space, Spelled, spelled_type, type_fields}
use Rattle.ctw_names.specs.declared.space.Space as kept

abbrev pub space_in : kept.Space → Space
space_in s = record {
  types = s.types;
  funcs = s.funcs;
  tables = s.tables;
  memories = s.memories;
  globals = s.globals;
  entries = s.entries;
}

-- the entries of the type fields
abbrev pub type_entries_of : List Field → List Spelled
type_entries_of fs = map (λ (f : Field). spelled_type f.draft.sig) (type_fields fs)
