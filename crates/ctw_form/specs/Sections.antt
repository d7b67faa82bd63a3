-- The sections of a file (W3C WebAssembly Core 1.0, section 5.5), and the module that they make.
use Rattle.std.specs.Prelude.{ℕ, Bool, true, false, List, [], ◌∷◌, ◌++◌, length, Option, Some, None, replicate}
use Rattle.ctw_ops.specs.declared.numeric.Profile.TheVariants.{Divide}
use Rattle.ctw_ops.specs.declared.types.Label.{Label}
use Rattle.ctw_ops.specs.declared.types.Limits.{Limits}
use Rattle.ctw_ops.specs.Types.{ValueType, MemoryType}
use Rattle.ctw_ops.specs.Code.{Code}
use Rattle.ctw_ops.specs.Tree.{Module, TypeEntry, Import, Extern, ImportedFunction, ImportedTable, ImportedMemory, ImportedGlobal, Function, Global, Export, Element, Segment, Custom}
use Rattle.ctw_form.specs.declared.table.Held.{Held}
use Rattle.ctw_form.specs.declared.sections.Seen.{Seen}

-- so many locals of one type
pub record Group : Type 0 where
  pub count : ℕ
  pub type : ValueType Label

abbrev pub locals_of : List Group → List (ValueType Label)
locals_of [] = []
locals_of (g ∷ groups) = replicate g.count g.type ++ locals_of groups

-- the code of a function: the groups of its locals, the bytes of its instructions, and these as a tree
pub record Entry : Type 0 where
  pub groups : List Group
  pub code : List ℕ
  pub body : Code Label

pub data Section : Type 0 where
  CustomSection : (name bytes : List ℕ) → Section
  TypeSection : (types : List (TypeEntry Label)) → Section
  ImportSection : (imports : List (Import Label)) → Section
  FunctionSection : (types : List ℕ) → Section
  TableSection : (tables : List Limits) → Section
  MemorySection : (memories : List (MemoryType Label)) → Section
  GlobalSection : (globals : List (Global Label)) → Section
  ExportSection : (exports : List Export) → Section
  StartSection : (function : ℕ) → Section
  ElementSection : (elements : List (Element Label)) → Section
  CodeSection : (entries : List Entry) → Section
  DataSection : (segments : List (Segment Label)) → Section

-- ---- what a section may depend on

abbrev pub none_held : Held
none_held = record { table = false; memory = false }

abbrev pub held_with : Extern Label → Held → Held
held_with (ImportedTable limits) held = record held { table = true }
held_with (ImportedMemory type) held = record held { memory = true }
held_with (ImportedFunction type) held = held
held_with (ImportedGlobal type) held = held

-- what imports have behind one more
abbrev pub held_after : Held → Import Label → Held
held_after held import = held_with import.kind held

abbrev pub held_by : Held → List (Import Label) → Held
held_by held [] = held
held_by held (i ∷ imports) = held_by (held_after held i) imports

abbrev pub nothing_seen : Seen
nothing_seen = record { last = 0; owed = 0; held = none_held }

-- `last` is the id of the last section but custom ones, `owed` the count of functions whose code hasn't come yet
abbrev pub seen_after : Seen → Section → Seen
seen_after seen (CustomSection name bytes) = seen
seen_after seen (TypeSection types) = record seen { last = 1 }
seen_after seen (ImportSection imports) = record seen { last = 2; held = held_by none_held imports }
seen_after seen (FunctionSection types) = record seen { last = 3; owed = length types }
seen_after seen (TableSection tables) = record seen { last = 4 }
seen_after seen (MemorySection memories) = record seen { last = 5 }
seen_after seen (GlobalSection globals) = record seen { last = 6 }
seen_after seen (ExportSection exports) = record seen { last = 7 }
seen_after seen (StartSection function) = record seen { last = 8 }
seen_after seen (ElementSection elements) = record seen { last = 9 }
seen_after seen (CodeSection entries) = record seen { last = 10; owed = 0 }
seen_after seen (DataSection segments) = record seen { last = 11 }

-- ---- the module that sections make

-- what sections have brought; `place` is the id of the last one that has items
pub record Parts : Type 0 where
  pub place : ℕ
  pub types : List (TypeEntry Label)
  pub imports : List (Import Label)
  pub uses : List ℕ
  pub table : Option Limits
  pub memory : Option (MemoryType Label)
  pub globals : List (Global Label)
  pub exports : List Export
  pub start : Option ℕ
  pub elements : List (Element Label)
  pub entries : List Entry
  pub segments : List (Segment Label)
  pub customs : List Custom

abbrev pub no_parts : Parts
no_parts = record {
  place = 0;
  types = [];
  imports = [];
  uses = [];
  table = None;
  memory = None;
  globals = [];
  exports = [];
  start = None;
  elements = [];
  entries = [];
  segments = [];
  customs = [];
}

abbrev pub first : {A : Type 0} → List A → Option A
first [] = None
first (a ∷ others) = Some a

-- the id of the last section that has items, behind a section with these
abbrev pub place_after : {A : Type 0} → ℕ → List A → ℕ → ℕ
place_after id [] place = place
place_after id (item ∷ items) place = id

abbrev pub with_section : Parts → Section → Parts
with_section p (CustomSection name bytes) =
    record p { customs = p.customs ++ record { place = p.place; name = name; bytes = bytes } ∷ [] }
with_section p (TypeSection types) = record p { place = place_after 1 types p.place; types = types }
with_section p (ImportSection imports) = record p { place = place_after 2 imports p.place; imports = imports }
with_section p (FunctionSection uses) = record p { place = place_after 3 uses p.place; uses = uses }
with_section p (TableSection tables) = record p { place = place_after 4 tables p.place; table = first tables }
with_section p (MemorySection memories) = record p { place = place_after 5 memories p.place; memory = first memories }
with_section p (GlobalSection globals) = record p { place = place_after 6 globals p.place; globals = globals }
with_section p (ExportSection exports) = record p { place = place_after 7 exports p.place; exports = exports }
with_section p (StartSection function) = record p { place = 8; start = Some function }
with_section p (ElementSection elements) = record p { place = place_after 9 elements p.place; elements = elements }
with_section p (CodeSection entries) = record p { place = place_after 10 entries p.place; entries = entries }
with_section p (DataSection segments) = record p { place = place_after 11 segments p.place; segments = segments }

-- functions, each of the type at its place and with the code at its place
abbrev pub functions_of : List ℕ → List Entry → List (Function Label)
functions_of [] entries = []
functions_of (type ∷ types) [] = []
functions_of (type ∷ types) (e ∷ entries) =
    record { type = type; locals = locals_of e.groups; body = e.body } ∷ functions_of types entries

-- the profile isn't spelled: a module as it is read has the profile Divide
abbrev pub module_of : Bool → Parts → Module Label
module_of ct p = record {
  ct = ct;
  profile = Divide;
  types = p.types;
  imports = p.imports;
  functions = functions_of p.uses p.entries;
  table = p.table;
  memory = p.memory;
  globals = p.globals;
  exports = p.exports;
  start = p.start;
  elements = p.elements;
  segments = p.segments;
  customs = p.customs;
}
