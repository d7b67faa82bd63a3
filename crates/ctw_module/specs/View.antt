-- What a view keeps of its file.
use Rattle.std.specs.Prelude.{◌≡◌, ◌<◌, ◌^◌, ℕ, List, length, map, option_map, All}
use Rattle.std.specs.Str.{bytes_eq}
use Rattle.indexmap.specs.IndexMap.{get_by}
use Rattle.ctw_ops.specs.Tree.{imported_globals, function_entries, global_types, memory_among, table_among}
use Rattle.ctw_ops.specs.WithinLimits.{IsOctet}
use Rattle.ctw_module.specs.declared.«module».Module.TheInside.{Inside}
use Rattle.ctw_form.specs.Spelled.{Spells}
use Rattle.ctw_module.specs.Trees.{Lent, tree, parts}
use Rattle.ctw_module.specs.Lookup.{export_in, imported_count, global_inits}
use Rattle.ctw_form.specs.Shown.{constant_of}
use Rattle.ctw_form.specs.Slots.{runs_of, coded_behind, headed, headed_behind, element_functions}

abbrev pub lent_by : Inside → Lent
lent_by v = record { bytes = v.bytes.now; profile = v.profile }

-- the bytes spell a module, and what is kept beside them is that module's
pub record IsView (v : Inside) (lent : Lent) : Type 0 where
  pub octets : All IsOctet lent.bytes
  pub short : length lent.bytes < 2 ^ 32
  pub spelled : Spells lent.bytes (tree lent)
  pub ct : v.ct ≡ (tree lent).ct
  pub types : v.types.items ≡ (tree lent).types
  pub imports : v.imports.items ≡ (tree lent).imports
  pub functions : v.functions.items ≡ function_entries (tree lent)
  pub imported : v.imported ≡ imported_count (tree lent)
  pub imported_globals : v.imported_globals ≡ length (imported_globals (tree lent).imports)
  pub codes : v.codes.items ≡ coded_behind 0 (parts lent).entries
  pub runs : v.runs.items ≡ runs_of (parts lent).entries
  pub globals : map (λ g. g.ty) v.globals.items ≡ global_types (tree lent)
  pub inits : map (λ g. option_map constant_of g.init) v.globals.items ≡ global_inits (tree lent)
  pub memory : v.memory ≡ memory_among (tree lent).imports (tree lent).memory
  pub table : v.table ≡ table_among (tree lent).imports (tree lent).table
  pub defined_memory : v.defined_memory ≡ (tree lent).memory
  pub defined_table : v.defined_table ≡ (tree lent).table
  pub exports : v.exports.items ≡ (tree lent).exports
  pub names : (name : List ℕ) → get_by (λ key. bytes_eq name key.now) v.names ≡ export_in name (tree lent).exports
  pub start : v.start ≡ (tree lent).start
  pub elements : map headed v.elements.items ≡ headed_behind 0 (tree lent).elements
  pub element_functions : v.element_functions.items ≡ element_functions (tree lent).elements
  pub segments : v.segments.items ≡ (tree lent).segments
  pub customs : v.customs.items ≡ (tree lent).customs
