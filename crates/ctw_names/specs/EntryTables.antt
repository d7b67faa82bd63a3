-- What a table of entries keeps.
use Rattle.std.specs.Prelude.{◌≡◌, ◌<◌, ◌^◌, length, position}
use Rattle.std.specs.Str.{bytes_eq}
use Rattle.indexmap.specs.IndexMap.{get_by}
use Rattle.ctw_text.specs.Names.{Spelled, same_spelled}
use Rattle.ctw_names.specs.TypeKeys.{type_key}
use Rattle.ctw_names.specs.declared.types.EntryTable.TheInside.{Inside}

-- the map holds for each type the least entry with it
pub record IsEntryTable (t : Inside) : Type 0 where
  pub few : length t.entries.items < 2 ^ 32
  pub firsts : (s : Spelled) → get_by (λ k. bytes_eq (type_key s) k.items) t.firsts ≡ position (same_spelled s) t.entries.items
