-- What a table of names keeps.
use Rattle.std.specs.Prelude.{◌≡◌, ◌<◌, ◌^◌, Bool, false, List, Option, Some, None, length, position}
use Rattle.std.specs.List.{list_any}
use Rattle.std.specs.Str.{bytes_eq}
use Rattle.indexmap.specs.IndexMap.{get_by}
use Rattle.ctw_text.specs.Written.{Name}
use Rattle.ctw_text.specs.Names.{is_named}
use Rattle.ctw_names.specs.declared.table.NameTable.TheInside.{Inside}

-- the map holds for each word the first position of it
pub record IsTable (t : Inside) : Type 0 where
  pub few : length t.names.items < 2 ^ 32
  pub firsts : (w : Name) → get_by (λ k. bytes_eq w.word k.now) t.firsts ≡ position (is_named w) t.names.items

-- whether a name is among names
abbrev pub stands_in : Option Name → List (Option Name) → Bool
stands_in None names = false
stands_in (Some w) names = list_any (is_named w) names
