-- What a part adds to a store.
use Rattle.std.specs.Prelude.{◌++◌, map}
use Rattle.ctw_ops.specs.declared.types.Label.{Label}
use Rattle.ctw_ops.specs.Tree.{Module}
use Rattle.ctw_ops.specs.Typing.{optional}
use Rattle.ctw_semantics.specs.Stores.{Storage, fresh_memory, fresh_table}
use Rattle.ctw_link.specs.Numbers.{LinkedModule}
use Rattle.ctw_launch.specs.Launched.{with_globals}

-- a store with the memory that a module defines, if it defines one
abbrev pub with_own_memory : Module Label → Storage → Storage
with_own_memory m s = record s { memories = s.memories ++ map fresh_memory (optional m.memory) }

-- the same of its table
abbrev pub with_own_table : Module Label → Storage → Storage
with_own_table m s = record s { tables = s.tables ++ map fresh_table (optional m.table) }

-- with the globals that a part defines
abbrev pub with_own_globals : LinkedModule → Storage → Storage
with_own_globals p s = record s { globals = with_globals s.globals p }
