-- All tables and memories of a module, imported ones first (W3C WebAssembly Core 1.0, section 2.5.1).
use Rattle.std.specs.Prelude.{List, [], ◌∷◌, ◌++◌}
use Rattle.ctw_ops.specs.declared.types.Label.{Label}
use Rattle.ctw_ops.specs.declared.types.Limits.{Limits}
use Rattle.ctw_ops.specs.Types.{MemoryType}
use Rattle.ctw_ops.specs.Tree.{Module, Import, Extern, ImportedTable, ImportedMemory}
use Rattle.ctw_ops.specs.Typing.{optional}

abbrev pub with_table : Extern Label → List Limits → List Limits
with_table (ImportedTable limits) others = limits ∷ others
with_table _ others = others

abbrev pub with_memory : Extern Label → List (MemoryType Label) → List (MemoryType Label)
with_memory (ImportedMemory type) others = type ∷ others
with_memory _ others = others

abbrev pub imported_tables : List (Import Label) → List Limits
imported_tables [] = []
imported_tables (i ∷ others) = with_table i.kind (imported_tables others)

abbrev pub imported_memories : List (Import Label) → List (MemoryType Label)
imported_memories [] = []
imported_memories (i ∷ others) = with_memory i.kind (imported_memories others)

abbrev pub all_tables : Module Label → List Limits
all_tables m = imported_tables m.imports ++ optional m.table

abbrev pub all_memories : Module Label → List (MemoryType Label)
all_memories m = imported_memories m.imports ++ optional m.memory
