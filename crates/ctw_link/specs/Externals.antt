-- The types of what modules import and export, and which import an export meets (W3C WebAssembly Core 1.0, sections
-- 2.3.8 and 4.5.2, with labels and trust).
use Rattle.std.specs.Prelude.{◌≡◌, ◌≤◌, ℕ, Bool, List, slice_get, find, Option, Some, None, IfSome, option_map, option_and_then}
use Rattle.std.specs.Str.{bytes_eq}
use Rattle.ctw_ops.specs.declared.types.Label.{Label}
use Rattle.ctw_ops.specs.declared.types.Limits.{Limits}
use Rattle.ctw_ops.specs.declared.types.ExternTag.{ExternTag}
use Rattle.ctw_ops.specs.declared.types.ExternTag.TheVariants.{Func, Table, Memory, Global}
use Rattle.ctw_ops.specs.Tree.{Module, Extern, ImportedFunction, ImportedTable, ImportedMemory, ImportedGlobal, Import, function_entries, global_types, memory_among, table_among, type_named}
use Rattle.ctw_ops.specs.ExternType.{ExternType}
use Rattle.ctw_ops.specs.ExternType as external
use Rattle.ctw_module.specs.Lookup.{export_in}
use Rattle.ctw_link.specs.Sets.{NamedModule, ModuleSet}

-- the type of an import
abbrev pub wanted : Module Label → Extern Label → ExternType Label
wanted m (ImportedFunction type) = external.Func type (type_named m type)
wanted m (ImportedTable limits) = external.Table limits
wanted m (ImportedMemory type) = external.Memory type
wanted m (ImportedGlobal type) = external.Global type

-- The type that a module declares of the thing that an index names; of an imported thing it is the import's. A module
-- has at most one table and one memory.
abbrev pub declared_type : Module Label → ExternTag → ℕ → Option (ExternType Label)
declared_type m Func index =
    option_map (λ type. external.Func type (type_named m type)) (slice_get (function_entries m) index)
declared_type m Table index = option_map (λ limits. external.Table limits) (table_among m.imports m.table)
declared_type m Memory index = option_map (λ type. external.Memory type) (memory_among m.imports m.memory)
declared_type m Global index = option_map (λ type. external.Global type) (slice_get (global_types m) index)

-- the type of what a module exports under a name
abbrev pub offered : Module Label → List ℕ → Option (ExternType Label)
offered m name = option_and_then (λ thing. declared_type m thing.0 thing.1) (export_in name m.exports)

abbrev pub has_name : List ℕ → NamedModule → Bool
has_name name p = bytes_eq p.name name

-- the type of what the part of an import's first name exports under its second
abbrev pub offered_by : ModuleSet → Import Label → Option (ExternType Label)
offered_by set i = option_and_then (λ p. offered p.tree i.name) (find (has_name i.module_name) set)

-- ---- matching

-- a greatest size is at most the one that is wanted
abbrev pub IsAtMost : Option ℕ → ℕ → Type 0
IsAtMost (Some most) wanted = most ≤ wanted
IsAtMost None wanted = ⊥

-- the least size is at least the one that is wanted, and there is a greatest where one is wanted
abbrev pub MeetsLimits : Limits → Limits → Type 0
MeetsLimits got want = (want.min ≤ got.min) × IfSome want.max (IsAtMost got.max)

-- whether a thing of one type may be imported as one of another
abbrev pub Meets : ExternType Label → ExternType Label → Type 0
Meets (external.Func entry got) (external.Func index want) = got ≡ want
Meets (external.Table got) (external.Table want) = MeetsLimits got want
Meets (external.Memory got) (external.Memory want) = (got.tag ≡ want.tag) × MeetsLimits got.limits want.limits
Meets (external.Global got) (external.Global want) = got ≡ want
Meets got want = ⊥

-- a part of the set exports what the import asks for
abbrev pub IsMet : ModuleSet → Module Label → Import Label → Type 0
IsMet set m i = (got : ExternType Label) × (offered_by set i ≡ Some got) × Meets got (wanted m i.kind)
