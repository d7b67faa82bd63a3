use Rattle.std.proofs.Common.{◌≡◌, ◌++◌, map, take}
use Rattle.ctw_ops.specs.Types.{type_byte}
use Rattle.ctw_names.proofs.types.push_bytes.Given as goal

abbrev pub invariant-types : goal.invariant-types
invariant-types l = l.key.items ≡ l.initial.key.items ++ map type_byte (take l.t-index l.types)
