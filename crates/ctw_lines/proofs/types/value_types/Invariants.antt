use Rattle.std.proofs.Common.{◌≡◌, take}
use Rattle.ctw_ops.specs.Types.{byte_types}
use Rattle.ctw_lines.proofs.types.value_types.Given as goal

abbrev pub invariant-loop-byte : goal.invariant-loop-byte
invariant-loop-byte l = l.types.items ≡ byte_types (take l.byte-index l.bytes)
