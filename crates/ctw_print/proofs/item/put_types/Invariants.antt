use Rattle.std.specs.String.{string_bytes}
use Rattle.ctw_ops.specs.Types.{byte_types}
use Rattle.ctw_print.specs.Texts.{spaced_type}
use Rattle.ctw_print.proofs.Listed.{Listed}
use Rattle.ctw_print.proofs.item.put_types.Given as goal

-- the first types are printed
abbrev pub invariant-types : goal.invariant-types
invariant-types l = Listed spaced_type (byte_types l.bytes) l.byte-index (string_bytes l.initial.out) (string_bytes l.out)
