use Rattle.ctw_ops.specs.ValueType.{ValueType}
use Rattle.ctw_ops.specs.Types.{byte_types, erase_value_type}
use Rattle.ctw_ops.specs.declared.types.Label.{Label}
use Rattle.ctw_write.specs.Canon.{type_text}
use Rattle.ctw_write.proofs.Listed.{Listed}
use Rattle.ctw_strip.proofs.item.put_types.Given as goal

-- the first types are written
abbrev pub invariant-types : goal.invariant-types
invariant-types l = Listed (λ (t : ValueType Label). type_text (erase_value_type t)) (byte_types l.bytes) l.byte-index l.initial.out.items l.out.items
