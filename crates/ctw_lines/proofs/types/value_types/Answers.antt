use Rattle.std.proofs.Common.{List, get_or, ap, ◌∙◌, sym, ◌++◌, option_to_list}
use Rattle.ctw_ops.specs.declared.types.Label.{Label}
use Rattle.ctw_ops.specs.Types.{ValueType, byte_type}
use Rattle.ctw_lines.proofs.TypeBytes.{types_next, types_all}
use Rattle.ctw_lines.proofs.types.value_types.Goals as goal

pub loop-byte-preserved : goal.loop-byte-preserved
loop-byte-preserved c = c.in_ok-push_type.ensures ∙ ap (λ (l : List (ValueType Label)). l ++ option_to_list (byte_type (get_or c.args.bytes.now c.loop-byte.byte-index 0))) c.loop-byte.invariant
    ∙ sym (types_next c.args.bytes.now c.loop-byte.byte-index 0 c.loop-byte-test.true)

pub returns : goal.returns
returns c = c.loop-byte.invariant ∙ types_all c.args.bytes.now c.loop-byte.byte-index c.loop-byte-test.false c.loop-byte.auto.byte-index-end
