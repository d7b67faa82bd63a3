use Rattle.std.specs.String.{string_bytes}
use Rattle.ctw_form.proofs.Params.{type_byte_at}
use Rattle.ctw_print.proofs.Listed.{typed_next, typed_end}
use Rattle.ctw_print.proofs.item.put_types.Goals as goal

pub put_type_of-requires : goal.put_type_of-requires
put_type_of-requires c = type_byte_at c.args.bytes.now c.types.byte-index 0 c.requires c.types-test.true

pub types-preserved : goal.types-preserved
types-preserved c =
    typed_next c.args.bytes.now c.types.byte-index 0 (string_bytes c.args.out.now) (string_bytes c.types.out) (string_bytes c.put_type_of.new.out) c.requires c.types-test.true c.in_ok-put_type_of.ensures c.types.invariant

pub returns : goal.returns
returns c = typed_end c.args.bytes.now c.types.byte-index (string_bytes c.args.out.now) (string_bytes c.types.out) c.requires c.types-test.false c.types.invariant
