use Rattle.std.proofs.Common.{arith}
use Rattle.ctw_strip.proofs.Mapped.{byte_next, bytes_end}
use Rattle.ctw_strip.proofs.item.put_types.Goals as goal

pub types-preserved : goal.types-preserved
types-preserved c =
    byte_next c.args.bytes.now c.types.byte-index c.erased_byte.result c.args.out.now.items c.types.out.items c.push.new.self.items c.requires (omega arith) c.erased_byte.ensures c.in_ok-push.ensures.items c.types.invariant

pub returns : goal.returns
returns c = bytes_end c.args.bytes.now c.types.byte-index c.args.out.now.items c.types.out.items c.requires (omega arith) c.types.invariant
