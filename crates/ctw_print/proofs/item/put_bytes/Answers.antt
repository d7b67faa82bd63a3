use Rattle.std.proofs.Common.{get_or}
use Rattle.std.specs.String.{string_bytes}
use Rattle.ctw_text.specs.Print.{quoted_byte}
use Rattle.ctw_print.proofs.Listed.{listed_next, item_is}
use Rattle.ctw_print.proofs.item.put_bytes.Goals as goal

pub bytes-preserved : goal.bytes-preserved
bytes-preserved c =
    listed_next quoted_byte c.args.bytes.now c.bytes.byte-index (get_or c.args.bytes.now c.bytes.byte-index 0) (string_bytes c.args.out.now) (string_bytes c.bytes.out) (string_bytes c.put_byte.new.out)
    (item_is c.args.bytes.now c.bytes.byte-index 0 c.bytes-test.true) c.in_ok-put_byte.ensures c.bytes.invariant
