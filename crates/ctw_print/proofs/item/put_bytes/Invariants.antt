use Rattle.std.specs.String.{string_bytes}
use Rattle.ctw_text.specs.Print.{quoted_byte}
use Rattle.ctw_print.proofs.Listed.{Listed}
use Rattle.ctw_print.proofs.item.put_bytes.Given as goal

-- the first bytes are printed
abbrev pub invariant-bytes : goal.invariant-bytes
invariant-bytes l = Listed quoted_byte l.bytes l.byte-index (string_bytes l.initial.out) (string_bytes l.out)
