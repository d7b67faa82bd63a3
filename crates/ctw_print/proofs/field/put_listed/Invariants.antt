use Rattle.std.specs.String.{string_bytes}
use Rattle.ctw_print.specs.Texts.{spaced_number}
use Rattle.ctw_print.proofs.Listed.{Listed}
use Rattle.ctw_print.proofs.field.put_listed.Given as goal

-- the first functions are printed
abbrev pub invariant-loop-i : goal.invariant-loop-i
invariant-loop-i l = Listed spaced_number l.element.functions l.i (string_bytes l.initial.out) (string_bytes l.out)
