use Rattle.std.specs.String.{string_bytes}
use Rattle.ctw_module.specs.Trees.{tree}
use Rattle.ctw_print.specs.Texts.{export_line}
use Rattle.ctw_print.proofs.Listed.{Listed}
use Rattle.ctw_print.proofs.field.put_exports.Given as goal

-- the first ones are printed
abbrev pub invariant-loop-i : goal.invariant-loop-i
invariant-loop-i l = Listed export_line (tree l.m).exports l.i (string_bytes l.initial.out) (string_bytes l.out)
