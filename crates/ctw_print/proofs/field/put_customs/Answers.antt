use Rattle.std.proofs.Common.{sym}
use Rattle.std.specs.String.{string_bytes}
use Rattle.ctw_module.specs.Trees.{tree}
use Rattle.ctw_print.specs.Texts.{custom_line}
use Rattle.ctw_print.proofs.Listed.{listed_next}
use Rattle.ctw_print.proofs.field.put_customs.Goals as goal

pub loop-i-preserved : goal.loop-i-preserved
loop-i-preserved c =
    listed_next custom_line (tree c.args.m.now).customs c.loop-i.i c.in-Some.custom (string_bytes c.args.out.now) (string_bytes c.loop-i.out) (string_bytes c.put_custom.new.out) (sym c.in-Some.ensures) c.in_ok-put_custom.ensures c.loop-i.invariant
