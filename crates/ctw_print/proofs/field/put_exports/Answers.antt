use Rattle.std.specs.String.{string_bytes}
use Rattle.ctw_module.specs.Trees.{tree}
use Rattle.ctw_form.specs.Spelled.{export_of}
use Rattle.ctw_print.specs.Texts.{export_line}
use Rattle.ctw_print.proofs.Listed.{listed_next}
use Rattle.ctw_print.proofs.field.put_exports.Goals as goal

pub loop-i-preserved : goal.loop-i-preserved
loop-i-preserved c =
    listed_next export_line (tree c.args.m.now).exports c.loop-i.i (export_of c.export-kind.result.0.now c.export-kind.result.1 c.export-kind.result.2) (string_bytes c.args.out.now) (string_bytes c.loop-i.out) (string_bytes c.put_export.new.out) c.export-kind.ensures
    c.in_ok-put_export.ensures c.loop-i.invariant
