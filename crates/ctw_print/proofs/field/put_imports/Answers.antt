use Rattle.std.specs.String.{string_bytes}
use Rattle.ctw_module.specs.Trees.{tree}
use Rattle.ctw_module.specs.Given.{import_given}
use Rattle.ctw_print.specs.Texts.{import_line}
use Rattle.ctw_print.proofs.Listed.{listed_next}
use Rattle.ctw_print.proofs.field.put_imports.Goals as goal

pub loop-i-preserved : goal.loop-i-preserved
loop-i-preserved c =
    listed_next import_line (tree c.args.m.now).imports c.loop-i.i (import_given c.import-import.result) (string_bytes c.args.out.now) (string_bytes c.loop-i.out) (string_bytes c.put_import.new.out) c.import-import.ensures.import c.in_ok-put_import.ensures
    c.loop-i.invariant
