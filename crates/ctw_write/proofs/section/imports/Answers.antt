use Rattle.ctw_module.specs.Trees.{tree}
use Rattle.ctw_module.specs.Given.{import_given}
use Rattle.ctw_write.specs.Canon.{import_text}
use Rattle.ctw_write.proofs.Listed.{listed_next}
use Rattle.ctw_write.proofs.Shorter.{item_short}
use Rattle.ctw_write.proofs.section.imports.Goals as goal

pub put_import-requires : goal.put_import-requires
put_import-requires c = item_short 2 import_text (tree c.args.m.now).imports c.loop-i.i (import_given c.import-import.result) c.requires c.import-import.ensures.import

pub loop-i-preserved : goal.loop-i-preserved
loop-i-preserved c =
    listed_next import_text (tree c.args.m.now).imports c.loop-i.i (import_given c.import-import.result) c.put_u32.new.out.items c.loop-i.out.items c.put_import.new.out.items c.import-import.ensures.import c.in_ok-put_import.ensures c.loop-i.invariant
