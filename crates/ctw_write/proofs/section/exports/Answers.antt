use Rattle.ctw_module.specs.Trees.{tree}
use Rattle.ctw_form.specs.Spelled.{export_of}
use Rattle.ctw_write.specs.Canon.{export_text}
use Rattle.ctw_write.proofs.Listed.{listed_next}
use Rattle.ctw_write.proofs.Shorter.{item_short}
use Rattle.ctw_write.proofs.section.exports.Goals as goal

pub put_export-requires : goal.put_export-requires
put_export-requires c =
    item_short 7 export_text (tree c.args.m.now).exports c.loop-i.i (export_of c.export-kind.result.0.now c.export-kind.result.1 c.export-kind.result.2) c.requires c.export-kind.ensures

pub loop-i-preserved : goal.loop-i-preserved
loop-i-preserved c =
    listed_next export_text (tree c.args.m.now).exports c.loop-i.i (export_of c.export-kind.result.0.now c.export-kind.result.1 c.export-kind.result.2) c.put_u32.new.out.items c.loop-i.out.items c.put_export.new.out.items c.export-kind.ensures
    c.in_ok-put_export.ensures c.loop-i.invariant
