use Rattle.std.proofs.Common.{◌≤◌, arith}
use Rattle.ctw_ops.specs.Tree.{Import}
use Rattle.ctw_ops.specs.declared.types.Label.{Label}
use Rattle.ctw_ops.specs.Erasure.{erase_import, erase_module}
use Rattle.ctw_module.specs.Trees.{tree}
use Rattle.ctw_module.specs.Given.{import_given}
use Rattle.ctw_write.specs.Canon.{import_text}
use Rattle.ctw_write.proofs.Listed.{listed_next}
use Rattle.ctw_write.proofs.Shorter.{item_short, section_short}
use Rattle.ctw_strip.proofs.Mapped.{mapped_at, mapped_end}
use Rattle.ctw_strip.proofs.section.imports.Goals as goal

pub put_import-requires : goal.put_import-requires
put_import-requires c =
    let m = tree c.args.m.now in
    let i = import_given c.import-import.result in
    item_short 2 import_text (erase_module m).imports c.loop-i.i (erase_import m.types i) (section_short (erase_module m) 2 c.requires.erased) (mapped_at (erase_import m.types) m.imports c.loop-i.i i c.import-import.ensures.import)

pub loop-i-preserved : goal.loop-i-preserved
loop-i-preserved c =
    let m = tree c.args.m.now in
    listed_next (λ (i : Import Label). import_text (erase_import m.types i)) m.imports c.loop-i.i (import_given c.import-import.result) c.put_u32.new.out.items c.loop-i.out.items c.put_import.new.out.items c.import-import.ensures.import c.in_ok-put_import.ensures c.loop-i.invariant

pub returns : goal.returns
returns c =
    let m = tree c.args.m.now in
    let past : c.import_count-count.result ≤ c.loop-i.i = omega (arith, c.loop-i-test.false) in
    mapped_end import_text (erase_import m.types) m.imports c.loop-i.i c.import_count-count.result c.args.out.now.items c.put_u32.new.out.items c.loop-i.out.items c.import_count-count.ensures past c.in_ok-put_u32.ensures.put c.loop-i.invariant
