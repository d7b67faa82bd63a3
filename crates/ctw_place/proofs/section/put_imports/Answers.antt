use Rattle.std.proofs.Common.{◌<◌, [], length, arith}
use Rattle.ctw_labels.specs.SitedModule.{first_global}
use Rattle.ctw_write.proofs.Walked.{on_ok}
use Rattle.ctw_place.specs.Settings.{module_of}
use Rattle.ctw_place.proofs.ImportLaws.{imports_length}
use Rattle.ctw_place.proofs.SectionLaws.{section_whole}
use Rattle.ctw_write.specs.Canon.{vector_text, import_text}
use Rattle.ctw_write.proofs.Shorter.{section_short, vector_short, contents_short}
use Rattle.ctw_place.specs.Bodies.{placed_of}
use Rattle.ctw_place.proofs.section.put_imports.Goals as goal

pub put_section-requires : goal.put_section-requires
put_section-requires c =
    let m = placed_of c.args.setting.now in
    contents_short c.deref.result.now c.imports.new.out.items c.new-contents.result.items (vector_text import_text m.imports) c.deref.ensures.value c.in_ok-imports.ensures c.new-contents.ensures.items
    (vector_short 2 import_text m.imports (section_short m 2 c.requires.short.placed))

pub returns : goal.returns
returns c =
    let l = imports_length c.args.setting.now [] [] 0 0 (first_global (module_of c.args.setting.now)) (module_of c.args.setting.now).imports in
    let some : 0 < length (placed_of c.args.setting.now).imports = omega (arith, l, c.import_count.ensures, c.if-import_count-eq0.false) in
    on_ok c.put_section.result
    (section_whole 2 import_text (placed_of c.args.setting.now).imports c.deref.result.now c.imports.new.out.items c.new-contents.result.items c.args.out.now.items c.put_section.new.out.items c.deref.ensures.value c.in_ok-imports.ensures c.new-contents.ensures.items some)
    c.put_section.ensures.put
