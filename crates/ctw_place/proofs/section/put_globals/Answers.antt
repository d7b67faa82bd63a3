use Rattle.std.proofs.Common.{◌<◌, length, arith}
use Rattle.ctw_labels.specs.SitedModule.{first_defined_global}
use Rattle.ctw_write.proofs.Walked.{on_ok}
use Rattle.ctw_write.proofs.Shown.{defined_globals}
use Rattle.ctw_place.specs.Settings.{module_of, labels_of}
use Rattle.ctw_place.proofs.SectionLaws.{globals_length, section_whole}
use Rattle.ctw_write.specs.Canon.{vector_text, global_text}
use Rattle.ctw_write.proofs.Shorter.{section_short, vector_short, contents_short}
use Rattle.ctw_place.specs.Bodies.{placed_of}
use Rattle.ctw_place.proofs.section.put_globals.Goals as goal

pub put_section-requires : goal.put_section-requires
put_section-requires c =
    let m = placed_of c.args.setting.now in
    contents_short c.deref.result.now c.globals.new.out.items c.new-contents.result.items (vector_text global_text m.globals) c.deref.ensures.value c.in_ok-globals.ensures c.new-contents.ensures.items
    (vector_short 6 global_text m.globals (section_short m 6 c.requires.short.placed))

pub returns : goal.returns
returns c =
    let d = defined_globals (module_of c.args.setting.now) c.imported_count.result c.imported_count.ensures in
    let l = globals_length (labels_of c.args.setting.now) (first_defined_global (module_of c.args.setting.now)) (module_of c.args.setting.now).globals in
    let some : 0 < length (placed_of c.args.setting.now).globals = omega (arith, l, d, c.global_count.ensures, c.if-global_count-imported_count.false) in
    on_ok c.put_section.result
    (section_whole 6 global_text (placed_of c.args.setting.now).globals c.deref.result.now c.globals.new.out.items c.new-contents.result.items c.args.out.now.items c.put_section.new.out.items c.deref.ensures.value c.in_ok-globals.ensures c.new-contents.ensures.items some)
    c.put_section.ensures.put
