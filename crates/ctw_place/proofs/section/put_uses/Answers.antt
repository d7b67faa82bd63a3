use Rattle.std.proofs.Common.{◌<◌, length, arith}
use Rattle.ctw_write.proofs.Walked.{on_ok}
use Rattle.ctw_write.proofs.Shown.{defined_count}
use Rattle.ctw_place.specs.Settings.{module_of}
use Rattle.ctw_place.proofs.SectionLaws.{functions_length, section_whole}
use Rattle.ctw_ops.specs.Tree.{Function}
use Rattle.ctw_ops.specs.declared.types.Label.{Label}
use Rattle.ctw_leb.specs.Spelling.{u32_text}
use Rattle.ctw_write.specs.Canon.{vector_text}
use Rattle.ctw_write.proofs.Shorter.{section_short, vector_short, contents_short}
use Rattle.ctw_place.specs.Bodies.{placed_of}
use Rattle.ctw_place.proofs.section.put_uses.Goals as goal

pub put_section-requires : goal.put_section-requires
put_section-requires c =
    let m = placed_of c.args.setting.now in
    contents_short c.deref.result.now c.uses.new.out.items c.new-contents.result.items (vector_text (λ (f : Function Label). u32_text f.type) m.functions) c.deref.ensures.value c.in_ok-uses.ensures c.new-contents.ensures.items
    (vector_short 3 (λ (f : Function Label). u32_text f.type) m.functions (section_short m 3 c.requires.short.placed))

pub returns : goal.returns
returns c =
    let d = defined_count (module_of c.args.setting.now) c.imported_count.result c.imported_count.ensures in
    let l = functions_length c.args.setting.now in
    let some : 0 < length (placed_of c.args.setting.now).functions = omega (arith, l, d, c.func_count.ensures, c.if-func_count-imported_count.false) in
    on_ok c.put_section.result
    (section_whole 3 (λ (f : Function Label). u32_text f.type) (placed_of c.args.setting.now).functions c.deref.result.now c.uses.new.out.items c.new-contents.result.items c.args.out.now.items c.put_section.new.out.items c.deref.ensures.value c.in_ok-uses.ensures c.new-contents.ensures.items some)
    c.put_section.ensures.put
