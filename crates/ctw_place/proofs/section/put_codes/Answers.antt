use Rattle.std.proofs.Common.{◌<◌, ◌^◌, [], length, refl, sym, subst, ◌∙◌, arith}
use Rattle.ctw_write.specs.Canon.{vector_text, code_text}
use Rattle.ctw_write.proofs.Shorter.{section_short, vector_short}
use Rattle.ctw_write.proofs.Walked.{on_ok}
use Rattle.ctw_write.proofs.Shown.{defined_count}
use Rattle.ctw_place.specs.Settings.{module_of}
use Rattle.ctw_place.proofs.SectionLaws.{functions_length, section_whole}
use Rattle.ctw_place.specs.Bodies.{placed_of}
use Rattle.ctw_place.proofs.section.put_codes.Goals as goal

pub put_section-requires : goal.put_section-requires
put_section-requires c =
    subst (λ z. length z < 2 ^ 32) (sym (c.deref.ensures.value ∙ c.requires.made.codes)) (vector_short 10 code_text (placed_of c.args.setting.now).functions (section_short (placed_of c.args.setting.now) 10 c.requires.short.placed))

pub returns : goal.returns
returns c =
    let d = defined_count (module_of c.args.setting.now) c.imported_count.result c.imported_count.ensures in
    let l = functions_length c.args.setting.now in
    let some : 0 < length (placed_of c.args.setting.now).functions = omega (arith, l, d, c.func_count.ensures, c.if-func_count-imported_count.false) in
    on_ok c.put_section.result
    (section_whole 10 code_text (placed_of c.args.setting.now).functions c.deref.result.now (vector_text code_text (placed_of c.args.setting.now).functions) [] c.args.out.now.items c.put_section.new.out.items (c.deref.ensures.value ∙ c.requires.made.codes) refl refl some)
    c.put_section.ensures.put
