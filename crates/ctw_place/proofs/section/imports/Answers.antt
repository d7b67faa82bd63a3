use Rattle.std.proofs.Common.{◌<◌, ◌≤◌, ◌+◌, ◌^◌, ◌++◌, length, sym, ap, subst, ◌∙◌, arith}
use Rattle.std.specs.Prelude.{get_or}
use Rattle.ctw_module.specs.Given.{extern_given, import_given}
use Rattle.ctw_write.specs.Canon.{import_text}
use Rattle.ctw_write.proofs.Shorter.{section_short, vector_short}
use Rattle.ctw_place.specs.Bodies.{placed_of}
use Rattle.ctw_place.specs.Items.{import_under, next_function_number}
use Rattle.ctw_place.specs.Settings.{module_of}
use Rattle.ctw_place.proofs.ImportLaws.{ImportsLeft, imports_begin, import_short, import_on, import_few, import_site, imports_done}
use Rattle.ctw_place.proofs.section.imports.Goals as goal

pub imports-init : goal.imports-init
imports-init c =
    subst (λ z. ImportsLeft c.args.setting.now c.args.made.now.functions.types.items c.args.out.now.items 0 0 z c.put_u32.new.out.items) (sym c.args.setting.now.globals_is)
    (imports_begin c.args.setting.now c.args.made.now.functions.types.items c.args.out.now.items c.import_count-count.result c.put_u32.new.out.items c.requires.made.types c.import_count-count.ensures c.in_ok-put_u32.ensures.put)

pub put_import-requires : goal.put_import-requires
put_import-requires c =
    let index = c.type_at-index.ensures ∙ ap (λ z. get_or z c.imports.f 0) c.deref.ensures.value in
    let h = import_short c.args.setting.now c.args.made.now.functions.types.items c.args.out.now.items c.memory_label-memory.result c.memory_label-memory.ensures c.imports.i c.imports.f c.imports.site c.imports.out.items c.imports.invariant (import_given c.import-import.result) c.import-import.ensures.import (vector_short 2 import_text (placed_of c.args.setting.now).imports (section_short (placed_of c.args.setting.now) 2 c.requires.short.placed)) in
    subst (λ z. length (import_text (import_under z c.memory_label-memory.result c.at.result (import_given c.import-import.result))) < 2 ^ 32) (sym index)
    (subst (λ z. length (import_text (import_under (get_or c.args.made.now.functions.types.items c.imports.f 0) c.memory_label-memory.result z (import_given c.import-import.result))) < 2 ^ 32) (sym c.at.ensures) h)

pub next_function-f-requires : goal.next_function-f-requires
next_function-f-requires c =
    let h = import_few c.args.setting.now c.args.made.now.functions.types.items c.args.out.now.items c.memory_label-memory.result c.memory_label-memory.ensures c.imports.i c.imports.f c.imports.site c.imports.out.items c.imports.invariant (import_given c.import-import.result) c.import-import.ensures.import in
    omega (arith, h, c.imports-test.true)

pub next_site-site-requires : goal.next_site-site-requires
next_site-site-requires c =
    let h = import_site c.args.setting.now c.args.made.now.functions.types.items c.args.out.now.items c.memory_label-memory.result c.memory_label-memory.ensures c.imports.i c.imports.f c.imports.site c.imports.out.items c.imports.invariant (import_given c.import-import.result) c.import-import.ensures.import in
    omega (arith, h, c.requires.room)

pub imports-preserved : goal.imports-preserved
imports-preserved c =
    let index = c.type_at-index.ensures ∙ ap (λ z. get_or z c.imports.f 0) c.deref.ensures.value in
    let put = c.in_ok-put_import.ensures ∙ (λ i. c.imports.out.items ++ import_text (import_under (index i) c.memory_label-memory.result (c.at.ensures i) (import_given c.import-import.result))) in
    let h = import_on c.args.setting.now c.args.made.now.functions.types.items c.args.out.now.items c.memory_label-memory.result c.memory_label-memory.ensures c.imports.i c.imports.f c.imports.site c.imports.out.items c.imports.invariant (import_given c.import-import.result) c.import-import.ensures.import c.put_import.new.out.items put in
    subst (λ z. ImportsLeft c.args.setting.now c.args.made.now.functions.types.items c.args.out.now.items (c.imports.i + 1) z c.next_site-site.result c.put_import.new.out.items) (sym c.next_function-f.ensures)
    (subst (λ z. ImportsLeft c.args.setting.now c.args.made.now.functions.types.items c.args.out.now.items (c.imports.i + 1) (next_function_number (extern_given c.import-import.result.kind) c.imports.f) z c.put_import.new.out.items) (sym c.next_site-site.ensures) h)

pub returns : goal.returns
returns c =
    let ge : length (module_of c.args.setting.now).imports ≤ c.imports.i = omega (arith, c.imports-test.false, c.import_count-count.ensures) in
    imports_done c.args.setting.now c.args.made.now.functions.types.items c.args.out.now.items c.imports.i c.imports.f c.imports.site c.imports.out.items c.imports.invariant ge
