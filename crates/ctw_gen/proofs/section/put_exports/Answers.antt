use Rattle.std.proofs.Common.{◌++◌, ℕ, List, refl, ap, ◌∙◌, codes}
use Rattle.ctw_ops.specs.declared.types.ExternTag.TheVariants.{Func, Memory}
use Rattle.ctw_leb.specs.Spelling.{u32_text}
use Rattle.ctw_form.specs.Spelled.{export_of}
use Rattle.ctw_write.specs.Canon.{section_text, export_text}
use Rattle.ctw_write.proofs.Walked.{on_ok}
use Rattle.ctw_gen.proofs.Sections.{joined, exports_are, exports_short}
use Rattle.ctw_gen.proofs.section.put_exports.Goals as goal

pub put_section-requires : goal.put_section-requires
put_section-requires c =
    exports_short c.args.size c.deref.result.now c.requires
    (joined (u32_text 2) (export_text (export_of (codes "main") Func c.args.size)) (export_text (export_of (codes "mem") Memory 0)) c.new-contents.result.items c.put_u32.new.out.items c.put_export.new.out.items c.put_export-2.new.out.items
    c.deref.result.now c.new-contents.ensures.items c.in_ok-put_u32.ensures.put (c.in_ok-put_export.ensures Func refl) (c.in_ok-put_export-2.ensures Memory refl) c.deref.ensures.value)

pub returns : goal.returns
returns c seed =
    let seen =
    joined (u32_text 2) (export_text (export_of (codes "main") Func c.args.size)) (export_text (export_of (codes "mem") Memory 0)) c.new-contents.result.items c.put_u32.new.out.items c.put_export.new.out.items c.put_export-2.new.out.items
    c.deref.result.now c.new-contents.ensures.items c.in_ok-put_u32.ensures.put (c.in_ok-put_export.ensures Func refl) (c.in_ok-put_export-2.ensures Memory refl) c.deref.ensures.value in
    on_ok c.put_section.result (λ e. e ∙ ap (λ (l : List ℕ). c.args.out.now.items ++ section_text 7 l) (seen ∙ exports_are seed c.args.size)) c.put_section.ensures.put
