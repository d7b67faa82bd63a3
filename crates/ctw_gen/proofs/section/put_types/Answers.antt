use Rattle.std.proofs.Common.{◌++◌, ℕ, [], ◌∷◌, ap, ◌∙◌}
use Rattle.ctw_ops.specs.Types.{byte_types}
use Rattle.ctw_leb.specs.Spelling.{u32_text}
use Rattle.ctw_write.specs.Canon.{type_entry_text}
use Rattle.ctw_gen.specs.Workload.{integer, type_entry}
use Rattle.ctw_gen.proofs.Sections.{joined, types_short}
use Rattle.ctw_gen.proofs.section.put_types.Goals as goal

pub put_section-requires : goal.put_section-requires
put_section-requires c =
    let two = c.in_ok-put_type.ensures ∙ ap (λ (b : ℕ). c.put_u32.new.out.items ++ type_entry_text (type_entry (byte_types (b ∷ b ∷ [])))) c.byte_of_type-integer.ensures in
    let one = c.in_ok-put_type-2.ensures ∙ ap (λ (b : ℕ). c.put_type.new.out.items ++ type_entry_text (type_entry (byte_types (b ∷ [])))) c.byte_of_type-integer.ensures in
    types_short c.deref.result.now
    (joined (u32_text 2) (type_entry_text (type_entry (integer ∷ integer ∷ []))) (type_entry_text (type_entry (integer ∷ []))) c.new-contents.result.items c.put_u32.new.out.items c.put_type.new.out.items c.put_type-2.new.out.items c.deref.result.now
    c.new-contents.ensures.items c.in_ok-put_u32.ensures.put two one c.deref.ensures.value)
