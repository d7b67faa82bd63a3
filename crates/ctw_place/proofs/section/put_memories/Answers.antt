use Rattle.std.proofs.Common.{◌≡◌, ◌++◌, Some, ℕ, List, ap, sym, ◌∙◌, append_assoc}
use Rattle.std.specs.Prelude.{option_map}
use Rattle.ctw_leb.specs.Spelling.{u32_text}
use Rattle.ctw_labels.specs.Placed.{placed_memory}
use Rattle.ctw_write.specs.Canon.{memory_text}
use Rattle.ctw_write.proofs.Shorter.{section_short, one_thing_short, contents_short}
use Rattle.ctw_place.specs.Bodies.{placed_of}
use Rattle.ctw_place.specs.Items.{memory_under}
use Rattle.ctw_place.specs.Settings.{module_of, labels_of}
use Rattle.ctw_place.proofs.section.put_memories.Goals as goal

pub put_section-requires : goal.put_section-requires
put_section-requires c =
    let there : (placed_of c.args.setting.now).memory ≡ Some (memory_under c.memory_label-label.result c.in-Some.ty) =
    ap (option_map (placed_memory (labels_of c.args.setting.now) (module_of c.args.setting.now))) (sym c.defined_memory.ensures ∙ c.in-Some.is)
    ∙ ap (λ l. Some (memory_under l c.in-Some.ty)) (sym c.memory_label-label.ensures) in
    let start = c.new-contents.result.items in
    let text : List ℕ = memory_text (memory_under c.memory_label-label.result c.in-Some.ty) in
    let whole : c.put_memory.new.out.items ≡ start ++ (u32_text 1 ++ memory_text (memory_under c.memory_label-label.result c.in-Some.ty)) =
    c.in_ok-put_memory-in-Some.ensures ∙ ap (λ t. c.put_u32.new.out.items ++ memory_text t) c.labelled_memory.ensures
    ∙ ap (λ (l : List ℕ). l ++ text) c.in_ok-put_u32-in-Some.ensures.put ∙ append_assoc start (u32_text 1) text in
    contents_short c.deref.result.now c.put_memory.new.out.items start (u32_text 1 ++ text) c.deref.ensures.value whole c.new-contents.ensures.items
    (one_thing_short 5 memory_text (placed_of c.args.setting.now).memory (memory_under c.memory_label-label.result c.in-Some.ty) there (section_short (placed_of c.args.setting.now) 5 c.requires.short.placed))
