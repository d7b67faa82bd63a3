use Rattle.std.proofs.Common.{◌≡◌, ◌++◌, Some, ℕ, List, ap, sym, ◌∙◌, append_assoc}
use Rattle.ctw_leb.specs.Spelling.{u32_text}
use Rattle.ctw_module.specs.Trees.{tree}
use Rattle.ctw_write.specs.Canon.{table_text}
use Rattle.ctw_write.proofs.Shorter.{section_short, one_thing_short, contents_short}
use Rattle.ctw_write.proofs.section.put_tables.Goals as goal

pub put_section-requires : goal.put_section-requires
put_section-requires c =
    let m = tree c.args.m.now in
    let there : m.table ≡ Some c.in-Some.limits = sym c.defined_table.ensures ∙ c.in-Some.is in
    let start = c.new-contents.result.items in
    let whole : c.put_table.new.out.items ≡ start ++ (u32_text 1 ++ table_text c.in-Some.limits) =
    c.in_ok-put_table-in-Some.ensures ∙ ap (λ (l : List ℕ). l ++ table_text c.in-Some.limits) c.in_ok-put_u32-in-Some.ensures.put ∙ append_assoc start (u32_text 1) (table_text c.in-Some.limits) in
    contents_short c.deref.result.now c.put_table.new.out.items start (u32_text 1 ++ table_text c.in-Some.limits) c.deref.ensures.value whole c.new-contents.ensures.items
    (one_thing_short 4 table_text m.table c.in-Some.limits there (section_short m 4 c.requires))
