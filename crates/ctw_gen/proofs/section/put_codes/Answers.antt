use Rattle.std.proofs.Common.{◌+◌, ◌++◌, ℕ, List, map, length, ap, sym, ◌∙◌, arith}
use Rattle.std.specs.List.{range_with_len}
use Rattle.ctw_leb.specs.Spelling.{u32_text}
use Rattle.ctw_write.specs.Canon.{all_texts, section_text, code_text}
use Rattle.ctw_write.proofs.Walked.{on_ok}
use Rattle.ctw_gen.specs.Workload.{numbered, main}
use Rattle.ctw_gen.proofs.Sections.{joined, functions_text, functions_section, codes_short}
use Rattle.ctw_gen.proofs.section.put_codes.Goals as goal

pub put_section-requires : goal.put_section-requires
put_section-requires c =
    let seed = c.args.draws.now in
    let size = c.args.size in
    let seen =
    joined (u32_text (size + 1)) (all_texts code_text (map (numbered seed) (range_with_len 0 size))) (code_text (main size)) c.new-contents.result.items c.put_u32.new.out.items c.put_numbered.new.out.items c.put_main.new.out.items
    c.deref.result.now c.new-contents.ensures.items c.in_ok-put_u32.ensures.put c.in_ok-put_numbered.ensures.written c.in_ok-put_main.ensures c.deref.ensures.value in
    omega (arith, ap length (seen ∙ sym (functions_text code_text seed size)), codes_short seed size c.requires)

pub returns-clause-written : goal.returns-clause-written
returns-clause-written c =
    let seed = c.args.draws.now in
    let size = c.args.size in
    let seen =
    joined (u32_text (size + 1)) (all_texts code_text (map (numbered seed) (range_with_len 0 size))) (code_text (main size)) c.new-contents.result.items c.put_u32.new.out.items c.put_numbered.new.out.items c.put_main.new.out.items
    c.deref.result.now c.new-contents.ensures.items c.in_ok-put_u32.ensures.put c.in_ok-put_numbered.ensures.written c.in_ok-put_main.ensures c.deref.ensures.value in
    on_ok c.put_section.result
    (λ e. e ∙ ap (λ (l : List ℕ). c.args.out.now.items ++ l) (ap (section_text 10) (seen ∙ sym (functions_text code_text seed size)) ∙ sym (functions_section 10 code_text seed size))) c.put_section.ensures.put
