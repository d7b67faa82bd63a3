use Rattle.std.proofs.Common.{◌++◌, ℕ, List, length, ap, sym, ◌∙◌, arith}
use Rattle.ctw_ops.specs.declared.types.Label.{Label}
use Rattle.ctw_ops.specs.Tree.{Function}
use Rattle.ctw_leb.specs.Spelling.{u32_text}
use Rattle.ctw_write.specs.Canon.{vector_text, section_text}
use Rattle.ctw_write.proofs.Walked.{on_ok}
use Rattle.ctw_gen.specs.Workload.{functions}
use Rattle.ctw_gen.proofs.Sections.{functions_section, uses_short}
use Rattle.ctw_gen.proofs.section.put_uses.Goals as goal

pub put_section-requires : goal.put_section-requires
put_section-requires c =
    let all = vector_text (λ (f : Function Label). u32_text f.type) (functions 0 c.args.size) in
    let seen = c.deref.ensures.value ∙ c.in_ok-uses.ensures 0 ∙ ap (λ (l : List ℕ). l ++ all) c.new-contents.ensures.items in
    omega (arith, ap length seen, uses_short 0 c.args.size c.requires)

pub returns : goal.returns
returns c seed =
    let text = λ (f : Function Label). u32_text f.type in
    let all = vector_text text (functions seed c.args.size) in
    let seen = c.deref.ensures.value ∙ c.in_ok-uses.ensures seed ∙ ap (λ (l : List ℕ). l ++ all) c.new-contents.ensures.items in
    on_ok c.put_section.result (λ e. e ∙ ap (λ (l : List ℕ). c.args.out.now.items ++ l) (ap (section_text 3) seen ∙ sym (functions_section 3 text seed c.args.size))) c.put_section.ensures.put
