use Rattle.std.proofs.Common.{◌≡◌, ◌+◌, ◌++◌, ◌∷◌, [], ℕ, List, ap, sym, ◌∙◌, append_assoc, append-nil, arith}
use Rattle.std.specs.List.{range_with_len}
use Rattle.ctw_ops.specs.declared.types.Label.{Label}
use Rattle.ctw_ops.specs.Tree.{Function}
use Rattle.ctw_leb.specs.Spelling.{u32_text}
use Rattle.ctw_write.specs.Canon.{all_texts}
use Rattle.ctw_write.proofs.Pieces.{all_texts-append}
use Rattle.ctw_write.proofs.Walked.{on_ok}
use Rattle.ctw_gen.proofs.Counting.{counted_more}
use Rattle.ctw_gen.proofs.Sections.{regroup, uses_text, functions_text}
use Rattle.ctw_gen.proofs.section.uses.Goals as goal

abbrev zero_text : ℕ → List ℕ
zero_text k = u32_text 0

pub loop-preserved : goal.loop-preserved
loop-preserved c =
    let k = c.loop.counter in
    let start = c.put_u32.new.out.items in
    let before = all_texts zero_text (range_with_len 0 k) in
    c.in_ok-put_u32-2.ensures.put ∙ ap (λ (l : List ℕ). l ++ u32_text 0) c.loop.invariant ∙ append_assoc start before (u32_text 0)
    ∙ ap (λ (l : List ℕ). start ++ l)
    (ap (λ (l : List ℕ). before ++ l) (sym (append-nil (u32_text 0))) ∙ sym (all_texts-append zero_text (range_with_len 0 k) (k ∷ [])) ∙ ap (λ (l : List ℕ). all_texts zero_text l) (sym (counted_more k)))

pub returns : goal.returns
returns c seed =
    let size = c.args.size in
    let start = c.args.out.now.items in
    let counted = u32_text (size + 1) in
    let numbers = range_with_len 0 size in
    let same : c.loop.counter ≡ size = omega arith in
    let looped =
    c.loop.invariant ∙ ap (λ (k : ℕ). c.put_u32.new.out.items ++ all_texts zero_text (range_with_len 0 k)) same ∙ ap (λ (l : List ℕ). l ++ all_texts zero_text numbers) c.in_ok-put_u32.ensures.put in
    let whole =
    ap (λ (l : List ℕ). l ++ u32_text 1) looped ∙ regroup start counted (all_texts zero_text numbers) (u32_text 1) ∙ ap (λ (l : List ℕ). start ++ (counted ++ (l ++ u32_text 1))) (sym (uses_text seed numbers))
    ∙ ap (λ (l : List ℕ). start ++ l) (sym (functions_text (λ (f : Function Label). u32_text f.type) seed size)) in
    on_ok c.put_u32-2.result (λ e. e ∙ whole) c.put_u32-2.ensures.put
