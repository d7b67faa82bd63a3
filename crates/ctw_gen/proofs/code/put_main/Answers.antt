use Rattle.std.proofs.Common.{◌++◌, ◌∷◌, ℕ, List, length, ap, sym, ◌∙◌, append_assoc, arith}
use Rattle.ctw_ops.specs.Code.{LocalGet}
use Rattle.ctw_write.specs.Canon.{all_texts, leaf_text, sized_text}
use Rattle.ctw_write.proofs.Walked.{on_ok}
use Rattle.ctw_gen.specs.Workload.{calls}
use Rattle.ctw_gen.proofs.Texts.{entry_joined, code_is, main_few}
use Rattle.ctw_gen.proofs.code.put_main.Goals as goal

pub put_sized-requires : goal.put_sized-requires
put_sized-requires c =
    let called = all_texts leaf_text (calls c.args.size) in
    let listed = c.in_ok-put_calls.ensures ∙ ap (λ (l : List ℕ). l ++ called) c.in_ok-put_instr.ensures ∙ append_assoc c.put_u32.new.out.items (leaf_text (LocalGet 0)) called in
    let seen = entry_joined (LocalGet 0 ∷ calls c.args.size) c.new-entry.result.items c.put_u32.new.out.items c.put_calls.new.out.items c.put_instr-2.new.out.items c.deref.result.now c.new-entry.ensures.items
    c.in_ok-put_u32.ensures.put listed c.in_ok-put_instr-2.ensures c.deref.ensures.value in
    omega (arith, ap length seen, main_few c.args.size c.requires)

pub returns : goal.returns
returns c =
    let called = all_texts leaf_text (calls c.args.size) in
    let listed = c.in_ok-put_calls.ensures ∙ ap (λ (l : List ℕ). l ++ called) c.in_ok-put_instr.ensures ∙ append_assoc c.put_u32.new.out.items (leaf_text (LocalGet 0)) called in
    let seen = entry_joined (LocalGet 0 ∷ calls c.args.size) c.new-entry.result.items c.put_u32.new.out.items c.put_calls.new.out.items c.put_instr-2.new.out.items c.deref.result.now c.new-entry.ensures.items
    c.in_ok-put_u32.ensures.put listed c.in_ok-put_instr-2.ensures c.deref.ensures.value in
    let whole = ap sized_text seen ∙ sym (code_is 1 (LocalGet 0 ∷ calls c.args.size)) in
    on_ok c.put_sized.result (λ e. e ∙ ap (λ (l : List ℕ). c.args.out.now.items ++ l) whole) c.put_sized.ensures.put
