use Rattle.std.proofs.Common.{◌++◌, ◌≤◌, ℕ, List, length, refl, ap, ◌∙◌, append_assoc, arith}
use Rattle.ctw_leb.specs.Spelling.{u32_text}
use Rattle.ctw_write.specs.Canon.{all_texts}
use Rattle.ctw_write.proofs.Listed.{listed_begin, listed_next, listed_end}
use Rattle.ctw_write.proofs.text.put_functions.Goals as goal

pub loop-i-init : goal.loop-i-init
loop-i-init c = listed_begin u32_text c.args.element.now.functions c.put_u32.new.out.items c.put_u32.new.out.items refl

pub loop-i-preserved : goal.loop-i-preserved
loop-i-preserved c =
    listed_next u32_text c.args.element.now.functions c.loop-i.i c.func.result c.put_u32.new.out.items c.loop-i.out.items c.put_u32-in-loop-i.new.out.items c.func.ensures c.in_ok-put_u32-2.ensures.put c.loop-i.invariant

pub returns : goal.returns
returns c =
    let functions = c.args.element.now.functions in
    let past : length functions ≤ c.loop-i.i = omega (arith, c.count-count.ensures, c.loop-i-test.false) in
    let whole = listed_end u32_text functions c.loop-i.i c.put_u32.new.out.items c.loop-i.out.items past c.loop-i.invariant in
    let count = c.in_ok-put_u32.ensures.put ∙ ap (λ (n : ℕ). c.args.out.now.items ++ u32_text n) c.count-count.ensures in
    whole ∙ ap (λ (l : List ℕ). l ++ all_texts u32_text functions) count ∙ append_assoc c.args.out.now.items (u32_text (length functions)) (all_texts u32_text functions)
