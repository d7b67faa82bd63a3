use Rattle.std.proofs.Common.{◌≡◌, ◌*◌, ◌++◌, ℕ, List, map, ap, sym, ◌∙◌, append_assoc, append-nil, arith}
use Rattle.std.specs.List.{range_with_len}
use Rattle.ctw_ops.specs.declared.types.Label.{Label}
use Rattle.ctw_ops.specs.Tree.{Function}
use Rattle.ctw_write.specs.Canon.{all_texts, code_text}
use Rattle.ctw_gen.specs.Draws.{state}
use Rattle.ctw_gen.specs.Workload.{made, numbered}
use Rattle.ctw_gen.proofs.Counting.{texts_more}
use Rattle.ctw_gen.proofs.Steps.{begun, three_drawn}
use Rattle.ctw_gen.proofs.code.put_numbered.Goals as goal

pub loop-init : goal.loop-init
loop-init c = record { written = sym (append-nil c.args.out.now.items); drawn = begun c.args.draws.now }

pub loop-preserved : goal.loop-preserved
loop-preserved c =
    let seed = c.args.draws.now in
    let k = c.loop.counter in
    let start = c.args.out.now.items in
    let before = all_texts code_text (map (numbered seed) (range_with_len 0 k)) in
    let one = made c.draw-a.result c.draw-c.result c.draw-b.result in
    let d = three_drawn seed k c.loop.draws c.draw-a.new.self c.draw-c.new.self c.draw-b.new.self c.draw-a.result c.draw-c.result c.draw-b.result c.loop.invariant.drawn c.draw-a.ensures.state c.draw-a.ensures.drawn c.draw-c.ensures.state
    c.draw-c.ensures.drawn c.draw-b.ensures.state c.draw-b.ensures.drawn in
    let text = ap (λ (f : Function Label). code_text f) d.made_is ∙ sym (append-nil (code_text (numbered seed k))) in
    record {
      written = c.in_ok-put_made.ensures ∙ ap (λ (l : List ℕ). l ++ code_text one) c.loop.invariant.written ∙ append_assoc start before (code_text one)
          ∙ ap (λ (l : List ℕ). start ++ l) (ap (λ (l : List ℕ). before ++ l) text ∙ sym (texts_more code_text (numbered seed) k));
      drawn = d.stepped_on;
    }

pub returns : goal.returns
returns c =
    let seed = c.args.draws.now in
    let same : c.loop.counter ≡ c.args.size = omega arith in
    record {
      written = c.loop.invariant.written ∙ ap (λ (n : ℕ). c.args.out.now.items ++ all_texts code_text (map (numbered seed) (range_with_len 0 n))) same;
      drawn = c.loop.invariant.drawn ∙ ap (λ (n : ℕ). state seed (3 * n)) same;
    }
