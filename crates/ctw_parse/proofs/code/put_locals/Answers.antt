use Rattle.std.proofs.Common.{◌≡◌, ◌≤◌, ◌++◌, ℕ, List, length, sym, ap, ◌∙◌, append_assoc, arith, Some}
use Rattle.std.proofs.lemmas.Option.{slice_get-get_or}
use Rattle.ctw_ops.specs.ValueType.{ValueType}
use Rattle.ctw_ops.specs.declared.types.Label.{Label}
use Rattle.ctw_leb.specs.Spelling.{u32_text}
use Rattle.ctw_write.specs.Canon.{all_texts, groups_of, group_text}
use Rattle.ctw_write.proofs.Walked.{extended}
use Rattle.ctw_parse.proofs.Grouping.{runs_next, runs_end}
use Rattle.ctw_parse.proofs.code.put_locals.Goals as goal

pub loop-i-preserved : goal.loop-i-preserved
loop-i-preserved c =
    let t = c.index-locals-i.result in
    let there = slice_get-get_or c.args.locals.now c.loop-i.i t (omega arith) ∙ ap (λ (x : ValueType Label). Some x) (sym c.index-locals-i.is) in
    runs_next c.args.locals.now c.loop-i.i c.loop-i.texts.items c.with_local.new.out.items c.loop-i.run c.in_ok-run.run' t there c.loop-i.invariant c.in_ok-run.ensures.ahead c.in_ok-run.ensures.some c.in_ok-run.ensures.room

pub returns : goal.returns
returns c =
    let locals = c.args.locals.now in
    let past : length locals ≤ c.loop-i.i = omega (arith, c.loop-i-test.false) in
    let r = runs_end locals c.loop-i.i c.loop-i.texts.items c.put_group.new.out.items c.loop-i.run past c.loop-i.invariant c.in_ok-put_group.ensures in
    let groups = groups_of locals in
    let texts : c.deref.result.now ≡ all_texts group_text groups = c.deref.ensures.value ∙ r.texts in
    let count = c.in_ok-put_u32.ensures.put ∙ ap (λ (n : ℕ). c.args.out.now.items ++ u32_text n) r.counted in
    let whole = ap (λ (l : List ℕ). l ++ c.deref.result.now) count ∙ ap (λ (l : List ℕ). (c.args.out.now.items ++ u32_text (length groups)) ++ l) texts ∙ append_assoc c.args.out.now.items (u32_text (length groups)) (all_texts group_text groups) in
    extended c.extend_from_slice.result c.extend_from_slice.new.self.items c.put_u32-2.new.out.items c.deref.result.now _ c.extend_from_slice.ensures.items whole
