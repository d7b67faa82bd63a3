use Rattle.std.proofs.Common.{◌≡◌, ◌≤◌, ◌++◌, ℕ, List, length, refl, sym, ap, ◌∙◌, append_assoc, arith}
use Rattle.ctw_leb.specs.Spelling.{u32_text}
use Rattle.ctw_module.specs.Trees.{tree}
use Rattle.ctw_write.specs.Canon.{all_texts, groups_of, group_text}
use Rattle.ctw_write.proofs.Shown.{some_is}
use Rattle.ctw_write.proofs.Walked.{extended}
use Rattle.ctw_write.proofs.Running.{local_at, locals_count, runs_next, runs_end}
use Rattle.ctw_write.proofs.entry.put_locals.Goals as goal

pub loop-i-preserved : goal.loop-i-preserved
loop-i-preserved c =
    let m = tree c.args.m.now in
    let h = c.loop-i.invariant in
    let t = c.local-in-loop-i.result in
    let local = local_at m c.args.f c.param_count-first.result c.loop-i.i h.function t h.named (c.param_count-first.ensures h.function h.named) c.local-in-loop-i.ensures in
    runs_next m c.args.f c.loop-i.i h.function c.loop-i.texts.items c.with_local.new.out.items c.loop-i.run c.in_ok-run.run' t local h refl c.in_ok-run.ensures.ahead c.in_ok-run.ensures.some c.in_ok-run.ensures.room

pub returns : goal.returns
returns c function e =
    let m = tree c.args.m.now in
    let h = c.loop-i.invariant in
    let same : function ≡ h.function = some_is function h.function (sym e ∙ h.named) in
    let size = locals_count m c.args.f c.param_count-first.result function e (c.param_count-first.ensures function e) in
    let past : length function.locals ≤ c.loop-i.i = omega (arith, size, c.local_count.ensures, c.loop-i-test.false) in
    let r = runs_end m c.args.f c.loop-i.i function c.loop-i.texts.items c.put_group.new.out.items c.loop-i.run past h same c.in_ok-put_group.ensures in
    let groups = groups_of function.locals in
    let texts : c.deref.result.now ≡ all_texts group_text groups = c.deref.ensures.value ∙ r.texts in
    let count = c.in_ok-put_u32.ensures.put ∙ ap (λ (n : ℕ). c.args.out.now.items ++ u32_text n) r.counted in
    let whole = ap (λ (l : List ℕ). l ++ c.deref.result.now) count ∙ ap (λ (l : List ℕ). (c.args.out.now.items ++ u32_text (length groups)) ++ l) texts ∙ append_assoc c.args.out.now.items (u32_text (length groups)) (all_texts group_text groups) in
    extended c.extend_from_slice.result c.extend_from_slice.new.self.items c.put_u32-2.new.out.items c.deref.result.now _ c.extend_from_slice.ensures.items whole
