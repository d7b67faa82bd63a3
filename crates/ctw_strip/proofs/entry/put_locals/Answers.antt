use Rattle.std.proofs.Common.{◌≡◌, ◌+◌, ◌≤◌, ◌++◌, ℕ, List, Some, map, slice_get, length, sym, ap, ◌∙◌, append_assoc, arith}
use Rattle.std.proofs.lemmas.List.{length-map}
use Rattle.ctw_ops.specs.Types.{erase_value_type}
use Rattle.ctw_ops.specs.Erasure.{erase_function, erase_module}
use Rattle.ctw_leb.specs.Spelling.{u32_text}
use Rattle.ctw_module.specs.Trees.{tree}
use Rattle.ctw_module.specs.Lookup.{locals_named}
use Rattle.ctw_write.specs.Canon.{all_texts, groups_of, group_text}
use Rattle.ctw_write.proofs.Shown.{some_is}
use Rattle.ctw_write.proofs.Walked.{extended}
use Rattle.ctw_write.proofs.Running.{local_at, locals_count, runs_begin, runs_next, runs_end}
use Rattle.ctw_strip.proofs.Mapped.{mapped_at}
use Rattle.ctw_strip.proofs.Erasing.{named_erased}
use Rattle.ctw_strip.proofs.entry.put_locals.Goals as goal

pub loop-i-init : goal.loop-i-init
loop-i-init c =
    let m = tree c.args.m.now in
    let function = c.requires.named.0 in
    let named = c.requires.named.1 in
    let first = c.param_count-first.result in
    let place : first ≡ first + 0 = omega arith in
    let local = local_at m c.args.f first 0 function c.local.result named (c.param_count-first.ensures function named) (ap (slice_get (locals_named m c.args.f)) (sym place) ∙ c.local.ensures) in
    let erased : slice_get (map erase_value_type function.locals) 0 ≡ Some c.erase_type.result = mapped_at erase_value_type function.locals 0 c.local.result local ∙ ap Some (sym c.erase_type.ensures) in
    runs_begin (erase_module m) c.args.f (erase_function m.types function) c.new-texts.result.items c.erase_type.result (named_erased m c.args.f function named) c.new-texts.ensures.items erased

pub loop-i-preserved : goal.loop-i-preserved
loop-i-preserved c =
    let m = tree c.args.m.now in
    let h = c.loop-i.invariant in
    let function = c.requires.named.0 in
    let named = c.requires.named.1 in
    let same : erase_function m.types function ≡ h.function = some_is (erase_function m.types function) h.function (sym (named_erased m c.args.f function named) ∙ h.named) in
    let t = c.local-in-loop-i.result in
    let local = local_at m c.args.f c.param_count-first.result c.loop-i.i function t named (c.param_count-first.ensures function named) c.local-in-loop-i.ensures in
    let erased : slice_get (map erase_value_type function.locals) c.loop-i.i ≡ Some c.erase_type-in-loop-i.result =
    mapped_at erase_value_type function.locals c.loop-i.i t local ∙ ap Some (sym c.erase_type-in-loop-i.ensures) in
    runs_next (erase_module m) c.args.f c.loop-i.i (erase_function m.types function) c.loop-i.texts.items c.with_local.new.out.items c.loop-i.run c.in_ok-run.run' c.erase_type-in-loop-i.result erased h same c.in_ok-run.ensures.ahead c.in_ok-run.ensures.some c.in_ok-run.ensures.room

pub returns : goal.returns
returns c function e =
    let m = tree c.args.m.now in
    let h = c.loop-i.invariant in
    let erased = erase_function m.types function in
    let same : erased ≡ h.function = some_is erased h.function (sym (named_erased m c.args.f function e) ∙ h.named) in
    let size = locals_count m c.args.f c.param_count-first.result function e (c.param_count-first.ensures function e) in
    let past : length erased.locals ≤ c.loop-i.i = omega (arith, size, length-map function.locals erase_value_type, c.local_count.ensures, c.loop-i-test.false) in
    let r = runs_end (erase_module m) c.args.f c.loop-i.i erased c.loop-i.texts.items c.put_group.new.out.items c.loop-i.run past h same c.in_ok-put_group.ensures in
    let groups = groups_of erased.locals in
    let texts : c.deref.result.now ≡ all_texts group_text groups = c.deref.ensures.value ∙ r.texts in
    let count = c.in_ok-put_u32.ensures.put ∙ ap (λ (n : ℕ). c.args.out.now.items ++ u32_text n) r.counted in
    let whole = ap (λ (l : List ℕ). l ++ c.deref.result.now) count ∙ ap (λ (l : List ℕ). (c.args.out.now.items ++ u32_text (length groups)) ++ l) texts ∙ append_assoc c.args.out.now.items (u32_text (length groups)) (all_texts group_text groups) in
    extended c.extend_from_slice.result c.extend_from_slice.new.self.items c.put_u32-2.new.out.items c.deref.result.now _ c.extend_from_slice.ensures.items whole
