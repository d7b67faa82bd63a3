use Rattle.std.proofs.Common.{◌≡◌, ◌+◌, ◌<◌, ◌≤◌, ◌++◌, ℕ, List, Some, slice_get, length, refl, sym, ap, ◌∙◌, append_assoc, arith}
use Rattle.ctw_ops.specs.Types.{value_type}
use Rattle.ctw_leb.specs.Spelling.{u32_text}
use Rattle.ctw_labels.specs.declared.tag.Tag.TheVariants.{At}
use Rattle.ctw_module.specs.Lookup.{locals_named}
use Rattle.ctw_write.specs.Canon.{all_texts, groups_of, group_text}
use Rattle.ctw_write.proofs.Listed.{item_there}
use Rattle.ctw_write.proofs.Shown.{some_is}
use Rattle.ctw_write.proofs.Walked.{extended}
use Rattle.ctw_write.proofs.Running.{locals_count, runs_begin, runs_next, runs_end}
use Rattle.ctw_place.specs.Settings.{module_of, labels_of}
use Rattle.ctw_place.proofs.LocalLaws.{with_locals, alone, under, under_is, under_length, under_at}
use Rattle.ctw_place.proofs.entry.put_locals.Goals as goal

pub local_under-requires : goal.local_under-requires
local_under-requires c =
    let n = locals_count (module_of c.args.setting.now) c.args.f c.args.first c.requires.named.0 c.requires.named.1 c.requires.named.2 in
    omega (arith, n, c.requires.named.3, c.if-count-eq0.false)

pub loop-i-init : goal.loop-i-init
loop-i-init c =
    let m = module_of c.args.setting.now in
    let n = locals_count (module_of c.args.setting.now) c.args.f c.args.first c.requires.named.0 c.requires.named.1 c.requires.named.2 in
    let lt : c.args.first < length (locals_named (module_of c.args.setting.now) c.args.f) = omega (arith, n, c.requires.named.3, c.if-count-eq0.false) in
    let t = item_there (locals_named (module_of c.args.setting.now) c.args.f) c.args.first lt in
    let z : c.args.first + 0 ≡ c.args.first = omega arith in
    let y : c.args.n + 0 ≡ c.args.n = omega arith in
    let at = under_at (module_of c.args.setting.now) (labels_of c.args.setting.now) c.args.f c.args.n c.requires.named.0 c.args.first 0 t.0 c.requires.named.1 c.requires.named.2 (ap (slice_get (locals_named (module_of c.args.setting.now) c.args.f)) z ∙ t.1) in
    let is : slice_get (under (module_of c.args.setting.now) (labels_of c.args.setting.now) c.args.f c.args.n) 0 ≡ Some c.local_under.result =
    at ∙ ap (λ k. Some (value_type t.0.width (labels_of c.args.setting.now (At k)))) y ∙ ap Some (sym (c.local_under.ensures t.0 t.1)) in
    runs_begin (alone (module_of c.args.setting.now) (under (module_of c.args.setting.now) (labels_of c.args.setting.now) c.args.f c.args.n)) 0 (with_locals (under (module_of c.args.setting.now) (labels_of c.args.setting.now) c.args.f c.args.n)) c.new-texts.result.items c.local_under.result refl c.new-texts.ensures.items is

pub overflow_add-first : goal.overflow_add-first
overflow_add-first c = omega (arith, c.requires.few, c.loop-i-test.true)

pub local_under-ty-requires : goal.local_under-ty-requires
local_under-ty-requires c =
    let n = locals_count (module_of c.args.setting.now) c.args.f c.args.first c.requires.named.0 c.requires.named.1 c.requires.named.2 in
    omega (arith, n, c.requires.named.3, c.loop-i-test.true)

pub loop-i-preserved : goal.loop-i-preserved
loop-i-preserved c =
    let n = locals_count (module_of c.args.setting.now) c.args.f c.args.first c.requires.named.0 c.requires.named.1 c.requires.named.2 in
    let lt : c.args.first + c.loop-i.i < length (locals_named (module_of c.args.setting.now) c.args.f) = omega (arith, n, c.requires.named.3, c.loop-i-test.true) in
    let t = item_there (locals_named (module_of c.args.setting.now) c.args.f) (c.args.first + c.loop-i.i) lt in
    let at = under_at (module_of c.args.setting.now) (labels_of c.args.setting.now) c.args.f c.args.n c.requires.named.0 c.args.first c.loop-i.i t.0 c.requires.named.1 c.requires.named.2 t.1 in
    let u = under (module_of c.args.setting.now) (labels_of c.args.setting.now) c.args.f c.args.n in
    let is : slice_get (under (module_of c.args.setting.now) (labels_of c.args.setting.now) c.args.f c.args.n) c.loop-i.i ≡ Some c.local_under-ty.result = at ∙ ap Some (sym (c.local_under-ty.ensures t.0 t.1)) in
    let same : with_locals (under (module_of c.args.setting.now) (labels_of c.args.setting.now) c.args.f c.args.n) ≡ c.loop-i.invariant.function = some_is (with_locals (under (module_of c.args.setting.now) (labels_of c.args.setting.now) c.args.f c.args.n)) c.loop-i.invariant.function c.loop-i.invariant.named in
    runs_next (alone (module_of c.args.setting.now) (under (module_of c.args.setting.now) (labels_of c.args.setting.now) c.args.f c.args.n)) 0 c.loop-i.i (with_locals (under (module_of c.args.setting.now) (labels_of c.args.setting.now) c.args.f c.args.n)) c.loop-i.texts.items c.with_local.new.out.items c.loop-i.run c.in_ok-run.run' c.local_under-ty.result is c.loop-i.invariant same
    c.in_ok-run.ensures.ahead c.in_ok-run.ensures.some c.in_ok-run.ensures.room

pub returns : goal.returns
returns c function e =
    let u = under (module_of c.args.setting.now) (labels_of c.args.setting.now) c.args.f c.args.n in
    let f = with_locals (under (module_of c.args.setting.now) (labels_of c.args.setting.now) c.args.f c.args.n) in
    let same : with_locals (under (module_of c.args.setting.now) (labels_of c.args.setting.now) c.args.f c.args.n) ≡ c.loop-i.invariant.function = some_is (with_locals (under (module_of c.args.setting.now) (labels_of c.args.setting.now) c.args.f c.args.n)) c.loop-i.invariant.function c.loop-i.invariant.named in
    let past : length (under (module_of c.args.setting.now) (labels_of c.args.setting.now) c.args.f c.args.n) ≤ c.loop-i.i = omega (arith, under_length (module_of c.args.setting.now) (labels_of c.args.setting.now) c.args.f c.args.n c.requires.named.0 c.requires.named.1, c.requires.named.3, c.loop-i-test.false) in
    let r = runs_end (alone (module_of c.args.setting.now) (under (module_of c.args.setting.now) (labels_of c.args.setting.now) c.args.f c.args.n)) 0 c.loop-i.i (with_locals (under (module_of c.args.setting.now) (labels_of c.args.setting.now) c.args.f c.args.n)) c.loop-i.texts.items c.put_group.new.out.items c.loop-i.run past c.loop-i.invariant same c.in_ok-put_group.ensures in
    let groups = groups_of (under (module_of c.args.setting.now) (labels_of c.args.setting.now) c.args.f c.args.n) in
    let all = ap groups_of (under_is (module_of c.args.setting.now) (labels_of c.args.setting.now) c.args.f c.args.n function e) in
    let texts : c.deref.result.now ≡ all_texts group_text groups = c.deref.ensures.value ∙ r.texts in
    let count = c.in_ok-put_u32.ensures.put ∙ ap (λ (n : ℕ). c.args.out.now.items ++ u32_text n) r.counted in
    let whole = ap (λ (l : List ℕ). l ++ c.deref.result.now) count ∙ ap (λ (l : List ℕ). (c.args.out.now.items ++ u32_text (length groups)) ++ l) texts ∙ append_assoc c.args.out.now.items (u32_text (length groups)) (all_texts group_text groups)
    ∙ ap (λ z. c.args.out.now.items ++ (u32_text (length z) ++ all_texts group_text z)) all in
    extended c.extend_from_slice.result c.extend_from_slice.new.self.items c.put_u32-2.new.out.items c.deref.result.now _ c.extend_from_slice.ensures.items whole
