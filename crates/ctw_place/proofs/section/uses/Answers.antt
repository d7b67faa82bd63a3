use Rattle.std.proofs.Common.{◌≡◌, ◌<◌, ◌≤◌, ◌-◌, ◌+◌, ◌++◌, ℕ, length, ap, ◌∙◌, arith}
use Rattle.std.specs.Prelude.{get_or}
use Rattle.ctw_ops.specs.Tree.{Function}
use Rattle.ctw_ops.specs.declared.types.Label.{Label}
use Rattle.ctw_leb.specs.Spelling.{u32_text}
use Rattle.ctw_write.proofs.Listed.{item_there, listed_next}
use Rattle.ctw_write.proofs.Shown.{defined_count}
use Rattle.ctw_place.specs.Bodies.{placed_of}
use Rattle.ctw_place.specs.Settings.{module_of}
use Rattle.ctw_place.proofs.SectionLaws.{vector_end, defined_at, functions_length}
use Rattle.ctw_place.proofs.section.uses.Goals as goal

pub loop-i-preserved : goal.loop-i-preserved
loop-i-preserved c =
    let n = defined_count (module_of c.args.setting.now) c.imported_count-imported.result c.imported_count-imported.ensures in
    let l = functions_length c.args.setting.now in
    let lt : c.loop-i.i < length (placed_of c.args.setting.now).functions = omega (arith, n, l, c.func_count.ensures, c.loop-i-test.true) in
    let t = item_there (placed_of c.args.setting.now).functions c.loop-i.i lt in
    let is : c.type_at.result ≡ t.0.type = c.type_at.ensures ∙ ap (λ z. get_or z (c.imported_count-imported.result + c.loop-i.i) 0) c.deref.ensures.value ∙ defined_at c.args.setting.now c.args.made.now.functions.types.items c.imported_count-imported.result c.loop-i.i t.0 c.requires.types c.imported_count-imported.ensures t.1 in
    listed_next (λ (f : Function Label). u32_text f.type) (placed_of c.args.setting.now).functions c.loop-i.i t.0 c.put_u32.new.out.items c.loop-i.out.items c.put_u32-in-loop-i.new.out.items t.1
    (c.in_ok-put_u32-2.ensures.put ∙ ap (λ (n : ℕ). c.loop-i.out.items ++ u32_text n) is) c.loop-i.invariant

pub returns : goal.returns
returns c =
    let d = defined_count (module_of c.args.setting.now) c.imported_count-imported.result c.imported_count-imported.ensures in
    let l = functions_length c.args.setting.now in
    let n = c.func_count.result - c.imported_count-imported.result in
    let size : c.func_count.result - c.imported_count-imported.result ≡ length (placed_of c.args.setting.now).functions = omega (arith, c.func_count.ensures, d, l) in
    let past : c.func_count.result - c.imported_count-imported.result ≤ c.loop-i.i = omega (arith, c.loop-i-test.false) in
    vector_end (λ (f : Function Label). u32_text f.type) (placed_of c.args.setting.now).functions c.loop-i.i (c.func_count.result - c.imported_count-imported.result) c.args.out.now.items c.put_u32.new.out.items c.loop-i.out.items size past c.in_ok-put_u32.ensures.put c.loop-i.invariant
