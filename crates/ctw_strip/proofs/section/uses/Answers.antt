use Rattle.std.proofs.Common.{◌≡◌, ◌≤◌, ◌-◌, ◌++◌, ℕ, length, sym, ap, ◌∙◌, arith}
use Rattle.ctw_ops.specs.Tree.{Function}
use Rattle.ctw_ops.specs.declared.types.Label.{Label}
use Rattle.ctw_ops.specs.Erasure.{base_of, erase_function}
use Rattle.ctw_leb.specs.Spelling.{u32_text}
use Rattle.ctw_module.specs.Trees.{tree}
use Rattle.ctw_write.proofs.Listed.{listed_next}
use Rattle.ctw_write.proofs.Shown.{use_at, defined_count}
use Rattle.ctw_strip.proofs.Mapped.{mapped_end}
use Rattle.ctw_strip.proofs.section.uses.Goals as goal

pub loop-i-preserved : goal.loop-i-preserved
loop-i-preserved c =
    let m = tree c.args.m.now in
    let u = use_at m c.imported_count-imported.result c.loop-i.i c.type_of_func.result c.imported_count-imported.ensures c.type_of_func.ensures in
    let put = c.in_ok-put_u32-2.ensures.put ∙ ap (λ (n : ℕ). c.loop-i.out.items ++ u32_text n) (c.base_index.ensures ∙ ap (base_of m.types) (sym u.same)) in
    listed_next (λ (f : Function Label). u32_text (base_of m.types f.type)) m.functions c.loop-i.i u.function c.put_u32.new.out.items c.loop-i.out.items c.put_u32-in-loop-i.new.out.items u.there put c.loop-i.invariant

pub returns : goal.returns
returns c =
    let m = tree c.args.m.now in
    let n = c.func_count.result - c.imported_count-imported.result in
    let size : n ≡ length m.functions = omega (arith, c.func_count.ensures, defined_count m c.imported_count-imported.result c.imported_count-imported.ensures) in
    let past : n ≤ c.loop-i.i = omega (arith, c.loop-i-test.false) in
    mapped_end (λ (f : Function Label). u32_text f.type) (erase_function m.types) m.functions c.loop-i.i n c.args.out.now.items c.put_u32.new.out.items c.loop-i.out.items size past c.in_ok-put_u32.ensures.put c.loop-i.invariant
