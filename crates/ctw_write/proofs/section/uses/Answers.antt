use Rattle.std.proofs.Common.{◌++◌, ℕ, sym, ap, ◌∙◌}
use Rattle.ctw_ops.specs.Tree.{Function}
use Rattle.ctw_ops.specs.declared.types.Label.{Label}
use Rattle.ctw_leb.specs.Spelling.{u32_text}
use Rattle.ctw_module.specs.Trees.{tree}
use Rattle.ctw_write.proofs.Listed.{listed_next}
use Rattle.ctw_write.proofs.Shown.{use_at}
use Rattle.ctw_write.proofs.section.uses.Goals as goal

pub loop-i-preserved : goal.loop-i-preserved
loop-i-preserved c =
    let m = tree c.args.m.now in
    let u = use_at m c.imported_count-imported.result c.loop-i.i c.type_of_func.result c.imported_count-imported.ensures c.type_of_func.ensures in
    let put = c.in_ok-put_u32-2.ensures.put ∙ ap (λ (n : ℕ). c.loop-i.out.items ++ u32_text n) (sym u.same) in
    listed_next (λ (f : Function Label). u32_text f.type) m.functions c.loop-i.i u.function c.put_u32.new.out.items c.loop-i.out.items c.put_u32-in-loop-i.new.out.items u.there put c.loop-i.invariant
