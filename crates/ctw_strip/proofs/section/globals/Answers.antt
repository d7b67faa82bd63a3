use Rattle.std.proofs.Common.{◌≡◌, ◌≤◌, ◌-◌, length, option_map, arith}
use Rattle.ctw_ops.specs.Tree.{Global}
use Rattle.ctw_ops.specs.declared.types.Label.{Label}
use Rattle.ctw_ops.specs.Valid.{IsFitting}
use Rattle.ctw_ops.specs.Erasure.{erase_global}
use Rattle.ctw_form.specs.Shown.{constant_of}
use Rattle.ctw_module.specs.Trees.{tree}
use Rattle.ctw_write.specs.Canon.{global_text}
use Rattle.ctw_write.proofs.Listed.{listed_next, one_of_all}
use Rattle.ctw_write.proofs.Shown.{global_at, defined_globals}
use Rattle.ctw_strip.proofs.Mapped.{mapped_end}
use Rattle.ctw_strip.proofs.section.globals.Goals as goal

pub put_defined-requires : goal.put_defined-requires
put_defined-requires c =
    let m = tree c.args.m.now in
    let g = global_at m c.imported_count-imported.result c.loop-i.i c.global.result.ty (option_map constant_of c.global.result.init) c.imported_count-imported.ensures c.global.ensures.typed c.global.ensures.init in
    (g.global, g.typed, g.same, one_of_all (λ (x : Global Label). IsFitting x.init) m.globals c.loop-i.i g.global c.requires g.there)

pub loop-i-preserved : goal.loop-i-preserved
loop-i-preserved c =
    let m = tree c.args.m.now in
    let g = global_at m c.imported_count-imported.result c.loop-i.i c.global.result.ty (option_map constant_of c.global.result.init) c.imported_count-imported.ensures c.global.ensures.typed c.global.ensures.init in
    listed_next (λ (x : Global Label). global_text (erase_global x)) m.globals c.loop-i.i g.global c.put_u32.new.out.items c.loop-i.out.items c.put_defined.new.out.items g.there (c.in_ok-put_defined.ensures g.global g.typed g.same) c.loop-i.invariant

pub returns : goal.returns
returns c =
    let m = tree c.args.m.now in
    let n = c.global_count.result - c.imported_count-imported.result in
    let size : n ≡ length m.globals = omega (arith, c.global_count.ensures, defined_globals m c.imported_count-imported.result c.imported_count-imported.ensures) in
    let past : n ≤ c.loop-i.i = omega (arith, c.loop-i-test.false) in
    mapped_end global_text erase_global m.globals c.loop-i.i n c.args.out.now.items c.put_u32.new.out.items c.loop-i.out.items size past c.in_ok-put_u32.ensures.put c.loop-i.invariant
