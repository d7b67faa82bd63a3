use Rattle.std.proofs.Common.{option_map}
use Rattle.std.specs.String.{string_bytes}
use Rattle.ctw_ops.specs.Tree.{Global}
use Rattle.ctw_ops.specs.Valid.{IsFitting}
use Rattle.ctw_ops.specs.declared.types.Label.{Label}
use Rattle.ctw_module.specs.Trees.{tree}
use Rattle.ctw_form.specs.Shown.{constant_of}
use Rattle.ctw_print.specs.Texts.{global_line}
use Rattle.ctw_print.proofs.Listed.{listed_next, one_of_all}
use Rattle.ctw_print.proofs.Shown.{global_at}
use Rattle.ctw_print.proofs.field.put_globals.Goals as goal

pub put_global-requires : goal.put_global-requires
put_global-requires c =
    let m = tree c.args.m.now in
    let g = global_at m c.imported_count-imported.result c.loop-i.i c.global.result.ty (option_map constant_of c.global.result.init) c.imported_count-imported.ensures c.global.ensures.typed c.global.ensures.init in
    (g.global, g.typed, g.same, one_of_all (λ (x : Global Label). IsFitting x.init) m.globals c.loop-i.i g.global c.requires g.there)

pub loop-i-preserved : goal.loop-i-preserved
loop-i-preserved c =
    let m = tree c.args.m.now in
    let g = global_at m c.imported_count-imported.result c.loop-i.i c.global.result.ty (option_map constant_of c.global.result.init) c.imported_count-imported.ensures c.global.ensures.typed c.global.ensures.init in
    listed_next global_line m.globals c.loop-i.i g.global (string_bytes c.args.out.now) (string_bytes c.loop-i.out) (string_bytes c.put_global.new.out) g.there (c.in_ok-put_global.ensures g.global g.typed g.same) c.loop-i.invariant
