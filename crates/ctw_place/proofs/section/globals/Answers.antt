use Rattle.std.proofs.Common.{◌≡◌, ◌≤◌, ◌-◌, ◌+◌, Some, length, slice_get, option_map, sym, ap, ◌∙◌, arith}
use Rattle.ctw_ops.specs.Tree.{Global}
use Rattle.ctw_ops.specs.declared.types.Label.{Label}
use Rattle.ctw_ops.specs.Valid.{IsFitting}
use Rattle.ctw_form.specs.Shown.{constant_of}
use Rattle.ctw_labels.specs.Fits.{label_at}
use Rattle.ctw_labels.specs.SitedModule.{first_defined_global}
use Rattle.ctw_write.specs.Canon.{global_text}
use Rattle.ctw_write.proofs.Listed.{listed_next, one_of_all}
use Rattle.ctw_write.proofs.Shown.{global_at, defined_globals}
use Rattle.ctw_place.specs.Bodies.{placed_of}
use Rattle.ctw_place.specs.Items.{global_under}
use Rattle.ctw_place.specs.Settings.{module_of, labels_of}
use Rattle.ctw_place.proofs.SectionLaws.{vector_end, global_placed, globals_length}
use Rattle.ctw_place.proofs.section.globals.Goals as goal

pub put_defined-requires : goal.put_defined-requires
put_defined-requires c =
    let g = global_at (module_of c.args.setting.now) c.imported_count-imported.result c.loop-i.i c.global.result.ty (option_map constant_of c.global.result.init) c.imported_count-imported.ensures c.global.ensures.typed c.global.ensures.init in
    (g.global, g.typed, g.same, one_of_all (λ (x : Global Label). IsFitting x.init) (module_of c.args.setting.now).globals c.loop-i.i g.global c.requires.fits g.there)

pub loop-i-preserved : goal.loop-i-preserved
loop-i-preserved c =
    let g = global_at (module_of c.args.setting.now) c.imported_count-imported.result c.loop-i.i c.global.result.ty (option_map constant_of c.global.result.init) c.imported_count-imported.ensures c.global.ensures.typed c.global.ensures.init in
    let k : first_defined_global (module_of c.args.setting.now) + c.loop-i.i ≡ c.args.setting.now.globals + (c.imported_count-imported.result + c.loop-i.i) = omega (arith, c.args.setting.now.globals_is, c.imported_count-imported.ensures) in
    let label : label_at c.args.setting.now.labels (first_defined_global (module_of c.args.setting.now) + c.loop-i.i) ≡ c.at-label.result = ap (label_at c.args.setting.now.labels) k ∙ sym c.at-label.ensures in
    let there : slice_get (placed_of c.args.setting.now).globals c.loop-i.i ≡ Some (global_under c.at-label.result g.global) =
    global_placed (labels_of c.args.setting.now) (first_defined_global (module_of c.args.setting.now)) (module_of c.args.setting.now).globals c.loop-i.i g.global g.there ∙ ap (λ l. Some (global_under l g.global)) label in
    listed_next global_text (placed_of c.args.setting.now).globals c.loop-i.i (global_under c.at-label.result g.global) c.put_u32.new.out.items c.loop-i.out.items c.put_defined.new.out.items there (c.in_ok-put_defined.ensures g.global g.typed g.same) c.loop-i.invariant

pub returns : goal.returns
returns c =
    let d = defined_globals (module_of c.args.setting.now) c.imported_count-imported.result c.imported_count-imported.ensures in
    let l = globals_length (labels_of c.args.setting.now) (first_defined_global (module_of c.args.setting.now)) (module_of c.args.setting.now).globals in
    let size : c.global_count.result - c.imported_count-imported.result ≡ length (placed_of c.args.setting.now).globals = omega (arith, c.global_count.ensures, d, l) in
    let past : c.global_count.result - c.imported_count-imported.result ≤ c.loop-i.i = omega (arith, c.loop-i-test.false) in
    vector_end global_text (placed_of c.args.setting.now).globals c.loop-i.i (c.global_count.result - c.imported_count-imported.result) c.args.out.now.items c.put_u32.new.out.items c.loop-i.out.items size past c.in_ok-put_u32.ensures.put c.loop-i.invariant
