use Rattle.std.specs.Prelude.{Some, option_map}
use Rattle.ctw_form.specs.Shown.{constant_of}
use Rattle.std.proofs.Common.{◌≡◌, ◌+◌, length, map, sym, ◌∙◌, ap, arith, length-append}
use Rattle.std.proofs.lemmas.List.{length-map}
use Rattle.ctw_ops.specs.declared.types.Label.{Label}
use Rattle.ctw_ops.specs.Tree.{Global, imported_globals, global_types}
use Rattle.ctw_module.specs.Trees.{view_module}
use Rattle.ctw_labels.specs.SitedModule.{first_defined_global}
use Rattle.ctw_links.proofs.GlobalNotes.{init_begins, init_on, init_done, begins, begins_there}
use Rattle.ctw_links.proofs.globals.tell_inits.Goals as goal

pub globals-init : goal.globals-init
globals-init c = init_begins (view_module c.args.m.now) (first_defined_global (view_module c.args.m.now)) 0 c.args.told.now.items

pub globals-preserved : goal.globals-preserved
globals-preserved c =
    let m = view_module c.args.m.now in
    let b = begins m c.imported_count-imported.result c.globals.i c.imported_count-imported.ensures in
    init_on m (first_defined_global m) c.globals.i _ _ c.globals.told.items _ _ (omega (arith, c.requires.globals, c.imported_count-imported.ensures)) (b _ (c.global-init.ensures.init ∙ ap (λ z. Some (option_map constant_of z)) c.in-Some.is)) c.in_ok-tell_init.ensures c.globals.invariant

pub returns : goal.returns
returns c =
    let m = view_module c.args.m.now in
    let a = length-append (imported_globals m.imports) (map (λ g. g.type) m.globals) in
    let l = length-map m.globals (λ (g : Global Label). g.type) in
    init_done m (first_defined_global m) c.globals.i c.globals.told.items _ (omega (arith, a, l, c.globals-test.false, c.global_count.ensures, c.imported_count-imported.ensures)) c.globals.invariant

pub returns-in-None : goal.returns-in-None
returns-in-None c =
    let m = view_module c.args.m.now in
    absurd (begins_there m c.imported_count-imported.result c.globals.i c.imported_count-imported.ensures (c.global-init.ensures.init ∙ ap (λ z. Some (option_map constant_of z)) c.in-None.is))
