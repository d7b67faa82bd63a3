use Rattle.std.proofs.Common.{◌≡◌, true, false, sym, ap, subst, Option, option_map}
use Rattle.ctw_ops.specs.declared.types.Label.{Label}
use Rattle.ctw_ops.specs.Types.{VariableType}
use Rattle.ctw_ops.specs.Tree.{Constant}
use Rattle.ctw_module.specs.Trees.{tree}
use Rattle.ctw_form.specs.Shown.{constant_of}
use Rattle.ctw_modcheck.proofs.Counts.{GlobalAt, global_at}
use Rattle.ctw_modcheck.proofs.Items.{is_initial, global_missing, global_wrong, global_right, global_begins}
use Rattle.ctw_modcheck.proofs.globals.check_global.Goals as goal

pub unreachable-requires : goal.unreachable-requires
unreachable-requires c =
    let m = tree c.args.m.now in
    let h = global_at m c.args.imported c.args.i c.global-ty.result.ty (option_map constant_of c.global-ty.result.init) c.requires.count c.requires.there c.global-ty.ensures.typed c.global-ty.ensures.init in
    absurd (global_begins m c.args.i c.global-ty.result.ty (subst (λ (o : Option (Constant Label)). GlobalAt m c.args.i c.global-ty.result.ty o) (ap (option_map constant_of) c.in_default.is) h))

pub returns-then-not-names_global : goal.returns-then-not-names_global
returns-then-not-names_global c =
    let m = tree c.args.m.now in
    let h = global_at m c.args.imported c.args.i c.global-ty.result.ty (option_map constant_of c.global-ty.result.init) c.requires.count c.requires.there c.global-ty.ensures.typed c.global-ty.ensures.init in
    let g = subst (λ (o : Option (Constant Label)). GlobalAt m c.args.i c.global-ty.result.ty o) (ap (option_map constant_of) c.in-Some.is) h in
    global_missing m c.args.i c.global-ty.result.ty (constant_of c.in-Some.init) g (sym c.if-not-names_global.ensures)

pub returns-then-not-is_initial : goal.returns-then-not-is_initial
returns-then-not-is_initial c =
    let m = tree c.args.m.now in
    let h = global_at m c.args.imported c.args.i c.global-ty.result.ty (option_map constant_of c.global-ty.result.init) c.requires.count c.requires.there c.global-ty.ensures.typed c.global-ty.ensures.init in
    let g = subst (λ (o : Option (Constant Label)). GlobalAt m c.args.i c.global-ty.result.ty o) (ap (option_map constant_of) c.in-Some.is) h in
    let e = subst (λ (x : VariableType Label). is_initial m x (constant_of c.in-Some.init) ≡ false) c.ty.view_is (sym c.if-not-is_initial.ensures) in
    global_wrong m c.args.i c.global-ty.result.ty (constant_of c.in-Some.init) g (sym c.if-not-names_global.ensures) e

pub returns : goal.returns
returns c =
    let m = tree c.args.m.now in
    let h = global_at m c.args.imported c.args.i c.global-ty.result.ty (option_map constant_of c.global-ty.result.init) c.requires.count c.requires.there c.global-ty.ensures.typed c.global-ty.ensures.init in
    let g = subst (λ (o : Option (Constant Label)). GlobalAt m c.args.i c.global-ty.result.ty o) (ap (option_map constant_of) c.in-Some.is) h in
    let e = subst (λ (x : VariableType Label). is_initial m x (constant_of c.in-Some.init) ≡ true) c.ty.view_is (sym c.if-not-is_initial.ensures) in
    global_right m c.args.i c.global-ty.result.ty (constant_of c.in-Some.init) g (sym c.if-not-names_global.ensures) e
