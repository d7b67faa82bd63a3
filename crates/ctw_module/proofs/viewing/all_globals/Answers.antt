use Rattle.std.proofs.Common.{◌∷◌, [], None, take, ◌+◌, ap, sym, subst, map, ◌∙◌}
use Rattle.ctw_ops.specs.declared.types.Label.{Label}
use Rattle.ctw_ops.specs.Tree.{Import, Extern, with_global}
use Rattle.ctw_form.specs.Shown.{extern_of}
use Rattle.ctw_module.proofs.Indexing.{GlobalsAre, globals_next, globals_pass, no_init}
use Rattle.ctw_module.proofs.viewing.all_globals.Goals as goal
use Rattle.ctw_module.proofs.viewing.all_globals.Goals.{in-Global+in_ok-push, in_default}

pub imports-preserved : goal.imports-preserved
imports-preserved c =
    let i = c.import-item.result in
    let k = c.imports.import-index in
    elim c.match-import.branch [
      | in-Global+in_ok-push w ↦
          let kind = sym (ap (λ (x : Import Label). x.kind) c.import.view_is) ∙ ap extern_of w.in-Global.is in
          let t = w.in-Global.ty in
          subst (λ v. GlobalsAre v.items (take (k + 1) c.args.imports.now) []) (sym w.all-is)
          (globals_next c.args.imports.now k i c.imports.all.items w.push.new.self.items (record { ty = t; init = None } ∷ []) c.imports-test.true c.import-item.is c.imports.invariant w.in_ok-push.ensures.items
          (ap (λ (x : Extern Label). with_global x []) (sym kind)) (ap (λ (x : Extern Label). map no_init (with_global x [])) (sym kind)))
      | in_default w ↦
          subst (λ v. GlobalsAre v.items (take (k + 1) c.args.imports.now) []) (sym w.all-is)
          (globals_pass c.args.imports.now k i c.import.inside.kind c.imports.all.items c.imports-test.true c.import-item.is c.imports.invariant (sym (ap (λ (x : Import Label). x.kind) c.import.view_is)) w.in_default.not-Global)
    ]
