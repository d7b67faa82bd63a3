use Rattle.std.proofs.Common.{◌++◌, [], ap, sym, ◌∙◌}
use Rattle.ctw_ops.specs.declared.types.Label.{Label}
use Rattle.ctw_ops.specs.Tree.{Import, Extern, with_function}
use Rattle.ctw_form.specs.Shown.{extern_of}
use Rattle.ctw_module.proofs.Indexing.{functions_next, functions_pass}
use Rattle.ctw_module.proofs.viewing.all_functions.Goals as goal
use Rattle.ctw_module.proofs.viewing.all_functions.Goals.{in-Func+in_ok-push, in_default}

pub imports-preserved : goal.imports-preserved
imports-preserved c =
    let i = c.import-item.result in
    let k = c.imports.import-index in
    elim c.match-import.branch [
      | in-Func+in_ok-push w ↦
          let kind = sym (ap (λ (x : Import Label). x.kind) c.import.view_is) ∙ ap extern_of w.in-Func.is in
          ap (λ v. v.items) w.all-is
          ∙ functions_next c.args.imports.now k i c.imports.all.items w.push.new.self.items c.imports-test.true c.import-item.is c.imports.invariant
          (w.in_ok-push.ensures.items ∙ ap (λ (x : Extern Label). c.imports.all.items ++ with_function x []) (sym kind))
      | in_default w ↦
          ap (λ v. v.items) w.all-is
          ∙ functions_pass c.args.imports.now k i c.import.inside.kind c.imports.all.items c.imports-test.true c.import-item.is c.imports.invariant (sym (ap (λ (x : Import Label). x.kind) c.import.view_is)) w.in_default.not-Func
    ]
