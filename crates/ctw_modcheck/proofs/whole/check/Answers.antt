use Rattle.std.proofs.Common.{◌∙◌}
use Rattle.std.proofs.lemmas.Result.{err_from_is_err_and}
use Rattle.ctw_module.specs.Trees.{tree, view_module}
use Rattle.ctw_ops.specs.FirstFault.{FindsFault}
use Rattle.ctw_modcheck.specs.declared.fault.Invalid.TheVariants.{NoMemory}
use Rattle.ctw_modcheck.specs.Check.{fault_of}
use Rattle.ctw_valid.proofs.Named.{typed_around}
use Rattle.ctw_modcheck.proofs.Validity.{around_none}
use Rattle.ctw_modcheck.proofs.Verdict.{behind_around, around_first, is_sound, is_complete, is_fault, is_held}
use Rattle.ctw_modcheck.proofs.Views.{view_formed, around_view, around_found}
use Rattle.ctw_modcheck.proofs.whole.check.Goals as goal

pub check_bodies-requires : goal.check_bodies-requires
check_bodies-requires c =
    let m = tree c.args.m.now in
    typed_around m ((around_none m).0 c.in_ok-check_around.ensures)

pub returns-in_err-check_around : goal.returns-in_err-check_around
returns-in_err-check_around c =
    let m = view_module c.args.m.now in
    let formed = view_formed c.args.m.now c.bytes-bytes.ensures.spelled in
    let p = err_from_is_err_and c.from_residual.result c.from_residual.ensures.1 in
    let h = around_first m _ (around_found c.args.m.now _ c.in_err-check_around.ensures) in
    let f : FindsFault NoMemory c.from_residual.result (fault_of m) = rw (p.1, p.2) h in
    record { sound = is_sound m c.from_residual.result formed f; complete = is_complete m c.from_residual.result f; fault = is_fault m c.from_residual.result f; held = is_held m c.from_residual.result f }

pub returns : goal.returns
returns c =
    let m = view_module c.args.m.now in
    let formed = view_formed c.args.m.now c.bytes-bytes.ensures.spelled in
    let h = behind_around m c.check_bodies.result (around_view c.args.m.now ∙ c.in_ok-check_around.ensures) c.check_bodies.ensures in
    record { sound = is_sound m c.check_bodies.result formed h; complete = is_complete m c.check_bodies.result h; fault = is_fault m c.check_bodies.result h; held = is_held m c.check_bodies.result h }
