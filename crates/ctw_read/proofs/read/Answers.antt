use Rattle.std.proofs.lemmas.Result.{err_from_is_err_and}
use Rattle.ctw_form.specs.Spelled.{module_in}
use Rattle.ctw_read.proofs.ReadLaws.{file_spells, refused_spelled}
use Rattle.ctw_read.proofs.read.Goals as goal

pub returns-in_err-check-clause-found : goal.returns-in_err-check-clause-found
returns-in_err-check-clause-found c m s =
    let p = err_from_is_err_and c.from_residual.result c.from_residual.ensures.1 in
    rw (p.1, p.2) (refused_spelled c.args.bytes.now c.in_err-check.field-0.0 c.in_err-check.ensures m s)

pub view-requires-clause-spelled : goal.view-requires-clause-spelled
view-requires-clause-spelled c =
    let f = c.in_ok-check.ensures in
    (module_in f.0, file_spells c.args.bytes.now f.0 f.1)

pub returns-in-Ok-clause-exact : goal.returns-in-Ok-clause-exact
returns-in-Ok-clause-exact c =
    let f = c.in_ok-check.ensures in
    (f.0, f.1, c.in-Ok.ensures.tree (module_in f.0) (file_spells c.args.bytes.now f.0 f.1))
