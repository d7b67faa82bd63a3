use Rattle.std.proofs.Common.{length, ap, arith}
use Rattle.ctw_module.proofs.Functions.{view_at}
use Rattle.ctw_form.proofs.Params.{types_length}
use Rattle.ctw_module.proofs.Readers.{type_few}
use Rattle.ctw_module.proofs.module.Module.params_of.Goals as goal

pub returns-clause-few : goal.returns-clause-few
returns-clause-few c =
    let h = view_at c.self.inside c.args.self.now c.self.invariant c.self.view_is in
    omega (arith, types_length c.ty.inside.params.now c.ty.invariant, ap (λ t. length t.params) c.ty.view_is, ap (λ t. length t.params) c.type_or_none-ty.ensures, type_few c.args.self.now c.index.result.now h.spelled)
