use Rattle.std.proofs.Common.{ap}
use Rattle.ctw_valid.proofs.Scope.{scope_is}
use Rattle.ctw_valid.proofs.around.Around.new.Goals as goal

pub returns : goal.returns
returns c = λ function n. scope_is _ c.type_of_func.result c.func_type-ty.result c.type_of_func.ensures c.func_type-ty.ensures (ap (λ z. z.trust) c.ty.view_is) (ap (λ z. z.result) c.ty.view_is) c.profile.ensures function n
