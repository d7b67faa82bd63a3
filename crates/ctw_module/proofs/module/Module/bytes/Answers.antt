use Rattle.ctw_form.proofs.WithinLimits.{within_limits}
use Rattle.ctw_module.specs.Trees.{tree}
use Rattle.ctw_module.proofs.Functions.{view_at}
use Rattle.ctw_module.proofs.module.Module.bytes.Goals as goal

pub returns-clause-octets : goal.returns-clause-octets
returns-clause-octets c = (view_at c.self.inside c.args.self.now c.self.invariant c.self.view_is).octets

pub returns-clause-limits : goal.returns-clause-limits
returns-clause-limits c =
    let h = view_at c.self.inside c.args.self.now c.self.invariant c.self.view_is in
    within_limits c.args.self.now.bytes (tree c.args.self.now) h.octets h.spelled
