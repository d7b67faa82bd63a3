use Rattle.std.proofs.Common.{refl, arith}
use Rattle.ctw_module.specs.Trees.{tree}
use Rattle.ctw_module.proofs.LocalTypes.{has_function, locals_size, local_in_params, local_in_runs}
use Rattle.ctw_module.proofs.module.Module.local.Goals as goal

pub returns-then-i-params : goal.returns-then-i-params
returns-then-i-params c =
    let g = has_function (tree c.args.self.now) c.args.f c.args.i c.requires in
    let p = c.params_of-params.ensures in
    local_in_params (tree c.args.self.now) c.args.f c.args.i g.0 c.params_of-params.result.now c.param_type.result g.1 p.types p.typed c.if-i-params.true c.param_type.ensures

pub type_in-requires : goal.type_in-requires
type_in-requires c =
    let g = has_function (tree c.args.self.now) c.args.f c.args.i c.requires in
    let p = c.params_of-params.ensures in
    let r = c.runs_of-runs.ensures in
    (r.groups, r.same, omega (arith, c.requires, c.if-i-params.false, locals_size (tree c.args.self.now) c.args.f g.0 c.params_of-params.result.now c.runs_of-runs.result.now _ g.1 p.types p.typed r refl))

pub returns : goal.returns
returns c =
    let g = has_function (tree c.args.self.now) c.args.f c.args.i c.requires in
    let p = c.params_of-params.ensures in
    let r = c.runs_of-runs.ensures in
    local_in_runs (tree c.args.self.now) c.args.f c.args.i g.0 c.params_of-params.result.now c.runs_of-runs.result.now c.type_in.result g.1 p.types p.typed r c.if-i-params.false (c.type_in.ensures r.groups r.same)
