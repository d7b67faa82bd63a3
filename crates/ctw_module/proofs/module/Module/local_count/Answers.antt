use Rattle.std.proofs.Common.{arith}
use Rattle.ctw_ops.specs.Limits.{most_params, most_locals}
use Rattle.ctw_module.specs.Trees.{tree}
use Rattle.ctw_module.proofs.Functions.{view_at, defined}
use Rattle.ctw_module.proofs.LocalTypes.{locals_size}
use Rattle.ctw_module.proofs.module.Module.local_count.Goals as goal

pub params_of-params-requires : goal.params_of-params-requires
params_of-params-requires c =
    let h = view_at c.self.inside c.args.self.now c.self.invariant c.self.view_is in
    let d = defined c.args.self.now c.args.f h.spelled c.requires.defined c.requires.there in
    (d.function, d.named)

pub runs_of-runs-requires : goal.runs_of-runs-requires
runs_of-runs-requires c =
    let h = view_at c.self.inside c.args.self.now c.self.invariant c.self.view_is in
    let d = defined c.args.self.now c.args.f h.spelled c.requires.defined c.requires.there in
    (d.function, d.named)

pub overflow_cast-result : goal.overflow_cast-result
unfolding most_params
overflow_cast-result c = omega (arith, c.params_of-params.ensures.few)

pub overflow_add-result : goal.overflow_add-result
unfolding most_params most_locals
overflow_add-result c =
    let r = c.runs_of-runs.ensures in
    omega (arith, c.params_of-params.ensures.few, r.few, c.count_of.ensures r.groups r.same)

pub returns : goal.returns
returns c =
    let h = view_at c.self.inside c.args.self.now c.self.invariant c.self.view_is in
    let d = defined c.args.self.now c.args.f h.spelled c.requires.defined c.requires.there in
    let p = c.params_of-params.ensures in
    let r = c.runs_of-runs.ensures in
    locals_size (tree c.args.self.now) c.args.f d.function c.params_of-params.result.now c.runs_of-runs.result.now c.count_of.result d.named p.types p.typed r (c.count_of.ensures r.groups r.same)
