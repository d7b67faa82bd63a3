use Rattle.std.proofs.Common.{◌<◌, length, ap, subst, arith}
use Rattle.std.specs.Prelude.{get_or}
use Rattle.ctw_ops.specs.Tree.{function_entries}
use Rattle.ctw_module.specs.Trees.{view_module}
use Rattle.ctw_sites.specs.Scope.{functions_of}
use Rattle.ctw_sites.proofs.ScopeLaws.{params_none, params_given, call_room, heads_length}
use Rattle.ctw_sites.proofs.around.Around.params.Goals as goal

pub returns-then-i-self-clause-tags : goal.returns-then-i-self-clause-tags
unfolding functions_of
returns-then-i-self-clause-tags c =
    let s = c.args.self.now in
    params_none (view_module s.whole.now) c.args.index (omega (arith, ap length s.heads_are, c.if-i-self.true))

pub type_of_func-requires : goal.type_of_func-requires
type_of_func-requires c =
    let s = c.args.self.now in
    let m = view_module s.whole.now in
    omega (arith, ap length s.heads_are, c.if-i-self.false, heads_length m 0 (function_entries m))

pub returns-clause-room : goal.returns-clause-room
returns-clause-room c =
    let s = c.args.self.now in
    let m = view_module s.whole.now in
    let h = call_room m c.args.index c.type_of_func.result c.signature-params.result.0 s.globals (subst (λ z. c.args.index < length z) s.heads_are c.if-i-self.false) c.type_of_func.ensures c.signature-params.ensures.params s.globals_are in
    let g = ap (λ z. get_or z c.args.index 0) s.heads_are in
    omega (arith, h, g, s.few)

pub returns-clause-tags : goal.returns-clause-tags
unfolding functions_of
returns-clause-tags c =
    let s = c.args.self.now in
    let m = view_module s.whole.now in
    params_given m c.args.index c.type_of_func.result c.signature-params.result.0 (get_or s.heads.now c.args.index 0) (subst (λ z. c.args.index < length z) s.heads_are c.if-i-self.false) c.type_of_func.ensures c.signature-params.ensures.params (ap (λ z. get_or z c.args.index 0) s.heads_are)
