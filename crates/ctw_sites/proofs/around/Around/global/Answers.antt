use Rattle.std.proofs.Common.{◌∙◌, ap, Some, arith}
use Rattle.ctw_ops.specs.Tree.{global_types}
use Rattle.ctw_module.specs.Trees.{view_module}
use Rattle.ctw_labels.specs.SitedModule.{globals_from}
use Rattle.std.specs.Prelude.{option_map, slice_get}
use Rattle.ctw_sites.specs.Scope.{globals_of}
use Rattle.ctw_sites.proofs.ScopeLaws.{global_none, global_some}
use Rattle.ctw_sites.proofs.around.Around.global.Goals as goal

pub returns-then-g-global_count : goal.returns-then-g-global_count
unfolding globals_of
returns-then-g-global_count c = global_none _ (global_types (view_module c.args.self.now.whole.now)) c.args.g (omega (arith, c.global_count.ensures, c.if-g-global_count.true))

pub returns : goal.returns
unfolding globals_of
returns c =
    let s = c.args.self.now in
    ap Some c.placed_global.ensures ∙ global_some s.globals (global_types (view_module s.whole.now)) c.args.g c.global.result.ty c.global.ensures.typed
    ∙ ap (λ n. option_map (λ g. g.value) (slice_get (globals_from n (global_types (view_module s.whole.now))) c.args.g)) s.globals_are
