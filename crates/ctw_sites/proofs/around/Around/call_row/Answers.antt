use Rattle.std.proofs.Common.{◌∙◌, ◌<◌, ◌+◌, length, ap, subst, arith}
use Rattle.std.specs.Prelude.{get_or, option_map}
use Rattle.ctw_ops.specs.Types.{value_type}
use Rattle.ctw_labels.specs.declared.tag.Tag.TheVariants.{At}
use Rattle.ctw_sites.specs.Rows.{gives_of}
use Rattle.ctw_ops.specs.Tree.{function_entries}
use Rattle.ctw_module.specs.Trees.{view_module}
use Rattle.ctw_sites.specs.Scope.{functions_of}
use Rattle.ctw_sites.proofs.ScopeLaws.{call_none, call_given, call_room, heads_length}
use Rattle.ctw_sites.proofs.around.Around.call_row.Goals as goal

pub returns-then-i-self : goal.returns-then-i-self
unfolding functions_of
returns-then-i-self c =
    let s = c.args.self.now in
    let m = view_module s.whole.now in
    c.takes_alone.ensures ∙ call_none m 0 (function_entries m) c.args.index (omega (arith, ap length s.heads_are, c.if-i-self.true))

pub type_of_func-requires : goal.type_of_func-requires
type_of_func-requires c =
    let s = c.args.self.now in
    let m = view_module s.whole.now in
    omega (arith, ap length s.heads_are, c.if-i-self.false, heads_length m 0 (function_entries m))

pub overflow_add-site : goal.overflow_add-site
overflow_add-site c =
    let s = c.args.self.now in
    let m = view_module s.whole.now in
    let h = call_room m c.args.index c.type_of_func.result c.signature-params.result.0 s.globals (subst (λ z. c.args.index < length z) s.heads_are c.if-i-self.false) c.type_of_func.ensures c.signature-params.ensures.params s.globals_are in
    let g = ap (λ z. get_or z c.args.index 0) s.heads_are in
    omega (arith, h, g, s.few)

pub returns : goal.returns
unfolding functions_of
returns c =
    let s = c.args.self.now in
    let m = view_module s.whole.now in
    let lt = subst (λ z. c.args.index < length z) s.heads_are c.if-i-self.false in
    let h = call_given m c.args.index c.type_of_func.result c.signature-params.result.0 c.signature-params.result.1 lt c.type_of_func.ensures c.signature-params.ensures.params c.signature-params.ensures.width in
    let e = ap (λ z. option_map (λ w. value_type w (At (get_or z c.args.index 0 + c.signature-params.result.0))) c.signature-params.result.1) s.heads_are in
    c.gives_of.ensures ∙ ap (gives_of c.signature-params.result.0) (c.given.ensures ∙ e) ∙ h
