use Rattle.std.proofs.Common.{Some, None, ap, sym, ◌∙◌}
use Rattle.std.specs.Prelude.{position}
use Rattle.ctw_text.specs.Names.{is_named}
use Rattle.ctw_names.specs.Known.{below}
use Rattle.ctw_names.proofs.Padding.{declared_found, parameter_found}
use Rattle.ctw_names.proofs.locals.Locals.position.Goals as goal

pub returns-then-is_some : goal.returns-then-is_some
returns-then-is_some c =
    parameter_found c.args.name.now c.self.inside.count c.self.inside.params c.self.inside.declared c.below-param.result (c.below-param.ensures ∙ ap (below c.self.inside.count) c.position.ensures) (sym c.is_some.ensures ∙ c.if-is_some.true)
    ∙ ap (position (is_named c.args.name.now)) c.self.view_is

pub returns-in_default : goal.returns-in_default
returns-in_default c =
    declared_found c.args.name.now c.self.inside.count c.self.inside.params c.self.inside.declared c.below-param.result (c.below-param.ensures ∙ ap (below c.self.inside.count) c.position.ensures) (sym c.is_some.ensures ∙ c.if-is_some.false) None
    (sym c.in_default.is ∙ c.position-2.ensures)
    ∙ ap (position (is_named c.args.name.now)) c.self.view_is

pub returns : goal.returns
returns c =
    declared_found c.args.name.now c.self.inside.count c.self.inside.params c.self.inside.declared c.below-param.result (c.below-param.ensures ∙ ap (below c.self.inside.count) c.position.ensures) (sym c.is_some.ensures ∙ c.if-is_some.false)
    (Some c.in-Some.n) (sym c.in-Some.is ∙ c.position-2.ensures)
    ∙ ap (position (is_named c.args.name.now)) c.self.view_is
