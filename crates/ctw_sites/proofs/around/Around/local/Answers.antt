use Rattle.std.proofs.Common.{◌∙◌, ap, Some, arith}
use Rattle.ctw_module.specs.Trees.{view_module}
use Rattle.ctw_ops.specs.Types.{value_type}
use Rattle.ctw_labels.specs.declared.tag.Tag.TheVariants.{At}
use Rattle.ctw_sites.specs.Scope.{locals_of}
use Rattle.ctw_sites.proofs.ScopeLaws.{local_first, local_later, local_past, locals_count}
use Rattle.ctw_sites.proofs.around.Around.local.Goals as goal
use Rattle.ctw_sites.proofs.around.Around.local.Goals.{then-x-self-2, else-x-self-2}

pub returns-then-x-self : goal.returns-then-x-self
unfolding locals_of
returns-then-x-self c =
    let s = c.args.self.now in
    local_past (view_module s.whole.now) s.f s.head s.locals c.args.x s.count (omega (arith, s.locals_are, s.params_are)) c.if-x-self.true

pub overflow_add-site : goal.overflow_add-site
overflow_add-site c = omega (arith, c.args.self.now.own_room, c.args.self.now.few, c.if-x-self-2.true)

pub local-requires : goal.local-requires
local-requires c =
    let s = c.args.self.now in
    locals_count (view_module s.whole.now) s.f c.args.x s.count (omega (arith, s.locals_are, s.params_are)) c.if-x-self.false

pub returns : goal.returns
unfolding locals_of
returns c =
    let s = c.args.self.now in
    ap Some c.placed.ensures ∙ (elim c.if-x-self-2.branch [
      | then-x-self-2 w ↦
          ap (λ z. Some (value_type c.local.result.width (At z))) w.site-is
          ∙ local_first (view_module s.whole.now) s.f s.head s.locals c.args.x c.local.result (omega (arith, s.params_are, w.if-x-self-2.true)) c.local.ensures
      | else-x-self-2 w ↦
          ap (λ z. Some (value_type c.local.result.width (At z))) w.site-is
          ∙ local_later (view_module s.whole.now) s.f s.head s.locals c.args.x s.params c.local.result s.params_are w.if-x-self-2.false c.local.ensures
    ])
