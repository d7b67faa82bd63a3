use Rattle.std.proofs.Common.{Some, ap, sym, ◌∙◌, arith}
use Rattle.std.specs.Prelude.{option_map}
use Rattle.ctw_stack.specs.Opens.{type_of, label_from}
use Rattle.ctw_stack.proofs.View.{target_in, target_out}
use Rattle.ctw_stack.proofs.stack.Stack.target.Goals as goal

pub returns-then-block : goal.returns-then-block
returns-then-block g c =
    rw (← c.self.view_is)
    (sym (target_in c.args.depth _ c.index-block.result.now c.self.invariant (omega (arith, c.if-depth-len.true)) c.index-block.ensures
    ∙ ap (λ loops. Some (label_from loops (option_map type_of c.index-block.result.now.yields))) c.if-block.true))

pub returns-else-block : goal.returns-else-block
returns-else-block g c =
    rw (← c.self.view_is)
    (sym (target_in c.args.depth _ c.index-block.result.now c.self.invariant (omega (arith, c.if-depth-len.true)) c.index-block.ensures
    ∙ ap (λ loops. Some (label_from loops (option_map type_of c.index-block.result.now.yields))) c.if-block.false))

pub returns-else-depth-len : goal.returns-else-depth-len
returns-else-depth-len g c = rw (← c.self.view_is) (sym (target_out c.args.depth c.self.invariant (omega (arith, c.if-depth-len.false))))
