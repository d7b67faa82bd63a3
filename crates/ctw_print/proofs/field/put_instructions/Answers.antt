use Rattle.std.proofs.Common.{sym, subst, ◌∙◌}
use Rattle.std.specs.List.{All}
use Rattle.ctw_ops.specs.Code.{opcodes}
use Rattle.ctw_ops.specs.Tree.{Function}
use Rattle.ctw_ops.specs.declared.types.Label.{Label}
use Rattle.ctw_print.specs.Texts.{HasAlign}
use Rattle.ctw_print.proofs.Listed.{some_is}
use Rattle.ctw_print.proofs.field.put_instructions.Goals as goal

pub put_body-requires : goal.put_body-requires
put_body-requires c =
    let s = c.in-Some.ensures.spelled in
    let same = some_is c.requires.0 s.0 (sym c.requires.1 ∙ s.1) in
    (s.0.body, s.2.0, subst (λ (f : Function Label). All HasAlign (opcodes f.body)) same c.requires.2)
