use Rattle.std.proofs.Common.{sym, ◌∙◌}
use Rattle.ctw_write.proofs.Running.{same_next, other_next}
use Rattle.ctw_write.proofs.entry.with_local.Goals as goal

pub returns-then-byte_of_type-clause-ahead : goal.returns-then-byte_of_type-clause-ahead
returns-then-byte_of_type-clause-ahead c whole types h =
    same_next whole c.args.out.now.items c.args.run c.args.ty types (sym c.byte_of_type.ensures ∙ c.if-byte_of_type.true ∙ c.byte_of_type-2.ensures) h

pub returns-clause-ahead : goal.returns-clause-ahead
returns-clause-ahead c whole types h =
    other_next whole c.args.out.now.items c.put_group.new.out.items c.args.run c.args.ty types c.requires.some (λ e. c.if-byte_of_type.false (c.byte_of_type.ensures ∙ e ∙ sym c.byte_of_type-2.ensures)) c.in_ok-put_group.ensures h
