use Rattle.ctw_lex.proofs.NumberLaws.{signed_tells, signed_only}
use Rattle.ctw_lex.proofs.numbers.signed_number.Goals as goal

pub returns-clause-spelled : goal.returns-clause-spelled
returns-clause-spelled c = rw (c.signed_of.ensures, c.as_bytes.ensures.value) (signed_tells c.args.text.now)

pub returns-clause-only : goal.returns-clause-only
returns-clause-only c = λ a b m n h k. signed_only a b m n h k
