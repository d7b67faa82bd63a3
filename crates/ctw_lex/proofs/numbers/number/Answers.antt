use Rattle.ctw_lex.proofs.NumberLaws.{number_tells, number_only}
use Rattle.ctw_lex.proofs.numbers.number.Goals as goal

pub returns-clause-spelled : goal.returns-clause-spelled
returns-clause-spelled c = rw (c.magnitude_of.ensures, c.as_bytes.ensures.value) (number_tells c.args.text.now)

pub returns-clause-only : goal.returns-clause-only
returns-clause-only c = λ m n h k. number_only m n h k
