use Rattle.ctw_lex.proofs.Told.{has_tokens}
use Rattle.ctw_lex.proofs.Reading.{listed_read}
use Rattle.ctw_marks.proofs.LineLaws.{order_once}
use Rattle.ctw_marks.proofs.TakenLaws.{readings_same}
use Rattle.ctw_marks.proofs.marks_have_one_reading.Goals as goal

pub returns-clause-lines : goal.returns-clause-lines
returns-clause-lines c = λ ts a b h k. order_once ts a b h k

pub returns-clause-texts : goal.returns-clause-texts
returns-clause-texts c = λ m text a b h k. readings_same m text h.tokens a b (has_tokens text h.tokens (listed_read h.lexed)) h k
