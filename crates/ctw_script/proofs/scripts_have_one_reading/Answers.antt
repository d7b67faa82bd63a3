use Rattle.std.proofs.Common.{sym, ◌∙◌}
use Rattle.ctw_lex.proofs.Facts.{some_same}
use Rattle.ctw_lex.proofs.Told.{has_tokens}
use Rattle.ctw_lex.proofs.Reading.{listed_read}
use Rattle.ctw_script.proofs.LineLaws.{move_told}
use Rattle.ctw_script.proofs.ScriptLaws.{readings_are_one}
use Rattle.ctw_script.proofs.scripts_have_one_reading.Goals as goal

pub returns-clause-lines : goal.returns-clause-lines
returns-clause-lines c = λ ts a b h k. some_same (sym (move_told h) ∙ move_told k)

pub returns-clause-scripts : goal.returns-clause-scripts
returns-clause-scripts c = λ text a b h k. readings_are_one text h.tokens a b (has_tokens text h.tokens (listed_read h.lexed)) h k
