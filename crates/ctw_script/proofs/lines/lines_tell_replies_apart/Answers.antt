use Rattle.ctw_script.proofs.LineWords.{replies_apart}
use Rattle.ctw_script.proofs.lines.lines_tell_replies_apart.Goals as goal

pub returns-clause-replies : goal.returns-clause-replies
returns-clause-replies c = λ a b h k e. replies_apart a b h k e
