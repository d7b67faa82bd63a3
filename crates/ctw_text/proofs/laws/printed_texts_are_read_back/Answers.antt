use Rattle.ctw_text.proofs.PrintableModules.{printable}
use Rattle.ctw_text.proofs.ReadBack.{printed_denotes, printed_lexed, printed_assembled, printed_ascii}
use Rattle.ctw_text.proofs.laws.printed_texts_are_read_back.Goals as goal

pub returns-clause-printable : goal.returns-clause-printable
returns-clause-printable c m v x = printable m v x

pub returns-clause-ascii : goal.returns-clause-ascii
returns-clause-ascii c m v x = printed_ascii m v x

pub returns-clause-lexed : goal.returns-clause-lexed
returns-clause-lexed c m v x = let l = printed_lexed m v x in (l.list, l.reads, l.are)

pub returns-clause-denotes : goal.returns-clause-denotes
returns-clause-denotes c m v x = printed_denotes m v x

pub returns-clause-read_back : goal.returns-clause-read_back
returns-clause-read_back c m v x = printed_assembled m v x
