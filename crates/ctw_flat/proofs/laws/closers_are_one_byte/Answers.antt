use Rattle.ctw_flat.proofs.Closers.{behind_closer}
use Rattle.ctw_flat.proofs.laws.closers_are_one_byte.Goals as goal

pub returns : goal.returns
returns c bytes at next closer e = behind_closer bytes at closer next e
