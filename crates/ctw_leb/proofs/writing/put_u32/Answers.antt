use Rattle.std.proofs.Common.{rules}
use Rattle.ctw_leb.specs.Spelling.{u32_text}
use Rattle.ctw_leb.proofs.Spelling.{u32_minimal}
use Rattle.ctw_leb.proofs.writing.put_u32.Goals as goal

pub returns-clause-put : goal.returns-clause-put
unfolding u32_text
returns-clause-put c = search rules

pub returns-clause-minimal : goal.returns-clause-minimal
returns-clause-minimal c = u32_minimal c.args.n c.ranges.n.fits
