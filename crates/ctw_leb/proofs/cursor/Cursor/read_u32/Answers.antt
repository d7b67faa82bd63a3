use Rattle.ctw_leb.specs.Numbers.{IsU32}
use Rattle.ctw_leb.specs.Readers.{u32_at}
use Rattle.ctw_leb.proofs.Fronts.{reads_number}
use Rattle.ctw_leb.proofs.Widths.{u32_numbers}
use Rattle.ctw_leb.proofs.cursor.Cursor.read_u32.Goals as goal

pub returns-clause-grammar : goal.returns-clause-grammar
returns-clause-grammar c = reads_number IsU32 u32_at u32_numbers c.unsigned32.result c.args.self.now c.unsigned32.new.self c.unsigned32.ensures
