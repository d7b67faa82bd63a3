use Rattle.std.proofs.Common.{rules}
use Rattle.std.specs.Int.{w64}
use Rattle.ctw_leb.specs.Numbers.{IsSigned}
use Rattle.ctw_leb.specs.Readers.{s64_at}
use Rattle.ctw_leb.proofs.Fronts.{reads_number}
use Rattle.ctw_leb.proofs.Widths.{signed64_at, signed64_numbers, by_number}
use Rattle.ctw_leb.proofs.cursor.Cursor.read_s64.Goals as goal

pub returns-clause-grammar : goal.returns-clause-grammar
returns-clause-grammar c =
    reads_number (IsSigned 64) signed64_at signed64_numbers c.signed64.result c.args.self.now c.signed64.new.self
    (by_number w64 s64_at c.signed64.result c.args.self.now c.signed64.new.self (λ z e. search rules) c.signed64.ensures)
