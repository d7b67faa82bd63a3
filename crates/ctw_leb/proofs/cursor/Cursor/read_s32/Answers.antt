use Rattle.std.proofs.Common.{rules}
use Rattle.std.specs.Int.{w32}
use Rattle.ctw_leb.specs.Numbers.{IsSigned}
use Rattle.ctw_leb.specs.Readers.{s32_at}
use Rattle.ctw_leb.proofs.Fronts.{reads_number}
use Rattle.ctw_leb.proofs.Widths.{signed32_at, signed32_numbers, by_number}
use Rattle.ctw_leb.proofs.cursor.Cursor.read_s32.Goals as goal

pub returns-clause-grammar : goal.returns-clause-grammar
returns-clause-grammar c =
    reads_number (IsSigned 32) signed32_at signed32_numbers c.signed32.result c.args.self.now c.signed32.new.self
    (by_number w32 s32_at c.signed32.result c.args.self.now c.signed32.new.self (λ z e. search rules) c.signed32.ensures)
