use Rattle.std.proofs.Common.{rules}
use Rattle.ctw_leb.proofs.Names.{reads_name}
use Rattle.ctw_leb.proofs.cursor.Cursor.name.Goals as goal

pub returns-then-is_err-clause-grammar : goal.returns-then-is_err-clause-grammar
returns-then-is_err-clause-grammar c = reads_name (λ t. t.now) c.sized_text-result.result c.args.self.now _ (search rules)

pub returns-else-is_err-clause-grammar : goal.returns-else-is_err-clause-grammar
returns-else-is_err-clause-grammar c = reads_name (λ t. t.now) c.sized_text-result.result c.args.self.now c.sized_text-result.new.self (search rules)
