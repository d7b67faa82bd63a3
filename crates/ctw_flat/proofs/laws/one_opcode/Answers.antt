use Rattle.ctw_leb.proofs.Exact.{one_spelling}
use Rattle.ctw_flat.specs.Spelled.{IsOp}
use Rattle.ctw_flat.specs.Read.{op_at}
use Rattle.ctw_flat.proofs.Ops.{exact_op}
use Rattle.ctw_flat.proofs.laws.one_opcode.Goals as goal

pub returns-clause-read : goal.returns-clause-read
returns-clause-read c = exact_op

pub returns-clause-one : goal.returns-clause-one
returns-clause-one c a b x y p q m n e = one_spelling IsOp op_at exact_op a b x y p q m n e
