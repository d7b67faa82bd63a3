use Rattle.ctw_ops.specs.Code.{opcodes}
use Rattle.ctw_flat.proofs.Bodies.{whole_body}
use Rattle.ctw_flat.proofs.Places.{one_body, one_ops}
use Rattle.ctw_flat.proofs.laws.one_body.Goals as goal

pub returns-clause-read : goal.returns-clause-read
returns-clause-read c = whole_body

pub returns-clause-body : goal.returns-clause-body
returns-clause-body c bytes code other m n = one_body bytes code other m n

pub returns-clause-opcodes : goal.returns-clause-opcodes
returns-clause-opcodes c bytes code ops m n = one_ops bytes ops (opcodes code) n m
