use Rattle.ctw_flat.proofs.TypeBytes.{type_there, type_is}
use Rattle.ctw_flat.proofs.laws.type_bytes_both_ways.Goals as goal

pub returns-clause-read : goal.returns-clause-read
returns-clause-read c t = type_there t

pub returns-clause-written : goal.returns-clause-written
returns-clause-written c byte t e = type_is byte t e
