use Rattle.ctw_flat.proofs.OpcodeBytes.{form_there, secret_there, opcode_is, secret_is}
use Rattle.ctw_flat.proofs.laws.opcodes_both_ways.Goals as goal

pub returns-clause-read : goal.returns-clause-read
returns-clause-read c f h = form_there f h

pub returns-clause-written : goal.returns-clause-written
returns-clause-written c byte f e = opcode_is byte f e

pub returns-clause-secret_read : goal.returns-clause-secret_read
returns-clause-secret_read c f h s = secret_there f h s

pub returns-clause-secret_written : goal.returns-clause-secret_written
returns-clause-secret_written c byte f e = secret_is byte f e
