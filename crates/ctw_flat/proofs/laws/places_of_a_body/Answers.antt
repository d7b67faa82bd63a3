use Rattle.std.proofs.Common.{arith}
use Rattle.ctw_ops.specs.Code.{opcodes}
use Rattle.ctw_flat.proofs.Places.{stands, one_standing}
use Rattle.ctw_flat.proofs.Positions.{at_start, at_any, meets, one_left}
use Rattle.ctw_flat.proofs.laws.places_of_a_body.Goals as goal

pub returns-clause-listed : goal.returns-clause-listed
returns-clause-listed c bytes code m = stands bytes 0 (opcodes code) (omega arith) m

pub returns-clause-one_list : goal.returns-clause-one_list
returns-clause-one_list c bytes ps others s u = one_standing bytes 0 ps others (omega arith) s u

pub returns-clause-start : goal.returns-clause-start
returns-clause-start c bytes code m = at_start bytes code m

pub returns-clause-next : goal.returns-clause-next
returns-clause-next c bytes place op left behind e a =
    let m = meets bytes place op left behind e a in
    (m.next, m.reads, m.after)

pub returns-clause-each : goal.returns-clause-each
returns-clause-each c bytes code front rest p m s = at_any bytes code front p rest m s

pub returns-clause-one_left : goal.returns-clause-one_left
returns-clause-one_left c bytes place left other a b = one_left bytes place left other a b
