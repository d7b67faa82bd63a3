use Rattle.ctw_ops.proofs.Cut.{opcodes_of_cut}
use Rattle.ctw_stack.proofs.BodyLaws.{cut_typed}
use Rattle.ctw_stack.proofs.StopLaws.{stops_where_refused, stops_once}
use Rattle.ctw_stack.proofs.laws.refuses_where_the_typing_stops.Goals as goal

pub returns-clause-cut_tree : goal.returns-clause-cut_tree
returns-clause-cut_tree g c = λ code k. opcodes_of_cut code k

pub returns-clause-gets_through : goal.returns-clause-gets_through
returns-clause-gets_through g c = λ same eq C own code k. cut_typed same eq C own code k

pub returns-clause-refused : goal.returns-clause-refused
returns-clause-refused g c = λ same eq C own code front back op levels e r f. stops_where_refused same eq C own code front back op levels e r f

pub returns-clause-once : goal.returns-clause-once
returns-clause-once g c = λ same eq C own code j k s t. stops_once same eq C own code j k s t
