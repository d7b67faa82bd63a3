use Rattle.ctw_stack.proofs.PlaceLaws.{place_law, tag_place_law, typed_where_reached}
use Rattle.ctw_stack.proofs.laws.operands_are_those_of_typings.Goals as goal

pub returns-clause-typed : goal.returns-clause-typed
returns-clause-typed g c = λ same eq C own code k types r. typed_where_reached same eq C own code k types r

pub returns-clause-stacks : goal.returns-clause-stacks
returns-clause-stacks g c = λ same eq C own code k level outer e types. place_law same eq C own code k level outer e types

pub returns-clause-tag : goal.returns-clause-tag
returns-clause-tag g c = λ same eq C own tag other differ code k n level outer e. tag_place_law same eq C own tag other differ code k n level outer e
