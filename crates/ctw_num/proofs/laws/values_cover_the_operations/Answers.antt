use Rattle.ctw_num.proofs.Values.{value1_some, value2_some}
use Rattle.ctw_num.proofs.laws.values_cover_the_operations.Goals as goal

pub returns : goal.returns
returns c = record { one = value1_some; two = value2_some }
