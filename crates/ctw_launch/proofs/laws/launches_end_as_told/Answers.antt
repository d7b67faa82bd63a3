use Rattle.ctw_launch.specs.Launched.{SegmentOutside, StartTrapped, StartUnfinished, Stands, Fails}
use Rattle.ctw_launch.proofs.Ends.{ending}
use Rattle.ctw_launch.proofs.laws.launches_end_as_told.Goals as goal

pub returns-clause-stands : goal.returns-clause-stands
returns-clause-stands c most set s m v small = ending most set m v small (Stands s)

pub returns-clause-outside : goal.returns-clause-outside
returns-clause-outside c most set part space index m v small = ending most set m v small (Fails (SegmentOutside part space index))

pub returns-clause-trapped : goal.returns-clause-trapped
returns-clause-trapped c most set part code m v small = ending most set m v small (Fails (StartTrapped part code))

pub returns-clause-unfinished : goal.returns-clause-unfinished
returns-clause-unfinished c most set part m v small = ending most set m v small (Fails (StartUnfinished part))
