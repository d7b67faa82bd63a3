use Rattle.ctw_write.proofs.FormedModules.{formed_spelled, only_formed}
use Rattle.ctw_labels.specs.Placed.{placed}
use Rattle.ctw_place.proofs.Limited.{placed_formed}
use Rattle.ctw_place.proofs.WholeLaws.{spelled_within, spelled_limits}
use Rattle.ctw_place.proofs.laws.placed_modules_are_spelled.Goals as goal

pub returns-clause-within : goal.returns-clause-within
returns-clause-within c bytes m s ct v few p l = spelled_within bytes m s ct v few l p

pub returns-clause-spelled : goal.returns-clause-spelled
returns-clause-spelled c bytes m s ct v few p r l = formed_spelled (placed l m p) (placed_formed l m p v.formed) (spelled_limits bytes m s ct v few l p r)

pub returns-clause-only : goal.returns-clause-only
returns-clause-only c bytes m n s ct v few p r l t = only_formed (placed l m p) n (placed_formed l m p v.formed) (spelled_limits bytes m s ct v few l p r) t
