use Rattle.std.proofs.Common.{sym, subst, List, ℕ}
use Rattle.ctw_form.specs.Spelled.{Spells}
use Rattle.ctw_write.proofs.FormedModules.{formed_spelled}
use Rattle.ctw_labels.specs.Placed.{placed}
use Rattle.ctw_place.proofs.Limited.{placed_formed}
use Rattle.ctw_place.proofs.ProfileLaws.{sites_same, placed_same, canon_same}
use Rattle.ctw_place.proofs.WholeLaws.{spelled_limits}
use Rattle.ctw_place.proofs.laws.profiles_are_not_placed.Goals as goal

pub returns-clause-sites : goal.returns-clause-sites
returns-clause-sites c q m = sites_same q m

pub returns-clause-placed : goal.returns-clause-placed
returns-clause-placed c q m p l = placed_same q m l p

pub returns-clause-spelled : goal.returns-clause-spelled
returns-clause-spelled c q bytes m s ct v few p r l = subst (λ (b : List ℕ). Spells b (placed l m p)) (sym (canon_same q m l p)) (formed_spelled (placed l m p) (placed_formed l m p v.formed) (spelled_limits bytes m s ct v few l p r))
