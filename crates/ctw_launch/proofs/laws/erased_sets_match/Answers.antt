use Rattle.ctw_launch.proofs.ErasedValid.{valid_erased}
use Rattle.ctw_launch.proofs.ErasedSmall.{all_valid_erased, all_small_erased}
use Rattle.ctw_launch.proofs.ErasedMatch.{matching_erased}
use Rattle.ctw_launch.proofs.laws.erased_sets_match.Goals as goal

pub returns-clause-valid : goal.returns-clause-valid
returns-clause-valid c = valid_erased

pub returns-clause-matching : goal.returns-clause-matching
returns-clause-matching c = matching_erased

pub returns-clause-all_valid : goal.returns-clause-all_valid
returns-clause-all_valid c = all_valid_erased

pub returns-clause-within_limits : goal.returns-clause-within_limits
returns-clause-within_limits c = all_small_erased
