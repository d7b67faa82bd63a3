use Rattle.ctw_labels.proofs.EraseLaws.{erased_placed}
use Rattle.ctw_labels.proofs.laws.erasing_undoes_placing.Goals as goal

pub returns : goal.returns
returns c = λ m pl ct v p r l. erased_placed l m pl v p r ct
