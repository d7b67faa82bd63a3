use Rattle.ctw_store.specs.Pages.{zeros}
use Rattle.ctw_store.proofs.page.blank.Goals as goal

pub returns : goal.returns
unfolding zeros
returns c = c.in_ok-vec.ensures.items_if_clones_equal (λ y e. e)
