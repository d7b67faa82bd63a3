use Rattle.std.proofs.Common.{inr}
use Rattle.ctw_link.specs.Sets.{set_of}
use Rattle.ctw_link.proofs.SizeSums.{pages_none, pages_some}
use Rattle.ctw_link.proofs.sizes.check_pages.Goals as goal

pub returns-then-pages-gt-MOST_PAGES-clause-fault : goal.returns-then-pages-gt-MOST_PAGES-clause-fault
returns-then-pages-gt-MOST_PAGES-clause-fault c = inr (pages_some (set_of c.args.parts.now) c.pages_of_all-pages.result c.pages_of_all-pages.ensures c.if-pages-gt-MOST_PAGES.true)

pub returns-clause-fault : goal.returns-clause-fault
returns-clause-fault c = pages_none (set_of c.args.parts.now) c.pages_of_all-pages.result c.pages_of_all-pages.ensures c.if-pages-gt-MOST_PAGES.false
