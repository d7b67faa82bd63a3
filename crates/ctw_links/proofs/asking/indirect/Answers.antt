use Rattle.ctw_labels.specs.Numbering.{named_in}
use Rattle.ctw_sites.specs.Scope.{place}
use Rattle.ctw_links.proofs.AskLaws.{user_asked}
use Rattle.ctw_links.proofs.asking.indirect.Goals as goal

pub returns-clause-asks : goal.returns-clause-asks
returns-clause-asks c = user_asked c.args.n c.signature-count.result.0 (named_in (place c.args.around.now).types c.args.index) c.signature-count.ensures.params
