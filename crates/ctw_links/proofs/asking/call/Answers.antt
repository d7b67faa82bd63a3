use Rattle.std.specs.Prelude.{slice_get}
use Rattle.ctw_sites.specs.Scope.{functions_of}
use Rattle.ctw_links.proofs.AskLaws.{call_asked}
use Rattle.ctw_links.proofs.asking.call.Goals as goal

pub returns-in-Some-clause-asks : goal.returns-in-Some-clause-asks
returns-in-Some-clause-asks c = call_asked c.in-Some.params.0 c.in-Some.params.1 (slice_get (functions_of c.args.around.now) c.args.index) c.in-Some.ensures.tags
