use Rattle.std.proofs.Common.{length, ap, arith}
use Rattle.ctw_links.specs.Asks.{listed}
use Rattle.ctw_links.proofs.AskLaws.{alike_length, params_length}
use Rattle.ctw_links.proofs.asks.Asks.left_of.Goals as goal

pub returns-in-Alike : goal.returns-in-Alike
returns-in-Alike c = omega (arith, c.saturating_sub-in-Alike.ensures, ap (λ z. length (listed z)) c.in-Alike.is, alike_length c.in-Alike.each c.in-Alike.count)

pub returns-in-Params : goal.returns-in-Params
returns-in-Params c = omega (arith, c.saturating_sub-in-Params.ensures, ap (λ z. length (listed z)) c.in-Params.is, params_length c.in-Params.first c.in-Params.count)

pub returns-in-Indexed : goal.returns-in-Indexed
returns-in-Indexed c = omega (arith, c.saturating_sub-in-Indexed.ensures, c.saturating_sub-in-Indexed-2.ensures, ap (λ z. length (listed z)) c.in-Indexed.is, params_length c.in-Indexed.first c.in-Indexed.count)
