use Rattle.ctw_link.proofs.Pushes.{Pushed}
use Rattle.ctw_link.proofs.numbers.Numbers.push_from.Given as goal

abbrev pub invariant-numbers : goal.invariant-numbers
invariant-numbers l = Pushed l.fn.self l.self l.tag l.first l.number
