use Rattle.std.proofs.Common.{ap}
use Rattle.ctw_moves.specs.States.{Played}
use Rattle.ctw_moves.proofs.Effects.{turn_played, turn_does, left_is_free, others_stay, begun_takes, sealed_takes}
use Rattle.ctw_moves.proofs.laws.moves_do_what_they_tell.Goals as goal

pub returns-clause-goes_on : goal.returns-clause-goes_on
returns-clause-goes_on c set s slot steps n e = (turn_does set s slot steps).0 n e

pub returns-clause-done : goal.returns-clause-done
returns-clause-done c set s slot steps n result e = (turn_does set s slot steps).1 n result e

pub returns-clause-trapped : goal.returns-clause-trapped
returns-clause-trapped c set s slot steps n code e = (turn_does set s slot steps).2 n code e

pub returns-clause-turned : goal.returns-clause-turned
returns-clause-turned c set s slot steps a e le =
    let p = turn_played set s slot steps a e le in
    (ap (λ (x : Played). x.events) p, ap (λ (x : Played). x.releases) p, ap (λ (x : Played). x.state.storage) p)

pub returns-clause-given_up : goal.returns-clause-given_up
returns-clause-given_up c = left_is_free

pub returns-clause-others : goal.returns-clause-others
returns-clause-others c = others_stay

pub returns-clause-begun : goal.returns-clause-begun
returns-clause-begun c = begun_takes

pub returns-clause-sealed : goal.returns-clause-sealed
returns-clause-sealed c = sealed_takes
