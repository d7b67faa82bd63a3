use Rattle.ctw_moves.proofs.SoundMoves.{play_sound, plays_sound}
use Rattle.ctw_moves.proofs.SmallCalls.{begun_small}
use Rattle.ctw_moves.proofs.Launches.{launch_sound}
use Rattle.ctw_moves.proofs.laws.moves_keep_states_sound.Goals as goal

pub returns-clause-launched : goal.returns-clause-launched
returns-clause-launched c set vault s m v small b e = launch_sound set m v small vault b s e

pub returns-clause-moves : goal.returns-clause-moves
returns-clause-moves c set s m h b = play_sound set s h m b

pub returns-clause-lists : goal.returns-clause-lists
returns-clause-lists c = plays_sound

pub returns-clause-begun : goal.returns-clause-begun
returns-clause-begun c set s slot part export args a h e q = begun_small set s h.limits slot part export args e a q
