-- What a move of a session tells of other states.
use Rattle.std.specs.Prelude.{◌≡◌, true, false, List, ◌++◌}
use Rattle.ctw_script.specs.declared.event.Event.{Event}
use Rattle.ctw_script.specs.declared.moves.Move.{Move}
use Rattle.ctw_script.specs.declared.reply.Reply.{Reply}
use Rattle.ctw_launch.specs.ErasedSets.{erase_set}
use Rattle.ctw_link.specs.Sets.{ModuleSet}
use Rattle.ctw_moves.specs.States.{State, Played}
use Rattle.ctw_moves.specs.Moves.{play}
use Rattle.ctw_moves.specs.SeenStates.{Agree}
use Rattle.ctw_moves.specs.ErasedRuns.{erase_state, erase_move, left_out, appended, erase_reply}
use Rattle.ctw_session.specs.declared.live.Live.{Live}
use Rattle.ctw_session.specs.LiveStates.{StandsFor}

-- the same reply and events as those of a move of another state, and a state that agrees with the one it leaves
pub record ActsBeside (q : Played) (r : Reply) (l : Live) (before after : List Event) : Type 0 where
  pub reply : r ≡ q.reply
  pub events : after ≡ before ++ q.events
  pub state : State
  pub stands : StandsFor l state
  pub agrees : Agree state q.state

-- The erased move of the erased state has the erased reply and the same events, and leaves the erased state; where it is
-- left out, the erased state stays as it was.
pub record ActsErased (set : ModuleSet) (s : State) (m : Move) (r : Reply) (l : Live) (before after : List Event)
    : Type 0 where
  pub state : State
  pub stands : StandsFor l state
  pub reply : left_out r ≡ false
      → (play (erase_set set) (erase_state set s) (erase_move set s r m)).reply ≡ erase_reply (appended s state) r
  pub events : left_out r ≡ false
      → after ≡ before ++ (play (erase_set set) (erase_state set s) (erase_move set s r m)).events
  pub leaves : left_out r ≡ false
      → (play (erase_set set) (erase_state set s) (erase_move set s r m)).state ≡ erase_state set state
  pub stays : left_out r ≡ true → erase_state set state ≡ erase_state set s
