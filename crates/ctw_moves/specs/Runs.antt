-- Lists of moves.
use Rattle.std.specs.Prelude.{ℕ, zero, suc, List, [], ◌∷◌, ◌++◌, Option, Some, None}
use Rattle.ctw_script.specs.declared.event.Event.{Event}
use Rattle.ctw_script.specs.declared.moves.Move.{Move}
use Rattle.ctw_script.specs.declared.reply.Reply.{Reply}
use Rattle.ctw_link.specs.Sets.{ModuleSet}
use Rattle.ctw_moves.specs.States.{State, Played}
use Rattle.ctw_moves.specs.Moves.{play}

-- what is told of a move
pub record Told : Type 0 where
  pub events : List Event
  pub reply : Reply

abbrev pub told_of : Played → Told
told_of p = record { events = p.events; reply = p.reply }

-- what comes of a list of moves: the last state, what is told of each move, and all released numbers
pub record Run : Type 0 where
  pub state : State
  pub told : List Told
  pub releases : List ℕ

abbrev pub no_moves : State → Run
no_moves s = record { state = s; told = []; releases = [] }

-- a move, and what comes of those behind it
abbrev pub then_run : Played → Run → Run
then_run p r = record { state = r.state; told = told_of p ∷ r.told; releases = p.releases ++ r.releases }

-- the moves from left to right
abbrev pub plays : ModuleSet → State → List Move → Run
plays set s [] = no_moves s
plays set s (m ∷ ms) = then_run (play set s m) (plays set (play set s m).state ms)

-- the move that is chosen, if there is one, and what comes behind it
abbrev pub choice : ModuleSet → State → Option Move → (Played → Run) → Run
choice set s None go = no_moves s
choice set s (Some m) go = then_run (play set s m) (go (play set s m))

-- at most so many moves, each chosen by what was told so far, until none is
abbrev pub chosen : ℕ → ModuleSet → (List Told → Option Move) → List Told → State → Run
chosen zero set choose told s = no_moves s
chosen (suc n) set choose told s =
    choice set s (choose told) (λ p. chosen n set choose (told ++ told_of p ∷ []) p.state)
