-- What an onlooker sees of a session.
use Rattle.std.specs.Prelude.{◌≡◌, ℕ, List, [], map, length, replicate, Option, option_map}
use Rattle.ctw_semantics.specs.Activations.{Activation}
use Rattle.ctw_semantics.specs.Seen.{seen_storage, seen}
use Rattle.ctw_moves.specs.States.{State, Played}
use Rattle.ctw_moves.specs.Runs.{Run}

-- bytes of which only the count is seen
abbrev pub hidden : List ℕ → List ℕ
hidden bytes = replicate (length bytes) 0

abbrev pub seen_slot : Option Activation → Option Activation
seen_slot a = option_map seen a

abbrev pub seen_state : State → State
seen_state s = record {
  storage = seen_storage s.storage;
  slots = map seen_slot s.slots;
  vault = hidden s.vault;
  sealed = hidden s.sealed;
}

-- two states that differ in secret numbers and bytes, in the bytes of their vaults and in sealed bytes alone
abbrev pub Agree : State → State → Type 0
Agree s t = seen_state s ≡ seen_state t

-- what is seen of a move and of a list of moves; releases are told apart
abbrev pub seen_played : Played → Played
seen_played p = record p { state = seen_state p.state; releases = [] }

abbrev pub seen_run : Run → Run
seen_run r = record r { state = seen_state r.state; releases = [] }
