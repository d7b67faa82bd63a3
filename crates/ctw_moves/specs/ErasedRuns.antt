-- Erased states, moves and runs: what the stripped set gets, and what it gives.
use Rattle.std.specs.Prelude.{ℕ, Bool, true, false, List, [], ◌∷◌, map, length, take, drop, replicate, Option, Some, None, option_map, option_and_then, slice_get, if◌then◌else◌, ◌==◌}
use Rattle.ctw_ops.specs.declared.types.ExternTag.TheVariants as tag
use Rattle.ctw_ops.specs.declared.types.Label.{Label}
use Rattle.ctw_ops.specs.declared.types.Width.{Width}
use Rattle.ctw_ops.specs.declared.types.Width.TheVariants.{W32, W64}
use Rattle.ctw_ops.specs.Types.{ValueType}
use Rattle.ctw_script.specs.declared.moves.Arg.{Arg}
use Rattle.ctw_script.specs.declared.moves.Arg.TheVariants.{Number, Vault}
use Rattle.ctw_script.specs.declared.moves.Move.{Move}
use Rattle.ctw_script.specs.declared.moves.Move.TheVariants.{Begin, Turn, Leave, Poke, Peek, Seal, Reveal}
use Rattle.ctw_script.specs.declared.reply.Shown.{Shown}
use Rattle.ctw_script.specs.declared.reply.Shown.TheVariants as shown
use Rattle.ctw_script.specs.declared.reply.Refusal.{Refusal}
use Rattle.ctw_script.specs.declared.reply.Refusal.TheVariants.{BadArgs, WrongLabel, VaultShort, SealedFull}
use Rattle.ctw_script.specs.declared.reply.Reply.{Reply}
use Rattle.ctw_script.specs.declared.reply.Reply.TheVariants.{Done, Wrote, Bytes, Sealed, Revealed, Refused}
use Rattle.ctw_semantics.specs.Stores.{number_of_bytes}
use Rattle.ctw_semantics.specs.Instances.{FunctionInstance, Functions}
use Rattle.ctw_semantics.specs.Activations.{Activation, weight}
use Rattle.ctw_semantics.specs.Steps.{Left, Running}
use Rattle.ctw_semantics.specs.Erased.{erase_storage, erase_activation}
use Rattle.ctw_link.specs.Sets.{ModuleSet}
use Rattle.ctw_link.specs.SetInstances.{set_instances}
use Rattle.ctw_link.specs.Exports.{exported}
use Rattle.ctw_moves.specs.States.{State, Played}
use Rattle.ctw_moves.specs.Arguments.{next_number, arg_takes}
use Rattle.ctw_moves.specs.Moves.{play}
use Rattle.ctw_moves.specs.Runs.{Told, told_of, Run, plays}

abbrev pub erase_slot : Functions → Option Activation → Option Activation
erase_slot fns a = option_map (erase_activation fns) a

-- the same state of the erased set, with an empty vault and nothing sealed
abbrev pub erase_state : ModuleSet → State → State
erase_state set s = record {
  storage = erase_storage s.storage;
  slots = map (erase_slot (set_instances set)) s.slots;
  vault = [];
  sealed = [];
}

-- ---- moves

-- an argument from the vault becomes the number that it takes
abbrev pub filled : ValueType Label → Arg → List ℕ → Arg
filled t (Number neg size) vault = Number neg size
filled t Vault vault = Number false (next_number t.width vault)

abbrev pub all_filled : List (ValueType Label) → List Arg → List ℕ → List Arg
all_filled (t ∷ ts) (a ∷ args) vault = filled t a vault ∷ all_filled ts args (drop (arg_takes t a) vault)
all_filled _ args vault = args

-- where nothing is taken it becomes 0
abbrev pub zeroed : Arg → Arg
zeroed (Number neg size) = Number neg size
zeroed Vault = Number false 0

abbrev pub params_of : Option FunctionInstance → List (ValueType Label)
params_of None = []
params_of (Some fn) = fn.type.params

-- the parameters of the function that a part exports
abbrev pub exported_params : ModuleSet → List ℕ → List ℕ → List (ValueType Label)
exported_params set part export =
    params_of (option_and_then (slice_get (set_instances set)) (exported tag.Func set part export))

abbrev pub erase_args : Reply → List (ValueType Label) → List Arg → List ℕ → List Arg
erase_args (Refused r) ts args vault = map zeroed args
erase_args _ ts args vault = all_filled ts args vault

-- the bytes that a seal takes; zeros where it takes none
abbrev pub erase_taken : Reply → ℕ → List ℕ → List ℕ
erase_taken (Refused r) count vault = replicate count 0
erase_taken _ count vault = take count vault

-- a move as the erased set gets it, where it had this reply in this state
abbrev pub erase_move : ModuleSet → State → Reply → Move → Move
erase_move set s r (Begin slot part export args) =
    Begin slot part export (erase_args r (exported_params set part export) args s.vault)
erase_move set s r (Turn slot steps) = Turn slot steps
erase_move set s r (Leave slot) = Leave slot
erase_move set s r (Poke part memory at bytes) = Poke part memory at bytes
erase_move set s r (Peek part memory at count) = Peek part memory at count
erase_move set s r (Seal part memory at count) = Poke part memory at (erase_taken r count s.vault)
erase_move set s r (Reveal part memory at count) = Peek part memory at count

-- refusals that go by labels or by the vault: such a move is left out
abbrev pub by_label : Refusal → Bool
by_label BadArgs = true
by_label WrongLabel = true
by_label VaultShort = true
by_label SealedFull = true
by_label _ = false

abbrev pub left_out : Reply → Bool
left_out (Refused r) = by_label r
left_out _ = false

-- ---- what is told

-- the width of so many bytes
abbrev pub width_of : ℕ → Width
width_of count = if count == 4 then W32 else W64

-- a secret result is shown as the number of its bytes
abbrev pub erase_shown : List ℕ → Shown → Shown
erase_shown new shown.Secret = shown.Number (width_of (length new)) (number_of_bytes new)
erase_shown new x = x

-- the reply of the erased set, where the move appended these to the sealed bytes
abbrev pub erase_reply : List ℕ → Reply → Reply
erase_reply new (Done n result) = Done n (erase_shown new result)
erase_reply new Sealed = Wrote
erase_reply new (Revealed n) = Bytes new
erase_reply new r = r

-- what a state has sealed behind what another had
abbrev pub appended : State → State → List ℕ
appended s t = drop (length s.sealed) t.sealed

abbrev pub erase_played : ModuleSet → State → Played → Played
erase_played set s p = record {
  state = erase_state set p.state;
  reply = erase_reply (appended s p.state) p.reply;
  events = p.events;
  releases = [];
}

-- ---- lists of moves

-- in front of others, unless it is left out
abbrev pub unless_left_out : {A : Type 0} → Reply → A → List A → List A
unless_left_out r x xs = if left_out r then xs else x ∷ xs

abbrev pub erase_moves : ModuleSet → State → List Move → List Move
erase_moves set s [] = []
erase_moves set s (m ∷ ms) =
    unless_left_out (play set s m).reply (erase_move set s (play set s m).reply m)
    (erase_moves set (play set s m).state ms)

abbrev pub erase_told : ModuleSet → State → List Move → List Told
erase_told set s [] = []
erase_told set s (m ∷ ms) =
    unless_left_out (play set s m).reply (told_of (erase_played set s (play set s m)))
    (erase_told set (play set s m).state ms)

-- the outcome of the moves, erased
abbrev pub erase_run : ModuleSet → State → List Move → Run
erase_run set s ms = record {
  state = erase_state set (plays set s ms).state;
  told = erase_told set s ms;
  releases = [];
}

-- ---- weight

-- what a call weighs after a turn, where it goes on
abbrev pub weight_left : Left → Option ℕ
weight_left (Running a) = Some (weight a)
weight_left _ = None
