-- One move of a session. The checks of a move stand in the order of its refusals. A call begins as in section 4.5.5 of
-- W3C WebAssembly Core 1.0, and takes its steps by and by.
use Rattle.std.specs.Prelude.{ℕ, ◌+◌, List, [], ◌++◌, length, take, Option, Some, None, is_none, slice_get, slice_set, nat_le}
use Rattle.ctw_ops.specs.declared.types.ExternTag.TheVariants as tag
use Rattle.ctw_ops.specs.declared.types.Label.{Label}
use Rattle.ctw_ops.specs.declared.types.Label.TheVariants.{Public, Secret}
use Rattle.ctw_ops.specs.declared.types.Width.{Width}
use Rattle.ctw_ops.specs.Equal.{same_label}
use Rattle.ctw_ops.specs.Limits.{most_steps}
use Rattle.ctw_script.specs.declared.trap.TrapCode.TheVariants.{Unreachable}
use Rattle.ctw_script.specs.declared.moves.Arg.{Arg}
use Rattle.ctw_script.specs.declared.moves.Move.{Move}
use Rattle.ctw_script.specs.declared.moves.Move.TheVariants.{Begin, Turn, Leave, Poke, Peek, Seal, Reveal}
use Rattle.ctw_script.specs.declared.reply.Shown.{Shown}
use Rattle.ctw_script.specs.declared.reply.Shown.TheVariants as shown
use Rattle.ctw_script.specs.declared.reply.Refusal.TheVariants.{NoExport, BadArgs, SlotBusy, SlotFree, NoMemoryExport, Bounds, WrongLabel, VaultShort, TurnTooLong, SealedFull}
use Rattle.ctw_script.specs.declared.reply.Reply.{Reply}
use Rattle.ctw_script.specs.declared.reply.Reply.TheVariants.{Began, More, Done, Trap, Dropped, Wrote, Bytes, Sealed, Revealed}
use Rattle.ctw_semantics.specs.Values.{Value}
use Rattle.ctw_semantics.specs.Stores.{Memory, bytes_of_number}
use Rattle.ctw_semantics.specs.Instances.{FunctionInstance}
use Rattle.ctw_semantics.specs.Activations.{Activation}
use Rattle.ctw_semantics.specs.Machine.{begun}
use Rattle.ctw_semantics.specs.Steps.{Left, Running, Finished, Trapped, Stuck, Turned, turn}
use Rattle.ctw_link.specs.Sets.{ModuleSet}
use Rattle.ctw_link.specs.SetInstances.{set_instances}
use Rattle.ctw_link.specs.Exports.{exported}
use Rattle.ctw_moves.specs.States.{State, in_slot, with_slot, without, with_write, with_sealed, bytes_at, Played, answered, found, checked}
use Rattle.ctw_moves.specs.Arguments.{byte_width, args_fit, args_take, arg_values}

-- how many bytes a reveal may leave sealed
unfoldable pub most_sealed : ℕ
most_sealed = 16777216

-- ---- how a turn is told

abbrev pub shown_number : Label → Width → ℕ → Shown
shown_number Public w n = shown.Number w n
shown_number Secret w n = shown.Secret

-- a public result is shown
abbrev pub shown_result : Option Value → Shown
shown_result None = shown.Nothing
shown_result (Some v) = shown_number v.type.tag v.type.width v.number

abbrev pub sealed_number : Label → Width → ℕ → List ℕ
sealed_number Public w n = []
sealed_number Secret w n = bytes_of_number (byte_width w) n

-- the bytes of a secret result are sealed
abbrev pub sealed_result : Option Value → List ℕ
sealed_result None = []
sealed_result (Some v) = sealed_number v.type.tag v.type.width v.number

-- no call of a sound state is ever stuck
abbrev pub turn_reply : ℕ → Left → Reply
turn_reply n (Running a) = More n
turn_reply n (Finished v) = Done n (shown_result v)
turn_reply n (Trapped code) = Trap n code
turn_reply n Stuck = Trap n Unreachable

-- the call stays in its slot until it ends or traps
abbrev pub stays : Left → Option Activation
stays (Running a) = Some a
stays _ = None

abbrev pub turn_sealed : Left → List ℕ
turn_sealed (Finished v) = sealed_result v
turn_sealed _ = []

abbrev pub after_turn : State → ℕ → Turned → State
after_turn s slot t = record {
  storage = t.storage;
  slots = slice_set s.slots slot (stays t.left);
  vault = s.vault;
  sealed = s.sealed ++ turn_sealed t.left;
}

abbrev pub turned : State → ℕ → Turned → Played
turned s slot t = record {
  state = after_turn s slot t;
  reply = turn_reply t.steps t.left;
  events = t.events;
  releases = t.releases;
}

-- ---- moves

module _ (set : ModuleSet) (s : State) where
  -- a call of a function with these arguments
  abbrev pub begin_call : ℕ → List Arg → ℕ → FunctionInstance → Played
  begin_call slot args n fn =
      checked BadArgs s (args_fit fn.type.params args) (
      checked SlotBusy s (is_none (in_slot s slot)) (
      checked VaultShort s (nat_le (args_take fn.type.params args) (length s.vault)) (
      answered Began (with_slot (without (args_take fn.type.params args) s) slot
      (Some (begun n fn (arg_values fn.type.params args s.vault)))))))

  -- bytes of a memory that a part exports
  abbrev pub at_memory : List ℕ → List ℕ → ℕ → ℕ → (ℕ → Memory → Played) → Played
  at_memory part memory at count go =
      found NoMemoryExport s (exported tag.Memory set part memory) (λ i.
      found NoMemoryExport s (slice_get s.storage.memories i) (λ m.
      checked Bounds s (nat_le (at + count) (length m.bytes)) (go i m)))

  abbrev pub play : Move → Played
  play (Begin slot part export args) =
      found NoExport s (exported tag.Func set part export) (λ n.
      found NoExport s (slice_get (set_instances set) n) (begin_call slot args n))
  play (Turn slot steps) =
      found SlotFree s (in_slot s slot) (λ a.
      checked TurnTooLong s (nat_le steps most_steps) (
      turned s slot (turn steps (set_instances set) s.storage a)))
  play (Leave slot) =
      found SlotFree s (in_slot s slot) (λ a. answered Dropped (with_slot s slot None))
  play (Poke part memory at bytes) =
      at_memory part memory at (length bytes) (λ i m. answered Wrote (with_write s i m at bytes))
  play (Peek part memory at count) =
      at_memory part memory at count (λ i m.
      checked WrongLabel s (same_label m.type.tag Public) (answered (Bytes (bytes_at m at count)) s))
  play (Seal part memory at count) =
      at_memory part memory at count (λ i m.
      checked WrongLabel s (same_label m.type.tag Secret) (
      checked VaultShort s (nat_le count (length s.vault)) (
      answered Sealed (with_write (without count s) i m at (take count s.vault)))))
  play (Reveal part memory at count) =
      at_memory part memory at count (λ i m.
      checked WrongLabel s (same_label m.type.tag Secret) (
      checked SealedFull s (nat_le (length s.sealed + count) most_sealed) (
      answered (Revealed count) (with_sealed s (bytes_at m at count)))))
