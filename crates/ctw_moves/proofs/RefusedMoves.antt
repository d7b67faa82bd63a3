-- A refused move changes nothing.
use Rattle.std.proofs.Common.{◌≡◌, ℕ, ◌+◌, Bool, true, false, List, length, Option, Some, None, is_none, slice_get, nat_le, ap}
use Rattle.ctw_ops.specs.declared.types.Label.TheVariants.{Public, Secret}
use Rattle.ctw_ops.specs.declared.types.ExternTag.TheVariants as tag
use Rattle.ctw_ops.specs.Equal.{same_label}
use Rattle.ctw_script.specs.declared.moves.Move.{Move}
use Rattle.ctw_script.specs.declared.moves.Move.TheVariants.{Begin, Turn, Leave, Poke, Peek, Seal, Reveal}
use Rattle.ctw_script.specs.declared.reply.Refusal.{Refusal}
use Rattle.ctw_script.specs.declared.reply.Refusal.TheVariants.{NoExport, BadArgs, SlotBusy, SlotFree, NoMemoryExport, Bounds, WrongLabel, VaultShort, TurnTooLong, SealedFull}
use Rattle.ctw_script.specs.declared.reply.Reply.{Reply}
use Rattle.ctw_script.specs.declared.reply.Reply.TheVariants.{Refused}
use Rattle.ctw_semantics.specs.Stores.{Memory}
use Rattle.ctw_semantics.specs.Steps.{Left, Running, Finished, Trapped, Stuck, turn}
use Rattle.ctw_link.specs.Sets.{ModuleSet}
use Rattle.ctw_link.specs.SetInstances.{set_instances}
use Rattle.ctw_link.specs.Exports.{exported}
use Rattle.ctw_ops.specs.Limits.{most_steps}
use Rattle.ctw_moves.specs.States.{State, in_slot, Played, answered, refused, found, checked}
use Rattle.ctw_moves.specs.Arguments.{args_fit, args_take}
use Rattle.ctw_moves.specs.Moves.{most_sealed, turn_reply, at_memory, play}

-- if it is refused, it is the state before, with no event and no release
record Unchanged (s : State) (p : Played) : Type 0 where
  by : (r : Refusal) → p.reply ≡ Refused r → p ≡ refused r s

refused_unchanged : (r : Refusal) (s : State) → Unchanged s (refused r s)
refused_unchanged r s = record { by = λ q e. ap (λ (x : Reply). answered x s) e }

found_unchanged : {A : Type 0} (r : Refusal) (s : State) (o : Option A) (go : A → Played) → ((x : A) → Unchanged s (go x)) → Unchanged s (found r s o go)
found_unchanged r s None go h = refused_unchanged r s
found_unchanged r s (Some x) go h = h x

checked_unchanged : (r : Refusal) (s : State) (b : Bool) (p : Played) → Unchanged s p → Unchanged s (checked r s b p)
checked_unchanged r s true p h = h
checked_unchanged r s false p h = refused_unchanged r s

at_memory_unchanged : (set : ModuleSet) (s : State) (part memory : List ℕ) (at count : ℕ) (go : ℕ → Memory → Played) → ((i : ℕ) (m : Memory) → Unchanged s (go i m)) → Unchanged s (at_memory set s part memory at count go)
at_memory_unchanged set s part memory at count go h =
    found_unchanged NoMemoryExport s (exported tag.Memory set part memory) _ (λ i.
    found_unchanged NoMemoryExport s (slice_get s.storage.memories i) _ (λ m.
    checked_unchanged Bounds s (nat_le (at + count) (length m.bytes)) _ (h i m)))

turn_told : (n : ℕ) (l : Left) (r : Refusal) → turn_reply n l ≡ Refused r → ⊥
turn_told n (Running a) r e = cc
turn_told n (Finished v) r e = cc
turn_told n (Trapped code) r e = cc
turn_told n Stuck r e = cc

module _ (set : ModuleSet) (s : State) where
  play_unchanged : (m : Move) → Unchanged s (play set s m)
  play_unchanged (Begin slot part export args) =
      found_unchanged NoExport s (exported tag.Func set part export) _ (λ n.
      found_unchanged NoExport s (slice_get (set_instances set) n) _ (λ fn.
      checked_unchanged BadArgs s (args_fit fn.type.params args) _ (
      checked_unchanged SlotBusy s (is_none (in_slot s slot)) _ (
      checked_unchanged VaultShort s (nat_le (args_take fn.type.params args) (length s.vault)) _ (record { by = λ r e. cc })))))
  play_unchanged (Turn slot steps) =
      found_unchanged SlotFree s (in_slot s slot) _ (λ a.
      checked_unchanged TurnTooLong s (nat_le steps most_steps) _
      (let t = turn steps (set_instances set) s.storage a in record { by = λ r e. absurd (turn_told t.steps t.left r e) }))
  play_unchanged (Leave slot) = found_unchanged SlotFree s (in_slot s slot) _ (λ a. record { by = λ r e. cc })
  play_unchanged (Poke part memory at bytes) = at_memory_unchanged set s part memory at (length bytes) _ (λ i m. record { by = λ r e. cc })
  play_unchanged (Peek part memory at count) =
      at_memory_unchanged set s part memory at count _ (λ i m. checked_unchanged WrongLabel s (same_label m.type.tag Public) _ (record { by = λ r e. cc }))
  play_unchanged (Seal part memory at count) =
      at_memory_unchanged set s part memory at count _ (λ i m.
      checked_unchanged WrongLabel s (same_label m.type.tag Secret) _ (checked_unchanged VaultShort s (nat_le count (length s.vault)) _ (record { by = λ r e. cc })))
  play_unchanged (Reveal part memory at count) =
      at_memory_unchanged set s part memory at count _ (λ i m.
      checked_unchanged WrongLabel s (same_label m.type.tag Secret) _ (checked_unchanged SealedFull s (nat_le (length s.sealed + count) most_sealed) _ (record { by = λ r e. cc })))

  pub refused_changes_nothing : (m : Move) (r : Refusal) → (play set s m).reply ≡ Refused r → play set s m ≡ refused r s
  refused_changes_nothing m r e = (play_unchanged m).by r e
