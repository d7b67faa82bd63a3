-- What a move takes from the vault and puts behind the sealed bytes.
use Rattle.std.proofs.Common.{◌≡◌, ℕ, ◌+◌, Bool, true, false, List, [], ◌++◌, length, drop, Option, Some, None, is_none, slice_get, nat_le, refl, sym, ap, ◌∙◌, append-nil}
use Rattle.std.proofs.Math.Seq.{drop-append_seam}
use Rattle.ctw_ops.specs.declared.types.Label.TheVariants.{Public, Secret}
use Rattle.ctw_ops.specs.declared.types.ExternTag.TheVariants as tag
use Rattle.ctw_ops.specs.Equal.{same_label}
use Rattle.ctw_script.specs.declared.moves.Move.{Move}
use Rattle.ctw_script.specs.declared.moves.Move.TheVariants.{Begin, Turn, Leave, Poke, Peek, Seal, Reveal}
use Rattle.ctw_script.specs.declared.reply.Refusal.{Refusal}
use Rattle.ctw_script.specs.declared.reply.Refusal.TheVariants.{NoExport, BadArgs, SlotBusy, SlotFree, NoMemoryExport, Bounds, WrongLabel, VaultShort, TurnTooLong, SealedFull}
use Rattle.ctw_semantics.specs.Stores.{Memory}
use Rattle.ctw_semantics.specs.Steps.{turn}
use Rattle.ctw_link.specs.Sets.{ModuleSet}
use Rattle.ctw_link.specs.SetInstances.{set_instances}
use Rattle.ctw_link.specs.Exports.{exported}
use Rattle.ctw_ops.specs.Limits.{most_steps}
use Rattle.ctw_moves.specs.States.{State, in_slot, bytes_at, Played, refused, found, checked}
use Rattle.ctw_moves.specs.Arguments.{args_fit, args_take}
use Rattle.ctw_moves.specs.Moves.{most_sealed, turn_sealed, at_memory, play}
use Rattle.ctw_moves.specs.ErasedRuns.{appended}

record Moved (s : State) (p : Played) : Type 0 where
  count : ℕ
  vault : p.state.vault ≡ drop count s.vault
  new : List ℕ
  sealed : p.state.sealed ≡ s.sealed ++ new

module _ (s : State) where
  moved : (p : Played) (count : ℕ) → p.state.vault ≡ drop count s.vault → p.state.sealed ≡ s.sealed → Moved s p
  moved p count v k = record { count = count; vault = v; new = []; sealed = k ∙ sym (append-nil s.sealed) }

  found_moved : {A : Type 0} (r : Refusal) (o : Option A) (go : A → Played) → ((x : A) → Moved s (go x)) → Moved s (found r s o go)
  found_moved r None go h = moved (refused r s) 0 refl refl
  found_moved r (Some x) go h = h x

  checked_moved : (r : Refusal) (b : Bool) (p : Played) → Moved s p → Moved s (checked r s b p)
  checked_moved r true p h = h
  checked_moved r false p h = moved (refused r s) 0 refl refl

  at_memory_moved : (set : ModuleSet) (part memory : List ℕ) (at count : ℕ) (go : ℕ → Memory → Played) → ((i : ℕ) (m : Memory) → Moved s (go i m)) → Moved s (at_memory set s part memory at count go)
  at_memory_moved set part memory at count go h =
      found_moved NoMemoryExport (exported tag.Memory set part memory) _ (λ i.
      found_moved NoMemoryExport (slice_get s.storage.memories i) _ (λ m.
      checked_moved Bounds (nat_le (at + count) (length m.bytes)) _ (h i m)))

  play_moved : (set : ModuleSet) (m : Move) → Moved s (play set s m)
  play_moved set (Begin slot part export args) =
      found_moved NoExport (exported tag.Func set part export) _ (λ n.
      found_moved NoExport (slice_get (set_instances set) n) _ (λ fn.
      checked_moved BadArgs (args_fit fn.type.params args) _ (
      checked_moved SlotBusy (is_none (in_slot s slot)) _ (
      checked_moved VaultShort (nat_le (args_take fn.type.params args) (length s.vault)) _ (moved _ (args_take fn.type.params args) refl refl)))))
  play_moved set (Turn slot steps) =
      found_moved SlotFree (in_slot s slot) _ (λ a.
      checked_moved TurnTooLong (nat_le steps most_steps) _ (record { count = 0; vault = refl; new = turn_sealed (turn steps (set_instances set) s.storage a).left; sealed = refl }))
  play_moved set (Leave slot) = found_moved SlotFree (in_slot s slot) _ (λ a. moved _ 0 refl refl)
  play_moved set (Poke part memory at bytes) = at_memory_moved set part memory at (length bytes) _ (λ i m. moved _ 0 refl refl)
  play_moved set (Peek part memory at count) = at_memory_moved set part memory at count _ (λ i m. checked_moved WrongLabel (same_label m.type.tag Public) _ (moved _ 0 refl refl))
  play_moved set (Seal part memory at count) =
      at_memory_moved set part memory at count _ (λ i m.
      checked_moved WrongLabel (same_label m.type.tag Secret) _ (checked_moved VaultShort (nat_le count (length s.vault)) _ (moved _ count refl refl)))
  play_moved set (Reveal part memory at count) =
      at_memory_moved set part memory at count _ (λ i m.
      checked_moved WrongLabel (same_label m.type.tag Secret) _ (
      checked_moved SealedFull (nat_le (length s.sealed + count) most_sealed) _ (record { count = 0; vault = refl; new = bytes_at m at count; sealed = refl })))

pub vault_taken : (set : ModuleSet) (s : State) (m : Move) → (count : ℕ) × ((play set s m).state.vault ≡ drop count s.vault)
vault_taken set s m = let h = play_moved s set m in (h.count, h.vault)

pub bytes_appended : (set : ModuleSet) (s : State) (m : Move) → (play set s m).state.sealed ≡ s.sealed ++ appended s (play set s m).state
bytes_appended set s m =
    let h = play_moved s set m in
    h.sealed ∙ ap (λ (l : List ℕ). s.sealed ++ l) (sym (drop-append_seam s.sealed h.new) ∙ ap (drop (length s.sealed)) (sym h.sealed))
