-- A set without trusted functions releases nothing, whatever is played.
use Rattle.std.proofs.Common.{◌≡◌, ℕ, ◌+◌, Bool, true, false, List, [], ◌∷◌, ◌++◌, length, Option, Some, None, is_none, slice_get, nat_le, All, refl, sym, ap₂, ◌∙◌}
use Rattle.std.proofs.lemmas.List.Elements.{All-head, All-tail}
use Rattle.ctw_ops.specs.declared.types.Label.TheVariants.{Public, Secret}
use Rattle.ctw_ops.specs.declared.types.ExternTag.TheVariants as tag
use Rattle.ctw_ops.specs.Equal.{same_label}
use Rattle.ctw_script.specs.declared.moves.Move.{Move}
use Rattle.ctw_script.specs.declared.moves.Move.TheVariants.{Begin, Turn, Leave, Poke, Peek, Seal, Reveal}
use Rattle.ctw_script.specs.declared.reply.Refusal.{Refusal}
use Rattle.ctw_script.specs.declared.reply.Refusal.TheVariants.{NoExport, BadArgs, SlotBusy, SlotFree, NoMemoryExport, Bounds, WrongLabel, VaultShort, TurnTooLong, SealedFull}
use Rattle.ctw_semantics.specs.Stores.{Memory}
use Rattle.ctw_semantics.specs.Sound.{AllUntrusted}
use Rattle.ctw_semantics.proofs.Silent.{turn_silent}
use Rattle.ctw_link.specs.Sets.{ModuleSet}
use Rattle.ctw_link.specs.Matching.{AreMatching}
use Rattle.ctw_link.specs.SetInstances.{set_instances, AllValid}
use Rattle.ctw_link.specs.Sets.{AllWithinLimits}
use Rattle.ctw_link.specs.Exports.{exported}
use Rattle.ctw_ops.specs.Limits.{most_steps}
use Rattle.ctw_moves.specs.States.{State, in_slot, Played, found, checked}
use Rattle.ctw_moves.specs.Arguments.{args_fit, args_take}
use Rattle.ctw_moves.specs.Moves.{most_sealed, at_memory, play}
use Rattle.ctw_moves.specs.Runs.{plays}
use Rattle.ctw_moves.specs.SoundStates.{AreBytes, HasBytes, SoundState}
use Rattle.ctw_moves.specs.LaunchedStates.{Launch, Ready, Faulty, launch, run_from, run_of, released, told_session}
use Rattle.ctw_moves.proofs.SoundMoves.{functions_sound, slot_sound, play_sound}
use Rattle.ctw_moves.proofs.Launches.{launch_sound, sessions_alike}

record Quiet (p : Played) : Type 0 where
  by : p.releases ≡ []

found_quiet : {A : Type 0} (r : Refusal) (s : State) (o : Option A) (go : A → Played) → ((x : A) → o ≡ Some x → Quiet (go x)) → Quiet (found r s o go)
found_quiet r s None go h = record { by = refl }
found_quiet r s (Some x) go h = h x refl

checked_quiet : (r : Refusal) (s : State) (b : Bool) (p : Played) → Quiet p → Quiet (checked r s b p)
checked_quiet r s true p h = h
checked_quiet r s false p h = record { by = refl }

at_memory_quiet : (set : ModuleSet) (s : State) (part memory : List ℕ) (at count : ℕ) (go : ℕ → Memory → Played) → ((i : ℕ) (m : Memory) → Quiet (go i m)) → Quiet (at_memory set s part memory at count go)
at_memory_quiet set s part memory at count go h =
    found_quiet NoMemoryExport s (exported tag.Memory set part memory) _ (λ i _.
    found_quiet NoMemoryExport s (slice_get s.storage.memories i) _ (λ m _.
    checked_quiet Bounds s (nat_le (at + count) (length m.bytes)) _ (h i m)))

module _ (set : ModuleSet) (un : AllUntrusted (set_instances set)) where
  play_quiet : (s : State) → SoundState set s → (m : Move) → Quiet (play set s m)
  play_quiet s h (Begin slot part export args) =
      found_quiet NoExport s (exported tag.Func set part export) _ (λ n _.
      found_quiet NoExport s (slice_get (set_instances set) n) _ (λ fn _.
      checked_quiet BadArgs s (args_fit fn.type.params args) _ (
      checked_quiet SlotBusy s (is_none (in_slot s slot)) _ (
      checked_quiet VaultShort s (nat_le (args_take fn.type.params args) (length s.vault)) _ (record { by = refl })))))
  play_quiet s h (Turn slot steps) =
      found_quiet SlotFree s (in_slot s slot) _ (λ a e.
      checked_quiet TurnTooLong s (nat_le steps most_steps) _ (
      let c = slot_sound set s h slot a e in
      record { by = turn_silent (set_instances set) un h.shape c.0 (functions_sound set s h) steps s.storage a h.storage c.1 }))
  play_quiet s h (Leave slot) = found_quiet SlotFree s (in_slot s slot) _ (λ a _. record { by = refl })
  play_quiet s h (Poke part memory at bytes) = at_memory_quiet set s part memory at (length bytes) _ (λ i m. record { by = refl })
  play_quiet s h (Peek part memory at count) =
      at_memory_quiet set s part memory at count _ (λ i m. checked_quiet WrongLabel s (same_label m.type.tag Public) _ (record { by = refl }))
  play_quiet s h (Seal part memory at count) =
      at_memory_quiet set s part memory at count _ (λ i m.
      checked_quiet WrongLabel s (same_label m.type.tag Secret) _ (checked_quiet VaultShort s (nat_le count (length s.vault)) _ (record { by = refl })))
  play_quiet s h (Reveal part memory at count) =
      at_memory_quiet set s part memory at count _ (λ i m.
      checked_quiet WrongLabel s (same_label m.type.tag Secret) _ (checked_quiet SealedFull s (nat_le (length s.sealed + count) most_sealed) _ (record { by = refl })))

  pub plays_quiet : (ms : List Move) (s : State) → SoundState set s → All HasBytes ms → (plays set s ms).releases ≡ []
  plays_quiet [] s h b = refl
  plays_quiet (m ∷ ms) s h b =
      ap₂ (λ (l k : List ℕ). l ++ k) (play_quiet s h m).by
      (plays_quiet ms (play set s m).state (play_sound set s h m (All-head HasBytes m ms b)) (All-tail HasBytes m ms b))

-- ---- a whole session

launch_quiet : (set : ModuleSet) → AllUntrusted (set_instances set) → (x : Launch) (ms : List Move) → All HasBytes ms → ((s : State) → x ≡ Ready s → SoundState set s) → released (run_from set x ms) ≡ []
launch_quiet set un (Ready s) ms b h = plays_quiet set un ms s (h s refl) b
launch_quiet set un (Faulty fault) ms b h = refl

session_quiet : (set : ModuleSet) → AllUntrusted (set_instances set) → AreMatching set → AllValid set → AllWithinLimits set → (vault : List ℕ) (ms : List Move) → AreBytes vault → All HasBytes ms → released (run_of set vault ms) ≡ []
session_quiet set un m v small vault ms b bs = launch_quiet set un (launch set vault) ms bs (launch_sound set m v small vault b)

pub untrusted_alike : (set : ModuleSet) → AllUntrusted (set_instances set) → AreMatching set → AllValid set → AllWithinLimits set → (v w : List ℕ) (ms : List Move) → AreBytes v → AreBytes w → All HasBytes ms → length v ≡ length w → told_session (run_of set v ms) ≡ told_session (run_of set w ms)
untrusted_alike set un m valid small v w ms bv bw bs e =
    sessions_alike set v w ms e (session_quiet set un m valid small v ms bv bs ∙ sym (session_quiet set un m valid small w ms bw bs))
