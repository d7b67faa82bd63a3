-- The limits on turns and on sealed bytes.
use Rattle.std.proofs.Common.{◌≡◌, ◌≤◌, ◌<◌, ℕ, ◌+◌, Bool, true, false, List, length, drop, Option, Some, None, slice_get, refl, nat_le, arith, leb-true, length-append, length-take}
use Rattle.std.proofs.lemmas.Bool.{leb-false}
use Rattle.ctw_ops.specs.declared.types.Label.TheVariants.{Secret}
use Rattle.ctw_ops.specs.declared.types.ExternTag.TheVariants as tag
use Rattle.ctw_ops.specs.Equal.{same_label}
use Rattle.ctw_script.specs.declared.moves.Move.TheVariants.{Turn, Reveal}
use Rattle.ctw_script.specs.declared.reply.Refusal.{Refusal}
use Rattle.ctw_script.specs.declared.reply.Refusal.TheVariants.{SlotFree, NoMemoryExport, Bounds, WrongLabel, TurnTooLong, SealedFull}
use Rattle.ctw_script.specs.declared.reply.Reply.TheVariants.{Revealed, Refused}
use Rattle.ctw_semantics.specs.Steps.{Left, Running, Finished, Trapped, Stuck, turn}
use Rattle.ctw_link.specs.Sets.{ModuleSet}
use Rattle.ctw_link.specs.SetInstances.{set_instances}
use Rattle.ctw_link.specs.Exports.{exported}
use Rattle.ctw_ops.specs.Limits.{most_steps}
use Rattle.ctw_moves.specs.States.{State, in_slot, bytes_at, Played, answered, found, checked}
use Rattle.ctw_moves.specs.Moves.{most_sealed, turn_reply, play}

pub record Holds (P : Played → Type 0) (p : Played) : Type 0 where
  pub by : P p

found_holds : (P : Played → Type 0) {A : Type 0} (r : Refusal) (s : State) (o : Option A) (go : A → Played) → P (answered (Refused r) s) → ((x : A) → Holds P (go x)) → Holds P (found r s o go)
found_holds P r s None go n h = record { by = n }
found_holds P r s (Some x) go n h = h x

pub checked_holds : (P : Played → Type 0) (r : Refusal) (s : State) (b : Bool) (p : Played) → (b ≡ false → P (answered (Refused r) s)) → (b ≡ true → Holds P p) → Holds P (checked r s b p)
checked_holds P r s true p n h = h refl
checked_holds P r s false p n h = record { by = n refl }

-- ---- turns

-- a turn is too long exactly where it has more than 1,000,000 steps
abbrev TurnLimit : ℕ → Played → Type 0
TurnLimit steps p = (p.reply ≡ Refused TurnTooLong → 1000000 < steps) × (1000000 < steps → (p.reply ≡ Refused SlotFree → ⊥) → p.reply ≡ Refused TurnTooLong)

not_too_long : (n steps : ℕ) (l : Left) → turn_reply n l ≡ Refused TurnTooLong → 1000000 < steps
not_too_long n steps (Running a) e = cc
not_too_long n steps (Finished v) e = cc
not_too_long n steps (Trapped code) e = cc
not_too_long n steps Stuck e = cc

turn_holds : (set : ModuleSet) (s : State) (slot steps : ℕ) → Holds (TurnLimit steps) (play set s (Turn slot steps))
unfolding most_steps
turn_holds set s slot steps =
    found_holds (TurnLimit steps) SlotFree s (in_slot s slot) _ (λ e. cc, λ long f. absurd (f refl)) (λ a.
    checked_holds (TurnLimit steps) TurnTooLong s (nat_le steps most_steps) _ (λ q. (λ _. leb-false steps 1000000 q, λ _ _. refl)) (λ q.
    let t = turn steps (set_instances set) s.storage a in
    let le = leb-true steps 1000000 q in
    record { by = (not_too_long t.steps steps t.left, λ long f. absurd (omega (arith, le, long))) }))

pub turn_limit : (set : ModuleSet) (s : State) (slot steps : ℕ) → TurnLimit steps (play set s (Turn slot steps))
turn_limit set s slot steps = (turn_holds set s slot steps).by

-- ---- sealed bytes

-- a reveal is full exactly where it would leave more than 16,777,216 bytes
abbrev SealedLimit : State → ℕ → Played → Type 0
SealedLimit s count p = (p.reply ≡ Refused SealedFull → 16777216 < length s.sealed + count) × (p.reply ≡ Revealed count → length p.state.sealed ≤ 16777216)

reveal_holds : (set : ModuleSet) (s : State) (part memory : List ℕ) (at count : ℕ) → Holds (SealedLimit s count) (play set s (Reveal part memory at count))
unfolding most_sealed
reveal_holds set s part memory at count =
    let P = SealedLimit s count in
    found_holds P NoMemoryExport s (exported tag.Memory set part memory) _ (λ e. cc, λ e. cc) (λ i.
    found_holds P NoMemoryExport s (slice_get s.storage.memories i) _ (λ e. cc, λ e. cc) (λ m.
    checked_holds P Bounds s (nat_le (at + count) (length m.bytes)) _ (λ _. (λ e. cc, λ e. cc)) (λ _.
    checked_holds P WrongLabel s (same_label m.type.tag Secret) _ (λ _. (λ e. cc, λ e. cc)) (λ _.
    checked_holds P SealedFull s (nat_le (length s.sealed + count) most_sealed) _ (λ q. (λ _. leb-false (length s.sealed + count) 16777216 q, λ e. cc)) (λ q.
    let le = leb-true (length s.sealed + count) 16777216 q in
    let a = length-append s.sealed (bytes_at m at count) in
    let b = length-take count (drop at m.bytes) in
    record { by = (λ e. cc, λ _. omega (arith, le, a, b)) })))))

pub sealed_limit : (set : ModuleSet) (s : State) (part memory : List ℕ) (at count : ℕ) → SealedLimit s count (play set s (Reveal part memory at count))
sealed_limit set s part memory at count = (reveal_holds set s part memory at count).by
