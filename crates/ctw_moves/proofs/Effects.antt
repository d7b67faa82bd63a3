-- What moves do to slots and to the vault.
use Rattle.std.proofs.Common.{◌≡◌, ◌≤◌, ℕ, zero, suc, ◌+◌, Bool, true, false, List, [], ◌∷◌, length, drop, Option, Some, None, is_none, slice_get, slice_set, refl, sym, ap, subst, ◌∙◌, nat_le, arith}
use Rattle.std.proofs.lemmas.Bool.{le-leb}
use Rattle.ctw_ops.specs.declared.types.ExternTag.TheVariants as tag
use Rattle.ctw_ops.specs.declared.types.Label.TheVariants.{Public, Secret}
use Rattle.ctw_ops.specs.Equal.{same_label}
use Rattle.ctw_ops.specs.Limits.{most_steps}
use Rattle.ctw_script.specs.declared.event.Event.{Event}
use Rattle.ctw_script.specs.declared.moves.Arg.{Arg}
use Rattle.ctw_script.specs.declared.moves.Move.{Move}
use Rattle.ctw_script.specs.declared.moves.Move.TheVariants.{Begin, Turn, Leave, Poke, Peek, Seal, Reveal}
use Rattle.ctw_script.specs.declared.reply.Shown.{Shown}
use Rattle.ctw_script.specs.declared.reply.Refusal.{Refusal}
use Rattle.ctw_script.specs.declared.reply.Refusal.TheVariants.{NoExport, BadArgs, SlotBusy, SlotFree, NoMemoryExport, Bounds, WrongLabel, VaultShort, TurnTooLong, SealedFull}
use Rattle.ctw_script.specs.declared.reply.Reply.TheVariants.{Began, More, Done, Trap, Dropped, Sealed}
use Rattle.ctw_script.specs.declared.trap.TrapCode.{TrapCode}
use Rattle.ctw_semantics.specs.Stores.{Memory, Storage}
use Rattle.ctw_semantics.specs.Instances.{FunctionInstance, Functions}
use Rattle.ctw_semantics.specs.Activations.{Activation}
use Rattle.ctw_semantics.specs.Answers as Answers
use Rattle.ctw_semantics.specs.Answers.{Answer, Goes, Ended}
use Rattle.ctw_semantics.specs.Machine.{begun}
use Rattle.ctw_semantics.specs.Steps.{Left, Running, Finished, Trapped, Stuck, Turned, step, then_turn, turn}
use Rattle.ctw_link.specs.Sets.{ModuleSet}
use Rattle.ctw_link.specs.SetInstances.{set_instances}
use Rattle.ctw_link.specs.Exports.{exported}
use Rattle.ctw_moves.specs.States.{State, held, in_slot, Played, refused, found, checked}
use Rattle.ctw_moves.specs.Arguments.{args_fit, args_take, arg_values}
use Rattle.ctw_moves.specs.Moves.{most_sealed, turn_reply, stays, turned, at_memory, play}
use Rattle.ctw_moves.specs.Refusals.{IsFunctionOf}
use Rattle.ctw_moves.specs.Slots.{NamesSlot}

-- ---- slots

other_slot : (xs : List (Option Activation)) (i j : ℕ) (a : Option Activation) → (i ≡ j → ⊥) → slice_get (slice_set xs i a) j ≡ slice_get xs j
other_slot [] i j a n = refl
other_slot (x ∷ xs) zero zero a n = absurd (n refl)
other_slot (x ∷ xs) zero (suc j) a n = refl
other_slot (x ∷ xs) (suc i) zero a n = refl
other_slot (x ∷ xs) (suc i) (suc j) a n = other_slot xs i j a (λ e. n (ap suc e))

-- a slot that has a call is there, and holds what is put into it
own_slot : (xs : List (Option Activation)) (i : ℕ) (a : Activation) (o : Option Activation) → held (slice_get xs i) ≡ Some a → held (slice_get (slice_set xs i o) i) ≡ o
own_slot [] i a o e = cc
own_slot (x ∷ xs) zero a o e = same o
  where
    same : (o : Option Activation) → held (Some o) ≡ o
    same None = refl
    same (Some b) = refl
own_slot (x ∷ xs) (suc i) a o e = own_slot xs i a o e

-- ---- turns

at_most_steps : (n : ℕ) (fns : Functions) (s : Storage) (a : Activation) → (turn n fns s a).steps ≤ n
at_most_steps zero fns s a = omega arith
at_most_steps (suc n) fns s a = go (step fns s a).answer (step fns s a).event (step fns s a).releases (at_most_steps n fns)
  where
    go : (x : Answer) (event : Option Event) (releases : List ℕ) → ((t : Storage) (b : Activation) → (turn n fns t b).steps ≤ n) → (then_turn s x event releases (turn n fns)).steps ≤ suc n
    go (Goes t b) event releases rest = let h = rest t b in omega (arith, h)
    go (Ended v) event releases rest = omega arith
    go (Answers.Trapped code) event releases rest = omega arith
    go Answers.Stuck event releases rest = omega arith

all_steps : (n : ℕ) (fns : Functions) (s : Storage) (a b : Activation) → (turn n fns s a).left ≡ Running b → (turn n fns s a).steps ≡ n
all_steps zero fns s a b e = refl
all_steps (suc n) fns s a b e = go (step fns s a).answer (step fns s a).event (step fns s a).releases (all_steps n fns) e
  where
    go : (x : Answer) (event : Option Event) (releases : List ℕ) → ((t : Storage) (a b : Activation) → (turn n fns t a).left ≡ Running b → (turn n fns t a).steps ≡ n) → (then_turn s x event releases (turn n fns)).left ≡ Running b → (then_turn s x event releases (turn n fns)).steps ≡ suc n
    go (Goes t c) event releases rest e = ap suc (rest t c b e)
    go (Ended v) event releases rest e = absurd cc
    go (Answers.Trapped code) event releases rest e = absurd cc
    go Answers.Stuck event releases rest e = absurd cc

-- ---- what holds of a move that isn't refused

record Has (P : Played → Type 0) (p : Played) : Type 0 where
  by : P p

module _ (P : Played → Type 0) (s : State) (fails : (r : Refusal) → P (refused r s)) where
  found_has : {A : Type 0} (r : Refusal) (o : Option A) (go : A → Played) → ((x : A) → o ≡ Some x → P (go x)) → P (found r s o go)
  found_has r None go h = fails r
  found_has r (Some x) go h = h x refl

  checked_has : (r : Refusal) (b : Bool) (p : Played) → P p → P (checked r s b p)
  checked_has r true p h = h
  checked_has r false p h = fails r

  at_memory_has : (set : ModuleSet) (part memory : List ℕ) (at count : ℕ) (go : ℕ → Memory → Played) → ((i : ℕ) (m : Memory) → P (go i m)) → P (at_memory set s part memory at count go)
  at_memory_has set part memory at count go h =
      found_has NoMemoryExport (exported tag.Memory set part memory) _ (λ i _.
      found_has NoMemoryExport (slice_get s.storage.memories i) _ (λ m _.
      checked_has Bounds (nat_le (at + count) (length m.bytes)) _ (h i m)))

module _ (set : ModuleSet) (s : State) where
  -- ---- other slots

  abbrev Keeps : ℕ → Played → Type 0
  Keeps n p = in_slot p.state n ≡ in_slot s n

  pub others_stay : (m : Move) (n : ℕ) → (NamesSlot m n → ⊥) → in_slot (play set s m).state n ≡ in_slot s n
  others_stay (Begin slot part export args) n k =
      found_has (Keeps n) s (λ r. refl) NoExport (exported tag.Func set part export) _ (λ f _.
      found_has (Keeps n) s (λ r. refl) NoExport (slice_get (set_instances set) f) _ (λ fn _.
      checked_has (Keeps n) s (λ r. refl) BadArgs (args_fit fn.type.params args) _ (
      checked_has (Keeps n) s (λ r. refl) SlotBusy (is_none (in_slot s slot)) _ (
      checked_has (Keeps n) s (λ r. refl) VaultShort (nat_le (args_take fn.type.params args) (length s.vault)) _
      (ap held (other_slot s.slots slot n (Some (begun f fn (arg_values fn.type.params args s.vault))) k))))))
  others_stay (Turn slot steps) n k =
      found_has (Keeps n) s (λ r. refl) SlotFree (in_slot s slot) _ (λ a _.
      checked_has (Keeps n) s (λ r. refl) TurnTooLong (nat_le steps most_steps) _
      (ap held (other_slot s.slots slot n (stays (turn steps (set_instances set) s.storage a).left) k)))
  others_stay (Leave slot) n k = found_has (Keeps n) s (λ r. refl) SlotFree (in_slot s slot) _ (λ a _. ap held (other_slot s.slots slot n None k))
  others_stay (Poke part memory at bytes) n k = at_memory_has (Keeps n) s (λ r. refl) set part memory at (length bytes) _ (λ i m. refl)
  others_stay (Peek part memory at count) n k = at_memory_has (Keeps n) s (λ r. refl) set part memory at count _ (λ i m. checked_has (Keeps n) s (λ r. refl) WrongLabel (same_label m.type.tag Public) _ refl)
  others_stay (Seal part memory at count) n k =
      at_memory_has (Keeps n) s (λ r. refl) set part memory at count _ (λ i m.
      checked_has (Keeps n) s (λ r. refl) WrongLabel (same_label m.type.tag Secret) _ (checked_has (Keeps n) s (λ r. refl) VaultShort (nat_le count (length s.vault)) _ refl))
  others_stay (Reveal part memory at count) n k =
      at_memory_has (Keeps n) s (λ r. refl) set part memory at count _ (λ i m.
      checked_has (Keeps n) s (λ r. refl) WrongLabel (same_label m.type.tag Secret) _ (checked_has (Keeps n) s (λ r. refl) SealedFull (nat_le (length s.sealed + count) most_sealed) _ refl))

  -- ---- a turn

  pub turn_played : (slot steps : ℕ) (a : Activation) → in_slot s slot ≡ Some a → steps ≤ 1000000
      → play set s (Turn slot steps) ≡ turned s slot (turn steps (set_instances set) s.storage a)
  unfolding most_steps
  turn_played slot steps a e le =
      ap (λ (o : Option Activation). found SlotFree s o (λ a. checked TurnTooLong s (nat_le steps most_steps) (turned s slot (turn steps (set_instances set) s.storage a)))) e
      ∙ ap (λ (b : Bool). checked TurnTooLong s b (turned s slot (turn steps (set_instances set) s.storage a))) (fits steps le)
    where
      fits : (n : ℕ) → n ≤ 1000000 → nat_le n most_steps ≡ true
      fits n le = le-leb n most_steps le

  abbrev Turns : ℕ → ℕ → Played → Type 0
  Turns slot steps p =
      ((n : ℕ) → p.reply ≡ More n → (n ≡ steps) × (b : Activation) × (in_slot p.state slot ≡ Some b))
      × ((n : ℕ) (r : Shown) → p.reply ≡ Done n r → (n ≤ steps) × (in_slot p.state slot ≡ None))
      × ((n : ℕ) (code : TrapCode) → p.reply ≡ Trap n code → (n ≤ steps) × (in_slot p.state slot ≡ None))

  never_turns : (slot steps : ℕ) (r : Refusal) → Turns slot steps (refused r s)
  never_turns slot steps r = (λ n e. absurd cc, λ n x e. absurd cc, λ n x e. absurd cc)

  pub turn_does : (slot steps : ℕ) → Turns slot steps (play set s (Turn slot steps))
  turn_does slot steps =
      found_has (Turns slot steps) s (never_turns slot steps) SlotFree (in_slot s slot) _ (λ a e.
      checked_has (Turns slot steps) s (never_turns slot steps) TurnTooLong (nat_le steps most_steps) _
      (does a e (turn steps (set_instances set) s.storage a) (all_steps steps (set_instances set) s.storage a) (at_most_steps steps (set_instances set) s.storage a)))
    where
      does : (a : Activation) → in_slot s slot ≡ Some a → (t : Turned) → ((b : Activation) → t.left ≡ Running b → t.steps ≡ steps) → t.steps ≤ steps → Turns slot steps (turned s slot t)
      does a e t all le = by t.left refl
        where
          by : (l : Left) → t.left ≡ l → Turns slot steps (turned s slot t)
          by (Running b) q = (
            λ n r. let m : turn_reply t.steps (Running b) ≡ More n = sym (ap (turn_reply t.steps) q) ∙ r in let c : t.steps ≡ n = cc in (sym c ∙ all b q, b, own_slot s.slots slot a (stays t.left) e ∙ ap stays q),
            λ n x r. let m : turn_reply t.steps (Running b) ≡ Done n x = sym (ap (turn_reply t.steps) q) ∙ r in absurd cc,
            λ n x r. let m : turn_reply t.steps (Running b) ≡ Trap n x = sym (ap (turn_reply t.steps) q) ∙ r in absurd cc,
          )
          by (Finished v) q = (
            λ n r. let m : turn_reply t.steps (Finished v) ≡ More n = sym (ap (turn_reply t.steps) q) ∙ r in absurd cc,
            λ n x r. let m : turn_reply t.steps (Finished v) ≡ Done n x = sym (ap (turn_reply t.steps) q) ∙ r in let c : t.steps ≡ n = cc in (subst (λ (k : ℕ). k ≤ steps) c le, own_slot s.slots slot a (stays t.left) e ∙ ap stays q),
            λ n x r. let m : turn_reply t.steps (Finished v) ≡ Trap n x = sym (ap (turn_reply t.steps) q) ∙ r in absurd cc,
          )
          by (Trapped code) q = (
            λ n r. let m : turn_reply t.steps (Trapped code) ≡ More n = sym (ap (turn_reply t.steps) q) ∙ r in absurd cc,
            λ n x r. let m : turn_reply t.steps (Trapped code) ≡ Done n x = sym (ap (turn_reply t.steps) q) ∙ r in absurd cc,
            λ n x r. let m : turn_reply t.steps (Trapped code) ≡ Trap n x = sym (ap (turn_reply t.steps) q) ∙ r in let c : t.steps ≡ n = cc in (subst (λ (k : ℕ). k ≤ steps) c le, own_slot s.slots slot a (stays t.left) e ∙ ap stays q),
          )
          by Stuck q = (
            λ n r. let m : turn_reply t.steps Stuck ≡ More n = sym (ap (turn_reply t.steps) q) ∙ r in absurd cc,
            λ n x r. let m : turn_reply t.steps Stuck ≡ Done n x = sym (ap (turn_reply t.steps) q) ∙ r in absurd cc,
            λ n x r. let m : turn_reply t.steps Stuck ≡ Trap n x = sym (ap (turn_reply t.steps) q) ∙ r in let c : t.steps ≡ n = cc in (subst (λ (k : ℕ). k ≤ steps) c le, own_slot s.slots slot a (stays t.left) e ∙ ap stays q),
          )

  -- ---- a call that is given up

  abbrev Leaves : ℕ → Played → Type 0
  Leaves slot p = p.reply ≡ Dropped → in_slot p.state slot ≡ None

  pub left_is_free : (slot : ℕ) → (play set s (Leave slot)).reply ≡ Dropped → in_slot (play set s (Leave slot)).state slot ≡ None
  left_is_free slot = found_has (Leaves slot) s (λ r e. absurd cc) SlotFree (in_slot s slot) _ (λ a e _. own_slot s.slots slot a None e)

  -- ---- what is taken of the vault

  abbrev Begins : List ℕ → List ℕ → List Arg → Played → Type 0
  Begins part export args p = p.reply ≡ Began → (fn : FunctionInstance) × IsFunctionOf set s part export fn × (p.state.vault ≡ drop (args_take fn.type.params args) s.vault)

  pub begun_takes : (slot : ℕ) (part export : List ℕ) (args : List Arg) → Begins part export args (play set s (Begin slot part export args))
  begun_takes slot part export args =
      found_has (Begins part export args) s (λ r e. absurd cc) NoExport (exported tag.Func set part export) _ (λ f ef.
      found_has (Begins part export args) s (λ r e. absurd cc) NoExport (slice_get (set_instances set) f) _ (λ fn en.
      checked_has (Begins part export args) s (λ r e. absurd cc) BadArgs (args_fit fn.type.params args) _ (
      checked_has (Begins part export args) s (λ r e. absurd cc) SlotBusy (is_none (in_slot s slot)) _ (
      checked_has (Begins part export args) s (λ r e. absurd cc) VaultShort (nat_le (args_take fn.type.params args) (length s.vault)) _ (λ _. (fn, (f, ef, en), refl))))))

  abbrev Seals : ℕ → Played → Type 0
  Seals count p = p.reply ≡ Sealed → p.state.vault ≡ drop count s.vault

  pub sealed_takes : (part memory : List ℕ) (at count : ℕ) → Seals count (play set s (Seal part memory at count))
  sealed_takes part memory at count =
      at_memory_has (Seals count) s (λ r e. absurd cc) set part memory at count _ (λ i m.
      checked_has (Seals count) s (λ r e. absurd cc) WrongLabel (same_label m.type.tag Secret) _ (
      checked_has (Seals count) s (λ r e. absurd cc) VaultShort (nat_le count (length s.vault)) _ (λ _. refl)))
