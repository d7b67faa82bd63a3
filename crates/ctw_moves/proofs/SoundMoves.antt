-- Moves keep sound states.
use Rattle.std.proofs.Common.{◌≡◌, ℕ, zero, suc, ◌+◌, ◌/◌, ◌^◌, ◌≤◌, ◌<◌, Bool, true, false, List, [], ◌∷◌, ◌++◌, map, length, take, drop, Option, Some, None, is_none, slice_get, slice_set, refl, sym, ap, ◌∙◌, subst, nat_le, arith, leb-true, All, mod-lt}
use Rattle.std.proofs.lemmas.List.{length-take-le, length-set}
use Rattle.std.proofs.lemmas.List.Elements.{All-head, All-tail, All-set, All-take, All-drop}
use Rattle.ctw_ops.specs.declared.types.Label.{Label}
use Rattle.ctw_ops.specs.declared.types.Label.TheVariants.{Public, Secret}
use Rattle.ctw_ops.specs.declared.types.ExternTag.TheVariants as tag
use Rattle.ctw_ops.specs.Types.{ValueType}
use Rattle.ctw_ops.specs.Equal.{same_label}
use Rattle.ctw_ops.specs.declared.types.Width.{Width}
use Rattle.ctw_ops.specs.declared.types.Width.TheVariants.{W32, W64}
use Rattle.ctw_ops.specs.Limits.{page_size, most_set_pages}
use Rattle.ctw_num.specs.Integers.{bit_width, wrap}
use Rattle.ctw_script.specs.declared.moves.Arg.{Arg}
use Rattle.ctw_script.specs.declared.moves.Arg.TheVariants.{Number, Vault}
use Rattle.ctw_script.specs.declared.moves.Move.{Move}
use Rattle.ctw_script.specs.declared.moves.Move.TheVariants.{Begin, Turn, Leave, Poke, Peek, Seal, Reveal}
use Rattle.ctw_script.specs.declared.reply.Refusal.{Refusal}
use Rattle.ctw_script.specs.declared.reply.Refusal.TheVariants.{NoExport, BadArgs, SlotBusy, SlotFree, NoMemoryExport, Bounds, WrongLabel, VaultShort, TurnTooLong, SealedFull}
use Rattle.ctw_semantics.specs.Values.{Value}
use Rattle.ctw_semantics.specs.Stores.{Memory, Storage, written_at, with_bytes, pages, all_pages}
use Rattle.ctw_semantics.specs.Instances.{FunctionInstance, Functions}
use Rattle.ctw_semantics.specs.Activations.{Activation}
use Rattle.ctw_semantics.specs.Machine.{begun}
use Rattle.ctw_semantics.specs.Steps.{Left, Running, Finished, Trapped, Stuck, turn}
use Rattle.ctw_semantics.specs.Sound.{Shape, global_type, HasTypes, MemoryFits, SoundStorage, SoundSet, SoundLeft, SoundTurn}
use Rattle.ctw_ops.proofs.EqualLaws.{both}
use Rattle.ctw_ops.proofs.Lists.{all_get, map_set_same}
use Rattle.ctw_semantics.proofs.Memories.{length-written_at}
use Rattle.ctw_semantics.proofs.SoundStores.{IsByte, same_size_fits, written_bytes_fit}
use Rattle.ctw_semantics.proofs.SoundSteps.{turn_sound}
use Rattle.ctw_semantics.proofs.Begun.{begun_sound}
use Rattle.ctw_link.specs.Sets.{ModuleSet}
use Rattle.ctw_link.specs.SetInstances.{set_instances}
use Rattle.ctw_launch.proofs.SoundSets.{sound_set}
use Rattle.ctw_launch.proofs.SoundLaunch.{IsLight, all_light}
use Rattle.ctw_link.specs.Exports.{exported}
use Rattle.ctw_ops.specs.Limits.{most_steps}
use Rattle.ctw_moves.specs.States.{State, held, in_slot, bytes_at, Played, refused, found, checked}
use Rattle.ctw_moves.specs.Arguments.{arg_fits, args_fit, arg_takes, args_take, arg_number, arg_values, number_of, next_number}
use Rattle.ctw_moves.specs.Moves.{most_sealed, stays, after_turn, at_memory, play}
use Rattle.ctw_moves.specs.Runs.{plays}
use Rattle.ctw_moves.specs.SoundStates.{AreBytes, HasBytes, SoundSlot, SoundState}

-- ---- arguments

wrap_fits : (w : Width) (n : ℕ) → wrap (bit_width w) n < 2 ^ bit_width w
wrap_fits W32 n = mod-lt n (omega arith)
wrap_fits W64 n = mod-lt n (omega arith)

number_fits : (t : ValueType Label) (a : Arg) (vault : List ℕ) → arg_number t a vault < 2 ^ bit_width t.width
unfolding number_of next_number
number_fits t (Number true size) vault = wrap_fits t.width _
number_fits t (Number false size) vault = wrap_fits t.width _
number_fits t Vault vault = wrap_fits t.width _

pub values_typed : (ts : List (ValueType Label)) (args : List Arg) (vault : List ℕ) → args_fit ts args ≡ true → HasTypes ts (arg_values ts args vault)
values_typed [] [] vault e = tt
values_typed [] (a ∷ args) vault e = cc
values_typed (t ∷ ts) [] vault e = cc
values_typed (t ∷ ts) (a ∷ args) vault e = (refl, number_fits t a vault, values_typed ts args (drop (arg_takes t a) vault) (both (arg_fits t a) (args_fit ts args) e).1)

-- ---- a store with bytes written into a memory

pub written_length : {A : Type 0} (at : ℕ) (new old : List A) → at + length new ≤ length old → length (written_at at new old) ≡ length old
written_length at new old le = omega (arith, length-written_at at new old)

same_pages : (ms : List Memory) (i : ℕ) (m new : Memory) → slice_get ms i ≡ Some m → pages new ≡ pages m → all_pages (slice_set ms i new) ≡ all_pages ms
same_pages [] i m new e q = cc
same_pages (x ∷ xs) zero m new e q = let p : x ≡ m = cc in ap (λ n. n + all_pages xs) (q ∙ ap (λ (m : Memory). pages m) (sym p))
same_pages (x ∷ xs) (suc i) m new e q = ap (λ n. pages x + n) (same_pages xs i m new e q)

bytes_kept : (shape : Shape) (s : Storage) → SoundStorage shape s → (i : ℕ) (m : Memory) (at : ℕ) (new : List ℕ) → AreBytes new → slice_get s.memories i ≡ Some m → at + length new ≤ length m.bytes → SoundStorage shape (with_bytes s i m (written_at at new m.bytes))
bytes_kept shape s ss i m at new b e le =
    let changed : Memory = record m { bytes = written_at at new m.bytes } in
    let long = written_length at new m.bytes le in
    let old : MemoryFits m = all_get MemoryFits s.memories i m ss.memories e in
    let fits : MemoryFits changed = same_size_fits m (written_at at new m.bytes) long (written_bytes_fit at new m.bytes b old.bytes) old in
    record {
      shaped = ap (λ ms. record { memories = ms; globals = map global_type s.globals; tables = s.tables }) (map_set_same (λ (m : Memory). m.type) s.memories i m changed e refl) ∙ ss.shaped;
      memories = All-set MemoryFits s.memories i changed fits ss.memories;
      total = subst (λ n. n ≤ most_set_pages) (sym (same_pages s.memories i m changed e (ap (λ k. k / page_size) long))) ss.total;
      globals = ss.globals;
      tables = ss.tables;
    }

-- ---- what a turn leaves

pub stays_sound : (fns : Functions) (shape : Shape) (last : Option (ValueType Label)) (l : Left) → SoundLeft fns shape last l → SoundSlot fns shape (stays l)
stays_sound fns shape last (Running a) h = (last, h)
stays_sound fns shape last (Finished v) h = tt
stays_sound fns shape last (Trapped code) h = tt
stays_sound fns shape last Stuck h = tt

-- ---- moves

-- a move that leaves a sound state
record Keeps (set : ModuleSet) (p : Played) : Type 0 where
  by : SoundState set p.state

module _ (set : ModuleSet) (s : State) (h : SoundState set s) where
  abbrev fns : Functions
  fns = set_instances set

  pub functions_sound : SoundSet fns h.shape
  functions_sound = sound_set set h.shape h.matching h.valid h.declared

  refused_keeps : (r : Refusal) → Keeps set (refused r s)
  refused_keeps r = record { by = h }

  found_keeps : {A : Type 0} (r : Refusal) (o : Option A) (go : A → Played) → ((x : A) → o ≡ Some x → Keeps set (go x)) → Keeps set (found r s o go)
  found_keeps r None go f = refused_keeps r
  found_keeps r (Some x) go f = f x refl

  checked_keeps : (r : Refusal) (b : Bool) (p : Played) → (b ≡ true → Keeps set p) → Keeps set (checked r s b p)
  checked_keeps r true p f = f refl
  checked_keeps r false p f = refused_keeps r

  pub slot_sound : (slot : ℕ) (a : Activation) → in_slot s slot ≡ Some a → SoundSlot fns h.shape (Some a)
  slot_sound slot a e = go (slice_get s.slots slot) refl e
    where
      go : (o : Option (Option Activation)) → slice_get s.slots slot ≡ o → held o ≡ Some a → SoundSlot fns h.shape (Some a)
      go None q r = cc
      go (Some o) q r = subst (SoundSlot fns h.shape) r (all_get (SoundSlot fns h.shape) s.slots slot o h.slots q)

  pub turn_here : (slot steps : ℕ) (a : Activation) (e : in_slot s slot ≡ Some a) → SoundTurn fns h.shape (slot_sound slot a e).0 (turn steps fns s.storage a)
  turn_here slot steps a e = turn_sound fns h.shape (slot_sound slot a e).0 functions_sound steps s.storage a h.storage (slot_sound slot a e).1

  -- another store of the shape, and another content of a slot
  with_slots : (slot : ℕ) (a : Option Activation) (st : Storage) (v k : List ℕ) → AreBytes v → SoundStorage h.shape st → SoundSlot fns h.shape a → SoundState set (record { storage = st; slots = slice_set s.slots slot a; vault = v; sealed = k })
  with_slots slot a st v k b ss f = record {
    matching = h.matching;
    valid = h.valid;
    limits = h.limits;
    shape = h.shape;
    declared = h.declared;
    storage = ss;
    slots = All-set (SoundSlot fns h.shape) s.slots slot a f h.slots;
    count = length-set s.slots slot a ∙ h.count;
    vault = b;
  }

  -- another store of the shape, with the slots as they are
  with_storage : (st : Storage) (v k : List ℕ) → AreBytes v → SoundStorage h.shape st → SoundState set (record { storage = st; slots = s.slots; vault = v; sealed = k })
  with_storage st v k b ss = record {
    matching = h.matching;
    valid = h.valid;
    limits = h.limits;
    shape = h.shape;
    declared = h.declared;
    storage = ss;
    slots = h.slots;
    count = h.count;
    vault = b;
  }

  at_memory_keeps : (part memory : List ℕ) (at count : ℕ) (go : ℕ → Memory → Played) → ((i : ℕ) (m : Memory) → slice_get s.storage.memories i ≡ Some m → at + count ≤ length m.bytes → Keeps set (go i m)) → Keeps set (at_memory set s part memory at count go)
  at_memory_keeps part memory at count go f =
      found_keeps NoMemoryExport (exported tag.Memory set part memory) _ (λ i _.
      found_keeps NoMemoryExport (slice_get s.storage.memories i) _ (λ m e.
      checked_keeps Bounds (nat_le (at + count) (length m.bytes)) _ (λ q. f i m e (leb-true (at + count) (length m.bytes) q))))

  begun_here : (n : ℕ) (fn : FunctionInstance) (args : List Value) → slice_get fns n ≡ Some fn → HasTypes fn.type.params args → SoundSlot fns h.shape (Some (begun n fn args))
  begun_here n fn args e ht = (fn.type.result, begun_sound fns h.shape functions_sound n fn args e ht (all_get IsLight fns n fn (all_light set h.limits) e))

  play_keeps : (m : Move) → HasBytes m → Keeps set (play set s m)
  play_keeps (Begin slot part export args) b =
      found_keeps NoExport (exported tag.Func set part export) _ (λ n _.
      found_keeps NoExport (slice_get fns n) _ (λ fn e.
      checked_keeps BadArgs (args_fit fn.type.params args) _ (λ fit.
      checked_keeps SlotBusy (is_none (in_slot s slot)) _ (λ _.
      checked_keeps VaultShort (nat_le (args_take fn.type.params args) (length s.vault)) _ (λ _.
      record {
        by = with_slots slot (Some (begun n fn (arg_values fn.type.params args s.vault))) s.storage (drop (args_take fn.type.params args) s.vault) s.sealed (All-drop IsByte (args_take fn.type.params args) s.vault h.vault) h.storage
            (begun_here n fn (arg_values fn.type.params args s.vault) e (values_typed fn.type.params args s.vault fit));
      })))))
  play_keeps (Turn slot steps) b =
      found_keeps SlotFree (in_slot s slot) _ (λ a e.
      checked_keeps TurnTooLong (nat_le steps most_steps) _ (λ _.
      let t = turn steps fns s.storage a in
      let f = turn_here slot steps a e in
      record { by = with_slots slot (stays t.left) t.storage s.vault (after_turn s slot t).sealed h.vault f.storage (stays_sound fns h.shape (slot_sound slot a e).0 t.left f.left) }))
  play_keeps (Leave slot) b =
      found_keeps SlotFree (in_slot s slot) _ (λ a e. record { by = with_slots slot None s.storage s.vault s.sealed h.vault h.storage tt })
  play_keeps (Poke part memory at bytes) b =
      at_memory_keeps part memory at (length bytes) _ (λ i m e le. record { by = with_storage _ s.vault s.sealed h.vault (bytes_kept h.shape s.storage h.storage i m at bytes b e le) })
  play_keeps (Peek part memory at count) b =
      at_memory_keeps part memory at count _ (λ i m e le.
      checked_keeps WrongLabel (same_label m.type.tag Public) _ (λ _. record { by = h }))
  play_keeps (Seal part memory at count) b =
      at_memory_keeps part memory at count _ (λ i m e le.
      checked_keeps WrongLabel (same_label m.type.tag Secret) _ (λ _.
      checked_keeps VaultShort (nat_le count (length s.vault)) _ (λ q.
      record {
        by = with_storage _ (drop count s.vault) s.sealed (All-drop IsByte count s.vault h.vault) (bytes_kept h.shape s.storage h.storage i m at (take count s.vault) (All-take IsByte count s.vault h.vault) e
            (subst (λ k. at + k ≤ length m.bytes) (sym (length-take-le count s.vault (leb-true count (length s.vault) q))) le));
      })))
  play_keeps (Reveal part memory at count) b =
      at_memory_keeps part memory at count _ (λ i m e le.
      checked_keeps WrongLabel (same_label m.type.tag Secret) _ (λ _.
      checked_keeps SealedFull (nat_le (length s.sealed + count) most_sealed) _ (λ _.
      record { by = with_storage s.storage s.vault (s.sealed ++ bytes_at m at count) h.vault h.storage })))

  pub play_sound : (m : Move) → HasBytes m → SoundState set (play set s m).state
  play_sound m b = (play_keeps m b).by

module _ (set : ModuleSet) where
  pub plays_sound : (ms : List Move) (s : State) → SoundState set s → All HasBytes ms → SoundState set (plays set s ms).state
  plays_sound [] s h b = h
  plays_sound (m ∷ ms) s h b =
      plays_sound ms (play set s m).state (play_sound set s h m (All-head HasBytes m ms b)) (All-tail HasBytes m ms b)

-- ---- no call is ever stuck

not_stuck : (fns : Functions) (shape : Shape) (last : Option (ValueType Label)) (l : Left) → SoundLeft fns shape last l → l ≡ Stuck → ⊥
not_stuck fns shape last l h e = subst (SoundLeft fns shape last) e h

pub never_stuck : (set : ModuleSet) (s : State) (h : SoundState set s) (slot steps : ℕ) (a : Activation) → in_slot s slot ≡ Some a → (turn steps (set_instances set) s.storage a).left ≡ Stuck → ⊥
never_stuck set s h slot steps a e = not_stuck (set_instances set) h.shape (slot_sound set s h slot a e).0 (turn steps (set_instances set) s.storage a).left (turn_here set s h slot steps a e).left
