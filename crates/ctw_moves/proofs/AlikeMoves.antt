-- Moves of agreeing states look the same where they release the same.
use Rattle.std.proofs.Common.{◌≡◌, ℕ, zero, suc, ◌+◌, ◌-◌, Bool, true, false, List, [], ◌∷◌, ◌++◌, map, length, take, drop, replicate, min, Option, Some, None, is_none, option_map, slice_get, slice_set, refl, sym, ap, ap₂, ◌∙◌, subst, nat_le, length-append, length-take, length-drop}
use Rattle.std.proofs.lemmas.List.{map-set, length-replicate}
use Rattle.ctw_ops.specs.declared.types.Label.{Label}
use Rattle.ctw_ops.specs.declared.types.Label.TheVariants.{Public, Secret}
use Rattle.ctw_ops.specs.declared.types.Width.{Width}
use Rattle.ctw_ops.specs.declared.types.ExternTag.TheVariants as tag
use Rattle.ctw_ops.specs.Types.{ValueType}
use Rattle.ctw_ops.specs.Equal.{same_label}
use Rattle.ctw_script.specs.declared.event.Event.{Event}
use Rattle.ctw_script.specs.declared.moves.Arg.{Arg}
use Rattle.ctw_script.specs.declared.moves.Arg.TheVariants.{Number, Vault}
use Rattle.ctw_script.specs.declared.moves.Move.{Move}
use Rattle.ctw_script.specs.declared.moves.Move.TheVariants.{Begin, Turn, Leave, Poke, Peek, Seal, Reveal}
use Rattle.ctw_script.specs.declared.reply.Shown.{Shown}
use Rattle.ctw_script.specs.declared.reply.Refusal.{Refusal}
use Rattle.ctw_script.specs.declared.reply.Refusal.TheVariants.{NoExport, BadArgs, SlotBusy, SlotFree, NoMemoryExport, Bounds, WrongLabel, VaultShort, TurnTooLong, SealedFull}
use Rattle.ctw_script.specs.declared.reply.Reply.{Reply}
use Rattle.ctw_script.specs.declared.reply.Reply.TheVariants.{Began, Done, Dropped, Wrote, Bytes, Sealed, Revealed, Refused}
use Rattle.ctw_semantics.specs.Values.{Value, value}
use Rattle.ctw_semantics.specs.Stores.{Memory, Storage, written_at}
use Rattle.ctw_semantics.specs.Activations.{Activation}
use Rattle.ctw_semantics.specs.Machine.{begun}
use Rattle.ctw_semantics.specs.Steps.{Left, Running, Finished, Trapped, Stuck, Turned, turn}
use Rattle.ctw_semantics.specs.Seen.{seen_number, seen_bytes, seen_value, seen_memory, seen_storage, seen, seen_left, seen_turned, LookSame}
use Rattle.ctw_ops.proofs.EqualLaws.{both, same_label_is}
use Rattle.ctw_semantics.proofs.Memories.{length-bytes_of_number, length-written_at}
use Rattle.ctw_semantics.proofs.Alike.{looks_alike}
use Rattle.ctw_semantics.proofs.AlikeStores.{same_length, same_bytes, with_bytes_alike}
use Rattle.ctw_semantics.proofs.AlikeSteps.{same_ends, same_quiet, same_both, turn_same}
use Rattle.ctw_semantics.proofs.Begun.{begun_alike}
use Rattle.ctw_link.specs.Sets.{ModuleSet}
use Rattle.ctw_link.specs.SetInstances.{set_instances}
use Rattle.ctw_link.specs.Exports.{exported}
use Rattle.ctw_ops.specs.Limits.{most_steps}
use Rattle.ctw_moves.specs.States.{State, held, in_slot, with_slot, without, with_write, with_sealed, bytes_at, Played, answered, refused, found, checked}
use Rattle.ctw_moves.specs.Arguments.{byte_width, arg_fits, args_fit, arg_takes, args_take, arg_number, arg_values}
use Rattle.ctw_moves.specs.Moves.{most_sealed, shown_number, sealed_number, turn_reply, stays, turn_sealed, after_turn, turned, at_memory, play}
use Rattle.ctw_moves.specs.Runs.{Told, told_of, Run, no_moves, plays, choice, chosen}
use Rattle.ctw_moves.specs.SeenStates.{hidden, seen_slot, Agree, seen_played, seen_run}

-- ---- states

hides : (xs ys : List ℕ) → length xs ≡ length ys → hidden xs ≡ hidden ys
hides xs ys e = ap (λ n. replicate n 0) e

pub hidden_length : (xs ys : List ℕ) → hidden xs ≡ hidden ys → length xs ≡ length ys
hidden_length xs ys e = sym (length-replicate (length xs) 0) ∙ ap length e ∙ length-replicate (length ys) 0

-- what of two states has to look the same
pub record LookAlike (s t : State) : Type 0 where
  pub storage : seen_storage s.storage ≡ seen_storage t.storage
  pub slots : map seen_slot s.slots ≡ map seen_slot t.slots
  pub vault : length s.vault ≡ length t.vault
  pub sealed : length s.sealed ≡ length t.sealed

pub agree : (s t : State) → LookAlike s t → Agree s t
agree s t h =
    let es = h.storage in
    let el = h.slots in
    let a = hides s.vault t.vault h.vault in
    let b = hides s.sealed t.sealed h.sealed in
    cc

pub alike : (s t : State) → Agree s t → LookAlike s t
alike s t e = record {
  storage = ap (λ (s : State). s.storage) e;
  slots = ap (λ (s : State). s.slots) e;
  vault = hidden_length s.vault t.vault (ap (λ (s : State). s.vault) e);
  sealed = hidden_length s.sealed t.sealed (ap (λ (s : State). s.sealed) e);
}

slots_set : (xs ys : List (Option Activation)) (i : ℕ) (a b : Option Activation) → map seen_slot xs ≡ map seen_slot ys → seen_slot a ≡ seen_slot b → map seen_slot (slice_set xs i a) ≡ map seen_slot (slice_set ys i b)
slots_set xs ys i a b e f = map-set seen_slot xs i a ∙ ap₂ (λ (l : List (Option Activation)) (v : Option Activation). slice_set l i v) e f ∙ sym (map-set seen_slot ys i b)

written_alike : (l : Label) (at : ℕ) (new other xs ys : List ℕ) → length new ≡ length other → (l ≡ Public → new ≡ other) → length xs ≡ length ys → seen_bytes l xs ≡ seen_bytes l ys → seen_bytes l (written_at at new xs) ≡ seen_bytes l (written_at at other ys)
written_alike Public at new other xs ys en p el e = ap₂ (written_at at) (p refl) e
written_alike Secret at new other xs ys en p el e =
    let a = length-written_at at new xs in
    let b = length-written_at at other ys in
    let q : length (written_at at new xs) ≡ length (written_at at other ys) = cc in
    ap (λ k. replicate k 0) q

-- ---- arguments

vault_alike : (l : Label) (n m : ℕ) → same_label l Secret ≡ true → seen_number l n ≡ seen_number l m
vault_alike Public n m e = cc
vault_alike Secret n m e = refl

arg_alike : (t : ValueType Label) (a : Arg) (v w : List ℕ) → arg_fits t a ≡ true → seen_number t.tag (arg_number t a v) ≡ seen_number t.tag (arg_number t a w)
arg_alike t (Number neg size) v w e = refl
arg_alike t Vault v w e = vault_alike t.tag (arg_number t Vault v) (arg_number t Vault w) e

values_alike : (ts : List (ValueType Label)) (args : List Arg) (v w : List ℕ) → args_fit ts args ≡ true → map seen_value (arg_values ts args v) ≡ map seen_value (arg_values ts args w)
values_alike [] args v w e = refl
values_alike (t ∷ ts) [] v w e = refl
values_alike (t ∷ ts) (a ∷ args) v w e =
    let h = both (arg_fits t a) (args_fit ts args) e in
    ap₂ (λ (n : ℕ) (l : List Value). value t n ∷ l) (arg_alike t a v w h.0) (values_alike ts args (drop (arg_takes t a) v) (drop (arg_takes t a) w) h.1)

-- ---- what a turn tells is what is seen of it

shown_seen : (l : Label) (w : Width) (n : ℕ) → shown_number l w (seen_number l n) ≡ shown_number l w n
shown_seen Public w n = refl
shown_seen Secret w n = refl

reply_seen : (n : ℕ) (l : Left) → turn_reply n (seen_left l) ≡ turn_reply n l
reply_seen n (Running a) = refl
reply_seen n (Finished None) = refl
reply_seen n (Finished (Some v)) = ap (λ (x : Shown). Done n x) (shown_seen v.type.tag v.type.width v.number)
reply_seen n (Trapped code) = refl
reply_seen n Stuck = refl

stays_seen : (l : Left) → stays (seen_left l) ≡ seen_slot (stays l)
stays_seen (Running a) = refl
stays_seen (Finished v) = refl
stays_seen (Trapped code) = refl
stays_seen Stuck = refl

secret_length : (l : Label) (w : Width) (n m : ℕ) → length (sealed_number l w n) ≡ length (sealed_number l w m)
secret_length Public w n m = refl
secret_length Secret w n m = length-bytes_of_number (byte_width w) n ∙ sym (length-bytes_of_number (byte_width w) m)

sealed_seen : (l : Left) → length (turn_sealed (seen_left l)) ≡ length (turn_sealed l)
sealed_seen (Running a) = refl
sealed_seen (Finished None) = refl
sealed_seen (Finished (Some v)) = secret_length v.type.tag v.type.width (seen_number v.type.tag v.number) v.number
sealed_seen (Trapped code) = refl
sealed_seen Stuck = refl

-- ---- moves

-- two moves that look the same where they release the same
pub record SameMoves (p q : Played) : Type 0 where
  pub by : LookSame (seen_played p) (seen_played q) p.releases q.releases

held_alike : (o p : Option (Option Activation)) → option_map seen_slot o ≡ option_map seen_slot p → option_map seen (held o) ≡ option_map seen (held p)
held_alike None None q = refl
held_alike (Some o) (Some p) q = let a : seen_slot o ≡ seen_slot p = cc in a
held_alike None (Some p) q = cc
held_alike (Some o) None q = cc

none_alike : {A B : Type 0} (f : A → B) (o p : Option A) → option_map f o ≡ option_map f p → is_none o ≡ is_none p
none_alike f None None q = refl
none_alike f (Some x) (Some y) q = refl
none_alike f None (Some y) q = cc
none_alike f (Some x) None q = cc

module _ (set : ModuleSet) (s t : State) (h : LookAlike s t) where
  answered_same : (r r' : Reply) (s' t' : State) → r ≡ r' → LookAlike s' t' → SameMoves (answered r s') (answered r' t')
  answered_same r r' s' t' er a = record { by = same_quiet _ _ (ap₂ (λ (r : Reply) (x : State). answered r x) er (agree s' t' a)) }

  refused_same : (r : Refusal) → SameMoves (refused r s) (refused r t)
  refused_same r = answered_same (Refused r) (Refused r) s t refl h

  -- the same is there in both states
  found_same : {A : Type 0} (r : Refusal) (o : Option A) (go go' : A → Played) → ((x : A) → SameMoves (go x) (go' x)) → SameMoves (found r s o go) (found r t o go')
  found_same r None go go' k = refused_same r
  found_same r (Some x) go go' k = k x

  found_alike : {A B : Type 0} (f : A → B) (r : Refusal) (o p : Option A) (go go' : A → Played) → option_map f o ≡ option_map f p → ((x y : A) → f x ≡ f y → SameMoves (go x) (go' y)) → SameMoves (found r s o go) (found r t p go')
  found_alike f r None None go go' q k = refused_same r
  found_alike f r (Some x) (Some y) go go' q k = k x y cc
  found_alike f r None (Some y) go go' q k = cc
  found_alike f r (Some x) None go go' q k = cc

  checked_same : (r : Refusal) (b c : Bool) (p q : Played) → b ≡ c → (b ≡ true → SameMoves p q) → SameMoves (checked r s b p) (checked r t c q)
  checked_same r true true p q eb k = k refl
  checked_same r false false p q eb k = refused_same r
  checked_same r true false p q eb k = cc
  checked_same r false true p q eb k = cc

  slot_alike : (slot : ℕ) → option_map seen (in_slot s slot) ≡ option_map seen (in_slot t slot)
  slot_alike slot = held_alike (slice_get s.slots slot) (slice_get t.slots slot) (looks_alike seen_slot s.slots t.slots slot h.slots)

  turned_same : (slot : ℕ) (x y : Turned) → LookSame (seen_turned x) (seen_turned y) x.releases y.releases → SameMoves (turned s slot x) (turned t slot y)
  turned_same slot x y k = record {
    by = record {
      by = λ later more q.
          let r = k.by later more q in
          let el : seen_left x.left ≡ seen_left y.left = ap (λ (t : Turned). t.left) r.0 in
          let en : x.steps ≡ y.steps = ap (λ (t : Turned). t.steps) r.0 in
          let ee : x.events ≡ y.events = ap (λ (t : Turned). t.events) r.0 in
          let a : seen_slot (stays x.left) ≡ seen_slot (stays y.left) = sym (stays_seen x.left) ∙ ap stays el ∙ stays_seen y.left in
          let b : turn_reply x.steps x.left ≡ turn_reply y.steps y.left = sym (reply_seen x.steps x.left) ∙ ap₂ turn_reply en el ∙ reply_seen y.steps y.left in
          let c : length (turn_sealed x.left) ≡ length (turn_sealed y.left) = sym (sealed_seen x.left) ∙ ap (λ (l : Left). length (turn_sealed l)) el ∙ sealed_seen y.left in
          let f : LookAlike (after_turn s slot x) (after_turn t slot y) = record {
            storage = ap (λ (t : Turned). t.storage) r.0;
            slots = slots_set s.slots t.slots slot (stays x.left) (stays y.left) h.slots a;
            vault = h.vault;
            sealed = length-append s.sealed (turn_sealed x.left) ∙ ap₂ (λ (n m : ℕ). n + m) h.sealed c ∙ sym (length-append t.sealed (turn_sealed y.left));
          } in
          (ap₂ (λ (z : State) (g : Reply × List Event). record { state = z; reply = g.0; events = g.1; releases = [] }) (agree _ _ f) (ap₂ (λ (r : Reply) (l : List Event). (r, l)) b ee), r.1);
    };
  }

  drops : (n : ℕ) → length (drop n s.vault) ≡ length (drop n t.vault)
  drops n = length-drop n s.vault ∙ ap (λ k. k - n) h.vault ∙ sym (length-drop n t.vault)

  without_alike : (n : ℕ) → LookAlike (without n s) (without n t)
  without_alike n = record { storage = h.storage; slots = h.slots; vault = drops n; sealed = h.sealed }

  at_memory_same : (part memory : List ℕ) (at count : ℕ) (go go' : ℕ → Memory → Played) → ((i : ℕ) (m q : Memory) → seen_memory m ≡ seen_memory q → SameMoves (go i m) (go' i q)) → SameMoves (at_memory set s part memory at count go) (at_memory set t part memory at count go')
  at_memory_same part memory at count go go' k =
      found_same NoMemoryExport (exported tag.Memory set part memory) _ _ (λ i.
      found_alike seen_memory NoMemoryExport (slice_get s.storage.memories i) (slice_get t.storage.memories i) _ _
      (looks_alike seen_memory s.storage.memories t.storage.memories i (ap (λ (x : Storage). x.memories) h.storage)) (λ m q em.
      checked_same Bounds (nat_le (at + count) (length m.bytes)) (nat_le (at + count) (length q.bytes)) (go i m) (go' i q) (ap (nat_le (at + count)) (same_length m q em)) (λ _. k i m q em)))

write_alike : (s t : State) → LookAlike s t → (i : ℕ) (m q : Memory) (at : ℕ) (new other : List ℕ) → seen_memory m ≡ seen_memory q → length new ≡ length other → (m.type.tag ≡ Public → new ≡ other) → LookAlike (with_write s i m at new) (with_write t i q at other)
write_alike s t h i m q at new other em en p = record {
  storage = with_bytes_alike s.storage t.storage h.storage i m q (written_at at new m.bytes) (written_at at other q.bytes) em
      (written_alike m.type.tag at new other m.bytes q.bytes en p (same_length m q em) (same_bytes m.type.tag m q refl em));
  slots = h.slots;
  vault = h.vault;
  sealed = h.sealed;
}

part_length : (m q : Memory) (at count : ℕ) → seen_memory m ≡ seen_memory q → length (bytes_at m at count) ≡ length (bytes_at q at count)
part_length m q at count em =
    length-take count (drop at m.bytes)
    ∙ ap (min count) (length-drop at m.bytes ∙ ap (λ k. k - at) (same_length m q em) ∙ sym (length-drop at q.bytes))
    ∙ sym (length-take count (drop at q.bytes))

pub play_same : (set : ModuleSet) (s t : State) → LookAlike s t → (m : Move) → SameMoves (play set s m) (play set t m)
play_same set s t h (Begin slot part export args) =
    found_same set s t h NoExport (exported tag.Func set part export) _ _ (λ n.
    found_same set s t h NoExport (slice_get (set_instances set) n) _ _ (λ fn.
    let ts = fn.type.params in
    let takes = args_take ts args in
    let av = arg_values ts args s.vault in
    let aw = arg_values ts args t.vault in
    checked_same set s t h BadArgs (args_fit ts args) (args_fit ts args) _ _ refl (λ fit.
    checked_same set s t h SlotBusy (is_none (in_slot s slot)) (is_none (in_slot t slot)) _ _ (none_alike seen (in_slot s slot) (in_slot t slot) (slot_alike set s t h slot)) (λ _.
    checked_same set s t h VaultShort (nat_le takes (length s.vault)) (nat_le takes (length t.vault)) _ _ (ap (nat_le takes) h.vault) (λ _.
    answered_same set s t h Began Began (with_slot (without takes s) slot (Some (begun n fn av))) (with_slot (without takes t) slot (Some (begun n fn aw))) refl (record {
      storage = h.storage;
      slots = slots_set s.slots t.slots slot (Some (begun n fn av)) (Some (begun n fn aw)) h.slots (ap Some (begun_alike n fn av aw (values_alike ts args s.vault t.vault fit)));
      vault = drops set s t h takes;
      sealed = h.sealed;
    }))))))
play_same set s t h (Turn slot steps) =
    found_alike set s t h seen SlotFree (in_slot s slot) (in_slot t slot) _ _ (slot_alike set s t h slot) (λ a b ea.
    checked_same set s t h TurnTooLong (nat_le steps most_steps) (nat_le steps most_steps) _ _ refl (λ _.
    turned_same set s t h slot (turn steps (set_instances set) s.storage a) (turn steps (set_instances set) t.storage b) (turn_same (set_instances set) steps s.storage t.storage a b (h.storage, ea))))
play_same set s t h (Leave slot) =
    found_alike set s t h seen SlotFree (in_slot s slot) (in_slot t slot) _ _ (slot_alike set s t h slot) (λ a b ea.
    answered_same set s t h Dropped Dropped (with_slot s slot None) (with_slot t slot None) refl (record {
      storage = h.storage;
      slots = slots_set s.slots t.slots slot None None h.slots refl;
      vault = h.vault;
      sealed = h.sealed;
    }))
play_same set s t h (Poke part memory at bytes) =
    at_memory_same set s t h part memory at (length bytes) _ _ (λ i m q em.
    answered_same set s t h Wrote Wrote (with_write s i m at bytes) (with_write t i q at bytes) refl (write_alike s t h i m q at bytes bytes em refl (λ _. refl)))
play_same set s t h (Peek part memory at count) =
    at_memory_same set s t h part memory at count _ _ (λ i m q em.
    checked_same set s t h WrongLabel (same_label m.type.tag Public) (same_label q.type.tag Public) _ _ (ap (λ (m : Memory). same_label m.type.tag Public) em) (λ p.
    answered_same set s t h (Bytes (bytes_at m at count)) (Bytes (bytes_at q at count)) s t
    (ap (λ (l : List ℕ). Bytes (take count (drop at l))) (same_bytes Public m q (sym (same_label_is m.type.tag Public p)) em)) h))
play_same set s t h (Seal part memory at count) =
    at_memory_same set s t h part memory at count _ _ (λ i m q em.
    checked_same set s t h WrongLabel (same_label m.type.tag Secret) (same_label q.type.tag Secret) _ _ (ap (λ (m : Memory). same_label m.type.tag Secret) em) (λ p.
    checked_same set s t h VaultShort (nat_le count (length s.vault)) (nat_le count (length t.vault)) _ _ (ap (nat_le count) h.vault) (λ _.
    answered_same set s t h Sealed Sealed (with_write (without count s) i m at (take count s.vault)) (with_write (without count t) i q at (take count t.vault)) refl
    (write_alike (without count s) (without count t) (without_alike set s t h count) i m q at (take count s.vault) (take count t.vault) em
    (length-take count s.vault ∙ ap (min count) h.vault ∙ sym (length-take count t.vault))
    (λ u. let l = same_label_is m.type.tag Secret p in cc)))))
play_same set s t h (Reveal part memory at count) =
    at_memory_same set s t h part memory at count _ _ (λ i m q em.
    checked_same set s t h WrongLabel (same_label m.type.tag Secret) (same_label q.type.tag Secret) _ _ (ap (λ (m : Memory). same_label m.type.tag Secret) em) (λ p.
    checked_same set s t h SealedFull (nat_le (length s.sealed + count) most_sealed) (nat_le (length t.sealed + count) most_sealed) _ _ (ap (λ n. nat_le (n + count) most_sealed) h.sealed) (λ _.
    answered_same set s t h (Revealed count) (Revealed count) (with_sealed s (bytes_at m at count)) (with_sealed t (bytes_at q at count)) refl (record {
      storage = h.storage;
      slots = h.slots;
      vault = h.vault;
      sealed = length-append s.sealed (bytes_at m at count) ∙ ap₂ (λ (n k : ℕ). n + k) h.sealed (part_length m q at count em) ∙ sym (length-append t.sealed (bytes_at q at count));
    }))))

-- ---- lists of moves

module _ (set : ModuleSet) where
  pub move_same : (s t : State) (m : Move) → Agree s t → LookSame (seen_played (play set s m)) (seen_played (play set t m)) (play set s m).releases (play set t m).releases
  move_same s t m e = (play_same set s t (alike s t e) m).by

  -- what is seen of a move, and of a move with those behind it
  abbrev then_seen : Played → Run → Run
  then_seen p r = record { state = r.state; told = told_of p ∷ r.told; releases = [] }

  pub plays_same : (ms : List Move) (s t : State) → Agree s t → LookSame (seen_run (plays set s ms)) (seen_run (plays set t ms)) (plays set s ms).releases (plays set t ms).releases
  plays_same [] s t e = same_quiet _ _ (ap no_moves e)
  plays_same (m ∷ ms) s t e =
      same_both then_seen _ _ _ _ _ _ _ _ (move_same s t m e) (λ a. plays_same ms (play set s m).state (play set t m).state (ap (λ (p : Played). p.state) a))

  choice_same : (n : ℕ) (choose : List Told → Option Move) (told : List Told) (s t : State) (o : Option Move) → Agree s t
      → ((told : List Told) (s t : State) → Agree s t → LookSame (seen_run (chosen n set choose told s)) (seen_run (chosen n set choose told t)) (chosen n set choose told s).releases (chosen n set choose told t).releases)
      → LookSame (seen_run (choice set s o (λ p. chosen n set choose (told ++ told_of p ∷ []) p.state))) (seen_run (choice set t o (λ p. chosen n set choose (told ++ told_of p ∷ []) p.state)))
      (choice set s o (λ p. chosen n set choose (told ++ told_of p ∷ []) p.state)).releases (choice set t o (λ p. chosen n set choose (told ++ told_of p ∷ []) p.state)).releases
  choice_same n choose told s t None e h = same_quiet _ _ (ap no_moves e)
  choice_same n choose told s t (Some m) e h =
      let p = play set s m in
      let q = play set t m in
      same_both then_seen _ _ _ _ _ _ _ _ (move_same s t m e) (λ a.
      let b : told_of p ≡ told_of q = ap (λ (p : Played). told_of p) a in
      subst (λ x. LookSame (seen_run (chosen n set choose (told ++ told_of p ∷ []) p.state)) (seen_run (chosen n set choose (told ++ x ∷ []) q.state)) (chosen n set choose (told ++ told_of p ∷ []) p.state).releases (chosen n set choose (told ++ x ∷ []) q.state).releases) b
      (h (told ++ told_of p ∷ []) p.state q.state (ap (λ (p : Played). p.state) a)))

  pub chosen_same : (n : ℕ) (choose : List Told → Option Move) (told : List Told) (s t : State) → Agree s t
      → LookSame (seen_run (chosen n set choose told s)) (seen_run (chosen n set choose told t)) (chosen n set choose told s).releases (chosen n set choose told t).releases
  chosen_same zero choose told s t e = same_quiet _ _ (ap no_moves e)
  chosen_same (suc n) choose told s t e = choice_same n choose told s t (choose told) e (chosen_same n choose)

  -- where what is released is equal
  pub move_alike : (s t : State) (m : Move) → Agree s t → (play set s m).releases ≡ (play set t m).releases → seen_played (play set s m) ≡ seen_played (play set t m)
  move_alike s t m e q = same_ends _ _ _ _ (move_same s t m e) q

  pub plays_alike : (ms : List Move) (s t : State) → Agree s t → (plays set s ms).releases ≡ (plays set t ms).releases → seen_run (plays set s ms) ≡ seen_run (plays set t ms)
  plays_alike ms s t e q = same_ends _ _ _ _ (plays_same ms s t e) q

  pub chosen_alike : (n : ℕ) (choose : List Told → Option Move) (s t : State) → Agree s t → (chosen n set choose [] s).releases ≡ (chosen n set choose [] t).releases → seen_run (chosen n set choose [] s) ≡ seen_run (chosen n set choose [] t)
  chosen_alike n choose s t e q = same_ends _ _ _ _ (chosen_same n choose [] s t e) q
