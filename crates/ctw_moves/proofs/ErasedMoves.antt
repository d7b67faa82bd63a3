-- The erased state over the erased moves gives the erased outcome.
use Rattle.std.proofs.Common.{◌≡◌, ℕ, zero, suc, ◌+◌, ◌/◌, ◌^◌, ◌<◌, Bool, true, false, cond, ◌&&◌, List, [], ◌∷◌, ◌++◌, map, length, take, drop, find, Option, Some, None, is_none, option_map, option_and_then, slice_get, slice_set, All, refl, sym, ap, ap₂, ◌∙◌, subst, nat_le, arith, leb-true, mod-lt, pow_pos}
use Rattle.std.specs.Str.{bytes_eq}
use Rattle.std.proofs.lemmas.Bool.{lt-ltb}
use Rattle.std.proofs.lemmas.List.{length-take-le, length-replicate, map-set}
use Rattle.std.proofs.lemmas.Option.{slice_get-map}
use Rattle.std.proofs.Math.Seq.{drop-append_seam}
use Rattle.std.proofs.Math.Nat.{mod-mod, pow-suc}
use Rattle.std.proofs.lemmas.List.Elements.{All-head, All-tail}
use Rattle.ctw_ops.specs.declared.types.Label.{Label}
use Rattle.ctw_ops.specs.declared.types.Label.TheVariants.{Public, Secret}
use Rattle.ctw_ops.specs.declared.types.Width.{Width}
use Rattle.ctw_ops.specs.declared.types.Width.TheVariants.{W32, W64}
use Rattle.ctw_ops.specs.declared.types.ExternTag.{ExternTag}
use Rattle.ctw_ops.specs.declared.types.ExternTag.TheVariants as tag
use Rattle.ctw_ops.specs.Types.{ValueType, erase_value_type}
use Rattle.ctw_ops.specs.Typing.{optional}
use Rattle.ctw_ops.specs.Equal.{same_label}
use Rattle.ctw_num.specs.Integers.{bit_width}
use Rattle.ctw_script.specs.declared.moves.Arg.{Arg}
use Rattle.ctw_script.specs.declared.moves.Arg.TheVariants.{Number, Vault}
use Rattle.ctw_script.specs.declared.moves.Move.{Move}
use Rattle.ctw_script.specs.declared.moves.Move.TheVariants.{Begin, Turn, Leave, Poke, Peek, Seal, Reveal}
use Rattle.ctw_script.specs.declared.reply.Shown.{Shown}
use Rattle.ctw_script.specs.declared.reply.Shown.TheVariants as shown
use Rattle.ctw_script.specs.declared.reply.Refusal.{Refusal}
use Rattle.ctw_script.specs.declared.reply.Refusal.TheVariants.{NoExport, BadArgs, SlotBusy, SlotFree, NoMemoryExport, Bounds, WrongLabel, VaultShort, TurnTooLong, SealedFull}
use Rattle.ctw_script.specs.declared.reply.Reply.{Reply}
use Rattle.ctw_script.specs.declared.reply.Reply.TheVariants.{Began, Done, Dropped, Wrote, Bytes, Sealed, Revealed, Refused}
use Rattle.ctw_semantics.specs.Values.{Value, value}
use Rattle.ctw_semantics.specs.Stores.{Memory, Storage, number_of_bytes, bytes_of_number, written_at, with_bytes}
use Rattle.ctw_semantics.specs.Instances.{FunctionInstance, Functions}
use Rattle.ctw_semantics.specs.Activations.{Activation}
use Rattle.ctw_semantics.specs.Machine.{begun}
use Rattle.ctw_semantics.specs.Steps.{Left, Running, Finished, Trapped, Stuck, Turned, turn}
use Rattle.ctw_semantics.specs.Sound.{Shape, ValueFits, HasTypes, SoundLeft}
use Rattle.ctw_semantics.specs.Erased.{erase_instance, erase_functions, erase_value, erase_memory, erase_global, erase_storage, erase_activation, erase_left, erase_turned}
use Rattle.ctw_ops.proofs.EqualLaws.{both}
use Rattle.ctw_semantics.proofs.ErasedSteps.{weight-erased, turn_erased}
use Rattle.ctw_semantics.proofs.Begun.{begun_erased}
use Rattle.ctw_link.specs.Sets.{ModuleSet}
use Rattle.ctw_link.specs.Numbers.{LinkedModule, is_named, linked}
use Rattle.ctw_link.specs.SetInstances.{set_instances}
use Rattle.ctw_launch.specs.ErasedSets.{erase_set}
use Rattle.ctw_launch.proofs.ErasedLinks.{erase_linked, linked_erased, set_erased}
use Rattle.ctw_link.specs.Exports.{exported_as, exported}
use Rattle.ctw_ops.specs.Limits.{most_steps}
use Rattle.ctw_moves.specs.States.{State, held, in_slot, with_slot, without, with_write, with_sealed, bytes_at, Played, answered, refused, found, checked}
use Rattle.ctw_moves.specs.Arguments.{byte_width, in_range, number_of, next_number, arg_fits, args_fit, arg_takes, args_take, arg_number, arg_values}
use Rattle.ctw_moves.specs.Moves.{most_sealed, shown_number, sealed_number, turn_reply, stays, turn_sealed, after_turn, turned, begin_call, at_memory, play}
use Rattle.ctw_moves.specs.Runs.{told_of, Run, then_run, plays}
use Rattle.ctw_moves.specs.SoundStates.{HasBytes, SoundState}
use Rattle.ctw_moves.specs.ErasedRuns.{erase_slot, erase_state, filled, all_filled, zeroed, params_of, exported_params, erase_args, erase_taken, erase_move, by_label, left_out, erase_shown, erase_reply, appended, erase_played, erase_moves, erase_told, erase_run, weight_left}
use Rattle.ctw_moves.proofs.SoundMoves.{functions_sound, slot_sound, turn_here, play_sound}

-- ---- exports

find_erased : (name : List ℕ) (l : List LinkedModule) → find (is_named name) (map erase_linked l) ≡ option_map erase_linked (find (is_named name) l)
find_erased name [] = refl
find_erased name (q ∷ l) = go (bytes_eq q.name name) (find_erased name l)
  where
    go : (b : Bool) → find (is_named name) (map erase_linked l) ≡ option_map erase_linked (find (is_named name) l)
        → cond b (Some (erase_linked q)) (find (is_named name) (map erase_linked l)) ≡ option_map erase_linked (cond b (Some q) (find (is_named name) l))
    go true h = refl
    go false h = h

id_map : {A : Type 0} (o : Option A) → o ≡ option_map (λ x. x) o
id_map None = refl
id_map (Some x) = refl

exported_erased : (t : ExternTag) (set : ModuleSet) (part name : List ℕ) → exported t (erase_set set) part name ≡ exported t set part name
unfolding exported
exported_erased t set part name =
    ap (λ (l : List LinkedModule). option_and_then (exported_as t name) (find (is_named part) l)) (linked_erased set)
    ∙ ap (option_and_then (exported_as t name)) (find_erased part (linked set))
    ∙ by (find (is_named part) (linked set))
  where
    by : (o : Option LinkedModule) → option_and_then (exported_as t name) (option_map erase_linked o) ≡ option_and_then (exported_as t name) o
    by None = refl
    by (Some q) = refl

-- ---- secret results

number_back : (k n : ℕ) → n < 256 ^ k → number_of_bytes (bytes_of_number k n) ≡ n
number_back zero n h = omega arith
number_back (suc k) n h =
    let p = pow-suc 256 k in
    let q : n / 256 < 256 ^ k = omega (arith, p) in
    let r = number_back k (n / 256) q in
    omega (arith, r)

secret_back : (w : Width) (n : ℕ) → n < 2 ^ bit_width w → erase_shown (bytes_of_number (byte_width w) n) shown.Secret ≡ shown.Number w n
secret_back W32 n h = ap (shown.Number W32) (number_back 4 n h)
secret_back W64 n h = ap (shown.Number W64) (number_back 8 n h)

value_fits : (last : Option (ValueType Label)) (v : Value) → HasTypes (optional last) (v ∷ []) → ValueFits v
value_fits None v h = absurd h
value_fits (Some t) v h = h.1

reply_erased : (n : ℕ) (fns : Functions) (shape : Shape) (last : Option (ValueType Label)) (sealed : List ℕ) (l : Left) → SoundLeft fns shape last l → turn_reply n (erase_left fns l) ≡ erase_reply (drop (length sealed) (sealed ++ turn_sealed l)) (turn_reply n l)
reply_erased n fns shape last sealed (Running a) h = refl
reply_erased n fns shape last sealed (Finished None) h = refl
reply_erased n fns shape last sealed (Finished (Some v)) h = at v.type.tag
  where
    at : (l : Label) → Done n (shown.Number v.type.width v.number) ≡ Done n (erase_shown (drop (length sealed) (sealed ++ sealed_number l v.type.width v.number)) (shown_number l v.type.width v.number))
    at Public = refl
    at Secret =
        ap (λ (x : Shown). Done n x)
        (sym (secret_back v.type.width v.number (value_fits last v h)) ∙ ap (λ (l : List ℕ). erase_shown l shown.Secret) (sym (drop-append_seam sealed (bytes_of_number (byte_width v.type.width) v.number))))
reply_erased n fns shape last sealed (Trapped code) h = refl
reply_erased n fns shape last sealed Stuck h = refl

nothing_sealed : (fns : Functions) (l : Left) → turn_sealed (erase_left fns l) ≡ []
nothing_sealed fns (Running a) = refl
nothing_sealed fns (Finished None) = refl
nothing_sealed fns (Finished (Some v)) = refl
nothing_sealed fns (Trapped code) = refl
nothing_sealed fns Stuck = refl

stays_erased : (fns : Functions) (l : Left) → stays (erase_left fns l) ≡ erase_slot fns (stays l)
stays_erased fns (Running a) = refl
stays_erased fns (Finished v) = refl
stays_erased fns (Trapped code) = refl
stays_erased fns Stuck = refl

-- ---- arguments

number_in_range : (w : Width) (n : ℕ) → n < 2 ^ bit_width w → in_range w false n ≡ true
unfolding in_range
number_in_range w n h = lt-ltb n (2 ^ bit_width w) h

filled_fits : (t : ValueType Label) (a : Arg) (vault : List ℕ) → arg_fits t a ≡ true → arg_fits (erase_value_type t) (filled t a vault) ≡ true
unfolding next_number
filled_fits t (Number neg size) vault e = e
filled_fits t Vault vault e = number_in_range t.width (next_number t.width vault) (mod-lt _ (pow_pos (bit_width t.width)))

zeroed_fits : (t : ValueType Label) (a : Arg) → arg_fits t a ≡ true → arg_fits (erase_value_type t) (zeroed a) ≡ true
zeroed_fits t (Number neg size) e = e
zeroed_fits t Vault e = number_in_range t.width 0 (pow_pos (bit_width t.width))

all_filled_fit : (ts : List (ValueType Label)) (args : List Arg) (vault : List ℕ) → args_fit ts args ≡ true → args_fit (map erase_value_type ts) (all_filled ts args vault) ≡ true
all_filled_fit [] args vault e = e
all_filled_fit (t ∷ ts) [] vault e = e
all_filled_fit (t ∷ ts) (a ∷ args) vault e =
    let h = both (arg_fits t a) (args_fit ts args) e in
    ap₂ (λ (b c : Bool). b && c) (filled_fits t a vault h.0) (all_filled_fit ts args (drop (arg_takes t a) vault) h.1)

all_zeroed_fit : (ts : List (ValueType Label)) (args : List Arg) → args_fit ts args ≡ true → args_fit (map erase_value_type ts) (map zeroed args) ≡ true
all_zeroed_fit [] [] e = e
all_zeroed_fit [] (a ∷ args) e = e
all_zeroed_fit (t ∷ ts) [] e = e
all_zeroed_fit (t ∷ ts) (a ∷ args) e =
    let h = both (arg_fits t a) (args_fit ts args) e in
    ap₂ (λ (b c : Bool). b && c) (zeroed_fits t a h.0) (all_zeroed_fit ts args h.1)

erase_args_fit : (r : Reply) (ts : List (ValueType Label)) (args : List Arg) (vault : List ℕ) → args_fit ts args ≡ true → args_fit (map erase_value_type ts) (erase_args r ts args vault) ≡ true
erase_args_fit (Refused r) ts args vault e = all_zeroed_fit ts args e
erase_args_fit r ts args vault e = all_filled_fit ts args vault e

filled_takes : (t : ValueType Label) (a : Arg) (vault : List ℕ) → arg_takes (erase_value_type t) (filled t a vault) ≡ 0
filled_takes t (Number neg size) vault = refl
filled_takes t Vault vault = refl

all_filled_take : (ts : List (ValueType Label)) (args : List Arg) (vault : List ℕ) → args_take (map erase_value_type ts) (all_filled ts args vault) ≡ 0
all_filled_take [] args vault = refl
all_filled_take (t ∷ ts) [] vault = refl
all_filled_take (t ∷ ts) (a ∷ args) vault = ap₂ (λ (n k : ℕ). n + k) (filled_takes t a vault) (all_filled_take ts args (drop (arg_takes t a) vault))

filled_number : (t : ValueType Label) (a : Arg) (vault v : List ℕ) → arg_number (erase_value_type t) (filled t a vault) v ≡ arg_number t a vault
unfolding number_of next_number
filled_number t (Number neg size) vault v = refl
filled_number t Vault vault v = mod-mod (number_of_bytes (take (byte_width t.width) vault)) (2 ^ bit_width t.width)

all_filled_values : (ts : List (ValueType Label)) (args : List Arg) (vault v : List ℕ) → arg_values (map erase_value_type ts) (all_filled ts args vault) v ≡ map erase_value (arg_values ts args vault)
all_filled_values [] args vault v = refl
all_filled_values (t ∷ ts) [] vault v = refl
all_filled_values (t ∷ ts) (a ∷ args) vault v =
    ap₂ (λ (n : ℕ) (l : List Value). value (erase_value_type t) n ∷ l) (filled_number t a vault v)
    (all_filled_values ts args (drop (arg_takes t a) vault) (drop (arg_takes (erase_value_type t) (filled t a vault)) v))

-- ---- slots

none_map : {A B : Type 0} (f : A → B) (o : Option A) → is_none (option_map f o) ≡ is_none o
none_map f None = refl
none_map f (Some x) = refl

slot_erased : (set : ModuleSet) (s : State) (slot : ℕ) → in_slot (erase_state set s) slot ≡ option_map (erase_activation (set_instances set)) (in_slot s slot)
slot_erased set s slot = ap held (slice_get-map (erase_slot (set_instances set)) s.slots slot) ∙ at (slice_get s.slots slot)
  where
    at : (o : Option (Option Activation)) → held (option_map (erase_slot (set_instances set)) o) ≡ option_map (erase_activation (set_instances set)) (held o)
    at None = refl
    at (Some o) = refl

slots_erased : (fns : Functions) (xs : List (Option Activation)) (i : ℕ) (a : Option Activation) → slice_set (map (erase_slot fns) xs) i (erase_slot fns a) ≡ map (erase_slot fns) (slice_set xs i a)
slots_erased fns xs i a = sym (map-set (erase_slot fns) xs i a)

bytes_erased : (s : Storage) (i : ℕ) (m : Memory) (bytes : List ℕ) → erase_storage (with_bytes s i m bytes) ≡ with_bytes (erase_storage s) i (erase_memory m) bytes
bytes_erased s i m bytes = ap (λ ms. record { memories = ms; globals = map erase_global s.globals; tables = s.tables }) (map-set erase_memory s.memories i (record m { bytes = bytes }))

-- ---- moves

-- a move that isn't left out is played in the erased state, where the erased move may depend on the reply; one that is left out changes nothing
record Erases (set : ModuleSet) (s : State) (p : Played) (q : Reply → Played) : Type 0 where
  by : left_out p.reply ≡ false → q p.reply ≡ erase_played set s p
  kept : left_out p.reply ≡ true → erase_state set p.state ≡ erase_state set s

module _ (set : ModuleSet) (s : State) where
  abbrev e : State
  e = erase_state set s

  refused_erases : (r : Refusal) (q : Reply → Played) → (by_label r ≡ false → q (Refused r) ≡ refused r e) → Erases set s (refused r s) q
  refused_erases r q h = record { by = h; kept = λ _. refl }

  found_erases : {A B : Type 0} (r : Refusal) (f : A → B) (o : Option A) (o' : Option B) (go : A → Played) (go' : Reply → B → Played) → o' ≡ option_map f o → ((x : A) → o ≡ Some x → Erases set s (go x) (λ y. go' y (f x))) → Erases set s (found r s o go) (λ y. found r e o' (go' y))
  found_erases r f o o' go go' q h = subst (λ o'. Erases set s (found r s o go) (λ y. found r e o' (go' y))) (sym q) (at o h)
    where
      at : (o : Option _) → ((x : _) → o ≡ Some x → Erases set s (go x) (λ y. go' y (f x))) → Erases set s (found r s o go) (λ y. found r e (option_map f o) (go' y))
      at None h = refused_erases r (λ y. found r e None (go' y)) (λ _. refl)
      at (Some x) h = h x refl

  -- a test that both make
  checked_erases : (r : Refusal) (b : Bool) (b' : Reply → Bool) (p : Played) (q : Reply → Played) → (b ≡ false → by_label r ≡ false → b' (Refused r) ≡ false) → (b ≡ true → left_out p.reply ≡ false → b' p.reply ≡ true) → (b ≡ true → Erases set s p q) → Erases set s (checked r s b p) (λ y. checked r e (b' y) (q y))
  checked_erases r true b' p q fails passes h = record {
    by = λ k. ap (λ c. checked r e c (q p.reply)) (passes refl k) ∙ (h refl).by k;
    kept = (h refl).kept;
  }
  checked_erases r false b' p q fails passes h = refused_erases r (λ y. checked r e (b' y) (q y)) (λ u. ap (λ c. checked r e c (q (Refused r))) (fails refl u))

  -- a test that only the labelled set makes
  dropped_erases : (r : Refusal) (b : Bool) (p : Played) (q : Reply → Played) → by_label r ≡ true → (b ≡ true → Erases set s p q) → Erases set s (checked r s b p) q
  dropped_erases r true p q u h = h refl
  dropped_erases r false p q u h = refused_erases r q (λ n. cc)

  answered_erases : (r : Reply) (t : State) (q : Reply → Played) → left_out r ≡ false → q r ≡ answered (erase_reply (appended s t) r) (erase_state set t) → Erases set s (answered r t) q
  answered_erases r t q l k = record { by = λ _. k; kept = λ k. cc }

never_left_out : (n : ℕ) (l : Left) → left_out (turn_reply n l) ≡ false
never_left_out n (Running a) = refl
never_left_out n (Finished v) = refl
never_left_out n (Trapped code) = refl
never_left_out n Stuck = refl

module _ (set : ModuleSet) (s : State) (h : SoundState set s) where
  abbrev fns : Functions
  fns = set_instances set

  functions_erased : set_instances (erase_set set) ≡ erase_functions fns
  functions_erased = set_erased set h.valid

  turn_here_erased : (slot n : ℕ) (a : Activation) → in_slot s slot ≡ Some a → turn n (set_instances (erase_set set)) (erase_storage s.storage) (erase_activation fns a) ≡ erase_turned fns (turn n fns s.storage a)
  turn_here_erased slot n a q =
      let c = slot_sound set s h slot a q in
      ap (λ (l : Functions). turn n l (erase_storage s.storage) (erase_activation fns a)) functions_erased ∙ sym (turn_erased fns h.shape c.0 (functions_sound set s h) n s.storage a h.storage c.1)

  turned_erases : (slot steps : ℕ) (a : Activation) → in_slot s slot ≡ Some a → Erases set s (turned s slot (turn steps fns s.storage a)) (λ y. turned (e set s) slot (turn steps (set_instances (erase_set set)) (erase_storage s.storage) (erase_activation fns a)))
  turned_erases slot steps a q =
      let t = turn steps fns s.storage a in
      let c = slot_sound set s h slot a q in
      let fine = turn_here set s h slot steps a q in
      let es : slice_set (map (erase_slot fns) s.slots) slot (stays (erase_left fns t.left)) ≡ map (erase_slot fns) (slice_set s.slots slot (stays t.left)) =
      ap (slice_set (map (erase_slot fns) s.slots) slot) (stays_erased fns t.left) ∙ slots_erased fns s.slots slot (stays t.left) in
      let er = reply_erased t.steps fns h.shape c.0 s.sealed t.left fine.left in
      record {
        by = λ _. ap (turned (e set s) slot) (turn_here_erased slot steps a q)
            ∙ (ap₂ (λ (x : List (Option Activation)) (k : List ℕ). record { state = record { storage = erase_storage t.storage; slots = x; vault = []; sealed = k }; reply = turn_reply t.steps (erase_left fns t.left); events = t.events; releases = [] }) es (nothing_sealed fns t.left)
            ∙ ap (λ (r : Reply). record { state = erase_state set (after_turn s slot t); reply = r; events = t.events; releases = [] }) er);
        kept = λ k. let n = never_left_out t.steps t.left in cc;
      }

  at_memory_erases : (part memory : List ℕ) (at count : ℕ) (count' : Reply → ℕ) (go : ℕ → Memory → Played) (go' : Reply → ℕ → Memory → Played)
      → ((r : Refusal) → by_label r ≡ false → count' (Refused r) ≡ count)
      → ((i : ℕ) (m : Memory) → left_out (go i m).reply ≡ false → count' (go i m).reply ≡ count)
      → ((i : ℕ) (m : Memory) → Erases set s (go i m) (λ y. go' y i (erase_memory m)))
      → Erases set s (at_memory set s part memory at count go) (λ y. at_memory (erase_set set) (e set s) part memory at (count' y) (go' y))
  at_memory_erases part memory at count count' go go' cr cg f =
      found_erases set s NoMemoryExport (λ i. i) (exported tag.Memory set part memory) (exported tag.Memory (erase_set set) part memory) _
      (λ y i. found NoMemoryExport (e set s) (slice_get (map erase_memory s.storage.memories) i) (λ m. checked Bounds (e set s) (nat_le (at + count' y) (length m.bytes)) (go' y i m)))
      (exported_erased tag.Memory set part memory ∙ id_map (exported tag.Memory set part memory)) (λ i _.
      found_erases set s NoMemoryExport erase_memory (slice_get s.storage.memories i) (slice_get (map erase_memory s.storage.memories) i) _
      (λ y m. checked Bounds (e set s) (nat_le (at + count' y) (length m.bytes)) (go' y i m))
      (slice_get-map erase_memory s.storage.memories i) (λ m _.
      checked_erases set s Bounds (nat_le (at + count) (length m.bytes)) (λ y. nat_le (at + count' y) (length m.bytes)) (go i m) (λ y. go' y i (erase_memory m))
      (λ k u. ap (λ k. nat_le (at + k) (length m.bytes)) (cr Bounds u) ∙ k)
      (λ k l. ap (λ k. nat_le (at + k) (length m.bytes)) (cg i m l) ∙ k)
      (λ _. f i m)))

  seal_count : (m : Memory) (count : ℕ) (t : State) → left_out (checked WrongLabel s (same_label m.type.tag Secret) (checked VaultShort s (nat_le count (length s.vault)) (answered Sealed t))).reply ≡ false
      → length (erase_taken (checked WrongLabel s (same_label m.type.tag Secret) (checked VaultShort s (nat_le count (length s.vault)) (answered Sealed t))).reply count s.vault) ≡ count
  seal_count m count t l = go (same_label m.type.tag Secret) (nat_le count (length s.vault)) (λ k. length-take-le count s.vault (leb-true count (length s.vault) k)) l
    where
      go : (a b : Bool) → (b ≡ true → length (take count s.vault) ≡ count) → left_out (checked WrongLabel s a (checked VaultShort s b (answered Sealed t))).reply ≡ false
          → length (erase_taken (checked WrongLabel s a (checked VaultShort s b (answered Sealed t))).reply count s.vault) ≡ count
      go true true f l = f refl
      go true false f l = cc
      go false b f l = cc

  begun_erases : (slot n : ℕ) (fn : FunctionInstance) (args : List Arg) → slice_get fns n ≡ Some fn
      → Erases set s (begin_call set s slot args n fn) (λ y. begin_call (erase_set set) (e set s) slot (erase_args y fn.type.params args s.vault) n (erase_instance fn))
  begun_erases slot n fn args is =
      let ts = fn.type.params in
      let busy : is_none (in_slot (e set s) slot) ≡ is_none (in_slot s slot) = ap is_none (slot_erased set s slot) ∙ none_map (erase_activation fns) (in_slot s slot) in
      checked_erases set s BadArgs (args_fit ts args) (λ y. args_fit (map erase_value_type ts) (erase_args y ts args s.vault)) _ _ (λ k u. cc) (λ k l. erase_args_fit _ ts args s.vault k) (λ fit.
      checked_erases set s SlotBusy (is_none (in_slot s slot)) (λ y. is_none (in_slot (e set s) slot)) _ _ (λ k u. busy ∙ k) (λ k l. busy ∙ k) (λ _.
      dropped_erases set s VaultShort (nat_le (args_take ts args) (length s.vault)) _ _ refl (λ _.
      answered_erases set s Began (with_slot (without (args_take ts args) s) slot (Some (begun n fn (arg_values ts args s.vault)))) _ refl
      (ap (λ k. checked VaultShort (e set s) (nat_le k 0) (answered Began (with_slot (without k (e set s)) slot (Some (begun n (erase_instance fn) (arg_values (map erase_value_type ts) (all_filled ts args s.vault) [])))))) (all_filled_take ts args s.vault)
      ∙ ap (λ (x : List (Option Activation)). answered Began (record { storage = erase_storage s.storage; slots = x; vault = []; sealed = [] }))
      (ap (λ (l : List Value). slice_set (map (erase_slot fns) s.slots) slot (Some (begun n (erase_instance fn) l))) (all_filled_values ts args s.vault [])
      ∙ ap (λ (a : Activation). slice_set (map (erase_slot fns) s.slots) slot (Some a)) (sym (begun_erased fns n fn (arg_values ts args s.vault) is))
      ∙ slots_erased fns s.slots slot (Some (begun n fn (arg_values ts args s.vault))))))))

  play_erases : (m : Move) → Erases set s (play set s m) (λ r. play (erase_set set) (e set s) (erase_move set s r m))
  play_erases (Begin slot part export args) =
      let here : Reply → ℕ → FunctionInstance → Played = λ y n. begin_call (erase_set set) (e set s) slot (erase_args y (exported_params set part export) args s.vault) n in
      found_erases set s NoExport (λ i. i) (exported tag.Func set part export) (exported tag.Func (erase_set set) part export) _
      (λ y n. found NoExport (e set s) (slice_get (set_instances (erase_set set)) n) (here y n)) (exported_erased tag.Func set part export ∙ id_map (exported tag.Func set part export)) (λ n en.
      found_erases set s NoExport erase_instance (slice_get fns n) (slice_get (set_instances (erase_set set)) n) _
      (λ y. here y n) (ap (λ (l : Functions). slice_get l n) functions_erased ∙ slice_get-map erase_instance fns n) (λ fn ef.
      subst (λ ts. Erases set s (begin_call set s slot args n fn) (λ y. begin_call (erase_set set) (e set s) slot (erase_args y ts args s.vault) n (erase_instance fn)))
      (sym (ap (λ (o : Option ℕ). params_of (option_and_then (slice_get fns) o)) en ∙ ap params_of ef)) (begun_erases slot n fn args ef)))
  play_erases (Turn slot steps) =
      found_erases set s SlotFree (erase_activation fns) (in_slot s slot) (in_slot (e set s) slot) _
      (λ y a. checked TurnTooLong (e set s) (nat_le steps most_steps) (turned (e set s) slot (turn steps (set_instances (erase_set set)) (erase_storage s.storage) a))) (slot_erased set s slot) (λ a q.
      checked_erases set s TurnTooLong (nat_le steps most_steps) (λ y. nat_le steps most_steps) _ _ (λ k _. k) (λ k _. k) (λ _. turned_erases slot steps a q))
  play_erases (Leave slot) =
      found_erases set s SlotFree (erase_activation fns) (in_slot s slot) (in_slot (e set s) slot) _ (λ y a. answered Dropped (with_slot (e set s) slot None)) (slot_erased set s slot) (λ a q.
      answered_erases set s Dropped (with_slot s slot None) _ refl
      (ap (λ (x : List (Option Activation)). answered Dropped (record { storage = erase_storage s.storage; slots = x; vault = []; sealed = [] })) (slots_erased fns s.slots slot None)))
  play_erases (Poke part memory at bytes) =
      at_memory_erases part memory at (length bytes) (λ y. length bytes) _ (λ y i m. answered Wrote (with_write (e set s) i m at bytes)) (λ r u. refl) (λ i m l. refl) (λ i m.
      answered_erases set s Wrote (with_write s i m at bytes) _ refl
      (ap (λ (x : Storage). answered Wrote (record { storage = x; slots = map (erase_slot fns) s.slots; vault = []; sealed = [] })) (sym (bytes_erased s.storage i m (written_at at bytes m.bytes)))))
  play_erases (Peek part memory at count) =
      at_memory_erases part memory at count (λ y. count) _ (λ y i m. checked WrongLabel (e set s) (same_label m.type.tag Public) (answered (Bytes (bytes_at m at count)) (e set s))) (λ r u. refl) (λ i m l. refl) (λ i m.
      dropped_erases set s WrongLabel (same_label m.type.tag Public) _ _ refl (λ _.
      answered_erases set s (Bytes (bytes_at m at count)) s _ refl refl))
  play_erases (Seal part memory at count) =
      at_memory_erases part memory at count (λ y. length (erase_taken y count s.vault)) _ (λ y i m. answered Wrote (with_write (e set s) i m at (erase_taken y count s.vault))) (λ r u. length-replicate count 0) (λ i m l. seal_count m count _ l) (λ i m.
      dropped_erases set s WrongLabel (same_label m.type.tag Secret) _ _ refl (λ _.
      dropped_erases set s VaultShort (nat_le count (length s.vault)) _ _ refl (λ _.
      answered_erases set s Sealed (with_write (without count s) i m at (take count s.vault)) _ refl
      (ap (λ (x : Storage). answered Wrote (record { storage = x; slots = map (erase_slot fns) s.slots; vault = []; sealed = [] })) (sym (bytes_erased s.storage i m (written_at at (take count s.vault) m.bytes)))))))
  play_erases (Reveal part memory at count) =
      at_memory_erases part memory at count (λ y. count) _ (λ y i m. checked WrongLabel (e set s) (same_label m.type.tag Public) (answered (Bytes (bytes_at m at count)) (e set s))) (λ r u. refl) (λ i m l. refl) (λ i m.
      dropped_erases set s WrongLabel (same_label m.type.tag Secret) _ _ refl (λ _.
      dropped_erases set s SealedFull (nat_le (length s.sealed + count) most_sealed) _ _ refl (λ _.
      answered_erases set s (Revealed count) (with_sealed s (bytes_at m at count)) _ refl
      (ap (λ (l : List ℕ). answered (Bytes l) (e set s)) (sym (drop-append_seam s.sealed (bytes_at m at count)))))))

  pub play_erased : (m : Move) → left_out (play set s m).reply ≡ false → play (erase_set set) (erase_state set s) (erase_move set s (play set s m).reply m) ≡ erase_played set s (play set s m)
  play_erased m l = (play_erases m).by l

  pub left_out_keeps : (m : Move) → left_out (play set s m).reply ≡ true → erase_state set (play set s m).state ≡ erase_state set s
  left_out_keeps m l = (play_erases m).kept l

  left_weighs : (l : Left) → weight_left (erase_left fns l) ≡ weight_left l
  left_weighs (Running a) = ap Some (weight-erased fns a)
  left_weighs (Finished v) = refl
  left_weighs (Trapped code) = refl
  left_weighs Stuck = refl

  -- a call weighs the same after each step
  pub weights_erased : (slot k : ℕ) (a : Activation) → in_slot s slot ≡ Some a → weight_left (turn k (set_instances (erase_set set)) (erase_storage s.storage) (erase_activation fns a)).left ≡ weight_left (turn k fns s.storage a).left
  weights_erased slot k a q = ap (λ (t : Turned). weight_left t.left) (turn_here_erased slot k a q) ∙ left_weighs (turn k fns s.storage a).left

-- ---- lists of moves

module _ (set : ModuleSet) where
  next_erased : (s : State) (m : Move) (ms : List Move) (b : Bool) → left_out (play set s m).reply ≡ b → SoundState set s
      → plays (erase_set set) (erase_state set (play set s m).state) (erase_moves set (play set s m).state ms) ≡ erase_run set (play set s m).state ms
      → plays (erase_set set) (erase_state set s) (cond b (erase_moves set (play set s m).state ms) (erase_move set s (play set s m).reply m ∷ erase_moves set (play set s m).state ms))
      ≡ record { state = erase_state set (plays set (play set s m).state ms).state; told = cond b (erase_told set (play set s m).state ms) (told_of (erase_played set s (play set s m)) ∷ erase_told set (play set s m).state ms); releases = [] }
  next_erased s m ms true l h q =
      ap (λ (x : State). plays (erase_set set) x (erase_moves set (play set s m).state ms)) (sym (left_out_keeps set s h m l)) ∙ q
  next_erased s m ms false l h q =
      ap (λ (p : Played). then_run p (plays (erase_set set) p.state (erase_moves set (play set s m).state ms))) (play_erased set s h m l)
      ∙ ap (λ (r : Run). then_run (erase_played set s (play set s m)) r) q

  pub plays_erased : (ms : List Move) (s : State) → SoundState set s → All HasBytes ms → plays (erase_set set) (erase_state set s) (erase_moves set s ms) ≡ erase_run set s ms
  plays_erased [] s h b = refl
  plays_erased (m ∷ ms) s h b =
      next_erased s m ms (left_out (play set s m).reply) refl h
      (plays_erased ms (play set s m).state (play_sound set s h m (All-head HasBytes m ms b)) (All-tail HasBytes m ms b))
