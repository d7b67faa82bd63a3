-- The moves of bytes of memories.
use Rattle.std.proofs.Common.{◌≡◌, ◌<◌, ◌≤◌, ℕ, zero, suc, ◌+◌, ◌^◌, Bool, true, false, List, [], ◌∷◌, ◌++◌, length, take, drop, slice_get, Option, Some, None, All, refl, sym, ap, ap₂, subst, ◌∙◌, nat_le, le-leb, arith}
use Rattle.std.proofs.lemmas.Bool.{lt-leb}
use Rattle.std.proofs.lemmas.Option.{same_Some, slice_get_within}
use Rattle.ctw_ops.specs.declared.types.ExternTag.TheVariants as tag
use Rattle.ctw_ops.specs.declared.types.Label.{Label}
use Rattle.ctw_ops.specs.declared.types.Label.TheVariants.{Public, Secret}
use Rattle.ctw_ops.specs.Types.{MemoryType}
use Rattle.ctw_ops.specs.Equal.{same_label}
use Rattle.ctw_ops.specs.Limits.{most_set_pages}
use Rattle.ctw_ops.proofs.Lists.{map_set_same}
use Rattle.ctw_script.specs.declared.moves.Move.TheVariants.{Poke, Peek, Seal, Reveal}
use Rattle.ctw_script.specs.declared.reply.Refusal.TheVariants.{NoMemoryExport, Bounds, WrongLabel, VaultShort, SealedFull}
use Rattle.ctw_script.specs.declared.reply.Reply.TheVariants.{Wrote, Bytes, Sealed, Revealed}
use Rattle.ctw_semantics.specs.Stores.{Memory, Storage, pages, all_pages, with_bytes, written_at}
use Rattle.ctw_semantics.specs.Sound.{Shape, SoundStorage, MemoryFits, shape_of}
use Rattle.ctw_semantics.proofs.SoundStores.{memory_at}
use Rattle.ctw_link.specs.declared.set.Part.{Part}
use Rattle.ctw_link.specs.Sets.{ModuleSet, set_of}
use Rattle.ctw_link.specs.SetInstances.{IsShapeOf, LeadsToMemory}
use Rattle.ctw_link.specs.Exports.{exported}
use Rattle.ctw_moves.specs.States.{State, Played, answered, refused, found, checked, with_write, with_sealed, without, bytes_at}
use Rattle.ctw_moves.specs.Moves.{at_memory, play, most_sealed}
use Rattle.ctw_session.specs.declared.exports.ExportedMemory.{ExportedMemory}
use Rattle.ctw_session.specs.Room.{IsStoreOf, HasRoom}

-- ---- where the memory is

pages_of_all : (ms : List Memory) (i : ℕ) (m : Memory) → slice_get ms i ≡ Some m → pages m ≤ all_pages ms
pages_of_all [] i m e = absurd cc
pages_of_all (x ∷ ms) zero m e = let q : pages x ≡ pages m = ap pages (same_Some x m e) in omega (arith, q)
pages_of_all (x ∷ ms) (suc i) m e = omega (arith, pages_of_all ms i m e)

small_memory : (shape : Shape) (s : Storage) (i : ℕ) (m : Memory) → SoundStorage shape s → slice_get s.memories i ≡ Some m → MemoryFits m → length m.bytes < 2 ^ 32
unfolding most_set_pages
small_memory shape s i m ss e fits = omega (arith, fits.whole, ss.total, pages_of_all s.memories i m e)

-- a memory that is exported is in each store of the parts
pub exported_there : (parts : List Part) (s : Storage) (h : IsStoreOf parts s) (f : ExportedMemory) → ((shape : Shape) → IsShapeOf (set_of parts) shape → LeadsToMemory shape f.label f.number)
    → (m : Memory) × HasRoom s f 0 m
exported_there parts s h f leads =
    let l = leads h.shape h.declared in
    let m = memory_at h.shape s h.storage f.number l.0 l.1 in (
      m.0,
      record {
        there = m.1;
        label = ap (λ (t : MemoryType Label). t.tag) m.2 ∙ l.2;
        room = omega arith;
        bytes = m.3.bytes;
        small = small_memory h.shape s f.number m.0 h.storage m.1 m.3;
      },
    )

pub more_room : (s : Storage) (f : ExportedMemory) (end : ℕ) (m : Memory) → end ≤ length m.bytes → HasRoom s f 0 m → HasRoom s f end m
more_room s f end m le h = record { there = h.there; label = h.label; room = le; bytes = h.bytes; small = h.small }

module _ (set : ModuleSet) (s : State) (part memory : List ℕ) (at count : ℕ) (go : ℕ → Memory → Played) where
  pub not_exported : None ≡ exported tag.Memory set part memory → at_memory set s part memory at count go ≡ refused NoMemoryExport s
  not_exported e = ap (λ (o : Option ℕ). found NoMemoryExport s o (λ i. found NoMemoryExport s (slice_get s.storage.memories i) (λ m. checked Bounds s (nat_le (at + count) (length m.bytes)) (go i m)))) (sym e)

  goes_to : (i : ℕ) (m : Memory) (b : Bool) → Some i ≡ exported tag.Memory set part memory → slice_get s.storage.memories i ≡ Some m → nat_le (at + count) (length m.bytes) ≡ b → at_memory set s part memory at count go ≡ checked Bounds s b (go i m)
  goes_to i m b e there le =
      ap (λ (o : Option ℕ). found NoMemoryExport s o (λ i. found NoMemoryExport s (slice_get s.storage.memories i) (λ m. checked Bounds s (nat_le (at + count) (length m.bytes)) (go i m)))) (sym e)
      ∙ ap (λ (o : Option Memory). found NoMemoryExport s o (λ m. checked Bounds s (nat_le (at + count) (length m.bytes)) (go i m))) there
      ∙ ap (λ (b : Bool). checked Bounds s b (go i m)) le

  pub out_of_bounds : (i : ℕ) (m : Memory) → Some i ≡ exported tag.Memory set part memory → slice_get s.storage.memories i ≡ Some m → length m.bytes < at + count → at_memory set s part memory at count go ≡ refused Bounds s
  out_of_bounds i m e there lt = goes_to i m false e there (lt-leb (at + count) (length m.bytes) lt)

  pub in_bounds : (i : ℕ) (m : Memory) → Some i ≡ exported tag.Memory set part memory → slice_get s.storage.memories i ≡ Some m → at + count ≤ length m.bytes → at_memory set s part memory at count go ≡ go i m
  in_bounds i m e there le = goes_to i m true e there (le-leb (at + count) (length m.bytes) le)

module _ (s : Storage) (f : ExportedMemory) (end : ℕ) (m : Memory) (h : HasRoom s f end m) where
  pub room_there : f.number < length s.memories
  room_there = slice_get_within s.memories f.number m h.there

  same_memory : (n : Memory) → slice_get s.memories f.number ≡ Some n → m ≡ n
  same_memory n e = same_Some m n (sym h.there ∙ e)

  pub room_for : (n : Memory) → slice_get s.memories f.number ≡ Some n → end ≤ length n.bytes
  room_for n e = subst (λ (x : Memory). end ≤ length x.bytes) (same_memory n e) h.room

  pub room_bytes : (n : Memory) → slice_get s.memories f.number ≡ Some n → All (λ byte. byte < 256) n.bytes
  room_bytes n e = subst (λ (x : Memory). All (λ byte. byte < 256) x.bytes) (same_memory n e) h.bytes

-- a store that is equal to one with room
pub same_room : (s t : Storage) (f : ExportedMemory) (end : ℕ) (m : Memory) → t ≡ s → HasRoom s f end m → HasRoom t f end m
same_room s t f end m e h = subst (λ (x : Storage). HasRoom x f end m) (sym e) h

-- ---- the moves

module _ (set : ModuleSet) (s : State) (part memory : List ℕ) (at : ℕ) (f : ExportedMemory) (old : Storage) (end : ℕ) (m : Memory) (e : s.storage ≡ old) (h : HasRoom old f end m) where
  there_now : slice_get s.storage.memories f.number ≡ Some m
  there_now = ap (λ (x : Storage). slice_get x.memories f.number) e ∙ h.there

  written : (bytes : List ℕ) (new : Storage) → new ≡ with_bytes old f.number m (written_at at bytes m.bytes) → with_write s f.number m at bytes ≡ record s { storage = new }
  written bytes new w = ap (λ (x : Storage). record s { storage = x }) (ap (λ (x : Storage). with_bytes x f.number m (written_at at bytes m.bytes)) e ∙ sym w)

  pub poked : (bytes : List ℕ) (new : Storage) → ((n : Memory) → slice_get s.storage.memories f.number ≡ Some n → (go : ℕ → Memory → Played) → at_memory set s part memory at (length bytes) go ≡ go f.number n)
      → new ≡ with_bytes old f.number m (written_at at bytes m.bytes) → play set s (Poke part memory at bytes) ≡ answered Wrote (record s { storage = new })
  poked bytes new goes w = goes m there_now (λ i m. answered Wrote (with_write s i m at bytes)) ∙ ap (answered Wrote) (written bytes new w)

  module _ (count : ℕ) (goes : (n : Memory) → slice_get s.storage.memories f.number ≡ Some n → (go : ℕ → Memory → Played) → at_memory set s part memory at count go ≡ go f.number n) where
    labelled : (want : Label) → f.label ≡ want → (b : Bool) → same_label want want ≡ b → same_label m.type.tag want ≡ b
    labelled want l b e = ap (λ (x : Label). same_label x want) (h.label ∙ l) ∙ e

    abbrev peeking : ℕ → Memory → Played
    peeking i m = checked WrongLabel s (same_label m.type.tag Public) (answered (Bytes (bytes_at m at count)) s)

    pub peeked : (bytes : List ℕ) → f.label ≡ Public → bytes ≡ bytes_at m at count → play set s (Peek part memory at count) ≡ answered (Bytes bytes) s
    peeked bytes l b =
        goes m there_now peeking ∙ ap (λ (b : Bool). checked WrongLabel s b (answered (Bytes (bytes_at m at count)) s)) (labelled Public l true refl) ∙ ap (λ (x : List ℕ). answered (Bytes x) s) (sym b)

    pub peek_hidden : f.label ≡ Secret → play set s (Peek part memory at count) ≡ refused WrongLabel s
    peek_hidden l = goes m there_now peeking ∙ ap (λ (x : Label). checked WrongLabel s (same_label x Public) (answered (Bytes (bytes_at m at count)) s)) (h.label ∙ l)

    abbrev sealing : ℕ → Memory → Played
    sealing i m = checked WrongLabel s (same_label m.type.tag Secret) (checked VaultShort s (nat_le count (length s.vault)) (answered Sealed (with_write (without count s) i m at (take count s.vault))))

    pub seal_public : f.label ≡ Public → play set s (Seal part memory at count) ≡ refused WrongLabel s
    seal_public l = goes m there_now sealing ∙ ap (λ (x : Label). checked WrongLabel s (same_label x Secret) (checked VaultShort s (nat_le count (length s.vault)) (answered Sealed (with_write (without count s) f.number m at (take count s.vault))))) (h.label ∙ l)

    to_seal : f.label ≡ Secret → (b : Bool) → nat_le count (length s.vault) ≡ b → play set s (Seal part memory at count) ≡ checked VaultShort s b (answered Sealed (with_write (without count s) f.number m at (take count s.vault)))
    to_seal l b t =
        goes m there_now sealing
        ∙ ap (λ (b : Bool). checked WrongLabel s b (checked VaultShort s (nat_le count (length s.vault)) (answered Sealed (with_write (without count s) f.number m at (take count s.vault))))) (labelled Secret l true refl)
        ∙ ap (λ (b : Bool). checked VaultShort s b (answered Sealed (with_write (without count s) f.number m at (take count s.vault)))) t

    pub seal_short : f.label ≡ Secret → length s.vault < count → play set s (Seal part memory at count) ≡ refused VaultShort s
    seal_short l lt = to_seal l false (lt-leb count (length s.vault) lt)

    pub sealed : (vault rest : List ℕ) (new : Storage) → f.label ≡ Secret → s.vault ≡ vault → count ≤ length vault → rest ≡ drop count vault → new ≡ with_bytes old f.number m (written_at at (take count vault) m.bytes)
        → play set s (Seal part memory at count) ≡ answered Sealed (record s { storage = new; vault = rest })
    sealed vault rest new l v le r w =
        to_seal l true (ap (λ (x : List ℕ). nat_le count (length x)) v ∙ le-leb count (length vault) le)
        ∙ ap₂ (λ (x : Storage) (y : List ℕ). answered Sealed (record s { storage = x; vault = y }))
        (ap₂ (λ (x : Storage) (y : List ℕ). with_bytes x f.number m (written_at at (take count y) m.bytes)) e v ∙ sym w)
        (ap (drop count) v ∙ sym r)

    abbrev revealing : ℕ → Memory → Played
    revealing i m = checked WrongLabel s (same_label m.type.tag Secret) (checked SealedFull s (nat_le (length s.sealed + count) most_sealed) (answered (Revealed count) (with_sealed s (bytes_at m at count))))

    pub reveal_public : f.label ≡ Public → play set s (Reveal part memory at count) ≡ refused WrongLabel s
    reveal_public l = goes m there_now revealing ∙ ap (λ (x : Label). checked WrongLabel s (same_label x Secret) (checked SealedFull s (nat_le (length s.sealed + count) most_sealed) (answered (Revealed count) (with_sealed s (bytes_at m at count))))) (h.label ∙ l)

    to_reveal : f.label ≡ Secret → (b : Bool) → nat_le (length s.sealed + count) most_sealed ≡ b → play set s (Reveal part memory at count) ≡ checked SealedFull s b (answered (Revealed count) (with_sealed s (bytes_at m at count)))
    to_reveal l b t =
        goes m there_now revealing
        ∙ ap (λ (b : Bool). checked WrongLabel s b (checked SealedFull s (nat_le (length s.sealed + count) most_sealed) (answered (Revealed count) (with_sealed s (bytes_at m at count))))) (labelled Secret l true refl)
        ∙ ap (λ (b : Bool). checked SealedFull s b (answered (Revealed count) (with_sealed s (bytes_at m at count)))) t

    pub reveal_full : (before : List ℕ) → f.label ≡ Secret → s.sealed ≡ before → 16777216 < length before + count → play set s (Reveal part memory at count) ≡ refused SealedFull s
    unfolding most_sealed
    reveal_full before l b lt = to_reveal l false (ap (λ (x : List ℕ). nat_le (length x + count) most_sealed) b ∙ lt-leb (length before + count) most_sealed lt)

    pub revealed : (before after : List ℕ) → f.label ≡ Secret → s.sealed ≡ before → length before + count ≤ 16777216 → after ≡ before ++ bytes_at m at count → play set s (Reveal part memory at count) ≡ answered (Revealed count) (record s { sealed = after })
    unfolding most_sealed
    revealed before after l b le a =
        to_reveal l true (ap (λ (x : List ℕ). nat_le (length x + count) most_sealed) b ∙ le-leb (length before + count) most_sealed le)
        ∙ ap (λ (x : List ℕ). answered (Revealed count) (record s { sealed = x })) (ap (λ (x : List ℕ). x ++ bytes_at m at count) b ∙ sym a)

-- bytes that change keep the shape of a store
pub shape_written : (s t : Storage) (i : ℕ) (m : Memory) (bytes : List ℕ) → slice_get s.memories i ≡ Some m → t ≡ with_bytes s i m bytes → shape_of t ≡ shape_of s
shape_written s t i m bytes e h =
    ap shape_of h ∙ ap (λ (l : List (MemoryType Label)). record (shape_of s) { memories = l }) (map_set_same (λ (m : Memory). m.type) s.memories i m (record m { bytes = bytes }) e refl)
